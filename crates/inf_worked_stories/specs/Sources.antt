-- Small sources and all bytes of their stories: one text, a constant that is declared later, a class with an object, and a verb.
use Rattle.std.specs.Prelude.{ℕ, ◌+◌, ◌/◌, ◌%◌, List, [], ◌∷◌, ◌++◌, codes, replicate, Some}
use Rattle.inf_compile.specs.{Examples.name, Examples.only, Examples.plain, Outcome.IsOutcome}
use Rattle.inf_ending.specs.declared.compiled.Status.{Status}
use Rattle.inf_worked_stories.specs.Hello.{hello, low_strings, tables}

-- The source has no error, and its story has these bytes, with this serial number.
abbrev pub HasStory : List ℕ → List ℕ → Type 0
HasStory source bytes =
    IsOutcome (only source) plain (codes "261130") name
    (record { messages = codes "Errors: 0, warnings: 0\n"; story = Some bytes; status = Status.Success })

abbrev pub word : ℕ → List ℕ
word n = (n / 256) ∷ (n % 256) ∷ []

-- a header: where code begins, the dictionary, variables and read-only memory; the fours of the story, and the sum of its bytes
abbrev pub header : ℕ → ℕ → ℕ → ℕ → ℕ → ℕ → List ℕ
header code words variables static fours sum =
    (5 ∷ 0 ∷ 0 ∷ 1 ∷ []) ++ word code ++ word (code + 1) ++ word words ++ word 0x102 ++ word variables ++ word static ++ (0 ∷ 0 ∷ [])
    ++ codes "261130" ++ word 0x42 ++ word fours ++ word sum ++ replicate 34 0

-- an object: its first attributes, its parent, sibling and child, and where its table is
abbrev pub object : ℕ → ℕ → ℕ → ℕ → ℕ → List ℕ
object attributes parent sibling child table =
    attributes ∷ replicate 5 0 ++ word parent ++ word sibling ++ word child ++ word table

-- the dictionary of a story that has no words
abbrev pub no_words : List ℕ
no_words = 3 ∷ 46 ∷ 44 ∷ 34 ∷ 9 ∷ 0 ∷ 0 ∷ []

-- a routine that does nothing, by itself behind the first one, which calls it
abbrev pub empty_code : List ℕ
empty_code = 0 ∷ 176 ∷ 0 ∷ 0 ∷ []

abbrev pub first_code : ℕ → List ℕ
first_code main = 0 ∷ 143 ∷ word main ++ 186 ∷ 0 ∷ 0 ∷ 0 ∷ []

abbrev pub plain_objects : List ℕ
plain_objects = object 0 0 0 0 0x1B8 ++ object 0 0 0 0 0x1BE ++ object 0 0 0 0 0x1C6 ++ object 0 0 0 0 0x1CE

-- A constant that is declared behind its use: its number is filled in at the end.
abbrev pub later_source : List ℕ
later_source = codes "[ Main; print K; ];\nConstant K 7;"

abbrev pub later_story : List ℕ
later_story =
    header 0x3C0 0x3B8 0x1D8 0x3B8 244 0x1D16 ++ low_strings ++ replicate 126 0 ++ plain_objects ++ tables ++ replicate 480 0 ++ no_words
    ++ 0 ∷ [] ++ first_code 0xF2 ++ (0 ∷ 230 ∷ 63 ∷ 0 ∷ 7 ∷ 176 ∷ 0 ∷ 0 ∷ [])

-- A class gives its attribute to the object that it heads, and its property has the value of the object.
abbrev pub class_source : List ℕ
class_source = codes "Attribute a;\nClass C has a, with p 3;\nC o \"x\" with p 4;\n[ Main; ];"

abbrev pub class_tables : List ℕ
class_tables =
    (2 ∷ 23 ∷ 196 ∷ 160 ∷ 191 ∷ 0 ∷ []) ++ (1 ∷ 244 ∷ 165 ∷ 67 ∷ 2 ∷ 6 ∷ 66 ∷ 0 ∷ 5 ∷ 0 ∷ [])

abbrev pub class_story : List ℕ
class_story =
    header 0x3F4 0x3ED 0x20D 0x3ED 256 0x238C ++ low_strings ++ replicate 126 0 ++ object 0 0 0 5 0x1D4 ++ object 0 0 0 0 0x1DA
    ++ object 0 0 0 0 0x1E2 ++ object 0 0 0 0 0x1EA ++ object 0 1 0 0 0x1F2 ++ object 128 0 0 0 0x1F8
    ++ ((2 ∷ 17 ∷ 17 ∷ 155 ∷ 24 ∷ 0 ∷ []) ++ (3 ∷ 18 ∷ 135 ∷ 61 ∷ 72 ∷ 228 ∷ 165 ∷ 0 ∷ [])
    ++ (3 ∷ 18 ∷ 244 ∷ 107 ∷ 46 ∷ 205 ∷ 69 ∷ 0 ∷ []) ++ (3 ∷ 19 ∷ 25 ∷ 93 ∷ 211 ∷ 176 ∷ 165 ∷ 0 ∷ []))
    ++ class_tables ++ word 5 ++ word 0 ++ (0 ∷ 64 ∷ 2 ∷ 0 ∷ 4 ∷ 0 ∷ 0 ∷ []) ++ replicate 480 0 ++ no_words ++ first_code 0xFF ++ empty_code

-- A verb: its line `* noun -> Take`, the routine of its action, and its word.
abbrev pub verb_source : List ℕ
verb_source = codes "Verb 'take' * noun -> Take;\n[ Main; ];\n[ TakeSub; ];"

abbrev pub verb_story : List ℕ
verb_story =
    header 0x3D4 0x3C3 0x1D8 0x3B8 249 0x22A0 ++ low_strings ++ replicate 126 0 ++ plain_objects ++ tables ++ replicate 480 0
    ++ word 0x3BA ++ (1 ∷ 0 ∷ 0 ∷ 1 ∷ 0 ∷ 0 ∷ 15 ∷ []) ++ word 0xF8 ++ (3 ∷ 46 ∷ 44 ∷ 34 ∷ 9 ∷ 0 ∷ 1 ∷ [])
    ++ (100 ∷ 208 ∷ 40 ∷ 165 ∷ 148 ∷ 165 ∷ 1 ∷ 255 ∷ 0 ∷ []) ++ 0 ∷ [] ++ first_code 0xF7 ++ empty_code ++ empty_code

abbrev pub StoriesAreThese : Type 0
StoriesAreThese =
    HasStory (codes "[ Main; print \"hello\"; ];") hello × HasStory later_source later_story × HasStory class_source class_story
    × HasStory verb_source verb_story

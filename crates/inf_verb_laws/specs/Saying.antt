-- The tables behind what a source says of verbs, by the operations of `inf_verbs` and `inf_dictionary` in their order.
use Rattle.std.specs.Prelude.{◌≡◌, ℕ, [], ◌∷◌, List, map, Bool, true, false, Option, Some, None, length, if◌then◌else◌}
use Rattle.std.specs.List.{flat_map, fold, list_any}
use Rattle.inf_dictionary.specs.{Words.Words, Words.verb_byte_of, Words.verb_of, Words.with_use, declared.uses.WordUse.WordUse}
use Rattle.inf_verbs.specs.{Lines.LineOf, declared.verbs.LinePlace.LinePlace}
use Rattle.inf_verbs.specs.Verbs.{AllVerbs, lines_of, with_extended, with_line_of, with_verb}
use Rattle.inf_verb_laws.specs.Verbs.{Extend, First, Last, Like, Line, Mentions, Plural, Replace, Said, Text, Uses, Verb, VerbIs, Where}
use Rattle.inf_verb_laws.specs.Verbs.{has_word, prepositions, verb_byte, verbs, with_said}

pub record Tables : Type 0 where
  pub verbs : AllVerbs
  pub words : Words

abbrev pub no_tables : Tables
no_tables = record { verbs = record { list = [] }; words = record { list = [] } }

-- Definitions of words

abbrev pub with_word : WordUse → Bool → Text → Tables → Tables
with_word how is_plural t s = record s { words = with_use t how is_plural s.words }

abbrev pub with_words : WordUse → List Text → Tables → Tables
with_words how texts s = fold (λ s t. with_word how false t s) s texts

abbrev pub verb_use : Bool → ℕ → WordUse
verb_use is_meta number = if is_meta then WordUse.MetaVerb number else WordUse.Verb number

-- Definitions of lines, each as the tables have it, by a function of the line

abbrev pub with_line_told : (Line → LineOf) → ℕ → LinePlace → Line → Tables → Tables
with_line_told f number how l s =
    let used = with_words WordUse.Preposition (flat_map prepositions l.tokens) s in
    record used { verbs = with_line_of number how (f l) used.verbs }

abbrev pub with_lines : (Line → LineOf) → ℕ → LinePlace → List Line → Tables → Tables
with_lines f number how lines s = fold (λ s l. with_line_told f number how l s) s lines

-- One thing that a source says: a word behind `=`, or of `Extend`, is one of the verb that the dictionary has for it.

abbrev pub place_of : Where → LinePlace
place_of First = LinePlace.First
place_of Last = LinePlace.Last
place_of Replace = LinePlace.Replace

abbrev pub with_more_words : Option ℕ → Bool → List Text → Tables → Tables
with_more_words None is_meta words s = s
with_more_words (Some number) is_meta words s = with_words (verb_use is_meta number) words s

abbrev pub with_more_lines : (Line → LineOf) → Option ℕ → LinePlace → List Line → Tables → Tables
with_more_lines f None how lines s = s
with_more_lines f (Some number) how lines s =
    with_lines f number how lines (record s { verbs = with_extended number how s.verbs })

abbrev pub with_one : (Line → LineOf) → Said → Tables → Tables
with_one f (Verb is_meta words lines) s =
    let number = length s.verbs.list in
    with_lines f number LinePlace.Last lines (with_words (verb_use is_meta number) words (record s { verbs = with_verb s.verbs }))
with_one f (Like is_meta words t) s = with_more_words (verb_of t s.words.list) is_meta words s
with_one f (Extend t place lines) s = with_more_lines f (verb_of t s.words.list) (place_of place) lines s
with_one f (Mentions action) s = s
with_one f (Uses t) s = with_word WordUse.Other false t s
with_one f (Plural t) s = with_word WordUse.Other true t s

abbrev pub with_all : (Line → LineOf) → List Said → Tables → Tables
with_all f all s = fold (λ s said. with_one f said s) s all

-- Definitions by which no word of a new verb, and none that `=` gives a verb, is one of a verb already

abbrev pub all_words : List VerbIs → List (List Text)
all_words vs = map (λ v. v.words) vs

abbrev pub lacks : Text → List (List Text) → Type 0
lacks t ws = list_any (has_word t) ws ≡ false

abbrev pub AreNew : List Text → List (List Text) → Type 0
AreNew words ws = (t : Text) → has_word t words ≡ true → lacks t ws

abbrev pub IsRight : Said → List VerbIs → Type 0
IsRight (Verb is_meta words lines) vs = AreNew words (all_words vs)
IsRight (Like is_meta words t) vs = AreNew words (all_words vs)
IsRight said vs = Unit {0}

abbrev pub AreRight : List VerbIs → List Said → Type 0
AreRight vs [] = Unit {0}
AreRight vs (said ∷ all) = IsRight said vs × AreRight (with_said vs said) all

-- Behind all that a source says each verb has the lines of the description, and each word the verb.
abbrev pub LinesAgree : Type 0
LinesAgree =
    (f : Line → LineOf) (all : List Said) → AreRight [] all →
    map lines_of (with_all f all no_tables).verbs.list ≡ map (λ v. map f v.lines) (verbs all)

abbrev pub WordsAgree : Type 0
WordsAgree =
    (f : Line → LineOf) (all : List Said) → AreRight [] all → (t : Text) →
    verb_byte_of (verb_of t (with_all f all no_tables).words.list) ≡ verb_byte all t

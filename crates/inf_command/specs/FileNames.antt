-- The names of the files that a command names.
use Rattle.std.specs.Prelude.{ℕ, ◌==◌, ◌||◌, ◌&&◌, not, List, [], ◌∷◌, ◌++◌, Bool, false, if◌then◌else◌, Option, Some, None, codes}
use Rattle.inf_area.specs.declared.scale.Scale.{Scale}
use Rattle.inf_letters.specs.Letters.{scale_of}
use Rattle.inf_command.specs.Words.{Choice}

-- Tells whether a name goes on into a further folder: it has a `/`.
abbrev pub has_slash : List ℕ → Bool
has_slash [] = false
has_slash (b ∷ bs) = b == 47 || has_slash bs

-- the stem of a name with one more byte in front: a `.` begins the extension where no `/` and no other `.` that begins one is behind it
abbrev pub stem_after : ℕ → Bool → Option (List ℕ) → Option (List ℕ)
stem_after b slash (Some front) = Some (b ∷ front)
stem_after b slash None = if b == 46 && not slash then Some [] else None

-- the name before the extension of its last part, where that part has one: the last `.` begins it
abbrev pub stem : List ℕ → Option (List ℕ)
stem [] = None
stem (b ∷ bs) = stem_after b (has_slash bs) (stem bs)

-- the name of the source's file: `.inf` is added where the word has no extension
abbrev pub source_name : List ℕ → List ℕ
source_name word = elim (stem word) [ Some front ↦ word | None ↦ word ++ codes ".inf" ]

-- the ending of the name of a story of a version
abbrev pub extension : Scale → List ℕ
extension Scale.Four = codes ".z5"
extension Scale.Eight = codes ".z8"

-- the name that a story has where no word gives one: the source's, with the version's ending for its extension
abbrev pub default_story_name : List ℕ → Scale → List ℕ
default_story_name word version = elim (stem word) [ Some front ↦ front ++ extension version | None ↦ word ++ extension version ]

-- the name of the story's file
abbrev pub story_name : Choice → List ℕ
story_name choice = elim choice.story [ Some word ↦ word | None ↦ default_story_name choice.source (scale_of choice.letters) ]

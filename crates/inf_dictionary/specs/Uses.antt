-- All uses of words in a source, and the facts that they say of each word.
use Rattle.std.specs.{Cmp.Lexicographic.slice_cmp, Ordering.is_eq, Ordering.nat_cmp}
use Rattle.std.specs.Prelude.{List, [], ◌∷◌, Option, Some, Bool, if◌then◌else◌}
use Rattle.inf_dictionary.specs.{Texts.Text, declared.uses.Word.Word, declared.uses.WordUse.WordUse}
use Rattle.inf_dictionary.specs.Words.{Words, joined, with_use}

-- a use of the word with a text
pub record UseOf : Type 0 where
  pub text : Text
  pub how : WordUse
  pub is_plural : Bool

-- the words after some uses
abbrev pub with_uses : List UseOf → Words → Words
with_uses [] words = words
with_uses (u ∷ uses) words = with_uses uses (with_use u.text u.how u.is_plural words)

-- the facts known of the word with a text after a use, where `known` was known before
abbrev pub said_by : Text → UseOf → Option Word → Option Word
said_by text u known = if is_eq (slice_cmp nat_cmp text u.text) then Some (joined known u.how u.is_plural) else known

-- the facts known of the word with a text after some uses, where `known` was known before
abbrev pub said_of : Text → List UseOf → Option Word → Option Word
said_of text [] known = known
said_of text (u ∷ uses) known = said_of text uses (said_by text u known)

-- Messages in the source's own words: the bytes between the quotes as a line shows them.
use Rattle.std.specs.Prelude.{ℕ, List, [], ◌∷◌, ◌++◌, codes, Bool, not, if◌then◌else◌}
use Rattle.std.specs.List.{list_any}
use Rattle.inf_characters.specs.{Characters.is_line_end, Characters.is_white, declared.characters.CharSet.CharSet}

-- the bytes between the quotes, in their character set
pub record Words : Type 0 where
  pub bytes : List ℕ
  pub set : CharSet

abbrev pub has_line_end : List ℕ → Bool
has_line_end bytes = list_any is_line_end bytes

-- Tells whether a byte is white space, or, where `is_space` is false, whether it is not.
abbrev pub is_alike : CharSet → Bool → ℕ → Bool
is_alike set is_space b = if is_space then is_white set b else not (is_white set b)

-- white space as a line shows it: with a line end in it, it is one space
abbrev pub spaced : List ℕ → List ℕ
spaced run = if has_line_end run then codes " " else run

-- a run as a line shows it, which is of white space or of other bytes
abbrev pub shown_run : Bool → List ℕ → List ℕ
shown_run is_space run = if is_space then spaced run else run

-- the bytes that a line shows of white space and of the bytes behind it
abbrev pub shown_behind : CharSet → List ℕ → List ℕ → List ℕ
shown_behind set run [] = spaced run
shown_behind set run (b ∷ bs) = if is_white set b then shown_behind set (run ++ b ∷ []) bs else spaced run ++ b ∷ shown_behind set [] bs

abbrev pub shown : Words → List ℕ
shown words = shown_behind words.set [] words.bytes

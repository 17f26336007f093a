-- A bound of how far reading can still go. Each turn ends reading, or takes something of an open file, or leaves it; and the
-- bytes that are taken of a file weigh more than all that a file inside it can have.
use Rattle.std.specs.Prelude.{◌≡◌, ℕ, ◌+◌, ◌-◌, ◌*◌, ◌<◌, List, [], ◌∷◌, ◌++◌, length, Bool, false, if◌then◌else◌, zero, suc}
use Rattle.inf_lexer.specs.Readers.{Reader}
use Rattle.inf_characters.specs.declared.characters.CharSet.{CharSet}
use Rattle.inf_sources.specs.{Choosing.open_with, Open.Open, Open.lexers_of}
use Rattle.inf_session.specs.{Standing.ended, Veneer.most_texts, declared.session.Session.Session}

-- the most that a lexer can still take, with one for leaving its file
abbrev pub room : Reader → ℕ
room r = suc (16777216 + length r.window.left - r.window.given)

-- the weight of `r` in a file inside which `n` others can be open
abbrev pub scale : ℕ → ℕ → ℕ
scale zero r = r
scale (suc n) r = scale n (16777218 * r)

-- the weight of files that are open, from the file `n` on, where the main file is 0
abbrev pub weigh_from : ℕ → List Reader → ℕ
weigh_from n [] = 0
weigh_from n (r ∷ readers) = scale (15 - n) (room r) + weigh_from (suc n) readers

abbrev pub weight : Open → ℕ
weight f = weigh_from 0 (lexers_of f.outer ++ f.lexer ∷ [])

-- The most steps that are left: behind the end of the source those of the veneer.
abbrev pub steps_left : {B : Type 0} → Session B → ℕ
steps_left s = if ended s then most_texts - s.passed else suc most_texts + weight s.open_files

-- The files behind a token, which may be at the end of its file: there reading goes on in the file that includes it, and else
-- in the same file, perhaps by another character set, or at the front of another file.
pub data GoesOn (is_at_end : Bool) (before after : Open) : Type 0 where
  Leaves : lexers_of before.outer ≡ lexers_of after.outer ++ after.lexer ∷ [] → GoesOn is_at_end before after
  Stays : is_at_end ≡ false → after ≡ before → GoesOn is_at_end before after
  Turns : (set : CharSet) → is_at_end ≡ false → after ≡ open_with set before → GoesOn is_at_end before after
  Enters : is_at_end ≡ false → after.lexer.window.given ≡ 0 → after.lexer.window.left ≡ [] →
      lexers_of after.outer ≡ lexers_of before.outer ++ before.lexer ∷ [] → length before.outer < 15 → GoesOn is_at_end before after

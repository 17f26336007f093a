-- The table of the bytes that may be in names.
use Rattle.std.proofs.Common.{◌≡◌, ℕ, ◌+◌, ◌<◌, zero, suc, Bool, ◌∙◌, ap, arith, slice_index_or}
use Rattle.inf_scanner.specs.Runs.{is_name_byte, name_bytes, names_from}

from : (n b i : ℕ) (d : Bool) → i < n → slice_index_or (names_from n b) i d ≡ is_name_byte (b + i)
from zero b i d within = absurd (omega (arith, within))
from (suc n) b zero d within = let here : b ≡ b + 0 = omega arith in ap is_name_byte here
from (suc n) b (suc i) d within =
    let later : i < n = omega (arith, within) in let there : suc b + i ≡ b + suc i = omega arith in
    from n (suc b) i d later ∙ ap is_name_byte there

pub name_byte : (b : ℕ) (d : Bool) → b < 256 → slice_index_or name_bytes b d ≡ is_name_byte b
unfolding name_bytes
name_byte b d within = let here : 0 + b ≡ b = omega arith in from 256 0 b d within ∙ ap is_name_byte here

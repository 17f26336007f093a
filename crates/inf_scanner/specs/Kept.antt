-- The bytes that are kept of a token.
use Rattle.std.specs.Prelude.{ℕ, List, [], ◌∷◌, ◌++◌, length, Bool, true, false, nat_lt, if◌then◌else◌}

-- The bytes of a token that are kept, and whether it has more.
pub record Kept : Type 0 where
  pub bytes : List ℕ
  pub is_cut : Bool

abbrev pub nothing_kept : Kept
nothing_kept = record { bytes = []; is_cut = false }

-- the bytes that are kept, at most `most`, once one more has come
abbrev pub with_byte : ℕ → ℕ → Kept → Kept
with_byte most b k =
    if nat_lt (length k.bytes) most then record { bytes = k.bytes ++ b ∷ []; is_cut = k.is_cut }
    else record { bytes = k.bytes; is_cut = true }

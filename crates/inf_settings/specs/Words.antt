-- A word that sets a setting: `$`, its name, `=` and a decimal number.
use Rattle.std.specs.Prelude.{ℕ, ◌+◌, ◌-◌, ◌*◌, List, [], ◌∷◌, ◌&&◌, ◌==◌, nat_le, min, take, drop, position, if◌then◌else◌, Option, Some}
use Rattle.std.specs.Prelude.{None}

-- the greatest number that a word can give; every greater one counts as this
abbrev pub greatest : ℕ
greatest = 4294967295

-- the number that decimal digits write behind the number `n`
abbrev pub decimal_from : ℕ → List ℕ → Option ℕ
decimal_from n [] = Some n
decimal_from n (b ∷ bs) = if nat_le 48 b && nat_le b 57 then decimal_from (n * 10 + (b - 48)) bs else None

-- the number that decimal digits write, of which there is at least one
abbrev pub decimal_of : List ℕ → Option ℕ
decimal_of [] = None
decimal_of (b ∷ bs) = decimal_from 0 (b ∷ bs)

-- a number, or the greatest one where it is greater
abbrev pub capped : Option ℕ → Option ℕ
capped None = None
capped (Some n) = Some (min n greatest)

-- a name and a number that are assigned
pub record Assigned : Type 0 where
  pub name : List ℕ
  pub number : ℕ

abbrev pub assigned : List ℕ → Option ℕ → Option Assigned
assigned name None = None
assigned name (Some n) = Some (record { name = name; number = n })

-- the assignment of the name before a sign and the number behind it
abbrev pub split_at : Option ℕ → List ℕ → Option Assigned
split_at None bytes = None
split_at (Some sign) bytes = assigned (take sign bytes) (capped (decimal_of (drop (sign + 1) bytes)))

abbrev pub sign_in : List ℕ → Option ℕ
sign_in bytes = position (λ b. b == 61) bytes

-- the assignment that a word makes, if it makes one
abbrev pub assignment_of : List ℕ → Option Assigned
assignment_of [] = None
assignment_of (b ∷ bs) = if b == 36 then split_at (sign_in bs) bs else None

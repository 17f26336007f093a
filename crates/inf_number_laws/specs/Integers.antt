-- Numbers of 16 bits as integers (Z-Machine Standard 1.1, section 2.2), and the operators of expressions on integers.
use Rattle.std.specs.Prelude.{◌≡◌, ℕ, ◌+◌, ◌*◌, ◌-◌, ◌%◌, ◌<◌, nat_lt, ◌==◌, false, if◌then◌else◌}
use Rattle.std.specs.Prelude.{ℤ, pos, negsuc, ◌+ℤ◌, ◌-ℤ◌, ◌*ℤ◌, neg_ℤ, int_lt, int_div, int_rem}
use Rattle.inf_expressions.specs.Numbers.{negated, quotient, remainder}
use Rattle.inf_interpreter.specs.Machine.{less}

-- the integer that a number of 16 bits is: from 32768 on it is below 0
abbrev pub signed : ℕ → ℤ
signed n = if nat_lt n 32768 then pos n else negsuc (65535 - n)

-- the number of 16 bits that an integer is, where only its lower 16 bits are kept
abbrev pub word : ℤ → ℕ
word (pos n) = n % 65536
word (negsuc n) = 65535 - n % 65536

-- Two numbers are added, subtracted, multiplied, divided and compared as integers are. A quotient is rounded towards 0, and a remainder has
-- the sign of the number that is divided.
pub record AreIntegers (a b : ℕ) : Type 0 where
  pub add : (a + b) % 65536 ≡ word (signed a +ℤ signed b)
  pub subtract : (a + negated b) % 65536 ≡ word (signed a -ℤ signed b)
  pub multiply : (a * b) % 65536 ≡ word (signed a *ℤ signed b)
  pub divide : ((b == 0) ≡ false) → quotient a b ≡ word (int_div (signed a) (signed b))
  pub remain : ((b == 0) ≡ false) → remainder a b ≡ word (int_rem (signed a) (signed b))
  pub negate : negated a ≡ word (neg_ℤ (signed a))
  pub complement : 65535 - a ≡ word (negsuc 0 -ℤ signed a)
  pub order : less a b ≡ int_lt (signed a) (signed b)

abbrev pub NumbersAreIntegers : Type 0
NumbersAreIntegers = (a b : ℕ) → a < 65536 → b < 65536 → AreIntegers a b

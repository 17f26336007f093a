-- A product of numbers of 16 bits is that of integers.
use Rattle.std.proofs.Common.{◌≡◌, ℕ, ◌*◌, ◌%◌, ◌<◌, ◌-◌, arith, ◌∙◌, ap, sym, ◌*ℤ◌, ℤ, pos, negsuc}
use Rattle.std.proofs.lemmas.Int.{ints, wrapping_mul-bits, of_z-to_z}
use Rattle.std.specs.Int.{cast_signed, cast_unsigned, int_wrap}
use mir.Syntax.{w16}
use Rattle.inf_number_laws.specs.Integers.{signed, word}

word_is : (z : ℤ) → word z ≡ cast_unsigned w16 (int_wrap w16 z)
unfolding int_wrap
word_is (pos n) = sym (of_z-to_z w16 (n % 65536) (omega arith))
word_is (negsuc n) = sym (of_z-to_z w16 (65535 - n % 65536) (omega arith))

signed_is : (a : ℕ) → a < 65536 → cast_signed w16 a ≡ signed a
signed_is a h = grind (arith, ints)

pub multiplied : (a b : ℕ) → a < 65536 → b < 65536 → (a * b) % 65536 ≡ word (signed a *ℤ signed b)
multiplied a b ha hb = sym (of_z-to_z w16 ((a * b) % 65536) (omega arith)) ∙ ap (cast_unsigned w16) (wrapping_mul-bits w16 a b ha hb)
    ∙ ap (λ x. cast_unsigned w16 (int_wrap w16 (x *ℤ cast_signed w16 b))) (signed_is a ha)
    ∙ ap (λ x. cast_unsigned w16 (int_wrap w16 (signed a *ℤ x))) (signed_is b hb)
    ∙ sym (word_is (signed a *ℤ signed b))

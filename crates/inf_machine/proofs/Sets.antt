-- Sets of atoms as numbers.
use Rattle.std.proofs.Common.{◌≡◌, ℕ, zero, suc, ◌<◌, true, false, ◌&&◌, ◌||◌, ◌==◌, max, min, refl, sym, ◌∙◌, ap, arith, bit_or, bit_and}
use Rattle.std.proofs.lemmas.Bool.{eqb-true, or_left}
use Rattle.std.proofs.lemmas.Nat.Bits.{bit_at_or, bit_at_and, bit_at-lt, bit_at-zero}
use Rattle.std.specs.Int.{bit_at}
use Rattle.inf_machine.specs.{Decided.is_within, Grammar.has}

one_of_two : (m n : ℕ) → m < 2 → n < 2 → (max m n == 1) ≡ ((m == 1) || (n == 1))
one_of_two zero zero p q = refl
one_of_two zero (suc zero) p q = refl
one_of_two (suc zero) zero p q = refl
one_of_two (suc zero) (suc zero) p q = refl
one_of_two zero (suc (suc n)) p q = absurd (omega arith)
one_of_two (suc zero) (suc (suc n)) p q = absurd (omega arith)
one_of_two (suc (suc m)) n p q = absurd (omega arith)

both_of_two : (m n : ℕ) → m < 2 → n < 2 → (min m n == 1) ≡ ((m == 1) && (n == 1))
both_of_two zero zero p q = refl
both_of_two zero (suc zero) p q = refl
both_of_two (suc zero) zero p q = refl
both_of_two (suc zero) (suc zero) p q = refl
both_of_two zero (suc (suc n)) p q = absurd (omega arith)
both_of_two (suc zero) (suc (suc n)) p q = absurd (omega arith)
both_of_two (suc (suc m)) n p q = absurd (omega arith)

pub has_zero : (atom : ℕ) → has 0 atom ≡ false
has_zero atom = ap (λ b. b == 1) (bit_at-zero atom)

pub has_or : (x y atom : ℕ) → has (bit_or x y) atom ≡ (has x atom || has y atom)
has_or x y atom = ap (λ b. b == 1) (bit_at_or x y atom) ∙ one_of_two (bit_at x atom) (bit_at y atom) (bit_at-lt x atom) (bit_at-lt y atom)

pub has_and : (x y atom : ℕ) → has (bit_and x y) atom ≡ (has x atom && has y atom)
has_and x y atom =
    ap (λ b. b == 1) (bit_at_and x y atom) ∙ both_of_two (bit_at x atom) (bit_at y atom) (bit_at-lt x atom) (bit_at-lt y atom)

-- an atom of a set is in each set of which the set is a part
pub has_within : (inner outer atom : ℕ) → is_within inner outer ≡ true → has inner atom ≡ true → has outer atom ≡ true
has_within inner outer atom w h = ap (λ s. has s atom) (sym (eqb-true (bit_or inner outer) outer w)) ∙ has_or inner outer atom
    ∙ or_left (has inner atom) (has outer atom) h

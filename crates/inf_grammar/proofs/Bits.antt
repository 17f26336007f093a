-- The bits of numbers that are joined.
use Rattle.std.proofs.Common.{◌≡◌, ℕ, zero, suc, ◌+◌, ◌*◌, ◌/◌, ◌%◌, ◌^◌, ◌<◌, ◌≤◌, List, [], ◌∷◌, nat_eq, false, length, bit_and, get_or}
use Rattle.std.proofs.Common.{sym, ◌∙◌, ap, arith}
use Rattle.std.proofs.lemmas.Nat.Bits.{bit_at_cat_low, bit_at_cat_high, bit_at-zero, shr_and_one}
use Rattle.std.proofs.lemmas.List.{get_or_past}
use Rattle.std.specs.Int.{bit_at}
use Rattle.inf_machine.specs.Grammar.{has}
use Rattle.inf_grammar.specs.Tables.{joined_words}

pub joined_bit : (ws : List ℕ) (k j : ℕ) → ((i : ℕ) → get_or ws i 0 < 2 ^ 64) → j < 64 →
    bit_at (joined_words ws) (64 * k + j) ≡ bit_at (get_or ws k 0) j
joined_bit [] k j w l = bit_at-zero (64 * k + j) ∙ sym (bit_at-zero j)
joined_bit (x ∷ ws) zero j w l = ap (bit_at (joined_words ws * 2 ^ 64 + x)) (omega arith) ∙ bit_at_cat_low (joined_words ws) 64 x j l
joined_bit (x ∷ ws) (suc k) j w l = bit_at_cat_high (joined_words ws) 64 x (64 * suc k + j) (w 0) (omega arith)
    ∙ ap (bit_at (joined_words ws)) (omega arith) ∙ joined_bit ws k j (λ i. w (suc i)) l

pub word_bit : (ws : List ℕ) (atom : ℕ) → ((i : ℕ) → get_or ws i 0 < 2 ^ 64) →
    nat_eq (bit_and (get_or ws (atom / 64) 0 / 2 ^ (atom % 64)) 1) 1 ≡ has (joined_words ws) atom
word_bit ws atom w = ap (λ b. nat_eq b 1) (shr_and_one (get_or ws (atom / 64) 0) (atom % 64)
    ∙ sym (joined_bit ws (atom / 64) (atom % 64) w (omega arith)) ∙ ap (bit_at (joined_words ws)) (omega arith))

pub no_word_bit : (ws : List ℕ) (atom : ℕ) → ((i : ℕ) → get_or ws i 0 < 2 ^ 64) → length ws ≤ atom / 64 → false ≡ has (joined_words ws) atom
no_word_bit ws atom w l =
    let same : 64 * (atom / 64) + atom % 64 ≡ atom = omega arith in
    let none : bit_at (joined_words ws) atom ≡ 0 =
    sym (ap (bit_at (joined_words ws)) same) ∙ joined_bit ws (atom / 64) (atom % 64) w (omega arith)
    ∙ ap (λ x. bit_at x (atom % 64)) (get_or_past ws (atom / 64) 0 l) ∙ bit_at-zero (atom % 64) in
    sym (ap (λ b. nat_eq b 1) none)

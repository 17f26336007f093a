-- A number up to a limit gives the character that the number gives.
use Rattle.std.proofs.Common.{◌≡◌, ◌<◌, ◌≤◌, ◌+◌, ◌*◌, ℕ, zero, suc, min, Bool, true, false, ◌&&◌, cond, Option, None, Some, List, [], ◌∷◌}
use Rattle.std.proofs.Common.{refl, ap, sym, ◌∙◌, arith, inl, inr, eqb, leb, ltb, option_map, ◌⊎◌, nat_lt}
use Rattle.std.proofs.{lemmas.Bool.Decides.nat_tests, lemmas.Bool.cases_lt}
use Rattle.std.specs.List.{list_all, position_from}
use Rattle.inf_characters.specs.{Characters.accented, Characters.zscii_of_unicode, Reading.digit_of, Reading.number_from}

-- one more digit, behind a number that the limit left as it was or cut
pub capped-more : (base high digit : ℕ) → min (min high 65536 * base + digit) 65536 ≡ min (base * high + digit) 65536
capped-more base high digit = go base (cases_lt high 65536) where
  go : (base : ℕ) → (high < 65536) ⊎ (65536 ≤ high) → min (min high 65536 * base + digit) 65536 ≡ min (base * high + digit) 65536
  go base (inl lt) = let e : min high 65536 ≡ high = omega arith in rw e (omega arith)
  go zero (inr le) = let e : min high 65536 ≡ 65536 = omega arith in rw e (omega arith)
  go (suc base) (inr le) = let e : min high 65536 ≡ 65536 = omega arith in rw e (omega arith)

-- a byte that is a digit belongs to the number
pub number_from-more : (base count high b d : ℕ) (bytes : List ℕ) → digit_of base b ≡ Some d →
    number_from base count high (b ∷ bytes) ≡ number_from base (count + 1) (base * high + d) bytes
number_from-more base count high b d bytes e =
    ap (λ (o : Option ℕ). elim o as (λ _. ℕ × ℕ) [ None ↦ (count, high) | Some d ↦ number_from base (count + 1) (base * high + d) bytes ]) e

-- a number past each in a list is not among them
past_all : (x bound k : ℕ) (xs : List ℕ) → bound ≤ x → list_all (λ y. nat_lt y bound) xs ≡ true → position_from (λ y. eqb y x) k xs ≡ None
past_all x bound k [] le all = refl
past_all x bound k (y ∷ xs) le all =
    let both = halves (ltb y bound) (list_all (λ y. nat_lt y bound) xs) all in
    let differs : eqb y x ≡ false = grind (arith, nat_tests, both.0) in
    rw differs (past_all x bound (k + 1) xs le both.1)
  where
    halves : (a b : Bool) → (a && b) ≡ true → (a ≡ true) × (b ≡ true)
    halves true b h = (refl, h)
    halves false b h = cc

past_accented : (n : ℕ) → 65536 ≤ n → position_from (λ y. eqb y n) 0 accented ≡ None
unfolding accented
past_accented n le = past_all n 65536 0 accented le refl

past_ascii : (n : ℕ) → 65536 ≤ n → leb n 126 ≡ false
past_ascii n le = grind (arith, nat_tests)

-- a number past the limit has no character
no_zscii : (n : ℕ) → 65536 ≤ n → zscii_of_unicode n ≡ None
unfolding zscii_of_unicode
no_zscii n le = go (leb 32 n) where
  go : (b : Bool) → cond (b && leb n 126) (Some n) (option_map (λ place. 155 + place) (position_from (λ y. eqb y n) 0 accented)) ≡ None
  go true = rw (past_ascii n le, past_accented n le) refl
  go false = rw (past_accented n le) refl

-- the limit has no character, nor has a number past it
pub zscii_of_capped : (n : ℕ) → zscii_of_unicode (min n 65536) ≡ zscii_of_unicode n
zscii_of_capped n = go (cases_lt n 65536) where
  go : (n < 65536) ⊎ (65536 ≤ n) → zscii_of_unicode (min n 65536) ≡ zscii_of_unicode n
  go (inl lt) = let e : min n 65536 ≡ n = omega arith in ap zscii_of_unicode e
  go (inr le) = no_zscii (min n 65536) (omega arith) ∙ sym (no_zscii n le)

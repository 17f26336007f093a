-- Decimal numbers that stop at the greatest one.
use Rattle.std.proofs.{lemmas.Bool.Decides.nat_tests, lemmas.List.drop_all}
use Rattle.std.proofs.Common.{◌≡◌, ℕ, suc, ◌+◌, ◌-◌, ◌*◌, ◌<◌, ◌≤◌, ◌&&◌, ◌∙◌, Bool, true, false, cond, nat_le, min, List, [], ◌∷◌, length}
use Rattle.std.proofs.Common.{get_or, drop, drop-cons, add-one, Some, None, refl, ap, sym, arith}
use Rattle.inf_settings.specs.Words.{capped, decimal_from, greatest}

step_capped : (n m d : ℕ) → min n greatest ≡ min m greatest → min (n * 10 + d) greatest ≡ min (m * 10 + d) greatest
step_capped n m d same = omega (arith, same)

-- two numbers that are the same once capped stay so with the same digits behind them
pub capped_alike : (n m : ℕ) (ds : List ℕ) → min n greatest ≡ min m greatest → capped (decimal_from n ds) ≡ capped (decimal_from m ds)
capped_alike n m [] same = ap Some same
capped_alike n m (d ∷ ds) same =
    go (nat_le 48 d && nat_le d 57) (capped_alike (n * 10 + (d - 48)) (m * 10 + (d - 48)) ds (step_capped n m (d - 48) same))
  where
    go : (t : Bool) → capped (decimal_from (n * 10 + (d - 48)) ds) ≡ capped (decimal_from (m * 10 + (d - 48)) ds) →
        capped (cond t (decimal_from (n * 10 + (d - 48)) ds) None) ≡ capped (cond t (decimal_from (m * 10 + (d - 48)) ds) None)
    go true later = later
    go false later = refl

digit_next : (n d : ℕ) (ds : List ℕ) → 48 ≤ d → d ≤ 57 → capped (decimal_from n (d ∷ ds)) ≡ capped (decimal_from (n * 10 + (d - 48)) ds)
digit_next n d ds low high =
    let is : (nat_le 48 d && nat_le d 57) ≡ true = grind (arith, nat_tests, low, high) in rw is refl

stops : (n d next : ℕ) → next ≡ min (min (n * 10) greatest + (d - 48)) greatest → min next greatest ≡ min (n * 10 + (d - 48)) greatest
stops n d next is = omega (arith, is)

-- one more digit is read behind a number that stops at the greatest one
pub decimal_next : (n next : ℕ) (ds : List ℕ) (i : ℕ) → i < length ds → 48 ≤ get_or ds i 0 → get_or ds i 0 ≤ 57
    → next ≡ min (min (n * 10) greatest + (get_or ds i 0 - 48)) greatest
    → capped (decimal_from next (drop (i + 1) ds)) ≡ capped (decimal_from n (drop i ds))
decimal_next n next ds i within low high is = rw (add-one, drop-cons ds i 0 within)
    (capped_alike next (n * 10 + (get_or ds i 0 - 48)) (drop (suc i) ds) (stops n (get_or ds i 0) next is)
    ∙ sym (digit_next n (get_or ds i 0) (drop (suc i) ds) low high))

-- the number is the one that was reached once all digits are read
pub decimal_end : (n : ℕ) (ds : List ℕ) (i : ℕ) → length ds ≤ i → n ≤ greatest → capped (decimal_from n (drop i ds)) ≡ Some n
decimal_end n ds i past small =
    let least : min n greatest ≡ n = omega (arith, small) in rw (drop_all i ds past, least) refl

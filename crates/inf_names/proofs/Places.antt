-- The place that a search answers is the first one that passes.
use Rattle.std.proofs.Common.{◌≡◌, ◌≤◌, ℕ, Bool, true, false, cond, ltb, None, Some, refl, arith}
use Rattle.std.proofs.lemmas.Bool.Decides.{nat_tests}

-- a place that was found is that place
pub found_place : (n place len : ℕ) → Some n ≡ cond (ltb place len) (Some place) None → n ≡ place
found_place n place len is = go (ltb place len) is where
  go : (t : Bool) → Some n ≡ cond t (Some place) None → n ≡ place
  go true is = cc
  go false is = cc

-- where no place was found, there is none within the list
pub no_place : (place len : ℕ) → None ≡ cond (ltb place len) (Some place) None → len ≤ place
no_place place len is = go (ltb place len) refl is where
  go : (t : Bool) → ltb place len ≡ t → None ≡ cond t (Some place) None → len ≤ place
  go true beyond is = cc
  go false beyond is = grind (arith, nat_tests)

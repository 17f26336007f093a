-- Offsets of branches and jumps: they fit, and are read as the places that they were made of.
use Rattle.std.proofs.Common.{◌≡◌, ℕ, ◌+◌, ◌-◌, ◌*◌, ◌%◌, ◌<◌, ◌≤◌, Bool, true, false, ltb, leb, eqb, ◌&&◌, cond, Some, None, ◌⊎◌, inl, inr}
use Rattle.std.proofs.Common.{refl, ◌∙◌, ap, arith}
use Rattle.std.proofs.lemmas.Bool.Decides.{nat_tests}
use Rattle.inf_assembler.specs.Places.{is_near, offset_to}
use Rattle.inf_assembler_laws.specs.Decoding.{Returns, GoesTo, place_by, aim_at}
use Rattle.inf_assembler_laws.proofs.Reading.{both_parts}

-- the bytes of a branch
abbrev pub short_size : Bool → ℕ
short_size short = cond short 1 2

cond_some : (b : Bool) (x o : ℕ) → cond b (Some x) None ≡ Some o → (b ≡ true) × (x ≡ o)
cond_some true x o e = (refl, cc)
cond_some false x o e = cc

-- an offset that fits: how far away the place is, and the number that is written
pub record Near (half end place offset : ℕ) : Type 0 where
  pub low : end ≤ place + 2 + half
  pub high : place + 2 < end + half
  pub is : (place + 2 + 2 * half - end) % (2 * half) ≡ offset

pub near_of : (half end place offset : ℕ) → offset_to half end (Some place) ≡ Some offset → Near half end place offset
near_of half end place offset e =
    let made =
    cond_some (leb end (place + 2 + half) && ltb (place + 2) (end + half)) ((place + 2 + 2 * half - end) % (2 * half)) offset e in
    let both = both_parts (leb end (place + 2 + half)) (ltb (place + 2) (end + half)) made.0 in
    record { low = grind (arith, nat_tests, both.0); high = grind (arith, nat_tests, both.1); is = made.1 }

-- The number is below twice the half, and says the place.
cond_is : (b : Bool) (x y z : ℕ) → (b ≡ true → x ≡ z) → (b ≡ false → y ≡ z) → cond b x y ≡ z
cond_is true x y z f g = f refl
cond_is false x y z f g = g refl

below_half : (m n : ℕ) → ltb m n ≡ true → m < n
below_half m n e = grind (arith, nat_tests)

from_half : (m n : ℕ) → ltb m n ≡ false → n ≤ m
from_half m n e = grind (arith, nat_tests)

pub branch_below : (end place offset : ℕ) → Near 8192 end place offset → offset < 16384
branch_below end place offset near = omega (arith, near.is)

pub branch_place : (end place offset : ℕ) → Near 8192 end place offset → place_by 8192 end offset ≡ place
branch_place end place offset near = cond_is (ltb offset 8192) (end + offset - 2) (end + offset - 16386) place
    (λ e. let less = below_half offset 8192 e in omega (arith, near.is, near.low, near.high, less))
    (λ e. let more = from_half offset 8192 e in omega (arith, near.is, near.low, near.high, more))

pub jump_below : (end place offset : ℕ) → Near 32768 end place offset → offset < 65536
jump_below end place offset near = omega (arith, near.is)

pub jump_place : (end place offset : ℕ) → Near 32768 end place offset → place_by 32768 end offset ≡ place
jump_place end place offset near = cond_is (ltb offset 32768) (end + offset - 2) (end + offset - 65538) place
    (λ e. let less = below_half offset 32768 e in omega (arith, near.is, near.low, near.high, less))
    (λ e. let more = from_half offset 32768 e in omega (arith, near.is, near.low, near.high, more))

-- an offset from 2 on goes to a place
pub aim_from : (end offset : ℕ) → 2 ≤ offset → aim_at end offset ≡ GoesTo (place_by 8192 end offset)
aim_from end offset large =
    let zeroth : eqb offset 0 ≡ false = grind (arith, nat_tests) in
    let first : eqb offset 1 ≡ false = grind (arith, nat_tests) in
    ap (λ b. cond b (Returns false) (cond (eqb offset 1) (Returns true) (GoesTo (place_by 8192 end offset)))) zeroth
    ∙ ap (λ b. cond b (Returns true) (GoesTo (place_by 8192 end offset))) first

-- how far a short branch goes while all are long
pub near_long : (place target : ℕ) → is_near place (Some target) ≡ true → (place + 2 ≤ target) × (target ≤ place + 63)
near_long place target e =
    let both = both_parts (leb (place + 2) target) (leb target (place + 63)) e in
    let low : place + 2 ≤ target = grind (arith, nat_tests, both.0) in
    let high : target ≤ place + 63 = grind (arith, nat_tests, both.1) in
    (low, high)

forward : (end place offset : ℕ) → Near 8192 end place offset → end ≤ place → 2 ≤ offset
forward end place offset near ahead = omega (arith, near.is, near.high)

backward : (end place offset : ℕ) → Near 8192 end place offset → place + 2 < end → 2 ≤ offset
backward end place offset near behind = omega (arith, near.is, near.low)

short_forward : (branch end place long offset : ℕ) → Near 8192 end place offset → end ≤ place → place + (branch + 2) ≤ long + end →
    long ≤ branch + 63 → offset < 64
short_forward branch end place long offset near ahead shrunk close = omega (arith, near.is, near.high)

-- The offset of a short branch is below 64. The branch is at a long place, and its label before it or behind its end.
pub short_clear : (long_before before branch end place long offset : ℕ) → Near 8192 end place offset → long_before ≤ branch →
    (branch + 2 ≤ long) × (long ≤ branch + 63)
    → ((place ≤ before) × (long ≤ long_before)) ⊎ ((end ≤ place) × (branch + 2 ≤ long) × (place + (branch + 2) ≤ long + end)) → offset < 64
short_clear long_before before branch end place long offset near from ahead (inl sides) = absurd (omega (arith, ahead.0, sides.1))
short_clear long_before before branch end place long offset near from ahead (inr sides) =
    short_forward branch end place long offset near sides.0 sides.2 ahead.1

-- The offset of a branch is no 0 or 1, which return, where a byte or more is between its label and the branch.
pub offset_clear : (short : Bool) (long_before before branch end place long offset : ℕ) → Near 8192 end place offset →
    long_before ≤ branch → (short ≡ false → before + 2 < end)
    → (short ≡ true → (branch + 2 ≤ long) × (long ≤ branch + 63))
    → ((place ≤ before) × (long ≤ long_before)) ⊎ ((end ≤ place) × (branch + 2 ≤ long) × (place + (branch + 2) ≤ long + end))
    → 2 ≤ offset
offset_clear true long_before before branch end place long offset near from apart ahead (inl sides) =
    let n = ahead refl in absurd (omega (arith, n.0, sides.1))
offset_clear false long_before before branch end place long offset near from apart ahead (inl sides) =
    let less = apart refl in backward end place offset near (omega (arith, less, sides.0))
offset_clear short long_before before branch end place long offset near from apart ahead (inr sides) = forward end place offset near sides.0

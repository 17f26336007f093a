-- The sibling of a number: the first child behind it of its parent
use Rattle.std.proofs.Common.{◌≡◌, ◌<◌, ◌≤◌, ℕ, zero, suc, ◌+◌, List, [], ◌∷◌, Bool, true, false, refl, ◌∙◌, ap, sym, arith, ◌==◌, cond}
use Rattle.std.proofs.Common.{if◌then◌else◌, nat_lt, slice_index_or, filter}
use Rattle.inf_objects.specs.Tree.{children_from, next_below, sibling_from}
use Rattle.inf_world_laws.specs.{Families.first_number, Families.parent_at, Laws.SiblingAgrees}
use Rattle.inf_world_laws.proofs.Tree.{children_agree, first_is}

kept_by : (number k : ℕ) (b : Bool) (c : List ℕ) → number < k → filter (nat_lt number) c ≡ c
    → filter (nat_lt number) (cond b (k ∷ c) c) ≡ cond b (k ∷ c) c
kept_by number k true c h e =
    let behind : nat_lt number k ≡ true = grind arith in
    ap (λ b. cond b (k ∷ filter (nat_lt number) c) (filter (nat_lt number) c)) behind ∙ ap (λ l. k ∷ l) e
kept_by number k false c h e = e

-- children that are counted behind a number are kept
kept : (number k parent : ℕ) (above : List ℕ) → number < k
    → filter (nat_lt number) (children_from k parent above) ≡ children_from k parent above
kept number k parent [] h = refl
kept number k parent (p ∷ above) h =
    kept_by number k (p == parent) (children_from (k + 1) parent above) h (kept number (k + 1) parent above (omega arith))

-- one that is not behind it is dropped
dropped : (number k : ℕ) (b : Bool) (c : List ℕ) → k ≤ number → filter (nat_lt number) (cond b (k ∷ c) c) ≡ filter (nat_lt number) c
dropped number k true c h =
    let before : nat_lt number k ≡ false = grind arith in
    ap (λ b. cond b (k ∷ filter (nat_lt number) c) (filter (nat_lt number) c)) before
dropped number k false c h = refl

abbrev next_of : ℕ → ℕ → ℕ → List ℕ → ℕ
next_of number first parent above = if parent == 0 then 0 else first_number (filter (nat_lt number) (children_from first parent above))

sibling_is : (k first number : ℕ) (above : List ℕ) → number ≡ first + k
    → sibling_from number first above ≡ next_of number first (slice_index_or above k 0) above
sibling_is zero first number [] e = refl
sibling_is (suc k) first number [] e = refl
sibling_is zero first number (p ∷ above) e =
    let here : (number == first) ≡ true = grind arith in
    let c = children_from (first + 1) p above in
    ap (λ b. cond b (next_below p (first + 1) above) (sibling_from number (first + 1) above)) here
    ∙ ap (λ n. if p == 0 then 0 else n)
    (sym (ap first_number (dropped number first (p == p) c (omega arith) ∙ kept number (first + 1) p above (omega arith)) ∙ first_is c))
sibling_is (suc k) first number (p ∷ above) e =
    let other : (number == first) ≡ false = grind arith in
    let q = slice_index_or above k 0 in
    ap (λ b. cond b (next_below p (first + 1) above) (sibling_from number (first + 1) above)) other
    ∙ sibling_is k (first + 1) number above (omega arith)
    ∙ ap (λ l. if q == 0 then 0 else first_number l)
    (sym (dropped number first (p == q) (children_from (first + 1) q above) (omega arith)))

no_sibling : (first : ℕ) (above : List ℕ) → 0 < first → sibling_from 0 first above ≡ 0
no_sibling first [] h = refl
no_sibling first (p ∷ above) h =
    let other : (0 == first) ≡ false = grind arith in
    ap (λ b. cond b (next_below p (first + 1) above) (sibling_from 0 (first + 1) above)) other
    ∙ no_sibling (first + 1) above (omega arith)

pub sibling_agrees : SiblingAgrees
sibling_agrees above zero = sym (no_sibling 1 above (omega arith))
sibling_agrees above (suc k) =
    let q = parent_at above (suc k) in
    ap (λ l. if q == 0 then 0 else first_number (filter (nat_lt (suc k)) l)) (children_agree above q)
    ∙ sym (sibling_is k 1 (suc k) above (omega arith))

-- The kept entries, one after the other.
use Rattle.std.proofs.Common.{◌≡◌, ℕ, ◌+◌, ◌-◌, ◌<◌, ◌≤◌, Bool, true, false, cond, List, [], ◌∷◌, ◌++◌, length, get_or, take, drop, Option}
use Rattle.std.proofs.Common.{Some, None, is_some, refl, sym, ◌∙◌, ap, subst, arith}
use Rattle.std.proofs.lemmas.List.{drop_more, take_more}
use Rattle.inf_area.specs.declared.targets.Target.{Target}
use Rattle.inf_opcode.specs.{Cells.special_size, declared.cells.Kept.Kept, declared.cells.Special.Special}
use Rattle.inf_opcode.specs.{declared.instructions.Destination.Destination, declared.instructions.Label.Label}
use Rattle.inf_assembler.specs.Places.{Places, with_some, is_short_to, size_at, branch_bytes, branch_offset, closed_special, first_of}
use Rattle.inf_assembler.specs.Places.{marks, fixup_at}
use Rattle.inf_assembler.specs.Closing.{AreInOrder, nowhere, special_saving, kept_place, kept_again, kept_twice, placed_bytes, with_bytes}
use Rattle.inf_assembler.specs.Closing.{squeezed, saving, kept_fixups}

order_end : (from end : ℕ) (kept : List Kept) → AreInOrder from kept end → from ≤ end
order_end from end [] order = order
order_end from end (entry ∷ others) order = omega (arith, order.0, order_end (entry.place + special_size entry.what) end others order.1)

-- the first entry, those behind it, and its end
pub order_step : (from i end : ℕ) (kept : List Kept) (d : Kept) → i < length kept → AreInOrder from (drop i kept) end
    → (from ≤ (get_or kept i d).place) × AreInOrder ((get_or kept i d).place + special_size (get_or kept i d).what) (drop (i + 1) kept) end
    × ((get_or kept i d).place + special_size (get_or kept i d).what ≤ end)
order_step from i end kept d within order =
    let P : List Kept → Type 0 = λ ks. AreInOrder from ks end in
    let step = subst P (drop_more kept i d within) order in
    (step.0, step.1, order_end ((get_or kept i d).place + special_size (get_or kept i d).what) end (drop (i + 1) kept) step.1)

-- a function of a value that may be none gives a value only for a value
pub some_of : {A B : Type 0} (f : A → B) (x : Option A) (y : B) → with_some f x ≡ Some y → (a : A) × (f a ≡ y)
some_of f None y e = cc
some_of f (Some x) y e = (x, cc)

length-branch : (short sense : Bool) (offset : ℕ) → length (branch_bytes short sense offset) ≡ cond short 1 2
length-branch true sense offset = refl
length-branch false sense offset = refl

-- a special cell has as many bytes as its size
pub closed_size : (long places : Places) (old new : ℕ) (what : Special) (bytes : List ℕ) →
    closed_special long places old new what ≡ Some bytes → length bytes ≡ size_at long old what
closed_size long places old new (Special.Marks label) bytes e = let same : bytes ≡ [] = cc in ap length same
closed_size long places old new (Special.Branches branch) bytes e =
    let short = is_short_to long old branch.target in
    let made = some_of (branch_bytes short branch.sense) (branch_offset places (new + cond short 1 2) branch.target) bytes e in
    ap length (sym made.1) ∙ length-branch short branch.sense made.0
closed_size long places old new (Special.Jumps label) bytes e =
    let made = some_of _ _ bytes e in ap length (sym made.1)
closed_size long places old new (Special.Refers target) bytes e = let same : bytes ≡ 0 ∷ 0 ∷ [] = cc in ap length same

cond_le : (b : Bool) → cond b 1 2 ≤ 2
cond_le true = omega arith
cond_le false = omega arith

pub size_le : (long : Places) (old : ℕ) (what : Special) → size_at long old what ≤ special_size what
size_le long old (Special.Marks label) = omega arith
size_le long old (Special.Branches branch) = cond_le (is_short_to long old branch.target)
size_le long old (Special.Jumps label) = omega arith
size_le long old (Special.Refers target) = omega arith

-- the bytes once one more entry is written
pub squeezed_step : (long places : Places) (from to i : ℕ) (kept : List Kept) (d : Kept) (xs added : List ℕ) → i < length kept
    → closed_special long places (get_or kept i d).place (to + ((get_or kept i d).place - from)) (get_or kept i d).what ≡ Some added
    → squeezed long places from to (drop i kept) xs ≡ squeezed long places ((get_or kept i d).place + special_size (get_or kept i d).what)
    (to + ((get_or kept i d).place - from) + length added) (drop (i + 1) kept)
    (placed_bytes to from ((get_or kept i d).place - from) added xs)
squeezed_step long places from to i kept d xs added within is =
    let entry = get_or kept i d in
    let next : List ℕ → Option (List ℕ) =
    λ bytes. squeezed long places (entry.place + special_size entry.what) (to + (entry.place - from) + length bytes) (drop (i + 1) kept)
    (placed_bytes to from (entry.place - from) bytes xs) in
    ap (λ ks. squeezed long places from to ks xs) (drop_more kept i d within) ∙ ap (with_bytes next) is

-- no branch is short where no long place is known, and no entry saves bytes there
near_nowhere : (place : ℕ) (target : Destination) → is_short_to nowhere place target ≡ false
near_nowhere place (Destination.To label) = refl
near_nowhere place Destination.ReturnFalse = refl
near_nowhere place Destination.ReturnTrue = refl

pub saving_nowhere : (place : ℕ) (what : Special) → special_saving nowhere place what ≡ 0
saving_nowhere place (Special.Marks label) = refl
saving_nowhere place (Special.Branches branch) = ap (λ b. cond b 1 0) (near_nowhere place branch.target)
saving_nowhere place (Special.Jumps label) = refl
saving_nowhere place (Special.Refers target) = refl

first_of-cond : (b : Bool) (x : ℕ) (y z : Option ℕ) → cond b (Some x) (first_of y z) ≡ first_of (cond b (Some x) y) z
first_of-cond true x y z = refl
first_of-cond false x y z = refl

pub kept_place-push : (saved : ℕ) (before : List Kept) (entry : Kept) (n : ℕ) → kept_place nowhere saved (before ++ entry ∷ []) n ≡ first_of
    (kept_place nowhere saved before n) (cond (marks n entry.what) (Some (entry.place - saved)) None)
kept_place-push saved [] entry n = refl
kept_place-push saved (first ∷ before) entry n =
    let next : saved + special_saving nowhere first.place first.what ≡ saved = omega (arith, saving_nowhere first.place first.what) in
    ap (λ o. cond (marks n first.what) (Some (first.place - saved)) o)
    (ap (λ s. kept_place nowhere s (before ++ entry ∷ []) n) next ∙ kept_place-push saved before entry n
    ∙ ap (λ s. first_of (kept_place nowhere s before n) (cond (marks n entry.what) (Some (entry.place - saved)) None)) (sym next))
    ∙ first_of-cond (marks n first.what) (first.place - saved)
    (kept_place nowhere (saved + special_saving nowhere first.place first.what) before n)
    (cond (marks n entry.what) (Some (entry.place - saved)) None)

-- a label that is marked for the first time is not marked twice, and no other entry marks one
pub again_new : (before : List Kept) (label : Label) → is_some (kept_place nowhere 0 before label.number) ≡ false →
    kept_again before (Special.Marks label) ≡ None
again_new before label new = ap (λ b. cond b (Some label) None) new

pub again_other : (before : List Kept) (what : Special) → ((label : Label) → what ≡ Special.Marks label → ⊥) → kept_again before what ≡ None
again_other before (Special.Marks label) other = absurd (other label refl)
again_other before (Special.Branches branch) other = refl
again_other before (Special.Jumps label) other = refl
again_other before (Special.Refers target) other = refl

pub marks_other : (n : ℕ) (what : Special) → ((label : Label) → what ≡ Special.Marks label → ⊥) → marks n what ≡ false
marks_other n (Special.Marks label) other = absurd (other label refl)
marks_other n (Special.Branches branch) other = refl
marks_other n (Special.Jumps label) other = refl
marks_other n (Special.Refers target) other = refl

pub twice_step : (i : ℕ) (kept : List Kept) (d : Kept) → i < length kept → kept_again (take i kept) (get_or kept i d).what ≡ None →
    kept_twice (take (i + 1) kept) (drop (i + 1) kept) ≡ kept_twice (take i kept) (drop i kept)
twice_step i kept d within new = ap (λ ks. kept_twice ks (drop (i + 1) kept)) (take_more kept i d within)
    ∙ ap (λ o. first_of o (kept_twice (take i kept ++ get_or kept i d ∷ []) (drop (i + 1) kept))) (sym new)
    ∙ ap (kept_twice (take i kept)) (sym (drop_more kept i d within))

pub first_of-none : {A : Type 0} (o : Option A) → first_of o None ≡ o
first_of-none None = refl
first_of-none (Some x) = refl

-- the fixups from one entry on
pub fixups_step : (long : Places) (saved i : ℕ) (kept : List Kept) (d : Kept) → i < length kept
    → kept_fixups long saved (drop i kept) ≡ fixup_at ((get_or kept i d).place - saved) (get_or kept i d).what ++ kept_fixups long
    (saved + saving long (get_or kept i d)) (drop (i + 1) kept)
fixups_step long saved i kept d within = ap (kept_fixups long saved) (drop_more kept i d within)

pub fixup_other : (place : ℕ) (what : Special) → ((target : Target) → what ≡ Special.Refers target → ⊥) → fixup_at place what ≡ []
fixup_other place (Special.Marks label) other = refl
fixup_other place (Special.Branches branch) other = refl
fixup_other place (Special.Jumps label) other = refl
fixup_other place (Special.Refers target) other = absurd (other target refl)

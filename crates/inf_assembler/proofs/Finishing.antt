-- The results computed at the end are those of the routine's cells.
use Rattle.std.proofs.Common.{Result, Ok, Err, OnOk, ◌≡◌, ℕ, ◌+◌, List, [], ◌∷◌, ◌++◌, length, Option, Some, None, refl, sym, ◌∙◌, ap}
use Rattle.std.proofs.Common.{arith, append_assoc, length-append}
use mathlib.Core.Path.{fun_ext}
use Rattle.inf_area.specs.Fixups.{Fixups}
use Rattle.inf_opcode.specs.{declared.cells.Kept.Kept, declared.cells.Special.Special, declared.instructions.Label.Label}
use Rattle.inf_opcode.specs.Cells.{Cell, Plain, Of, special_size, long_bytes, fixup_count, kept_from}
use Rattle.inf_assembler.specs.declared.{routines.CloseFault.CloseFault, routines.Limits.Limits, routines.RoutineKind.RoutineKind}
use Rattle.inf_assembler.specs.Places.{Places, with_some, size_at, fixup_at, closed_fixups, missing, twice_behind}
use Rattle.inf_assembler.specs.Closing.{found, nowhere, kept_place, kept_missing, kept_twice, kept_fixups, squeezed, AreInOrder}
use Rattle.inf_assembler.specs.Routines.{Contents, long_places, places, body_bytes, routine_fixups, full_fault, body_fault, twice_fault}
use Rattle.inf_assembler.specs.Routines.{missing_fault, fault_of}
use Rattle.inf_assembler.proofs.Bridges.{order_kept, place_bridge, long_bridge, fixups_bridge, missing_bridge, twice_bridge}
use Rattle.inf_assembler.proofs.Bridges.{squeezed_bridge}

pub none_of : {A : Type 0} (o : Option A) → ((x : A) → o ≡ Some x → ⊥) → o ≡ None
none_of None h = refl
none_of (Some x) h = absurd (h x refl)

length-fixup : (place : ℕ) (what : Special) (cells : List Cell) →
    length (fixup_at place what) + fixup_count cells ≡ fixup_count (Of what ∷ cells)
length-fixup place (Special.Marks label) cells = omega arith
length-fixup place (Special.Branches branch) cells = omega arith
length-fixup place (Special.Jumps label) cells = omega arith
length-fixup place (Special.Refers target) cells = omega arith

pub length-fixups : (long : Places) (old new : ℕ) (cells : List Cell) → length (closed_fixups long old new cells) ≡ fixup_count cells
length-fixups long old new [] = refl
length-fixups long old new ((Plain byte) ∷ cells) = length-fixups long (old + 1) (new + 1) cells
length-fixups long old new ((Of what) ∷ cells) =
    length-append (fixup_at new what) (closed_fixups long (old + special_size what) (new + size_at long old what) cells)
    ∙ ap (λ k. length (fixup_at new what) + k) (length-fixups long (old + special_size what) (new + size_at long old what) cells)
    ∙ length-fixup new what cells

module _ (start : ℕ) (contents : Contents) (kept : List Kept) (is : kept ≡ kept_from (start + 1) contents.cells) where
  pub long_is : (long : List (Option ℕ)) → ((n : ℕ) → found long n ≡ kept_place nowhere 0 kept n) → found long ≡ long_places start contents
  long_is long h =
      fun_ext (λ n. h n ∙ ap (λ ks. kept_place nowhere 0 ks n) is ∙ place_bridge nowhere 0 (start + 1) (start + 1) contents.cells n
      (omega arith) ∙ long_bridge (start + 1) (start + 1) contents.cells n refl)

  pub places_is : (long table : List (Option ℕ)) → found long ≡ long_places start contents →
      ((n : ℕ) → found table n ≡ kept_place (found long) 0 kept n) → found table ≡ places start contents
  places_is long table e h =
      fun_ext (λ n. h n ∙ ap (λ f. kept_place f 0 kept n) e ∙ ap (λ ks. kept_place (long_places start contents) 0 ks n) is
      ∙ place_bridge (long_places start contents) 0 (start + 1) (start + 1) contents.cells n (omega arith))

  pub missing_is : (long : List (Option ℕ)) → found long ≡ long_places start contents →
      kept_missing (found long) kept ≡ missing (long_places start contents) contents.cells
  missing_is long e = ap (λ f. kept_missing f kept) e ∙ ap (kept_missing (long_places start contents)) is
      ∙ missing_bridge (long_places start contents) (start + 1) contents.cells

  pub twice_is : kept_twice [] kept ≡ twice_behind [] contents.cells
  twice_is = ap (kept_twice []) is ∙ twice_bridge [] [] contents.cells (start + 1) (λ n. refl)

  pub fixups_is : (long : List (Option ℕ)) → found long ≡ long_places start contents →
      kept_fixups (found long) 0 kept ≡ routine_fixups start contents
  fixups_is long e = ap (λ f. kept_fixups f 0 kept) e ∙ ap (kept_fixups (long_places start contents) 0) is
      ∙ fixups_bridge (long_places start contents) 0 (start + 1) (start + 1) contents.cells (omega arith)

  pub order_is : (bytes front : List ℕ) → start ≡ length front → bytes ≡ front ++ contents.locals ∷ long_bytes contents.cells →
      AreInOrder (start + 1) kept (length bytes)
  order_is bytes front at e =
      let order = order_kept (start + 1) (start + 1) (length bytes) contents.cells (omega arith)
      (omega (arith, at, ap length e, length-append front (contents.locals ∷ long_bytes contents.cells))) in
      let P : List Kept → Type 0 = λ ks. AreInOrder (start + 1) ks (length bytes) in
      rw is order

  pub squeezed_is : (long table : List (Option ℕ)) (bytes front : List ℕ) → found long ≡ long_places start contents →
      found table ≡ places start contents → start ≡ length front → bytes ≡ front ++ contents.locals ∷ long_bytes contents.cells
      → squeezed (found long) (found table) (start + 1) (start + 1) kept bytes ≡ with_some (λ rest. (front ++ contents.locals ∷ []) ++ rest)
      (body_bytes start contents)
  squeezed_is long table bytes front e f at g =
      let head = front ++ contents.locals ∷ [] in
      let long_head : start + 1 ≡ length head = omega (arith, at, length-append front (contents.locals ∷ [])) in
      ap (λ h. squeezed h (found table) (start + 1) (start + 1) kept bytes) e
      ∙ ap (λ h. squeezed (long_places start contents) h (start + 1) (start + 1) kept bytes) f
      ∙ ap (λ ks. squeezed (long_places start contents) (places start contents) (start + 1) (start + 1) ks bytes) is
      ∙ ap (squeezed (long_places start contents) (places start contents) (start + 1) (start + 1) (kept_from (start + 1) contents.cells))
      (g ∙ sym (append_assoc front (contents.locals ∷ []) (long_bytes contents.cells)))
      ∙ squeezed_bridge (long_places start contents) (places start contents) contents.cells head (start + 1) long_head

-- the first fault
module _ (start : ℕ) (kind : RoutineKind) (contents : Contents) (limits : Limits) (refs : Fixups) where
  pub fault_missing : (label : Label) → missing (long_places start contents) contents.cells ≡ Some label →
      fault_of start kind contents limits refs ≡ Some (CloseFault.LabelMissing label)
  fault_missing label e =
      ap (missing_fault (twice_fault (body_fault (full_fault start kind contents limits refs) (body_bytes start contents))
      (twice_behind [] contents.cells))) e

  fault_none : missing (long_places start contents) contents.cells ≡ None → fault_of start kind contents limits refs ≡ twice_fault
      (body_fault (full_fault start kind contents limits refs) (body_bytes start contents)) (twice_behind [] contents.cells)
  fault_none e = ap (missing_fault (twice_fault (body_fault (full_fault start kind contents limits refs) (body_bytes start contents))
      (twice_behind [] contents.cells))) e

  pub fault_twice : (label : Label) → missing (long_places start contents) contents.cells ≡ None →
      twice_behind [] contents.cells ≡ Some label → fault_of start kind contents limits refs ≡ Some (CloseFault.LabelTwice label)
  fault_twice label e f =
      fault_none e ∙ ap (twice_fault (body_fault (full_fault start kind contents limits refs) (body_bytes start contents))) f

  pub fault_body : missing (long_places start contents) contents.cells ≡ None → twice_behind [] contents.cells ≡ None →
      fault_of start kind contents limits refs ≡ body_fault (full_fault start kind contents limits refs) (body_bytes start contents)
  fault_body e f = fault_none e ∙ ap (twice_fault (body_fault (full_fault start kind contents limits refs) (body_bytes start contents))) f

-- a function of a value that may be none gives none only for none
pub with_none : {A B : Type 0} (f : A → B) (o : Option A) → with_some f o ≡ None → o ≡ None
with_none f None e = refl
with_none f (Some x) e = cc

pub with_some_of : {A B : Type 0} (f : A → B) (o : Option A) (y : B) → with_some f o ≡ Some y → (x : A) × (o ≡ Some x) × (y ≡ f x)
with_some_of f None y e = cc
with_some_of f (Some x) y e = (x, refl, (cc))

pub both_ok : {T E P Q R : Type 0} (r : Result T E) → OnOk r P → OnOk r Q → (P → Q → R) → OnOk r R
both_ok (Ok x) p q f = f p q
both_ok (Err e) p q f = tt

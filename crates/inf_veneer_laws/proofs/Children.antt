-- The routine that counts the children of an object.
use Rattle.std.proofs.Common.{arith, ◌≡◌, ◌≤◌, ℕ, zero, suc, ◌+◌, ◌%◌, [], ◌∷◌, Option, Some, Bool, true, false, not, refl, ◌∙◌, ap, sym}
use Rattle.std.specs.Prelude.{◌==◌, if◌then◌else◌}
use Rattle.inf_expressions.specs.{declared.operators.Binary.Binary, declared.operators.Direction.Direction}
use Rattle.inf_expressions.specs.{declared.operators.Operand.Operand, declared.operators.Relative.Relative, declared.operators.Unary.Unary}
use Rattle.inf_expressions.specs.Trees.{Leaf, One, Two}
use Rattle.inf_interpreter.specs.Machine.{Store, World, ◌then◌, with_variable}
use Rattle.inf_interpreter.proofs.Running.{none_some, same_some}
use Rattle.inf_meaning_laws.specs.Values.{truth_of}
use Rattle.inf_control_laws.specs.Control.{Done, Effect, Outcome, Truth, both_run, while_run}
use Rattle.inf_control_laws.specs.Plain.{alone_run, return_run}
use Rattle.inf_veneer_laws.specs.{Laws.ChildrenAreCounted, Outcomes.CountsChildren, Routines.count_children, Worlds.HasObjects}
use Rattle.inf_veneer_laws.specs.Properties.{count_from, most_rows, sibling_in}
use Rattle.inf_veneer_laws.specs.Running.{Meets, Numbers, called_with, ended, entered, left}
use Rattle.inf_veneer_laws.proofs.Flow.{both_done, comes_to, is_found, returns_with, while_ends, while_turns}
use Rattle.inf_veneer_laws.proofs.Locals.{local_left, one_local}

abbrev has_object : World → Truth
has_object w = truth_of w (Leaf (Operand.Variable 1))

-- one more is counted, and the next object is found
abbrev goes_on : World → Effect
goes_on w = both_run (alone_run w (One (Unary.Behind Direction.Up) (Leaf (Operand.Variable 2)) ∷ []))
    (alone_run w (Two Binary.Assign (Leaf (Operand.Variable 1)) (One (Unary.Relative Relative.Sibling) (Leaf (Operand.Variable 1))) ∷ []))

abbrev counts : World → ℕ → Effect
counts w turns = while_run (has_object w) (goes_on w) turns

abbrev one_more : Store → Store
one_more t = with_variable 2 ((t.variables 2 + 1) % 65536) t

abbrev next_store : Store → Store
next_store t = with_variable 1 (sibling_in t.bytes (t.variables 1)) (one_more t)

-- The loop ends with this count, and only locals are other than before.
record Counts (w : World) (turns : ℕ) (t : Store) (n : ℕ) : Type 0 where
  behind : Store
  runs : counts w turns t ≡ comes_to Done behind
  is : behind.variables 2 ≡ n
  same : (s : Store) → left s behind ≡ left s t

one_turn : (w : World) → HasObjects w → (t : Store) → goes_on w t ≡ comes_to Done (next_store t)
one_turn w h t = ap (λ (o : ℕ). comes_to Done (with_variable 1 o (one_more t))) (h.sibling (one_more t) (t.variables 1))

turn_left : (s t : Store) → left s (next_store t) ≡ left s t
turn_left s t = local_left s (one_more t) 1 (sibling_in t.bytes (t.variables 1)) refl ∙ local_left s t 2 ((t.variables 2 + 1) % 65536) refl

counted_by : (w : World) → HasObjects w → (most turns : ℕ) →
    ((t : Store) (n : ℕ) → count_from most t.bytes (t.variables 1) (t.variables 2) ≡ Some n → Counts w turns t n) →
    (t : Store) (n : ℕ) (b : Bool) → (t.variables 1 == 0) ≡ b →
    (if b then Some (t.variables 2)
    else count_from most t.bytes (sibling_in t.bytes (t.variables 1)) ((t.variables 2 + 1) % 65536)) ≡ Some n →
    Counts w (suc turns) t n
counted_by w h most turns later t n true e f = record {
  behind = t;
  runs = while_ends (has_object w) (goes_on w) turns t (ap (λ (b : Bool). is_found t (not b)) e);
  is = same_some f;
  same = λ s. refl;
}
counted_by w h most turns later t n false e f =
    let r = later (next_store t) n f in record {
      behind = r.behind;
      runs = while_turns (has_object w) (goes_on w) turns t (next_store t) (ap (λ (b : Bool). is_found t (not b)) e) (one_turn w h t)
          ∙ r.runs;
      is = r.is;
      same = λ s. r.same s ∙ turn_left s t;
    }

counted : (w : World) → HasObjects w → (most turns : ℕ) → most ≤ turns → (t : Store) (n : ℕ) →
    count_from most t.bytes (t.variables 1) (t.variables 2) ≡ Some n → Counts w turns t n
counted w h zero turns enough t n e = none_some e
counted w h (suc most) zero enough t n e = absurd (omega (arith, enough))
counted w h (suc most) (suc turns) enough t n e =
    counted_by w h most turns (counted w h most turns (omega (arith, enough))) t n (t.variables 1 == 0) refl e

-- The call: the first child is found, and the count is returned.
abbrev begun : World → ℕ → Store → Store
begun w o s = with_variable 1 (w.child (entered (o ∷ []) s) o) (entered (o ∷ []) s)

children_counted : (w : World) (numbers : Numbers) → HasObjects w → (turns o n : ℕ) (s : Store) → Counts w turns (begun w o s) n →
    called_with w numbers turns count_children (o ∷ []) s ≡ returns_with n s
children_counted w numbers h turns o n s c = ap (λ (m : Option (Outcome × Store)). m then ended s)
    (both_done (counts w turns) (return_run w (Leaf (Operand.Variable 2) ∷ [])) (begun w o s) c.behind c.runs)
    ∙ ap (λ (x : ℕ). returns_with x (left s c.behind)) c.is
    ∙ ap (returns_with n) (c.same s ∙ one_local (o ∷ []) s 1 (w.child (entered (o ∷ []) s) o) refl)

count_children_meets : (w : World) (numbers : Numbers) → HasObjects w → Meets w numbers count_children (CountsChildren w)
count_children_meets w numbers h [] s n t e turns enough = absurd e.0
count_children_meets w numbers h (o ∷ []) s n t e turns enough =
    let m = e.0.0 in
    let start = ap (λ (x : ℕ). count_from most_rows s.bytes x 0) (h.child (entered (o ∷ []) s) o) ∙ e.0.1 in
    children_counted w numbers h turns o m s (counted w h most_rows turns enough (begun w o s) m start)
    ∙ ap (λ (x : ℕ). returns_with x s) (sym (h.children s o m e.0.1))
    ∙ e.1
count_children_meets w numbers h (o ∷ p ∷ ns) s n t e turns enough = absurd e.0

pub children_are_counted : ChildrenAreCounted
children_are_counted w numbers h = count_children_meets w numbers h

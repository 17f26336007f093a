-- The routines that write a property, step it, and tell whether an object has one.
use Rattle.std.proofs.Common.{◌≡◌, ℕ, ◌+◌, ◌%◌, [], ◌∷◌, Option, Some, None, Bool, true, false, not, refl, ◌∙◌, ap, sym}
use Rattle.std.specs.Prelude.{◌==◌, if◌then◌else◌, codes}
use Rattle.inf_area.specs.declared.targets.Target.{Target}
use Rattle.inf_expressions.specs.{Numbers.truth, Trees.Leaf, Trees.Two, declared.operators.Binary.Binary}
use Rattle.inf_expressions.specs.{declared.operators.Operand.Operand, declared.operators.Operation.Operation, declared.operators.Test.Test}
use Rattle.inf_output.specs.{Veneer.name_of, declared.veneer.Veneer.Veneer}
use Rattle.inf_interpreter.specs.{Machine.Store, Machine.World, Machine.with_variable, Machine.◌then◌, Supplied.word_written}
use Rattle.inf_interpreter.proofs.Running.{none_some}
use Rattle.inf_meaning_laws.specs.Values.{answer, nobody, number, opposite, tested, truth_of}
use Rattle.inf_control_laws.specs.Control.{Done, Effect, Outcome, Returned, Truth, both_run, if_run}
use Rattle.inf_control_laws.specs.Plain.{alone_run, return_run}
use Rattle.inf_veneer_laws.specs.{Laws.PropertiesAreProvided, Laws.PropertiesAreWritten, Outcomes.AsksAddress, Outcomes.StepsProperty}
use Rattle.inf_veneer_laws.specs.{Outcomes.WritesProperty, Properties.any_address, Properties.any_value, Routines.provides_property}
use Rattle.inf_veneer_laws.specs.{Routines.step_property, Routines.write_property, Worlds.HasObjects, Worlds.written_at}
use Rattle.inf_veneer_laws.specs.Running.{Calls, Meets, Numbers, called_with, ended, entered, left}
use Rattle.inf_veneer_laws.proofs.{Entries.step_answered, Entries.step_end, Entries.step_result, Locals.entered_left, Locals.one_local}
use Rattle.inf_veneer_laws.proofs.Flow.{both_done, comes_to, guard_does, guard_passes, is_found, or_false, returns_with}

-- A value is written where there are data.

abbrev has_data : World → Truth
has_data w = truth_of w (Leaf (Operand.Variable 4))

abbrev data_written : World → Effect
data_written w = alone_run w (Two Binary.Assign (Two (Binary.Operation Operation.Word) (Leaf (Operand.Variable 4)) (Leaf (Operand.Known 0)))
    (Leaf (Operand.Variable 3)) ∷ [])

abbrev value_returned : World → Effect
value_returned w = return_run w (Leaf (Operand.Variable 3) ∷ [])

written_if : (w : World) (s : Store) (b : Bool) → (s.variables 4 == 0) ≡ b →
    both_run (if_run (has_data w) (data_written w)) (value_returned w) s
    ≡ comes_to (Returned (s.variables 3)) (if b then s else word_written (s.variables 4) 0 (s.variables 3) s)
written_if w s true e = guard_passes (has_data w) (data_written w) (value_returned w) s (ap (λ (b : Bool). is_found s (not b)) e)
written_if w s false e = guard_does (has_data w) (data_written w) (value_returned w) s (word_written (s.variables 4) 0 (s.variables 3) s)
    (ap (λ (b : Bool). is_found s (not b)) e) refl

-- Locals that were written in between make no difference behind the call.
written_left : (s t : Store) (start n : ℕ) (b : Bool) → left s t ≡ s →
    left s (if b then t else word_written start 0 n t) ≡ (if b then s else word_written start 0 n s)
written_left s t start n true e = e
written_left s t start n false e = ap (word_written start 0 n) e

property_is_written : (w : World) (numbers : Numbers) (turns o p n : ℕ) (s : Store) →
    let start = w.property_address (entered (o ∷ p ∷ n ∷ []) s) o p in
    called_with w numbers turns write_property (o ∷ p ∷ n ∷ []) s ≡ returns_with n (written_at start n s)
property_is_written w numbers turns o p n s =
    let ns = o ∷ p ∷ n ∷ [] in
    let start = w.property_address (entered ns s) o p in
    let now = with_variable 4 start (entered ns s) in
    ap (λ (m : Option (Outcome × Store)). m then ended s) (written_if w now (start == 0) refl)
    ∙ ap (returns_with n) (written_left s now start n (start == 0) (one_local ns s 4 start refl))

write_property_meets : (w : World) (numbers : Numbers) → HasObjects w → Meets w numbers write_property (WritesProperty w)
write_property_meets w numbers h [] s n t e turns enough = absurd e.0
write_property_meets w numbers h (o ∷ []) s n t e turns enough = absurd e.0
write_property_meets w numbers h (o ∷ p ∷ []) s n t e turns enough = none_some e.1
write_property_meets w numbers h (o ∷ p ∷ v ∷ []) s n t e turns enough =
    let known = e.0.1 in
    property_is_written w numbers turns o p v s
    ∙ ap (λ (start : ℕ). returns_with v (written_at start v s)) (h.address (entered (o ∷ p ∷ v ∷ []) s) o p e.0.0 known)
    ∙ ap (returns_with v) (sym (h.writes o p v s e.0.0 known))
    ∙ e.1
write_property_meets w numbers h (o ∷ p ∷ v ∷ x ∷ ns) s n t e turns enough = none_some e.1

-- A value is stepped by a call of the routine that writes it.

abbrev call_done : Option (ℕ × ℕ × Store) → Option (Outcome × Store)
call_done m = ((m then λ r. answer nobody r.0 r.2) then λ p. Some p.1) then λ u. Some (Done, u)

abbrev sum_written : World → Numbers → Effect
sum_written w numbers = alone_run w (Two Binary.Call (Leaf (Operand.Later (Target.Name (numbers (codes "WV__Pr")))))
    (Two Binary.Then (Leaf (Operand.Variable 1)) (Two Binary.Then (Leaf (Operand.Variable 2))
    (Two (Binary.Operation Operation.Add) (Leaf (Operand.Variable 5)) (Leaf (Operand.Variable 3))))) ∷ [])

answered_behind : (w : World) (s : Store) (start m : ℕ) (b : Bool) → step_end w (if b then s else word_written start 0 m s)
    ≡ comes_to (Returned (step_result (s.variables 3) (s.variables 4) (s.variables 5))) (if b then s else word_written start 0 m s)
answered_behind w s start m true = step_answered w s
answered_behind w s start m false = step_answered w (word_written start 0 m s)

-- the call, from a store that has the property's value in `v`
sum_is_written : (w : World) (numbers : Numbers) → HasObjects w → Calls w numbers (name_of Veneer.WriteProperty) (WritesProperty w) →
    (s : Store) (start : ℕ) → any_address s.bytes (s.variables 1) (s.variables 2) ≡ Some start →
    let m = (s.variables 5 + s.variables 3) % 65536 in
    both_run (sum_written w numbers) (step_end w) s
    ≡ comes_to (Returned (step_result (s.variables 3) (s.variables 4) (s.variables 5))) (written_at start m s)
sum_is_written w numbers h calls s start known =
    let o = s.variables 1 in
    let p = s.variables 2 in
    let m = (s.variables 5 + s.variables 3) % 65536 in
    let c = calls.comes (o ∷ p ∷ m ∷ []) s m (w.with_property o p m s) ((start, known), refl) in
    let done : sum_written w numbers s ≡ comes_to Done (written_at start m s) =
    ap call_done c.1 ∙ ap (comes_to Done) (h.writes o p m s start known) in
    both_done (sum_written w numbers) (step_end w) s (written_at start m s) done ∙ answered_behind w s start m (start == 0)

property_is_stepped : (w : World) (numbers : Numbers) → HasObjects w →
    Calls w numbers (name_of Veneer.WriteProperty) (WritesProperty w) → (turns o p d k n start : ℕ) (s : Store) →
    any_value s.bytes o p ≡ Some n → any_address s.bytes o p ≡ Some start →
    called_with w numbers turns step_property (o ∷ p ∷ d ∷ k ∷ []) s
    ≡ returns_with (step_result d k n) (written_at start ((n + d) % 65536) s)
property_is_stepped w numbers h calls turns o p d k n start s is at =
    let ns = o ∷ p ∷ d ∷ k ∷ [] in
    let begun = entered ns s in
    let now = with_variable 5 n begun in
    ap (λ (x : ℕ). both_run (sum_written w numbers) (step_end w) (with_variable 5 x begun) then ended s) (h.value begun o p n is)
    ∙ ap (λ (m : Option (Outcome × Store)). m then ended s) (sum_is_written w numbers h calls now start at)
    ∙ ap (returns_with (step_result d k n)) (written_left s now start ((n + d) % 65536) (start == 0) (one_local ns s 5 n refl))

step_property_meets : (w : World) (numbers : Numbers) → HasObjects w →
    Calls w numbers (name_of Veneer.WriteProperty) (WritesProperty w) → Meets w numbers step_property (StepsProperty w)
step_property_meets w numbers h calls [] s n t e turns enough = absurd e.0
step_property_meets w numbers h calls (o ∷ []) s n t e turns enough = absurd e.0
step_property_meets w numbers h calls (o ∷ p ∷ []) s n t e turns enough = none_some e.2
step_property_meets w numbers h calls (o ∷ p ∷ d ∷ []) s n t e turns enough = none_some e.2
step_property_meets w numbers h calls (o ∷ p ∷ d ∷ k ∷ []) s n t e turns enough =
    let start = e.0.0 in
    let old = e.1.0 in
    let now = w.property s o p in
    property_is_stepped w numbers h calls turns o p d k old start s e.1.1 e.0.1
    ∙ sym (ap (λ (x : ℕ). returns_with (step_result d k x) (written_at start ((x + d) % 65536) s)) (h.value s o p old e.1.1))
    ∙ ap (returns_with (step_result d k now)) (sym (h.writes o p ((now + d) % 65536) s start e.0.1))
    ∙ e.2
step_property_meets w numbers h calls (o ∷ p ∷ d ∷ k ∷ x ∷ ns) s n t e turns enough = none_some e.2

pub properties_are_written : PropertiesAreWritten
properties_are_written w numbers h = (write_property_meets w numbers h, step_property_meets w numbers h)

-- An object has a property where the address of its data is not 0.

-- the call's end, by what the call of the routine that finds the address comes to
abbrev told_by : World → Store → Store → Option (ℕ × ℕ × Store) → Option (ℕ × Store)
told_by w s begun m =
    ((opposite (tested w Test.Equal (record { leaf = None; value = λ u. m then λ r. answer nobody r.0 r.2 } ∷ number 0 ∷ [])) begun
    then λ p. answer nobody (truth p.0) p.1) then λ p. Some (Returned p.0, p.1)) then ended s

property_is_told : (w : World) (numbers : Numbers) → HasObjects w →
    Calls w numbers (name_of Veneer.PropertyAddress) (AsksAddress w) → (turns o p start : ℕ) (s : Store) →
    any_address s.bytes o p ≡ Some start →
    called_with w numbers turns provides_property (o ∷ p ∷ []) s ≡ returns_with (truth (not (start == 0))) s
property_is_told w numbers h calls turns o p start s known =
    let ns = o ∷ p ∷ [] in
    let begun = entered ns s in
    let found = w.property_address begun o p in
    let c = calls.comes ns begun found begun ((start, known), refl) in
    ap (told_by w s begun) c.1
    ∙ ap (λ (b : Bool). returns_with (truth (not b)) (left s begun)) (or_false (found == 0))
    ∙ ap (λ (x : ℕ). returns_with (truth (not (x == 0))) (left s begun)) (h.address begun o p start known)
    ∙ ap (returns_with (truth (not (start == 0)))) (entered_left ns s)

pub properties_are_provided : PropertiesAreProvided
properties_are_provided w numbers h calls [] s n t e turns enough = absurd e.0
properties_are_provided w numbers h calls (o ∷ []) s n t e turns enough = absurd e.0
properties_are_provided w numbers h calls (o ∷ p ∷ []) s n t e turns enough = property_is_told w numbers h calls turns o p e.0.0 s e.0.1
    ∙ ap (λ (b : Bool). returns_with (truth b) s) (sym (h.provides s o p e.0.0 e.0.1))
    ∙ e.1
properties_are_provided w numbers h calls (o ∷ p ∷ x ∷ ns) s n t e turns enough = none_some e.1

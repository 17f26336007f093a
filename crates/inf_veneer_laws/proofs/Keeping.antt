-- Calls that run texts neither ask for the locals of the caller nor change them.
use Rattle.std.proofs.Common.{◌≡◌, ℕ, List, [], ◌∷◌, Option, Some, None, Bool, true, false, refl, ◌∙◌, ap, ◌==◌, if◌then◌else◌}
use Rattle.inf_expressions.specs.declared.operators.Operand.{Operand}
use Rattle.inf_interpreter.specs.{Machine.Store, Machine.World, Machine.◌then◌, Worlds.with_left}
use Rattle.inf_control_laws.specs.Control.{Broke, Continued, Done, Outcome, Returned, effect}
use Rattle.inf_veneer_laws.specs.{Message.message_names, Message.send_message, Properties.most_rows, Sending.KeepsLocals}
use Rattle.inf_veneer_laws.specs.{Sending.message_called, Sources.Routine, Sources.on_side}
use Rattle.inf_veneer_laws.specs.Calling.{called_in, message_number, number_of, routines, with_texts}
use Rattle.inf_veneer_laws.specs.Running.{Numbers, called_by, called_with, control, ended, entered, left, operand_in, result}
use Rattle.inf_veneer_laws.proofs.{Locals.entered_alike, Locals.left_through, Sending.with_locals}

abbrev with_them : Store → Option (ℕ × Store) → Option (ℕ × Store)
with_them t m = m then λ q. Some (q.0, left t q.1)

result_alike : (s t u : Store) (o : Outcome) → result o (left (left t s) u) ≡ with_them t (result o (left s u))
result_alike s t u Done = ap (λ (x : Store). Some (1, x)) (left_through s t u)
result_alike s t u Broke = refl
result_alike s t u Continued = refl
result_alike s t u (Returned n) = ap (λ (x : Store). Some (n, x)) (left_through s t u)

ends_alike : (s t : Store) (m : Option (Outcome × Store)) → (m then ended (left t s)) ≡ with_them t (m then ended s)
ends_alike s t None = refl
ends_alike s t (Some r) = result_alike s t r.1 r.0

run_alike : (w : World) (known : List ℕ → Operand) (turns : ℕ) (r : Routine) (ns : List ℕ) (s t : Store) →
    called_by w known turns r ns (left t s) ≡ with_them t (called_by w known turns r ns s)
run_alike w known turns r ns s t = ap (λ (u : Store). effect turns (control w known r.body) u then ended (left t s)) (entered_alike ns s t)
    ∙ ends_alike s t (effect turns (control w known r.body) (entered ns s))

message_alike : (w : World) (numbers : Numbers) (action : Option Operand) (turns : ℕ) (ns : List ℕ) (s t : Store) →
    message_called w numbers action turns ns (left t s) ≡ with_them t (message_called w numbers action turns ns s)
message_alike w numbers None turns ns s t = run_alike w (message_names numbers Operand.Unknown) turns (on_side false send_message) ns s t
message_alike w numbers (Some x) turns ns s t = run_alike w (message_names numbers x) turns (on_side true send_message) ns s t

left_alike : (t : Store) (m : Option (ℕ × Store)) → with_left (with_them t m) ≡ with_locals t (with_left m)
left_alike t None = refl
left_alike t (Some r) = refl

-- one of two outcomes
either_alike : (t : Store) (b : Bool) (x y u v : Option (ℕ × ℕ × Store)) → x ≡ with_locals t u → y ≡ with_locals t v →
    (if b then x else y) ≡ with_locals t (if b then u else v)
either_alike t true x y u v e f = e
either_alike t false x y u v e f = f

calls_alike : (w : World) (numbers : Numbers) (action : Option Operand) → KeepsLocals w → (all : List Routine) (s t : Store) (f : ℕ)
    (ns : List ℕ) → called_in w numbers action all (left t s) f ns ≡ with_locals t (called_in w numbers action all s f ns)
calls_alike w numbers action k [] s t f ns =
    either_alike t (message_number w numbers == f) (with_left (message_called w numbers action most_rows ns (left t s)))
    (w.called (left t s) f ns) (with_left (message_called w numbers action most_rows ns s)) (w.called s f ns)
    (ap with_left (message_alike w numbers action most_rows ns s t)
    ∙ left_alike t (message_called w numbers action most_rows ns s)) (k.keeps s t f ns)
calls_alike w numbers action k (r ∷ all) s t f ns =
    either_alike t (number_of w numbers r == f) (with_left (called_with w numbers most_rows r ns (left t s)))
    (called_in w numbers action all (left t s) f ns) (with_left (called_with w numbers most_rows r ns s))
    (called_in w numbers action all s f ns)
    (ap with_left (run_alike w (operand_in numbers r) most_rows r ns s t) ∙ left_alike t (called_with w numbers most_rows r ns s))
    (calls_alike w numbers action k all s t f ns)

pub locals_stay : (w : World) (numbers : Numbers) (action : Option Operand) → KeepsLocals w → KeepsLocals (with_texts w numbers action)
locals_stay w numbers action k = record { keeps = λ s t f ns. calls_alike w numbers action k routines s t f ns }

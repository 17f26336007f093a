-- Messages to objects: a property's value is looked at, and a routine that it is is called, with `self` and `sender` set. Designer's
-- Manual, fourth edition, sections 3.6 and 3.7.
use Rattle.std.specs.Prelude.{◌≡◌, ℕ, ◌<◌, ◌==◌, true, false, List, [], ◌∷◌, Option, Some, None, codes, if◌then◌else◌}
use Rattle.inf_expressions.specs.declared.operators.Operand.{Operand}
use Rattle.inf_output.specs.declared.veneer.Veneer.{Veneer}
use Rattle.inf_interpreter.specs.Machine.{AtPacked, LineEnd, Store, World, ◌then◌, tells, with_variable}
use Rattle.inf_meaning_laws.specs.Values.{read}
use Rattle.inf_veneer_laws.specs.{Message.message_names, Message.send_message, Properties.any_value, Sources.on_side, Worlds.HasObjects}
use Rattle.inf_veneer_laws.specs.Classes.{HasClasses, TellsRegion, region_of}
use Rattle.inf_veneer_laws.specs.Running.{Calls, Contract, IsSupplied, Numbers, argument, called_by, entered, is_local, left}

-- The name `action`, if the source declares it, stands for a number, or for a variable that is no local.
abbrev pub IsOuter : Option Operand → Type 0
IsOuter None = Unit {0}
IsOuter (Some (Operand.Known n)) = Unit {0}
IsOuter (Some (Operand.Variable v)) = is_local v ≡ false
IsOuter (Some (Operand.Later t)) = Unit {0}
IsOuter (Some (Operand.Function f)) = ⊥
IsOuter (Some Operand.Unknown) = ⊥

-- Variable 253 is `self`, 252 `sender`, and 251 `sw__var`. While a message is answered the object is `self`, and what was `self` before is
-- `sender`; and `sw__var` is the action, where the source declares that name.

abbrev pub with_object : ℕ → Store → Store
with_object o s = with_variable 253 o (with_variable 252 (s.variables 253) s)

abbrev pub with_action : World → Option Operand → Store → Option Store
with_action w None s = Some s
with_action w (Some x) s = read w x s then λ n. Some (with_variable 251 n s)

-- `self` and `sender` are again what they were.
abbrev pub with_object_of : Store → Store → Store
with_object_of s t = with_variable 252 (s.variables 252) (with_variable 253 (s.variables 253) t)

-- A routine that answers a message has five arguments, of which those that the message does not have are 0.
abbrev pub five : List ℕ → List ℕ
five ns = argument ns 0 ∷ argument ns 1 ∷ argument ns 2 ∷ argument ns 3 ∷ argument ns 4 ∷ []

abbrev pub answered_by : World → Option Operand → Store → ℕ → ℕ → List ℕ → Option (ℕ × Store)
answered_by w action s o f ns =
    with_action w action (with_object o s) then λ u. w.called u f (five ns) then λ r. Some (r.0, with_object_of s r.2)

-- the store behind a string that is printed, with the end of a line
abbrev pub string_told : ℕ → Store → Store
string_told n s = tells LineEnd (tells (AtPacked n) s)

-- The outcome of a message, by the property's value: a string is printed, and the result is 1; a routine is called; and any other value is
-- the result.
abbrev pub message_by : World → Option Operand → Store → ℕ → ℕ → List ℕ → Option (ℕ × Store)
message_by w action s o n ns =
    if region_of w n == 3 then Some (1, string_told n s)
    else if region_of w n == 2 then answered_by w action s o n ns
    else Some (n, s)

-- Calls neither ask for the locals of the caller nor change them.
pub record KeepsLocals (w : World) : Type 0 where
  pub keeps : (s t : Store) (f : ℕ) (ns : List ℕ) →
      w.called (left t s) f ns ≡ (w.called s f ns then λ r. Some (r.0, r.1, left t r.2))

-- In the world messages come to this, where memory says something of the property.
pub record HasMessages (w : World) (action : Option Operand) : Type 0 where
  pub sent : (s : Store) (o p n : ℕ) (ns : List ℕ) → any_value s.bytes o p ≡ Some n → w.message s o p ns ≡ message_by w action s o n ns

abbrev pub with_messages : World → Option Operand → World
with_messages w action = record w { message = λ s o p ns. any_value s.bytes o p then λ n. message_by w action s o n ns }

abbrev pub WorldsHaveMessages : Type 0
WorldsHaveMessages =
    (w : World) (action : Option Operand) →
    HasMessages (with_messages w action) action
    × (HasObjects w → HasObjects (with_messages w action))
    × (HasClasses w → HasClasses (with_messages w action))
    × (KeepsLocals w → KeepsLocals (with_messages w action))

-- A call of another world enters without the caller's locals, and the caller has them again behind it.
abbrev pub with_own_locals : World → World
with_own_locals w =
    record w { called = λ s f ns. w.called (entered [] s) f ns then λ r. Some (r.0, r.1, left s r.2) }

abbrev pub WorldsKeepLocals : Type 0
WorldsKeepLocals =
    (w : World) →
    KeepsLocals (with_own_locals w)
    × (HasObjects w → HasObjects (with_own_locals w))
    × (HasClasses w → HasClasses (with_own_locals w))

-- Contracts: where memory says what number the property's value is, a call comes to what the message comes to.

abbrev pub Sends : World → Option Operand → Contract
Sends w action [] s n t = ⊥
Sends w action (o ∷ []) s n t = ⊥
Sends w action (o ∷ p ∷ ns) s n t =
    (v : ℕ) × (v < 65536) × (any_value s.bytes o p ≡ Some v) × (message_by w action s o v ns ≡ Some (n, t))

abbrev pub SaysNumber : List ℕ → Store → Type 0
SaysNumber [] s = ⊥
SaysNumber (o ∷ []) s = ⊥
SaysNumber (o ∷ p ∷ ns) s = (v : ℕ) × (v < 65536) × (any_value s.bytes o p ≡ Some v)

abbrev pub SendsMessage : World → Contract
SendsMessage w ns s n t = SaysNumber ns s × IsSupplied w Veneer.CallProperty ns s n t

-- the call of the text, where `action` is declared or is not
abbrev pub message_called : World → Numbers → Option Operand → ℕ → List ℕ → Store → Option (ℕ × Store)
message_called w numbers None turns ns s =
    called_by w (message_names numbers Operand.Unknown) turns (on_side false send_message) ns s
message_called w numbers (Some x) turns ns s =
    called_by w (message_names numbers x) turns (on_side true send_message) ns s

abbrev pub MessageMeets : World → Numbers → Option Operand → Contract → Type 0
MessageMeets w numbers action C =
    (ns : List ℕ) (s : Store) (n : ℕ) (t : Store) → C ns s n t → (turns : ℕ) → message_called w numbers action turns ns s ≡ Some (n, t)

abbrev pub MessagesAreSent : Type 0
MessagesAreSent =
    (w : World) (numbers : Numbers) (action : Option Operand) → HasObjects w → KeepsLocals w → IsOuter action →
    Calls w numbers (codes "Z__Region") (TellsRegion w) →
    MessageMeets w numbers action (Sends w action)
    × (HasMessages w action → MessageMeets w numbers action (SendsMessage w))

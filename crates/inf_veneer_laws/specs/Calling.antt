-- Worlds in which a call of a supplied routine comes to a run of the tree of its text.
use Rattle.std.specs.Prelude.{◌≡◌, ℕ, zero, suc, ◌==◌, false, List, [], ◌∷◌, Option, codes, if◌then◌else◌}
use Rattle.inf_area.specs.declared.targets.Target.{Target}
use Rattle.inf_output.specs.{Veneer.name_of, declared.veneer.Veneer.Veneer}
use Rattle.inf_expressions.specs.declared.operators.Operand.{Operand}
use Rattle.inf_interpreter.specs.{Machine.Store, Machine.World, Worlds.with_left}
use Rattle.inf_veneer_laws.specs.{Properties.most_rows, Sources.Routine, Worlds.HasObjects}
use Rattle.inf_veneer_laws.specs.Classes.{Compares, HasClasses, HasConstants, TellsClass, TellsRegion}
use Rattle.inf_veneer_laws.specs.Outcomes.{AsksAddress, AsksLength, CountsChildren, FindsOwn, ProvidesProperty, ReadsProperty}
use Rattle.inf_veneer_laws.specs.Outcomes.{StepsProperty, WritesProperty}
use Rattle.inf_veneer_laws.specs.Routines.{compare, count_children, find_own, of_class, property_address, property_length}
use Rattle.inf_veneer_laws.specs.Routines.{provides_property, read_property, region, step_byte, step_property, step_word, write_byte}
use Rattle.inf_veneer_laws.specs.Routines.{write_property, write_word}
use Rattle.inf_veneer_laws.specs.Running.{Calls, IsSupplied, Numbers, called_with}
use Rattle.inf_veneer_laws.specs.Sending.{IsOuter, KeepsLocals, Sends, message_called}

abbrev pub routines : List Routine
routines =
    find_own ∷ property_address ∷ property_length ∷ read_property ∷ provides_property ∷ write_property ∷ step_property ∷ count_children
    ∷ write_byte ∷ write_word ∷ step_byte ∷ step_word ∷ compare ∷ region ∷ of_class ∷ []

-- the number by which a routine is called
abbrev pub number_of : World → Numbers → Routine → ℕ
number_of w numbers r = w.later (Target.Name (numbers r.name))

abbrev pub message_number : World → Numbers → ℕ
message_number w numbers = w.later (Target.Name (numbers (name_of Veneer.CallProperty)))

-- The numbers of supplied routines, and that of the routine that sends messages, differ.
abbrev pub IsOther : World → Numbers → Routine → List Routine → Type 0
IsOther w numbers r [] = (number_of w numbers r == message_number w numbers) ≡ false
IsOther w numbers r (other ∷ all) = ((number_of w numbers r == number_of w numbers other) ≡ false) × IsOther w numbers r all

abbrev pub AreDifferent : World → Numbers → List Routine → Type 0
AreDifferent w numbers [] = Unit {0}
AreDifferent w numbers (r ∷ all) = IsOther w numbers r all × AreDifferent w numbers all

-- A call of one of these numbers comes to a run of the routine, whose own calls come to what the world has, and so does any other call.
abbrev pub called_in : World → Numbers → Option Operand → List Routine → Store → ℕ → List ℕ → Option (ℕ × ℕ × Store)
called_in w numbers action [] s f ns =
    if message_number w numbers == f then with_left (message_called w numbers action most_rows ns s) else w.called s f ns
called_in w numbers action (r ∷ all) s f ns =
    if number_of w numbers r == f then with_left (called_with w numbers most_rows r ns s) else called_in w numbers action all s f ns

abbrev pub with_texts : World → Numbers → Option Operand → World
with_texts w numbers action = record w { called = called_in w numbers action routines }

-- the world in which calls, and the calls in these up to a depth, run the texts of supplied routines
abbrev pub with_texts_to : ℕ → World → Numbers → Option Operand → World
with_texts_to zero w numbers action = w
with_texts_to (suc depth) w numbers action = with_texts (with_texts_to depth w numbers action) numbers action

-- Calls of the routines come to what their contracts say.
pub record AreCalled (w : World) (numbers : Numbers) : Type 0 where
  pub own : Calls w numbers (codes "CP__Tab") FindsOwn
  pub address : Calls w numbers (name_of Veneer.PropertyAddress) (AsksAddress w)
  pub length : Calls w numbers (name_of Veneer.PropertyLength) (AsksLength w)
  pub value : Calls w numbers (name_of Veneer.ReadProperty) (ReadsProperty w)
  pub provides : Calls w numbers (name_of Veneer.Provides) (ProvidesProperty w)
  pub writes : Calls w numbers (name_of Veneer.WriteProperty) (WritesProperty w)
  pub steps : Calls w numbers (name_of Veneer.StepProperty) (StepsProperty w)
  pub children : Calls w numbers (name_of Veneer.Children) (CountsChildren w)
  pub writes_byte : Calls w numbers (name_of Veneer.WriteByte) (IsSupplied w Veneer.WriteByte)
  pub writes_word : Calls w numbers (name_of Veneer.WriteWord) (IsSupplied w Veneer.WriteWord)
  pub steps_byte : Calls w numbers (name_of Veneer.StepByte) (IsSupplied w Veneer.StepByte)
  pub steps_word : Calls w numbers (name_of Veneer.StepWord) (IsSupplied w Veneer.StepWord)
  pub compares : Calls w numbers (codes "Unsigned__Compare") Compares
  pub region : Calls w numbers (codes "Z__Region") (TellsRegion w)
  pub class : Calls w numbers (name_of Veneer.OfClass) (TellsClass w)

-- No text but that of messages calls deeper than through two others. A call of that one comes to what the message comes to, where a call of
-- the routine that answers it runs texts one call less deep.
abbrev pub CallsRunTexts : Type 0
CallsRunTexts =
    (w : World) (numbers : Numbers) (action : Option Operand) → HasObjects w → HasClasses w → HasConstants w →
    AreDifferent w numbers routines → (depth : ℕ) →
    let below = with_texts_to (suc (suc (suc depth))) w numbers action in
    AreCalled below numbers
    × (KeepsLocals w → IsOuter action →
    Calls (with_texts below numbers action) numbers (name_of Veneer.CallProperty) (Sends below action))

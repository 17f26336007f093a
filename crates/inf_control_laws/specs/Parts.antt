-- Claims about the parts of loops over objects and of `switch`.
use Rattle.std.specs.Prelude.{◌≡◌, ℕ, Bool, true, false, List, [], ◌∷◌, Option, Some, None}
use Rattle.inf_settings.specs.Bounds.{Limits}
use Rattle.inf_opcode.specs.{declared.instructions.Label.Label, declared.instructions.Operand.Operand, declared.opcodes.Opcode.Opcode}
use Rattle.inf_output.specs.{Output.Out, declared.items.Item.Item}
use Rattle.inf_constructs.specs.{Constructs.looped_on, declared.constructs.Case.Case, declared.constructs.Construct.Construct}
use Rattle.inf_constructs.specs.{declared.constructs.Kind.Kind, declared.constructs.Over.Over}
use Rattle.inf_interpreter.specs.{Claims.Claim, Claims.Comes, Claims.state, Machine.Place, Machine.Store, Machine.World}
use Rattle.inf_meaning_laws.specs.Laws.{Branches}
use Rattle.inf_control_laws.specs.{Control.Truth, Runs.Lays}

-- The unit of a loop over objects finds the first object, or leads to the end of the loop. Behind the mark of the loop's turns it leads
-- over the body where the condition is not true.
abbrev pub BeginsLoop : World → Truth → Truth → Label → Label → Label → Claim
BeginsLoop w first holds top next end at from to =
    (m : Place) × (n : Place) × Branches false w first false end at from m × ((m ≡ Item.Mark top ∷ n) × (at top ≡ n))
    × Branches false w holds false next at n to

-- The unit, which has no error, tells over which objects the loop goes, and the code at its end finds the next one.
abbrev pub IsOver : Over → Type 0
IsOver Over.Nothing = ⊥
IsOver how = Unit {0}

pub record GoesOver (w : World) (limits : Limits) (next : Truth) (top : Label) (k : Kind) : Type 0 where
  pub how : Over
  pub variable : ℕ
  pub is : k ≡ Kind.Objects how variable
  pub some : IsOver how
  pub steps : (o : Out) → Lays w (Branches false w next true top) o (looped_on limits how variable top o)

-- Cases: the one that is open in the innermost statement ends with a jump to the end of the `switch`, and the mark of the label that its
-- tests lead to. The tests of the next one lead to a label of its own where they fail; a default has none.
abbrev pub case_in : Kind → Option Case
case_in (Kind.Switch old had_default) = Some old
case_in (Kind.Cases old had_default) = Some old
case_in _ = None

abbrev pub open_case : List Construct → Option Case
open_case [] = None
open_case (c ∷ constructs) = case_in c.kind

abbrev pub jump : Label → Item
jump l = Item.Instruction (record { opcode = Opcode.Jump; operands = Operand.Offset l ∷ []; store = None; branch = None; text = [] })

abbrev pub EndsCase : Case → Label → Claim
EndsCase Case.Nothing end at from to = from ≡ to
EndsCase (Case.Values next) end at from to = (m : Place) × (from ≡ jump end ∷ m) × ((m ≡ Item.Mark next ∷ to) × (at next ≡ to))
EndsCase Case.Default end at from to = from ≡ jump end ∷ to

abbrev pub TestsCase : World → Truth → Case → Claim
TestsCase w holds Case.Nothing at from to = ⊥
TestsCase w holds (Case.Values next) at from to = Branches false w holds false next at from to
TestsCase w holds Case.Default at from to =
    (stack : List ℕ) (temp : ℕ) (s : Store) (b : Bool) (t : Store) → holds s ≡ Some (b, t) →
    (left : ℕ) × (b ≡ true) × Comes w at from (state stack temp s) to (state stack left t)

abbrev pub BeginsCase : World → Truth → Case → Case → Label → Claim
BeginsCase w holds old new end at from to = (m : Place) × EndsCase old end at from m × TestsCase w holds new at m to

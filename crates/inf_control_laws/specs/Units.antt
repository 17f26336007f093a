-- Units of a routine: a condition, the start and the step of a `for`, the objects of a loop, the value and the cases of a `switch`, and a
-- statement that holds no others, by the trees of their expressions.
use Rattle.std.specs.Prelude.{◌≡◌, Bool, false, List, [], ◌∷◌, Option, Some, None, map}
use Rattle.inf_settings.specs.Bounds.{Limits}
use Rattle.inf_scanner.specs.declared.tokens.Place.{Place}
use Rattle.inf_expressions.specs.{Questions.children_of, Rooted.Rooted, Trees.Tree}
use Rattle.inf_syntax.specs.declared.actions.Action.{Action}
use Rattle.inf_unit.specs.{Roles.role_of, declared.roles.Ending.Ending, declared.roles.Role.Role}
use Rattle.inf_constructs.specs.{Cases.SWITCHED, Constructs.otherwise, Roots.tree_in, declared.constructs.Case.Case as CaseKind}
use Rattle.inf_constructs.specs.{declared.constructs.Construct.Construct, declared.constructs.Kind.Kind}
use Rattle.inf_compilation.specs.{Actions.Compilation, Actions.named, Actions.settled_of, Actions.trees_at, Context.Context}
use Rattle.inf_parts.specs.Parts.{case_prepared, found_in, is_default, order_of, part_begun, part_prepared, statement_at, wanted_of}
use Rattle.inf_parts.specs.declared.parts.Part.{Part}
use Rattle.inf_reader.specs.Acting.{act}
use Rattle.inf_output.specs.declared.items.Item.{Item}
use Rattle.inf_interpreter.specs.Machine.{World, ◌then◌, with_variable}
use Rattle.inf_meaning_laws.specs.{Covered.Covered, Laws.Branches, Laws.GivesNothing, Values.sense, Values.truth_of}
use Rattle.inf_control_laws.specs.{Carrying.CaseBegins, Cases.AreValues, Cases.case_truth, Control.Change, Loops.LoopBegins}
use Rattle.inf_control_laws.specs.{Loops.loop_variable, Plain.IsCovered, Plain.IsPlain, Plain.plain_run}
use Rattle.inf_control_laws.specs.Runs.{KeepsApart, Lays, Runs, exits}

-- A unit ends: one that is a case is prepared as such.
abbrev pub ready_for : Limits → Part → Compilation → Compilation
ready_for limits p v = case_prepared limits p (part_prepared v)

-- the trees of a unit that ends, where a case has begun
abbrev pub rooted_of : Limits → Context → Part → Compilation → List Rooted
rooted_of limits context p v =
    let u = named (part_begun limits p (ready_for limits p v)) in
    trees_at (order_of p u) (wanted_of p) (settled_of limits context u).operands u

abbrev pub trees_of : Limits → Context → Part → Compilation → List Tree
trees_of limits context p v = map tree_in (rooted_of limits context p v)

-- A unit has no error and stands in a routine that is not passed over.
pub record IsSound (limits : Limits) (context : Context) (p : Part) (v : Compilation) : Type 0 where
  pub stays : v.is_replaced ≡ false
  pub finds : found_in limits context p (ready_for limits p v) ≡ None

-- the value of a tree, which a `switch` keeps in a variable of its own
abbrev pub kept_value : World → Tree → Change
kept_value w t s = (sense w t).value (with_variable SWITCHED) s then λ p. Some p.1

-- the step of the innermost statement
abbrev pub step_of : List Construct → Option (List Item)
step_of [] = None
step_of (c ∷ constructs) = c.step

-- A condition branches where it is not true; the start of a `for` and the value of a `switch` change the store; a plain statement has its
-- effect; the step of a `for` is kept apart, where nothing else is; a loop over objects begins; and so does a case of a `switch`.
pub record UnitsRun (w : World) (limits : Limits) (context : Context) (place : Place) (v : Compilation) : Type 0 where
  pub conditions : (a : Action) → role_of a ≡ Role.End Ending.Condition → IsSound limits context Part.Condition v → (c : Construct)
      (around : List Construct) → v.constructs ≡ c ∷ around → (t : Tree) (trees : List Tree) →
      trees_of limits context Part.Condition v ≡ t ∷ trees → Covered false t →
      Lays w (Branches false w (truth_of w t) false (otherwise c c.kind)) v.output (act limits context place a v).output
  pub starts : (a : Action) → role_of a ≡ Role.End Ending.Start → IsSound limits context Part.Start v → (t : Tree) (trees : List Tree) →
      trees_of limits context Part.Start v ≡ t ∷ trees → Covered false t →
      Lays w (GivesNothing w (sense w t).alone) v.output (act limits context place a v).output
  pub values : (a : Action) → role_of a ≡ Role.End Ending.Switched → IsSound limits context Part.Switched v → (t : Tree)
      (trees : List Tree) → trees_of limits context Part.Switched v ≡ t ∷ trees → Covered false t →
      Lays w (GivesNothing w (kept_value w t)) v.output (act limits context place a v).output
  pub steps : (a : Action) → role_of a ≡ Role.End Ending.Step → IsSound limits context Part.Step v → v.output.kept ≡ None →
      (c : Construct) (around : List Construct) → v.constructs ≡ c ∷ around → (t : Tree) (trees : List Tree) →
      trees_of limits context Part.Step v ≡ t ∷ trees → Covered false t →
      let now = act limits context place a v in
      KeepsApart w (GivesNothing w (sense w t).alone) v.output now.output (step_of now.constructs)
  pub statements : (a : Action) → role_of a ≡ Role.End Ending.Statement → IsSound limits context (Part.Statement (statement_at v)) v →
      IsPlain (statement_at v) → IsCovered (trees_of limits context (Part.Statement (statement_at v)) v) →
      Lays w (Runs w (exits v.constructs) (plain_run w (exits v.constructs)
      (trees_of limits context (Part.Statement (statement_at v)) v) (statement_at v))) v.output (act limits context place a v).output
  pub loops : (a : Action) → role_of a ≡ Role.End Ending.Loop → IsSound limits context Part.Loop v → (c : Construct)
      (around : List Construct) → v.constructs ≡ c ∷ around → (r : Rooted) (others : List Rooted) →
      rooted_of limits context Part.Loop v ≡ r ∷ others → Covered false r.tree →
      let now = act limits context place a v in
      LoopBegins w limits (children_of r.tree) r.tree (loop_variable r) c v.output now.constructs now.output
  pub cases : (a : Action) → role_of a ≡ Role.End Ending.Case → IsSound limits context Part.Case v → (c : Construct)
      (around : List Construct) → v.constructs ≡ c ∷ around → (old : CaseKind) (had_default : Bool) →
      c.kind ≡ Kind.Switch old had_default → AreValues (trees_of limits context Part.Case v) →
      let now = act limits context place a v in
      CaseBegins w (case_truth w (is_default (ready_for limits Part.Case v).unit.items) (trees_of limits context Part.Case v)) v.constructs
      now.constructs v.output now.output

abbrev pub AllUnitsRun : Type 0
AllUnitsRun = (w : World) (limits : Limits) (context : Context) (place : Place) (v : Compilation) → UnitsRun w limits context place v

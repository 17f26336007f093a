-- Parts of nested statements do what the law of these takes of them, where their units have no error, and where nothing is laid while
-- they are read.
use Rattle.std.specs.Prelude.{◌≡◌, Bool, false, List, [], ◌∷◌, ◌++◌, None}
use Rattle.inf_settings.specs.Bounds.{Limits}
use Rattle.inf_expressions.specs.{Questions.children_of, Rooted.Rooted, Trees.Tree}
use Rattle.inf_syntax.specs.declared.actions.Action.{Action}
use Rattle.inf_unit.specs.{Roles.role_of, declared.roles.Ending.Ending, declared.roles.Role.Role}
use Rattle.inf_constructs.specs.{Constructs.opened, Constructs.otherwise, declared.constructs.Case.Case as CaseKind}
use Rattle.inf_constructs.specs.{declared.constructs.Construct.Construct, declared.constructs.Kind.Kind, declared.constructs.Over.Over}
use Rattle.inf_compilation.specs.{Actions.Compilation, Context.Context}
use Rattle.inf_parts.specs.{Parts.is_default, Parts.statement_at, declared.parts.Part.Part}
use Rattle.inf_statement_laws.specs.{Happenings.Acts, Happenings.Moment, Happenings.Quiet, Nested.StepEnds, Nested.step_happenings}
use Rattle.inf_statement_laws.specs.Laid.{happens, opened_at, run, with_step_in}
use Rattle.inf_interpreter.specs.Machine.{World}
use Rattle.inf_meaning_laws.specs.{Covered.Covered, Laws.GivesNothing, Values.sense, Values.truth_of}
use Rattle.inf_control_laws.specs.{Carrying.CaseBegins, Carrying.IsStill, Carrying.Tests, Cases.AreValues, Cases.case_truth}
use Rattle.inf_control_laws.specs.{Loops.LoopBegins, Loops.loop_variable, Plain.IsCovered, Plain.IsPlain, Plain.plain_run}
use Rattle.inf_control_laws.specs.Runs.{KeepsApart, Lays, LaysNone, Runs, exits}
use Rattle.inf_control_laws.specs.Units.{IsSound, kept_value, ready_for, rooted_of, trees_of}

-- A part is read: nothing is laid before its unit ends, which is the last that happens in it, and the unit has no error.
pub record Ends (limits : Limits) (context : Context) (p : Part) (e : Ending) (q : Quiet) (v : Compilation) : Type 0 where
  pub front : Quiet
  pub at : Moment
  pub last : Action
  pub are : q.all ≡ front.all ++ Acts at last ∷ []
  pub ends : role_of last ≡ Role.End e
  pub reading : LaysNone v.output (run limits context front.all v).output
  pub still : IsStill at
  pub sound : IsSound limits context p (run limits context front.all v)

-- A condition stands in a statement that holds others, and the step of a `for` is kept with it. The objects of a loop begin where its word
-- was read, with labels that are handed out there, and a case begins in a `switch`.
pub record PremisesHold (w : World) (limits : Limits) (context : Context) : Type 0 where
  pub conditions : (test : Quiet) (v : Compilation) (x : Ends limits context Part.Condition Ending.Condition test v) (c : Construct)
      (around : List Construct) → v.constructs ≡ c ∷ around → (t : Tree) (trees : List Tree) →
      trees_of limits context Part.Condition (run limits context x.front.all v) ≡ t ∷ trees → Covered false t →
      Tests w (truth_of w t) (otherwise c c.kind) v (run limits context test.all v)
  pub starts : (start : Quiet) (v : Compilation) (x : Ends limits context Part.Start Ending.Start start v) (t : Tree) (trees : List Tree) →
      trees_of limits context Part.Start (run limits context x.front.all v) ≡ t ∷ trees → Covered false t →
      Lays w (GivesNothing w (sense w t).alone) v.output (run limits context start.all v).output
  pub values : (value : Quiet) (v : Compilation) (x : Ends limits context Part.Switched Ending.Switched value v) (t : Tree)
      (trees : List Tree) → trees_of limits context Part.Switched (run limits context x.front.all v) ≡ t ∷ trees → Covered false t →
      Lays w (GivesNothing w (kept_value w t)) v.output (run limits context value.all v).output
  pub statements : (plain : Quiet) (v u : Compilation)
      (x : Ends limits context (Part.Statement (statement_at u)) Ending.Statement plain v) → run limits context x.front.all v ≡ u →
      IsPlain (statement_at u) → IsCovered (trees_of limits context (Part.Statement (statement_at u)) u) →
      Lays w (Runs w (exits v.constructs) (plain_run w (exits v.constructs)
      (trees_of limits context (Part.Statement (statement_at u)) u) (statement_at u))) v.output (run limits context plain.all v).output
  pub steps : (step : Quiet) (ends : Moment) (v : Compilation) →
      let unit = run limits context step.all v in
      LaysNone v.output unit.output → IsStill ends → IsSound limits context Part.Step unit → unit.output.kept ≡ None → (c : Construct)
      (around : List Construct) → v.constructs ≡ c ∷ around → (t : Tree) (trees : List Tree) →
      trees_of limits context Part.Step unit ≡ t ∷ trees → Covered false t →
      let stepped = run limits context (step_happenings (StepEnds step ends)) v in
      KeepsApart w (GivesNothing w (sense w t).alone) v.output stepped.output (with_step_in stepped.constructs c).step
  pub loops : (opens : Moment) (loop : Quiet) (ends : Moment) (v : Compilation) →
      let c = opened limits (Kind.Objects Over.Nothing 0) v.output in
      let inside = opened_at context opens c v in
      let unit = run limits context loop.all inside in
      LaysNone inside.output unit.output → IsStill ends → IsSound limits context Part.Loop unit → (r : Rooted) (others : List Rooted) →
      rooted_of limits context Part.Loop unit ≡ r ∷ others → Covered false r.tree →
      let looped = happens limits context (Acts ends Action.EndObjectloop) unit in
      LoopBegins w limits (children_of r.tree) r.tree (loop_variable r) c.0 inside.output looped.constructs looped.output
  pub cases : (values : Quiet) (ends : Moment) (v : Compilation) →
      let before = run limits context values.all v in
      IsStill ends → IsSound limits context Part.Case before → (c : Construct) (around : List Construct) → v.constructs ≡ c ∷ around →
      (old : CaseKind) (had_default : Bool) → c.kind ≡ Kind.Switch old had_default → AreValues (trees_of limits context Part.Case before) →
      let holds = case_truth w (is_default (ready_for limits Part.Case before).unit.items) (trees_of limits context Part.Case before) in
      let now = happens limits context (Acts ends Action.EndCase) before in
      CaseBegins w holds v.constructs now.constructs before.output now.output

abbrev pub AllPremisesHold : Type 0
AllPremisesHold = (w : World) (limits : Limits) (context : Context) → PremisesHold w limits context

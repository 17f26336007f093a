-- Units of a routine.
use Rattle.std.proofs.Common.{◌≡◌, Bool, true, false, List, [], ◌∷◌, ◌++◌, Option, Some, None, refl, ◌∙◌, ap, sym, subst}
use Rattle.std.specs.Prelude.{map, if◌then◌else◌}
use Rattle.inf_settings.specs.Bounds.{Limits}
use Rattle.inf_scanner.specs.declared.tokens.Place.{Place}
use Rattle.inf_expressions.specs.{Questions.children_of, Rooted.Rooted, Trees.Tree, declared.findings.Finding.Finding}
use Rattle.inf_expressions.specs.{declared.units.Wanted.Wanted}
use Rattle.inf_unit.specs.{Roles.role_of, declared.roles.Ending.Ending, declared.roles.Role.Role}
use Rattle.inf_opcode.specs.declared.instructions.Label.{Label}
use Rattle.inf_output.specs.Output.{Out, apart, items_of, together}
use Rattle.inf_templates.specs.Meaning.{meaning}
use Rattle.inf_constructs.specs.{Cases.SWITCHED, Cases.case_code, Labels.NamedLabel, Roots.tree_in, declared.constructs.Case.Case}
use Rattle.inf_constructs.specs.{declared.constructs.Construct.Construct, declared.constructs.Kind.Kind}
use Rattle.inf_constructs.specs.Constructs.{are_cases, are_own, cases_begun, changed, condition_label, entered, looped_over, next_case}
use Rattle.inf_constructs.specs.Constructs.{otherwise, with_step}
use Rattle.inf_compilation.specs.{Context.Context, Nesting.constructs_laid}
use Rattle.inf_compilation.specs.Actions.{Compilation, named, passed, settled_of, trees_at}
use Rattle.inf_parts.specs.Parts.{actions_named, found_in, has_last, is_default, part_begun, part_carried}
use Rattle.inf_parts.specs.Parts.{part_effect, part_finished, part_prepared, place_of, site_of, statement_at}
use Rattle.inf_parts.specs.declared.parts.Part.{Part}
use Rattle.inf_statements.specs.{Effects.Site, Effects.statement_code, Effects.statement_laid, Statements.alone, Statements.switched}
use Rattle.inf_statements.specs.{Statements.tested, declared.statements.Statement.Statement}
use Rattle.inf_reader.specs.Acting.{played}
use Rattle.inf_interpreter.specs.Machine.{Place as MachinePlace, Stands, World, ◌then◌, with_variable}
use Rattle.inf_interpreter.specs.Claims.{Claim, Comes, kept_behind, state}
use Rattle.inf_interpreter.proofs.Running.{opened, same_some}
use Rattle.inf_meaning_laws.specs.{Covered.Covered, Laws.Branches, Laws.GivesNothing, Laws.GivesValue, Values.sense, Values.truth_of}
use Rattle.inf_meaning_laws.proofs.Expressions.{branches_are_taken, effects_are_done, values_are_computed}
use Rattle.inf_control_laws.specs.{Carrying.CaseBegins, Cases.AreValues, Cases.case_truth, Loops.LoopBegins, Loops.loop_variable}
use Rattle.inf_control_laws.specs.Plain.{IsCovered, IsPlain, plain_run}
use Rattle.inf_control_laws.specs.Runs.{KeepsApart, Lays, LaysNone, Runs, exits}
use Rattle.inf_control_laws.specs.Units.{AllUnitsRun, IsSound, kept_value, ready_for, rooted_of, step_of, trees_of}
use Rattle.inf_control_laws.proofs.{Cases.case_begins, Loops.looped_laid, Plain.plain_statements_run, Settling.settled_none}
use Rattle.inf_control_laws.proofs.Laying.{lays_code, lays_so, none_alike, none_both, none_then}

-- the output where the code of a unit begins
abbrev pub begun_in : Limits → Context → Place → Compilation → Out
begun_in limits context first v = record (settled_of limits context (named (part_prepared v))).out { first = first }

none_settled : (limits : Limits) (context : Context) (first : Place) (u : Compilation) →
    LaysNone u.output (record (settled_of limits context u).out { first = first })
none_settled limits context first u =
    let s = (settled_of limits context u).out in
    none_both u.output s (record s { first = first })
    (settled_none limits context.set u.locals u.unit.tokens u.unit.gathering.leaves (record { out = u.output; operands = [] }))
    (none_alike s (record s { first = first }) refl refl refl refl)

pub none_begun : (limits : Limits) (context : Context) (first : Place) (v : Compilation) →
    LaysNone v.output (begun_in limits context first v)
none_begun limits context first v = none_settled limits context first (named (part_prepared v))

-- A sound unit is carried out.
pub unit_is : (limits : Limits) (context : Context) (place : Place) (p : Part) (v : Compilation) (after : Compilation) →
    v.is_replaced ≡ false → (if v.is_replaced then passed (has_last p) v else after).output ≡ after.output
unit_is limits context place p v after stays = ap (λ b. (if b then passed (has_last p) v else after).output) stays

pub carried_is : (limits : Limits) (context : Context) (first : Place) (p : Part) (f : Option Finding) (u : Compilation) → f ≡ None →
    (part_carried limits context first p f u).output ≡ (part_carried limits context first p None u).output
carried_is limits context first p f u e = ap (λ g. (part_carried limits context first p g u).output) e

condition_carried : (limits : Limits) (context : Context) (first : Place) (v : Compilation) →
    (part_carried limits context first Part.Condition None (named (part_prepared v))).output
    ≡ tested limits (condition_label v.constructs) (trees_of limits context Part.Condition v) (begun_in limits context first v)
unfolding part_effect
condition_carried limits context first v = refl

start_carried : (limits : Limits) (context : Context) (first : Place) (v : Compilation) →
    (part_carried limits context first Part.Start None (named (part_prepared v))).output
    ≡ alone limits (trees_of limits context Part.Start v) (begun_in limits context first v)
unfolding part_effect
start_carried limits context first v = refl

plainly_laid : (limits : Limits) (site : Site) (s : Statement) (trees : List Tree) (labels : List NamedLabel) (o : Out) → IsPlain s →
    (statement_laid limits site s trees labels o).1 ≡ statement_code limits site trees s o
unfolding statement_laid
plainly_laid limits site Statement.Jump trees labels o h = absurd h
plainly_laid limits site Statement.Place trees labels o h = absurd h
plainly_laid limits site Statement.Assembly trees labels o h = absurd h
plainly_laid limits site s trees labels o h = refl

statement_carried : (limits : Limits) (context : Context) (first : Place) (s : Statement) (v : Compilation) → IsPlain s →
    (part_carried limits context first (Part.Statement s) None (named (part_prepared v))).output
    ≡ statement_code limits (site_of context (record (named (part_prepared v)) { output = begun_in limits context first v }))
    (trees_of limits context (Part.Statement s) v) s (begun_in limits context first v)
unfolding part_effect
statement_carried limits context first s v h =
    let u = record (named (part_prepared v)) { output = begun_in limits context first v } in
    plainly_laid limits (site_of context u) s (trees_of limits context (Part.Statement s) v) u.labels (begun_in limits context first v) h

switched_carried : (limits : Limits) (context : Context) (first : Place) (v : Compilation) →
    (part_carried limits context first Part.Switched None (named (part_prepared v))).output
    ≡ switched limits (trees_of limits context Part.Switched v) (begun_in limits context first v)
unfolding part_effect
switched_carried limits context first v = refl

-- the output and the step that is kept, behind the unit of a step
abbrev step_output : Limits → List Tree → Out → Out
step_output limits trees o = alone limits trees (apart o)

abbrev stepped_to : Limits → List Construct → List Tree → Out → List Construct × Out
stepped_to limits constructs trees o =
    (with_step (Some (items_of (step_output limits trees o).kept)) constructs, together (step_output limits trees o))

abbrev both_of : Compilation → List Construct × Out
both_of u = (u.constructs, u.output)

step_carried : (limits : Limits) (context : Context) (first : Place) (v : Compilation) →
    both_of (part_carried limits context first Part.Step None (named (part_prepared v)))
    ≡ stepped_to limits v.constructs (trees_of limits context Part.Step v) (begun_in limits context first v)
unfolding part_effect
step_carried limits context first v = refl

-- Lemmas about the ends of units
condition_ends : (w : World) (limits : Limits) (context : Context) (place : Place) (v : Compilation) →
    IsSound limits context Part.Condition v → (c : Construct) (around : List Construct) → v.constructs ≡ c ∷ around → (t : Tree)
    (trees : List Tree) → trees_of limits context Part.Condition v ≡ t ∷ trees → Covered false t →
    Lays w (Branches false w (truth_of w t) false (otherwise c c.kind)) v.output
    (played limits context place (Role.End Ending.Condition) v).output
condition_ends w limits context place v sound c around inner t trees one h =
    let ready = part_prepared v in
    let first = place_of Part.Condition place ready in
    let o = begun_in limits context first v in
    let P = Branches false w (truth_of w t) false (otherwise c c.kind) in
    let is = unit_is limits context place Part.Condition v (part_finished limits context first Part.Condition ready) sound.stays
    ∙ carried_is limits context first Part.Condition (found_in limits context Part.Condition ready) (named ready) sound.finds
    ∙ condition_carried limits context first v
    ∙ ap (λ l. tested limits (condition_label l) (trees_of limits context Part.Condition v) o) inner
    ∙ ap (λ l. tested limits (condition_label (c ∷ around)) l o) one in
    subst (λ z. Lays w P v.output z) (sym is)
    (none_then w P v.output o ((meaning limits t).branch false (otherwise c c.kind) o) (none_begun limits context first v)
    (lays_code w ((meaning limits t).branch false (otherwise c c.kind)) P
    (branches_are_taken false w limits t h false (otherwise c c.kind)) o))

start_ends : (w : World) (limits : Limits) (context : Context) (place : Place) (v : Compilation) →
    IsSound limits context Part.Start v → (t : Tree) (trees : List Tree) → trees_of limits context Part.Start v ≡ t ∷ trees →
    Covered false t → Lays w (GivesNothing w (sense w t).alone) v.output (played limits context place (Role.End Ending.Start) v).output
start_ends w limits context place v sound t trees one h =
    let ready = part_prepared v in
    let first = place_of Part.Start place ready in
    let o = begun_in limits context first v in
    let P = GivesNothing w (sense w t).alone in
    let is = unit_is limits context place Part.Start v (part_finished limits context first Part.Start ready) sound.stays
    ∙ carried_is limits context first Part.Start (found_in limits context Part.Start ready) (named ready) sound.finds
    ∙ start_carried limits context first v ∙ ap (λ l. alone limits l o) one in
    subst (λ z. Lays w P v.output z) (sym is)
    (none_then w P v.output o ((meaning limits t).alone o) (none_begun limits context first v)
    (lays_code w (meaning limits t).alone P (effects_are_done false w limits t h) o))

-- The value that is laid for a variable of an expression's own is in the store.
kept_in : (w : World) (t : Tree) (at : Label → MachinePlace) (from to : MachinePlace) →
    GivesValue false w (sense w t).value SWITCHED at from to → GivesNothing w (kept_value w t) at from to
kept_in w t at from to g stack temp s u e =
    let o = opened ((sense w t).value (with_variable SWITCHED) s) (λ p. Some p.1) u e in
    let r = g stack temp s o.0.0 o.0.1 o.1 in
    (r.0, subst (λ z. Comes w at from (state stack temp s) to (state stack r.0 z)) (same_some o.2) r.2)

value_ends : (w : World) (limits : Limits) (context : Context) (place : Place) (v : Compilation) →
    IsSound limits context Part.Switched v → (t : Tree) (trees : List Tree) → trees_of limits context Part.Switched v ≡ t ∷ trees →
    Covered false t → Lays w (GivesNothing w (kept_value w t)) v.output
    (played limits context place (Role.End Ending.Switched) v).output
value_ends w limits context place v sound t trees one h =
    let ready = part_prepared v in
    let first = place_of Part.Switched place ready in
    let o = begun_in limits context first v in
    let P = GivesNothing w (kept_value w t) in
    let c = (meaning limits t).value SWITCHED in
    let is = unit_is limits context place Part.Switched v (part_finished limits context first Part.Switched ready) sound.stays
    ∙ carried_is limits context first Part.Switched (found_in limits context Part.Switched ready) (named ready) sound.finds
    ∙ switched_carried limits context first v ∙ ap (λ l. switched limits l o) one in
    subst (λ z. Lays w P v.output z) (sym is)
    (none_then w P v.output o (c o) (none_begun limits context first v)
    (lays_so w (GivesValue false w (sense w t).value SWITCHED) P o (c o) (kept_in w t)
    (lays_code w c (GivesValue false w (sense w t).value SWITCHED) (values_are_computed false w limits t h SWITCHED) o)))

-- Code that is kept apart, where nothing was, is the step.
step_kept : (w : World) (limits : Limits) (t : Tree) → Covered false t → (trees : List Tree) (c : Construct) (around : List Construct)
    (before o : Out) → LaysNone before o → before.kept ≡ None →
    let now = stepped_to limits (c ∷ around) (t ∷ trees) o in
    KeepsApart w (GivesNothing w (sense w t).alone) before now.1 (step_of now.0)
step_kept w limits t h trees c around before o settles absent =
    let x = effects_are_done false w limits t h (apart o) in
    let after = (meaning limits t).alone (apart o) in
    let now = together after in
    let is : items_of after.kept ≡ x.items = ap items_of x.laid.kept in
    record {
      laid = record {
        laid = record {
          kept = sym (ap (λ k. kept_behind k []) absent);
          fits = λ e. settles.laid.fits (x.laid.fits e);
          code = λ e. x.laid.code e ∙ settles.laid.code (x.laid.fits e);
        };
        names = record { stays = λ v y e. x.names.stays v y (settles.names.stays v y e) };
      };
      runs = λ at rest k s. subst (λ l. GivesNothing w (sense w t).alone at (l ++ rest) rest) (sym is)
          (x.runs at rest (record { fits = k.fits; numbers = k.numbers; contracts = k.contracts }) (subst (λ l. Stands at l rest) is s));
    }

step_ends : (w : World) (limits : Limits) (context : Context) (place : Place) (v : Compilation) →
    IsSound limits context Part.Step v → v.output.kept ≡ None → (c : Construct) (around : List Construct) → v.constructs ≡ c ∷ around →
    (t : Tree) (trees : List Tree) → trees_of limits context Part.Step v ≡ t ∷ trees → Covered false t →
    let now = played limits context place (Role.End Ending.Step) v in
    KeepsApart w (GivesNothing w (sense w t).alone) v.output now.output (step_of now.constructs)
step_ends w limits context place v sound absent c around inner t trees one h =
    let ready = part_prepared v in
    let first = place_of Part.Step place ready in
    let o = begun_in limits context first v in
    let is = ap (λ b. both_of (if b then passed (has_last Part.Step) v else part_finished limits context first Part.Step ready)) sound.stays
    ∙ ap (λ g. both_of (part_carried limits context first Part.Step g (named ready))) sound.finds
    ∙ step_carried limits context first v
    ∙ ap (λ l. stepped_to limits l (trees_of limits context Part.Step v) o) inner
    ∙ ap (λ l. stepped_to limits (c ∷ around) l o) one in
    subst (λ (z : List Construct × Out). KeepsApart w (GivesNothing w (sense w t).alone) v.output z.1 (step_of z.0)) (sym is)
    (step_kept w limits t h trees c around v.output o (none_begun limits context first v) absent)

statement_ends : (w : World) (limits : Limits) (context : Context) (place : Place) (v : Compilation) →
    IsSound limits context (Part.Statement (statement_at v)) v → IsPlain (statement_at v) →
    IsCovered (trees_of limits context (Part.Statement (statement_at v)) v) →
    Lays w (Runs w (exits v.constructs) (plain_run w (exits v.constructs)
    (trees_of limits context (Part.Statement (statement_at v)) v) (statement_at v))) v.output
    (played limits context place (Role.End Ending.Statement) v).output
statement_ends w limits context place v sound plainly h =
    let s = statement_at v in
    let p = Part.Statement s in
    let ready = part_prepared v in
    let first = place_of p place ready in
    let o = begun_in limits context first v in
    let trees = trees_of limits context p v in
    let x = exits v.constructs in
    let P = Runs w x (plain_run w x trees s) in
    let site = site_of context (record (named ready) { output = o }) in
    let is = unit_is limits context place p v (part_finished limits context first p ready) sound.stays
    ∙ carried_is limits context first p (found_in limits context p ready) (named ready) sound.finds
    ∙ statement_carried limits context first s v plainly in
    subst (λ z. Lays w P v.output z) (sym is)
    (none_then w P v.output o (statement_code limits site trees s o) (none_begun limits context first v)
    (plain_statements_run w limits site trees s plainly h o))

-- the unit of a loop over objects
loop_carried : (limits : Limits) (context : Context) (first : Place) (v : Compilation) →
    both_of (part_carried limits context first Part.Loop None (named (part_prepared v)))
    ≡ looped_over limits (rooted_of limits context Part.Loop v) v.constructs (begun_in limits context first v)
unfolding part_effect
loop_carried limits context first v = refl

loop_ends : (w : World) (limits : Limits) (context : Context) (place : Place) (v : Compilation) → IsSound limits context Part.Loop v →
    (c : Construct) (around : List Construct) → v.constructs ≡ c ∷ around → (r : Rooted) (others : List Rooted) →
    rooted_of limits context Part.Loop v ≡ r ∷ others → Covered false r.tree →
    let now = played limits context place (Role.End Ending.Loop) v in
    LoopBegins w limits (children_of r.tree) r.tree (loop_variable r) c v.output now.constructs now.output
loop_ends w limits context place v sound c around inner r others one h =
    let ready = part_prepared v in
    let first = place_of Part.Loop place ready in
    let o = begun_in limits context first v in
    let is = ap (λ b. both_of (if b then passed (has_last Part.Loop) v else part_finished limits context first Part.Loop ready)) sound.stays
    ∙ ap (λ g. both_of (part_carried limits context first Part.Loop g (named ready))) sound.finds
    ∙ loop_carried limits context first v
    ∙ ap (λ l. looped_over limits (rooted_of limits context Part.Loop v) l o) inner
    ∙ ap (λ l. looped_over limits l (c ∷ around) o) one in
    subst (λ (z : List Construct × Out). LoopBegins w limits (children_of r.tree) r.tree (loop_variable r) c v.output z.0 z.1) (sym is)
    (looped_laid w limits r c around v.output o h (none_begun limits context first v))

-- the unit of a case: where it begins, and what is laid behind that
abbrev case_to : Limits → Context → Place → Compilation → List Construct × Out
case_to limits context first u =
    let s = settled_of limits context u in (
      u.constructs,
      case_code limits (next_case u.constructs) (map tree_in (trees_at 0 Wanted.Case s.operands u)) (record s.out { first = first }),
    )

case_carried : (limits : Limits) (context : Context) (first : Place) (u : Compilation) →
    both_of (part_carried limits context first Part.Case None u) ≡ case_to limits context first u
unfolding part_effect
case_carried limits context first u = refl

named_alike : (b : Bool) (u : Compilation) → both_of (actions_named b u) ≡ both_of u
named_alike true u = refl
named_alike false u = refl

case_ready : (limits : Limits) (v : Compilation) (c : Construct) (around : List Construct) → v.constructs ≡ c ∷ around →
    both_of (ready_for limits Part.Case v) ≡ both_of (record (part_prepared v) { constructs = c ∷ around; output = v.output })
case_ready limits v c around inner =
    ap (λ l. let b = constructs_laid (cases_begun limits l) (part_prepared v) in both_of (actions_named (are_own b.constructs) b)) inner
    ∙ named_alike (are_cases c.kind) (record (part_prepared v) { constructs = c ∷ around; output = v.output })

case_begun : (limits : Limits) (v : Compilation) (c : Construct) (around : List Construct) → v.constructs ≡ c ∷ around →
    let ready = ready_for limits Part.Case v in
    both_of (part_begun limits Part.Case ready) ≡ changed (entered limits (is_default ready.unit.items)) (c ∷ around) v.output
case_begun limits v c around inner =
    let ready = ready_for limits Part.Case v in
    ap (λ (z : List Construct × Out). changed (entered limits (is_default ready.unit.items)) z.0 z.1) (case_ready limits v c around inner)

case_ends : (w : World) (limits : Limits) (context : Context) (place : Place) (v : Compilation) → IsSound limits context Part.Case v →
    (c : Construct) (around : List Construct) → v.constructs ≡ c ∷ around → (old : Case) (had_default : Bool) →
    c.kind ≡ Kind.Switch old had_default → AreValues (trees_of limits context Part.Case v) →
    let now = played limits context place (Role.End Ending.Case) v in
    CaseBegins w (case_truth w (is_default (ready_for limits Part.Case v).unit.items) (trees_of limits context Part.Case v)) v.constructs
    now.constructs v.output now.output
case_ends w limits context place v sound c around inner old had_default which h =
    let ready = ready_for limits Part.Case v in
    let first = place_of Part.Case place ready in
    let u = named (part_begun limits Part.Case ready) in
    let o = record (settled_of limits context u).out { first = first } in
    let known = is_default ready.unit.items in
    let trees = trees_of limits context Part.Case v in
    let holds = case_truth w known trees in
    let is = ap (λ b. both_of (if b then passed (has_last Part.Case) v else part_finished limits context first Part.Case ready)) sound.stays
    ∙ ap (λ g. both_of (part_carried limits context first Part.Case g u)) sound.finds
    ∙ case_carried limits context first u in
    let begins = subst (λ (z : List Construct × Out). LaysNone z.1 o →
    CaseBegins w holds (c ∷ around) z.0 v.output (case_code limits (next_case z.0) trees o)) (sym (case_begun limits v c around inner))
    (case_begins w limits known trees h c around old had_default which v.output o) (none_settled limits context first u) in
    subst (λ (z : List Construct × Out). CaseBegins w holds v.constructs z.0 v.output z.1) (sym is)
    (subst (λ l. CaseBegins w holds l u.constructs v.output (case_code limits (next_case u.constructs) trees o)) (sym inner) begins)

pub by_role : (w : World) (limits : Limits) (context : Context) (place : Place) (v : Compilation) (P : Claim) (r e : Role) → r ≡ e →
    Lays w P v.output (played limits context place e v).output → Lays w P v.output (played limits context place r v).output
by_role w limits context place v P r e same h = subst (λ z. Lays w P v.output (played limits context place z v).output) (sym same) h

pub units_run : AllUnitsRun
units_run w limits context place v = record {
  conditions = λ a is sound c around inner t trees one h.
      by_role w limits context place v (Branches false w (truth_of w t) false (otherwise c c.kind)) (role_of a) (Role.End Ending.Condition)
      is
      (condition_ends w limits context place v sound c around inner t trees one h);
  starts = λ a is sound t trees one h.
      by_role w limits context place v (GivesNothing w (sense w t).alone) (role_of a) (Role.End Ending.Start) is
      (start_ends w limits context place v sound t trees one h);
  values = λ a is sound t trees one h.
      by_role w limits context place v (GivesNothing w (kept_value w t)) (role_of a) (Role.End Ending.Switched) is
      (value_ends w limits context place v sound t trees one h);
  steps = λ a is sound kept c around inner t trees one h. subst (λ z. let now = played limits context place z v in
      KeepsApart w (GivesNothing w (sense w t).alone) v.output now.output (step_of now.constructs)) (sym is)
      (step_ends w limits context place v sound kept c around inner t trees one h);
  statements = λ a is sound plainly h. by_role w limits context place v (Runs w (exits v.constructs) (plain_run w (exits v.constructs)
      (trees_of limits context (Part.Statement (statement_at v)) v) (statement_at v))) (role_of a) (Role.End Ending.Statement) is
      (statement_ends w limits context place v sound plainly h);
  loops = λ a is sound c around inner r others one h. subst (λ z. let now = played limits context place z v in
      LoopBegins w limits (children_of r.tree) r.tree (loop_variable r) c v.output now.constructs now.output) (sym is)
      (loop_ends w limits context place v sound c around inner r others one h);
  cases = λ a is sound c around inner old had_default which h. subst (λ z. let now = played limits context place z v in
      CaseBegins w (case_truth w (is_default (ready_for limits Part.Case v).unit.items) (trees_of limits context Part.Case v)) v.constructs
      now.constructs v.output now.output) (sym is)
      (case_ends w limits context place v sound c around inner old had_default which h);
}

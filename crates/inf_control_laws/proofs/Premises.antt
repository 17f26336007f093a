-- Units, as nested statements have them.
use Rattle.std.proofs.Common.{◌≡◌, false, List, [], ◌∷◌, Option, refl, ◌∙◌, ap, sym, subst}
use Rattle.inf_settings.specs.Bounds.{Limits}
use Rattle.inf_expressions.specs.Questions.{children_of}
use Rattle.inf_syntax.specs.declared.actions.Action.{Action}
use Rattle.inf_unit.specs.declared.roles.Ending.{Ending}
use Rattle.inf_constructs.specs.{Constructs.opened, Constructs.otherwise, declared.constructs.Kind.Kind, declared.constructs.Over.Over}
use Rattle.inf_compilation.specs.{Actions.Compilation, Context.Context}
use Rattle.inf_parts.specs.{Parts.is_default, Parts.statement_at, declared.parts.Part.Part}
use Rattle.inf_reader.specs.Acting.{act}
use Rattle.inf_statement_laws.specs.{Happenings.Acts, Happenings.Quiet, Laid.happens, Laid.opened_at, Laid.run, Laid.with_step_in}
use Rattle.inf_statement_laws.proofs.{Acts.quiet_run, Laying.run_then, Laying.units_keep_labels}
use Rattle.inf_output.specs.{Output.Out, declared.items.Item.Item}
use Rattle.inf_interpreter.specs.{Claims.Claim, Machine.World}
use Rattle.inf_interpreter.proofs.Naming.{supplies_before}
use Rattle.inf_meaning_laws.specs.{Laws.Branches, Laws.GivesNothing, Values.sense, Values.truth_of}
use Rattle.inf_control_laws.specs.{Carrying.CaseBegins, Cases.case_truth, Loops.first_by, Loops.holds_by, Loops.loop_variable}
use Rattle.inf_control_laws.specs.{Parts.BeginsCase, Parts.BeginsLoop, Plain.IsCovered, Plain.IsPlain, Plain.plain_run}
use Rattle.inf_control_laws.specs.{Premises.AllPremisesHold, Premises.Ends, Runs.KeepsApart, Runs.Lays, Runs.LaysNone, Runs.Runs}
use Rattle.inf_control_laws.specs.{Runs.exits, Units.IsSound, Units.kept_value, Units.ready_for, Units.step_of, Units.trees_of}
use Rattle.inf_control_laws.proofs.{Laying.none_both, Laying.none_then, Laying.then_none, Units.units_run}

-- A whole part lays what the end of its unit lays.
pub part_lays : (w : World) (limits : Limits) (context : Context) (p : Part) (e : Ending) (q : Quiet) (v : Compilation)
    (x : Ends limits context p e q v) (P : Claim) →
    let unit = run limits context x.front.all v in
    Lays w P unit.output (act limits context x.at.place x.last unit).output → Lays w P v.output (run limits context q.all v).output
part_lays w limits context p e q v x P h =
    let unit = run limits context x.front.all v in
    let now = act limits context x.at.place x.last unit in
    let behind = x.at.behind.output now.output in
    let is = ap (λ l. run limits context l v) x.are ∙ run_then limits context x.front.all (Acts x.at x.last ∷ []) v in
    subst (λ (u : Compilation). Lays w P v.output u.output) (sym is)
    (none_then w P v.output unit.output behind x.reading (then_none w P unit.output now.output behind h (x.still now.output)))

statement_lays : (w : World) (limits : Limits) (context : Context) (plain : Quiet) (v u : Compilation)
    (x : Ends limits context (Part.Statement (statement_at u)) Ending.Statement plain v) → run limits context x.front.all v ≡ u →
    IsPlain (statement_at u) → IsCovered (trees_of limits context (Part.Statement (statement_at u)) u) →
    Lays w (Runs w (exits v.constructs) (plain_run w (exits v.constructs) (trees_of limits context (Part.Statement (statement_at u)) u)
    (statement_at u))) v.output (run limits context plain.all v).output
statement_lays w limits context plain v u x e plainly h =
    let trees = trees_of limits context (Part.Statement (statement_at u)) u in
    let s = statement_at u in
    let P = Runs w (exits v.constructs) (plain_run w (exits v.constructs) trees s) in
    let same = ap (λ (z : Compilation). z.constructs) (sym e) ∙ (quiet_run limits context x.front.all v x.front.are).0 in
    let sound = subst (λ z. IsSound limits context (Part.Statement s) z) e x.sound in
    let lays = (units_run w limits context x.at.place u).statements x.last x.ends sound plainly h in
    let lays' = subst (λ l. Lays w (Runs w (exits l) (plain_run w (exits l) trees s)) u.output
    (act limits context x.at.place x.last u).output) same lays in
    part_lays w limits context (Part.Statement s) Ending.Statement plain v x P
    (subst (λ (z : Compilation). Lays w P z.output (act limits context x.at.place x.last z).output) (sym e) lays')

-- The items of a step stay apart where nothing is laid before and behind.
step_stays : (w : World) (P : Claim) (a b c d : Out) (kept : Option (List Item)) → LaysNone a b → KeepsApart w P b c kept → LaysNone c d →
    KeepsApart w P a d kept
step_stays w P a b c d kept x h y = record {
  laid = none_both a b d x (none_both b c d h.laid y);
  runs = λ at rest k s. h.runs at rest (supplies_before w c d y.names y.laid.fits k) s;
}

pub premises_hold : AllPremisesHold
premises_hold w limits context = record {
  conditions = λ test v x c around inner t trees one h.
      let unit = run limits context x.front.all v in
      let same = (quiet_run limits context x.front.all v x.front.are).0 in
      part_lays w limits context Part.Condition Ending.Condition test v x (Branches false w (truth_of w t) false (otherwise c c.kind))
      ((units_run w limits context x.at.place unit).conditions x.last x.ends x.sound c around (same ∙ inner) t trees one h);
  starts = λ start v x t trees one h.
      let unit = run limits context x.front.all v in
      part_lays w limits context Part.Start Ending.Start start v x (GivesNothing w (sense w t).alone)
      ((units_run w limits context x.at.place unit).starts x.last x.ends x.sound t trees one h);
  values = λ value v x t trees one h.
      let unit = run limits context x.front.all v in
      part_lays w limits context Part.Switched Ending.Switched value v x (GivesNothing w (kept_value w t))
      ((units_run w limits context x.at.place unit).values x.last x.ends x.sound t trees one h);
  statements = λ plain v u x e plainly h. statement_lays w limits context plain v u x e plainly h;
  steps = λ step ends v reading still sound absent c around inner t trees one h.
      let unit = run limits context step.all v in
      let now = act limits context ends.place Action.EndForStep unit in
      let behind = happens limits context (Acts ends Action.EndForStep) unit in
      let P = GivesNothing w (sense w t).alone in
      let same = (quiet_run limits context step.all v step.are).0 ∙ inner in
      let is = ap step_of ((units_keep_labels limits).of_steps context ends.place c around unit same) in
      let apart = subst (λ l. KeepsApart w P unit.output now.output l) is
      ((units_run w limits context ends.place unit).steps Action.EndForStep refl sound absent c around same t trees one h) in
      subst (λ (u : Compilation). KeepsApart w P v.output u.output (with_step_in u.constructs c).step)
      (sym (run_then limits context step.all (Acts ends Action.EndForStep ∷ []) v))
      (step_stays w P v.output unit.output now.output behind.output (with_step_in now.constructs c).step reading apart (still now.output));
  loops = λ opens loop ends v reading still sound r others one h.
      let c = opened limits (Kind.Objects Over.Nothing 0) v.output in
      let inside = opened_at context opens c v in
      let unit = run limits context loop.all inside in
      let now = act limits context ends.place Action.EndObjectloop unit in
      let looped = happens limits context (Acts ends Action.EndObjectloop) unit in
      let children = children_of r.tree in
      let P = BeginsLoop w (truth_of w (first_by children (loop_variable r))) (holds_by w children r.tree) c.0.top c.0.next c.0.end in
      let l = (units_run w limits context ends.place unit).loops Action.EndObjectloop refl sound c.0 v.constructs
      (quiet_run limits context loop.all inside loop.are).0 r others one h in record {
        goes = l.goes;
        begins = none_then w P inside.output unit.output looped.output reading
            (then_none w P unit.output now.output looped.output l.begins (still now.output));
      };
  cases = λ values ends v still sound c around inner old had_default which h.
      let before = run limits context values.all v in
      let now = act limits context ends.place Action.EndCase before in
      let behind = happens limits context (Acts ends Action.EndCase) before in
      let holds = case_truth w (is_default (ready_for limits Part.Case before).unit.items) (trees_of limits context Part.Case before) in
      let same = (quiet_run limits context values.all v values.are).0 in
      let b = subst (λ l. CaseBegins w holds l now.constructs before.output now.output) same
      ((units_run w limits context ends.place before).cases Action.EndCase refl sound c around (same ∙ inner) old had_default which h) in
      let P = BeginsCase w holds b.old b.new b.end in record {
        old = b.old;
        new = b.new;
        end = b.end;
        was = b.was;
        is = b.is;
        breaks = b.breaks;
        same = b.same;
        begins = then_none w P before.output now.output behind.output b.begins (still now.output);
      };
}

-- Nested statements, each as a whole, in the book of labels.
use Rattle.std.proofs.Common.{Bool, List, None, [], ap, false, refl, subst, sym, true, ◌++◌, ◌+◌, ◌∙◌, ◌∷◌, ◌≡◌}
use Rattle.inf_settings.specs.Bounds.{Limits}
use Rattle.inf_output.specs.Output.{Out}
use Rattle.inf_syntax.specs.declared.actions.Action.{Action}
use Rattle.inf_constructs.specs.{declared.constructs.Construct.Construct, declared.constructs.Kind.Kind, declared.constructs.Over.Over}
use Rattle.inf_constructs.specs.Constructs.{between, closed, kind_behind, opened}
use Rattle.inf_compilation.specs.{Actions.Compilation, Context.Context}
use Rattle.inf_reader.specs.Acting.{act}
use Rattle.inf_statement_laws.specs.Happenings.{Acts, Happening, Moment, Quiet, Takes}
use Rattle.inf_statement_laws.specs.Laid.{ended_as, happens, holding, laid, opened_at, run, with_kind_in, with_step_in}
use Rattle.inf_statement_laws.specs.Nested.{Case, Do, For, If, IfElse, Nested, NoStep, Objectloop, Plain, Step, StepEnds, Switch, Then}
use Rattle.inf_statement_laws.specs.Nested.{While, happenings, step_happenings}
use Rattle.inf_statement_laws.proofs.{Acts.loop_ends, Acts.quiet_run, Acts.step_ends, Laying.laid_as, Laying.run_then}
use Rattle.inf_routine_laws.specs.Laws.{AllLeave, LeaveRoutine}
use Rattle.inf_routine_laws.proofs.{Acting.Balanced, Acting.case_ends_good, Acting.quiet_good, Booking.Counts, Booking.one}
use Rattle.inf_routine_laws.proofs.Balance.{Good, good_still, loop_due, opened_do, opened_for, opened_if, opened_objects, opened_switch}
use Rattle.inf_routine_laws.proofs.Balance.{opened_while, top_known}
use Rattle.inf_routine_laws.proofs.Constructing.{ends_do, ends_else, ends_for, ends_if, ends_objects, ends_while, joined_do, joined_for}
use Rattle.inf_routine_laws.proofs.Constructing.{joined_if, joined_objects, objects_due}
use Rattle.inf_routine_laws.proofs.Stepping.{IsStepped, case_inside, case_kind, ends_case_kind, loop_ends_good, marks_due, not_stepped}
use Rattle.inf_routine_laws.proofs.Stepping.{step_ends_good, switch_stays, uses_known}
use Rattle.inf_constructs.specs.declared.constructs.Case.TheVariants as case

pub leave_both : (a b : List Happening) → AllLeave (a ++ b) → AllLeave a × AllLeave b
leave_both [] b l = (tt, l)
leave_both ((Acts at x) ∷ a) b l = let r = leave_both a b l.1 in ((l.0, r.0), r.1)
leave_both ((Takes t m) ∷ a) b l = let r = leave_both a b l.1 in ((l.0, r.0), r.1)

opened_kind : (limits : Limits) (k : Kind) (o : Out) → (opened limits k o).0.kind ≡ k
unfolding opened
opened_kind limits k o = refl

opened_step : (limits : Limits) (k : Kind) (o : Out) → (opened limits k o).0.step ≡ None
unfolding opened
opened_step limits k o = refl

between_kind : (limits : Limits) (c : Construct) (o : Out) → (between limits c o).0.kind ≡ kind_behind c.kind
unfolding between
between_kind limits c o = refl

between_step : (limits : Limits) (c : Construct) (o : Out) → (between limits c o).0.step ≡ c.step
unfolding between
between_step limits c o = refl

-- A compilation in which a statement is the innermost
record Inside (due spare extra : Counts) (c : Construct) (around : List Construct) (v : Compilation) : Type 0 where
  good : Good due spare extra v.labels (c ∷ around) v.output
  is : v.constructs ≡ c ∷ around
  none : v.closed ≡ 0

balanced_in : (due spare extra : Counts) (c : Construct) (around : List Construct) (v : Compilation) → Inside due spare extra c around v →
    Balanced due spare extra v
balanced_in due spare extra c around v i = subst (λ l. Good due spare extra v.labels l v.output) (sym i.is) i.good

inside_as : (due spare extra : Counts) (c : Construct) (around : List Construct) (v : Compilation) → v.constructs ≡ c ∷ around →
    v.closed ≡ 0 → Balanced due spare extra v → Inside due spare extra c around v
inside_as due spare extra c around v is none g = record {
  good = subst (λ l. Good due spare extra v.labels l v.output) is g;
  is = is;
  none = none;
}

inside_quiet : (limits : Limits) (context : Context) (q : Quiet) (due spare extra : Counts) (c : Construct) (around : List Construct)
    (v : Compilation) → AllLeave q.all → Inside due spare extra c around v → Inside due spare extra c around (run limits context q.all v)
inside_quiet limits context q due spare extra c around v l i =
    let same = quiet_run limits context q.all v q.are in
    inside_as due spare extra c around (run limits context q.all v) (same.0 ∙ i.is) (same.1 ∙ i.none)
    (quiet_good limits context q.all due spare extra v q.are l (balanced_in due spare extra c around v i))

-- nested statements keep the book
abbrev pub Keeps : {b : Bool} → Limits → Context → Nested b → Type 0
Keeps limits context n =
    (due spare extra : Counts) (w : Compilation) → w.closed ≡ 0 → AllLeave (happenings n) → Balanced due spare extra w →
    Balanced due spare extra (laid limits context n w)

inside_body : (limits : Limits) (context : Context) (body : Nested false) → Keeps limits context body → (due spare extra : Counts)
    (c : Construct) (around : List Construct) (v : Compilation) → AllLeave (happenings body) → Inside due spare extra c around v →
    Inside due spare extra c around (laid limits context body v)
inside_body limits context body inner due spare extra c around v l i =
    let whole = laid_as limits context body v i.none in
    inside_as due spare extra c around (laid limits context body v) (whole.holds ∙ i.is) whole.none_ahead
    (inner due spare extra v i.none l (balanced_in due spare extra c around v i))

inside_held : (at : Moment) (c : Construct × Out) (around : List Construct) (w : Compilation) (due spare extra : Counts) →
    LeaveRoutine at.behind → w.closed ≡ 0 → Good due spare extra w.labels (c.0 ∷ around) c.1 →
    Inside due spare extra c.0 around (holding at c around w)
inside_held at c around w due spare extra l e g = record {
  good = good_still due spare extra w.labels (c.0 ∷ around) c.1 (at.behind.output c.1) (l c.1) g;
  is = refl;
  none = e;
}

inside_word : (context : Context) (at : Moment) (c : Construct × Out) (w : Compilation) (due spare extra : Counts) →
    LeaveRoutine at.behind → w.closed ≡ 0 → Good due spare extra w.labels (c.0 ∷ w.constructs) c.1 →
    Inside due spare extra c.0 w.constructs (opened_at context at c w)
inside_word context at c w due spare extra l e g = record {
  good = good_still due spare extra w.labels (c.0 ∷ w.constructs) c.1 (at.behind.output c.1) (l c.1) g;
  is = refl;
  none = e;
}

ended_good : (limits : Limits) (at : Moment) (c : Construct) (around : List Construct) (w : Compilation) (due spare extra : Counts) →
    LeaveRoutine at.behind → Good due spare extra w.labels around (closed limits c w.output) →
    Balanced due spare extra (ended_as limits at c around w)
ended_good limits at c around w due spare extra l g =
    good_still due spare extra w.labels around (closed limits c w.output) (at.behind.output (closed limits c w.output))
    (l (closed limits c w.output)) g

-- Lemmas about each kind of statement

if_good : (b : Bool) (limits : Limits) (context : Context) (opens : Moment) (test : Quiet) (body : Nested false) (closes : Moment) →
    Keeps limits context body → Keeps limits context (If {b = b} opens test body closes)
if_good b limits context opens test body closes inner due spare extra w e l g =
    let c = opened limits Kind.If w.output in
    let behind = Acts closes Action.Close ∷ [] in
    let l1 = leave_both test.all (happenings body ++ behind) l.1 in
    let l2 = leave_both (happenings body) behind l1.1 in
    let more : Counts = λ n. one n c.0.next + due n in
    let rest : Counts = λ n. one n c.0.end + spare n in
    let v = opened_at context opens c w in
    let word = inside_word context opens c w more rest extra l.0 e (opened_if limits due spare extra w.labels w.constructs w.output g) in
    let tested = inside_quiet limits context test more rest extra c.0 w.constructs v l1.0 word in
    let u = run limits context test.all v in
    let done = inside_body limits context body inner more rest extra c.0 w.constructs u l2.0 tested in
    let x = laid limits context body u in
    ended_good limits closes c.0 w.constructs x due spare extra l2.1.0
    (ends_if limits due spare extra x.labels c.0 w.constructs x.output (opened_kind limits Kind.If w.output) c.0.end done.good)

else_good : (b : Bool) (limits : Limits) (context : Context) (opens : Moment) (test : Quiet) (body : Nested false) (joins : Moment)
    (word : Quiet) (other : Nested false) (closes : Moment) → Keeps limits context body → Keeps limits context other →
    Keeps limits context (IfElse {b = b} opens test body joins word other closes)
else_good b limits context opens test body joins word other closes inner inner_other due spare extra w e l g =
    let c = opened limits Kind.If w.output in
    let behind = Acts closes Action.Close ∷ [] in
    let rest_of = Acts joins Action.Else ∷ (word.all ++ (happenings other ++ behind)) in
    let l1 = leave_both test.all (happenings body ++ rest_of) l.1 in
    let l2 = leave_both (happenings body) rest_of l1.1 in
    let l3 = leave_both word.all (happenings other ++ behind) l2.1.1 in
    let l4 = leave_both (happenings other) behind l3.1 in
    let more : Counts = λ n. one n c.0.next + due n in
    let rest : Counts = λ n. one n c.0.end + spare n in
    let v = opened_at context opens c w in
    let opening = inside_word context opens c w more rest extra l.0 e (opened_if limits due spare extra w.labels w.constructs w.output g) in
    let u = run limits context test.all v in
    let tested = inside_quiet limits context test more rest extra c.0 w.constructs v l1.0 opening in
    let first = laid limits context body u in
    let done = inside_body limits context body inner more rest extra c.0 w.constructs u l2.0 tested in
    let j = between limits c.0 first.output in
    let is_if = opened_kind limits Kind.If w.output in
    let left : Counts = λ n. one n j.0.end + due n in
    let joined = joined_if limits due spare extra first.labels c.0 w.constructs first.output is_if done.good in
    let held = inside_held joins j w.constructs first left spare extra l2.1.0 done.none joined in
    let x = holding joins j w.constructs first in
    let worded = inside_quiet limits context word left spare extra j.0 w.constructs x l3.0 held in
    let y = run limits context word.all x in
    let last = inside_body limits context other inner_other left spare extra j.0 w.constructs y l4.0 worded in
    let z = laid limits context other y in
    ended_good limits closes j.0 w.constructs z due spare extra l4.1.0
    (ends_else limits due spare extra z.labels j.0 w.constructs z.output (between_kind limits c.0 first.output ∙ ap kind_behind is_if)
    last.good)

while_good : (b : Bool) (limits : Limits) (context : Context) (opens : Moment) (test : Quiet) (body : Nested false) (closes : Moment) →
    Keeps limits context body → Keeps limits context (While {b = b} opens test body closes)
while_good b limits context opens test body closes inner due spare extra w e l g =
    let c = opened limits Kind.While w.output in
    let behind = Acts closes Action.Close ∷ [] in
    let l1 = leave_both test.all (happenings body ++ behind) l.1 in
    let l2 = leave_both (happenings body) behind l1.1 in
    let more : Counts = λ n. one n c.0.end + due n in
    let v = opened_at context opens c w in
    let word = inside_word context opens c w more spare extra l.0 e
    (opened_while limits due spare extra w.labels w.constructs w.output g) in
    let tested = inside_quiet limits context test more spare extra c.0 w.constructs v l1.0 word in
    let u = run limits context test.all v in
    let done = inside_body limits context body inner more spare extra c.0 w.constructs u l2.0 tested in
    let x = laid limits context body u in
    ended_good limits closes c.0 w.constructs x due spare extra l2.1.0
    (ends_while limits due spare extra x.labels c.0 w.constructs x.output (opened_kind limits Kind.While w.output) done.good)

do_good : (b : Bool) (limits : Limits) (context : Context) (opens : Moment) (body : Nested false) (word : Quiet) (joins : Moment)
    (test : Quiet) (closes : Moment) → Keeps limits context body → Keeps limits context (Do {b = b} opens body word joins test closes)
do_good b limits context opens body word joins test closes inner due spare extra w e l g =
    let c = opened limits Kind.Do w.output in
    let behind = Acts closes Action.Close ∷ [] in
    let rest_of = Acts joins Action.Until ∷ (test.all ++ behind) in
    let l1 = leave_both (happenings body) (word.all ++ rest_of) l.1 in
    let l2 = leave_both word.all rest_of l1.1 in
    let l3 = leave_both test.all behind l2.1.1 in
    let more : Counts = λ n. one n c.0.next + (one n c.0.end + due n) in
    let v = opened_at context opens c w in
    let opening = inside_word context opens c w more spare extra l.0 e
    (opened_do limits due spare extra w.labels w.constructs w.output g) in
    let u = laid limits context body v in
    let done = inside_body limits context body inner more spare extra c.0 w.constructs v l1.0 opening in
    let first = run limits context word.all u in
    let worded = inside_quiet limits context word more spare extra c.0 w.constructs u l2.0 done in
    let j = between limits c.0 first.output in
    let is_do = opened_kind limits Kind.Do w.output in
    let left : Counts = λ n. one n j.0.end + due n in
    let joined = joined_do limits due spare extra first.labels c.0 w.constructs first.output is_do worded.good in
    let held = inside_held joins j w.constructs first left spare extra l2.1.0 worded.none joined in
    let x = holding joins j w.constructs first in
    let tested = inside_quiet limits context test left spare extra j.0 w.constructs x l3.0 held in
    let z = run limits context test.all x in
    ended_good limits closes j.0 w.constructs z due spare extra l3.1.0
    (ends_do limits due spare extra z.labels j.0 w.constructs z.output (between_kind limits c.0 first.output ∙ ap kind_behind is_do)
    tested.good)

-- the step of a `for`, which may be missing
for_stepped : (limits : Limits) (context : Context) (step : Step) (due spare extra : Counts) (c : Construct) (around : List Construct)
    (v : Compilation) → c.kind ≡ Kind.For → c.step ≡ None → AllLeave (step_happenings step) → Inside due spare extra c around v →
    let u = run limits context (step_happenings step) v in
    IsStepped due spare extra u.labels c around u.constructs u.output × (u.closed ≡ 0)
for_stepped limits context NoStep due spare extra c around v e none l i = (
  subst (λ k. IsStepped due spare extra v.labels c around k v.output) (sym i.is)
      (not_stepped due spare extra v.labels c around v.output none i.good),
  i.none,
)
for_stepped limits context (StepEnds step ends) due spare extra c around v e none l i =
    let l1 = leave_both step.all (Acts ends Action.EndForStep ∷ []) l in
    let u = run limits context step.all v in
    let read = inside_quiet limits context step due spare extra c around v l1.0 i in
    let now = act limits context ends.place Action.EndForStep u in
    let s = step_ends_good limits context ends.place due spare extra c around u read.is e none read.good in
    let last = happens limits context (Acts ends Action.EndForStep) u in
    let same = run_then limits context step.all (Acts ends Action.EndForStep ∷ []) v in
    let d = record c { step = s.step } in
    subst (λ (x : Compilation). IsStepped due spare extra x.labels c around x.constructs x.output × (x.closed ≡ 0)) (sym same) (
      record {
        step = s.step;
        is = s.is;
        good = good_still (marks_due s.step due) spare (uses_known s.step extra) now.labels (d ∷ around) now.output
            (ends.behind.output now.output) (l1.1.0 now.output) s.good;
      },
      (step_ends limits context ends.place u c around read.is).1 ∙ read.none,
    )

for_good : (b : Bool) (limits : Limits) (context : Context) (opens : Moment) (start : Quiet) (joins : Moment) (test : Quiet) (step : Step)
    (bracket : Quiet) (body : Nested false) (closes : Moment) → Keeps limits context body →
    Keeps limits context (For {b = b} opens start joins test step bracket body closes)
for_good b limits context opens start joins test step bracket body closes inner due spare extra w e l g =
    let c = opened limits Kind.For w.output in
    let behind = Acts closes Action.Close ∷ [] in
    let last = bracket.all ++ (happenings body ++ behind) in
    let rest_of = Acts joins Action.ForTop ∷ (test.all ++ (step_happenings step ++ last)) in
    let l1 = leave_both start.all rest_of l.1 in
    let l2 = leave_both test.all (step_happenings step ++ last) l1.1.1 in
    let l3 = leave_both (step_happenings step) last l2.1 in
    let l4 = leave_both bracket.all (happenings body ++ behind) l3.1 in
    let l5 = leave_both (happenings body) behind l4.1 in
    let is_for = opened_kind limits Kind.For w.output in
    let v = opened_at context opens c w in
    let opening = inside_word context opens c w (loop_due c.0 due) spare (top_known c.0 extra) l.0 e
    (opened_for limits due spare extra w.labels w.constructs w.output g) in
    let started = run limits context start.all v in
    let first = inside_quiet limits context start (loop_due c.0 due) spare (top_known c.0 extra) c.0 w.constructs v l1.0 opening in
    let j = between limits c.0 started.output in
    let is_j = between_kind limits c.0 started.output ∙ ap kind_behind is_for in
    let no_step = between_step limits c.0 started.output ∙ opened_step limits Kind.For w.output in
    let left : Counts = λ n. one n j.0.next + (one n j.0.end + due n) in
    let known = top_known j.0 extra in
    let joined = joined_for limits due spare extra started.labels c.0 w.constructs started.output is_for first.good in
    let x = holding joins j w.constructs started in
    let held = inside_held joins j w.constructs started left spare known l1.1.0 first.none joined in
    let tested = run limits context test.all x in
    let is_tested = inside_quiet limits context test left spare known j.0 w.constructs x l2.0 held in
    let stepped = run limits context (step_happenings step) tested in
    let s = for_stepped limits context step left spare known j.0 w.constructs tested is_j no_step l3.0 is_tested in
    let d = record j.0 { step = s.0.step } in
    let own = with_step_in stepped.constructs j.0 in
    let same : own ≡ d = ap (λ l. with_step_in l j.0) s.0.is in
    let more = marks_due s.0.step left in
    let other = uses_known s.0.step known in
    let ready = record stepped { constructs = own ∷ w.constructs } in
    let is_ready : Inside more spare other d w.constructs ready = record {
      good = s.0.good;
      is = ap (λ (k : Construct). k ∷ w.constructs) same;
      none = s.1;
    } in
    let read = run limits context bracket.all ready in
    let is_read = inside_quiet limits context bracket more spare other d w.constructs ready l4.0 is_ready in
    let done = inside_body limits context body inner more spare other d w.constructs read l5.0 is_read in
    let z = laid limits context body read in
    ended_good limits closes own w.constructs z due spare extra l5.1.0
    (subst (λ k. Good due spare extra z.labels w.constructs (closed limits k z.output)) (sym same)
    (ends_for limits due spare extra z.labels d w.constructs z.output is_j done.good))

loop_good : (b : Bool) (limits : Limits) (context : Context) (opens : Moment) (loop : Quiet) (ends joins : Moment) (bracket : Quiet)
    (body : Nested false) (closes : Moment) → Keeps limits context body →
    Keeps limits context (Objectloop {b = b} opens loop ends joins bracket body closes)
loop_good b limits context opens loop ends joins bracket body closes inner due spare extra w e l g =
    let k = Kind.Objects Over.Nothing 0 in
    let c = opened limits k w.output in
    let behind = Acts closes Action.Close ∷ [] in
    let rest_of = Acts ends Action.EndObjectloop ∷ (Acts joins Action.Loop ∷ (bracket.all ++ (happenings body ++ behind))) in
    let l1 = leave_both loop.all rest_of l.1 in
    let l2 = leave_both bracket.all (happenings body ++ behind) l1.1.1.1 in
    let l3 = leave_both (happenings body) behind l2.1 in
    let v = opened_at context opens c w in
    let opening = inside_word context opens c w (loop_due c.0 due) spare (top_known c.0 extra) l.0 e
    (opened_objects limits due spare extra w.labels w.constructs w.output g) in
    let unit = run limits context loop.all v in
    let read = inside_quiet limits context loop (loop_due c.0 due) spare (top_known c.0 extra) c.0 w.constructs v l1.0 opening in
    let is_loop = opened_kind limits k w.output in
    let now = act limits context ends.place Action.EndObjectloop unit in
    let s = loop_ends_good limits context ends.place due spare extra c.0 w.constructs unit read.is is_loop read.good in
    let looped = happens limits context (Acts ends Action.EndObjectloop) unit in
    let d = record c.0 { kind = Kind.Objects s.how s.variable } in
    let own = with_kind_in looped.constructs c.0 in
    let same : own ≡ d = ap (λ l. with_kind_in l c.0) s.is in
    let before = good_still (objects_due s.how c.0 due) spare (top_known c.0 extra) now.labels (d ∷ w.constructs) now.output
    (ends.behind.output now.output) (l1.1.0 now.output) s.good in
    let none = (loop_ends limits context ends.place unit c.0 w.constructs read.is).1 ∙ read.none in
    let j = between limits d looped.output in
    let is_j = between_kind limits d looped.output in
    let left : Counts = λ n. one n j.0.next + (one n j.0.end + due n) in
    let known = top_known j.0 extra in
    let joined = joined_objects limits s.how s.variable due spare extra looped.labels d w.constructs looped.output refl before in
    let x = holding joins j w.constructs looped in
    let held = inside_held joins j w.constructs looped left spare known l1.1.1.0 none joined in
    let u = run limits context bracket.all x in
    let is_u = inside_quiet limits context bracket left spare known j.0 w.constructs x l2.0 held in
    let done = inside_body limits context body inner left spare known j.0 w.constructs u l3.0 is_u in
    let z = laid limits context body u in
    subst (λ (k : Construct).
    let i = between limits k looped.output in
    Balanced due spare extra (ended_as limits closes i.0 w.constructs (laid limits context body
    (run limits context bracket.all (holding joins i w.constructs looped))))) (sym same)
    (ended_good limits closes j.0 w.constructs z due spare extra l3.1.0
    (ends_objects limits due spare extra z.labels j.0 w.constructs z.output s.how s.variable is_j done.good))

switch_good : (b : Bool) (limits : Limits) (context : Context) (opens : Moment) (value : Quiet) (cases : Nested true) (brace : Quiet)
    (closes : Moment) → Keeps limits context cases → Keeps limits context (Switch {b = b} opens value cases brace closes)
switch_good b limits context opens value cases brace closes inner due spare extra w e l g =
    let k = Kind.Switch case.Nothing false in
    let c = opened limits k w.output in
    let behind = Acts closes Action.Close ∷ [] in
    let l1 = leave_both value.all (happenings cases ++ (brace.all ++ behind)) l.1 in
    let l2 = leave_both (happenings cases) (brace.all ++ behind) l1.1 in
    let l3 = leave_both brace.all behind l2.1 in
    let v = opened_at context opens c w in
    let opening = inside_word context opens c w due spare extra l.0 e
    (opened_switch limits due spare extra w.labels w.constructs w.output g) in
    let valued = run limits context value.all v in
    let is_valued = inside_quiet limits context value due spare extra c.0 w.constructs v l1.0 opening in
    let whole = laid_as limits context cases valued is_valued.none in
    let u = laid limits context cases valued in
    let h = whole.holds c.0 w.constructs is_valued.is in
    let d = record c.0 { kind = h.0 } in
    let stays = switch_stays limits context cases valued is_valued.none
    (ap case_inside is_valued.is ∙ ap case_kind (opened_kind limits k w.output)) in
    let is_case : case_kind h.0 ≡ true = sym (ap case_inside h.1) ∙ stays in
    let is_u = inside_as due spare extra d w.constructs u h.1 whole.none_ahead
    (inner due spare extra valued is_valued.none l2.0 (balanced_in due spare extra c.0 w.constructs valued is_valued)) in
    let inside = run limits context brace.all u in
    let is_inside = inside_quiet limits context brace due spare extra d w.constructs u l3.0 is_u in
    let own = with_kind_in inside.constructs c.0 in
    let same : own ≡ d = ap (λ l. with_kind_in l c.0) is_inside.is in
    ended_good limits closes own w.constructs inside due spare extra l3.1.0
    (subst (λ k. Good due spare extra inside.labels w.constructs (closed limits k inside.output)) (sym same)
    (ends_case_kind limits h.0 due spare extra inside.labels d w.constructs inside.output refl is_case is_inside.good))

pub keeps_all : {b : Bool} (limits : Limits) (context : Context) (n : Nested b) → Keeps limits context n
keeps_all limits context (Plain plain) due spare extra w e l g = quiet_good limits context plain.all due spare extra w plain.are l g
keeps_all limits context (Then before behind) due spare extra w e l g =
    let both = leave_both (happenings before) (happenings behind) l in
    keeps_all limits context behind due spare extra (laid limits context before w) (laid_as limits context before w e).none_ahead both.1
    (keeps_all limits context before due spare extra w e both.0 g)
keeps_all limits context (Case values ends) due spare extra w e l g =
    let both = leave_both values.all (Acts ends Action.EndCase ∷ []) l in
    let v = run limits context values.all w in
    let now = act limits context ends.place Action.EndCase v in
    good_still due spare extra now.labels now.constructs now.output (ends.behind.output now.output) (both.1.0 now.output)
    (case_ends_good limits context ends.place due spare extra v
    (quiet_good limits context values.all due spare extra w values.are both.0 g))
keeps_all limits context (If {b} opens test body closes) due spare extra w e l g =
    if_good b limits context opens test body closes (keeps_all limits context body) due spare extra w e l g
keeps_all limits context (IfElse {b} opens test body joins word other closes) due spare extra w e l g =
    else_good b limits context opens test body joins word other closes (keeps_all limits context body)
    (keeps_all limits context other) due spare extra w e l g
keeps_all limits context (While {b} opens test body closes) due spare extra w e l g =
    while_good b limits context opens test body closes (keeps_all limits context body) due spare extra w e l g
keeps_all limits context (Do {b} opens body word joins test closes) due spare extra w e l g =
    do_good b limits context opens body word joins test closes (keeps_all limits context body) due spare extra w e l g
keeps_all limits context (For {b} opens start joins test step bracket body closes) due spare extra w e l g =
    for_good b limits context opens start joins test step bracket body closes (keeps_all limits context body) due spare extra w e l g
keeps_all limits context (Objectloop {b} opens loop ends joins bracket body closes) due spare extra w e l g =
    loop_good b limits context opens loop ends joins bracket body closes (keeps_all limits context body) due spare extra w e l g
keeps_all limits context (Switch {b} opens value cases brace closes) due spare extra w e l g =
    switch_good b limits context opens value cases brace closes (keeps_all limits context cases) due spare extra w e l g

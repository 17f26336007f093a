-- Nested statements are laid as a whole.
use Rattle.std.proofs.Common.{◌≡◌, ℕ, suc, ◌-◌, List, [], ◌∷◌, ◌++◌, Bool, true, false, if◌then◌else◌, Option, Some, None, refl, sym, ◌∙◌}
use Rattle.std.proofs.Common.{ap, subst, arith, length, max, nat_lt}
use Rattle.std.proofs.lemmas.Bool.{lt-ltb}
use Rattle.inf_settings.specs.Bounds.{Limits}
use Rattle.inf_scanner.specs.declared.tokens.Place.{Place}
use Rattle.inf_machine.specs.{Grammar.IsOneOf, Grammar.first, Grammar.later, declared.symbols.Symbol.Symbol}
use Rattle.inf_syntax.specs.declared.actions.Action.{Action}
use Rattle.inf_output.specs.Output.{Out}
use Rattle.inf_compilation.specs.{Actions.Compilation, Actions.is_deep, Actions.nested, Context.Context}
use Rattle.inf_compilation.specs.Nesting.{closed_ahead, construct_closed, construct_ended, construct_joined, construct_opened}
use Rattle.inf_compilation.specs.Nesting.{constructs_laid}
use Rattle.inf_unit.specs.Units.{last_place}
use Rattle.inf_unit.proofs.Cases.{of_both}
use Rattle.inf_constructs.specs.{declared.constructs.Construct.Construct, declared.constructs.Kind.Kind, declared.constructs.Over.Over}
use Rattle.inf_constructs.specs.Constructs.{all_ended, are_cases, begun, between, changed, depth, depth_by, ended, opened, outermost}
use Rattle.inf_constructs.specs.declared.constructs.Case.TheVariants as case
use Rattle.inf_reader.specs.Acting.{act}
use Rattle.inf_statement_laws.specs.Happenings.{Acts, Between, Happening, IsRead, Moment, Quiet, bodies, rests}
use Rattle.inf_statement_laws.specs.Nested.{Case, Do, For, If, IfElse, Nested, NoStep, Objectloop, Plain, Step, StepEnds, Switch, Then}
use Rattle.inf_statement_laws.specs.Nested.{While, happenings, step_happenings}
use Rattle.inf_statement_laws.specs.Laid.{ended_as, happens, holding, laid, opened_at, passed, run, with_kind_in, with_step_in}
use Rattle.inf_statement_laws.specs.Laws.{ClosingAheadIsClosing, EndsOpen, IsWhole, LeavesOpen, RoutinesAreLaidWhole}
use Rattle.inf_statement_laws.specs.Laws.{StatementsAreLaidWhole, StatementsLeaveWhatIsOpen, UnitsKeepLabels, endings}
use Rattle.inf_statement_laws.proofs.Acts.{KindIn, StepIn, case_alone, case_ends, case_none_ahead, loop_ends, own_alone, quiet_run}
use Rattle.inf_statement_laws.proofs.Acts.{step_ends}
use Rattle.inf_statement_laws.proofs.Nesting.{Compound, body_is_nested, do_is_nested, embedded_is_nested, for_is_nested, if_is_nested}
use Rattle.inf_statement_laws.proofs.Nesting.{objectloop_is_nested, statement_is_nested, switch_is_nested, while_is_nested}

-- Lemmas about happenings behind others

pub run_then : (limits : Limits) (context : Context) (xs ys : List Happening) (w : Compilation) →
    run limits context (xs ++ ys) w ≡ run limits context ys (run limits context xs w)
run_then limits context [] ys w = refl
run_then limits context (x ∷ xs) ys w = run_then limits context xs ys (happens limits context x w)

-- Lemmas about the innermost of the open statements, with none closed ahead

record At (c : Construct) (around : List Construct) (w : Compilation) : Type 0 where
  is : w.constructs ≡ c ∷ around
  none_ahead : w.closed ≡ 0

at_quiet : (limits : Limits) (context : Context) (q : Quiet) (c : Construct) (around : List Construct) (w : Compilation) → At c around w
    → At c around (run limits context q.all w)
at_quiet limits context q c around w at =
    let same = quiet_run limits context q.all w q.are in record { is = same.0 ∙ at.is; none_ahead = same.1 ∙ at.none_ahead }

at_holding : (at : Moment) (c : Construct × Out) (around : List Construct) (w : Compilation) → w.closed ≡ 0 →
    At c.0 around (holding at c around w)
at_holding at c around w e = record { is = refl; none_ahead = e }

nested_is : (context : Context) (place : Place) (b : Bool) (w : Compilation)
    → nested context place b w ≡ record w { report = (nested context place b w).report }
nested_is context place true w = refl
nested_is context place false w = refl

opening_is : (limits : Limits) (context : Context) (at : Moment) (k : Kind) (w : Compilation)
    → passed at.behind (construct_opened limits context at.place k w) ≡ opened_at context at (opened limits k w.output) w
opening_is limits context at k w = ap (λ (told : Compilation). passed at.behind (constructs_laid (begun limits k told.constructs) told))
    (nested_is context (last_place w.unit.tokens at.place) (is_deep w 1) w)

joining_is : (limits : Limits) (joins : Moment) (c : Construct) (around : List Construct) (w : Compilation) → At c around w
    → passed joins.behind (construct_joined limits w) ≡ holding joins (between limits c w.output) around w
joining_is limits joins c around w at = ap (λ l. passed joins.behind (constructs_laid (changed (between limits) l) w)) at.is

pub closing_open : (limits : Limits) (w : Compilation) → w.closed ≡ 0 → construct_closed limits w ≡ construct_ended limits w
closing_open limits w e = ap (λ n. if nat_lt 0 n then record w { closed = n - 1 } else construct_ended limits w) e

closing_is : (limits : Limits) (closes : Moment) (c : Construct) (around : List Construct) (w : Compilation) → At c around w
    → passed closes.behind (construct_closed limits w) ≡ ended_as limits closes c around w
closing_is limits closes c around w at =
    ap (passed closes.behind) (closing_open limits w at.none_ahead ∙ ap (λ l. constructs_laid (ended limits l) w) at.is)

-- Tells whether the open statements are the same behind happenings; in a `switch` the innermost may be of another kind.
abbrev pub Holds : Bool → List Construct → List Construct → Type 0
Holds false before after = after ≡ before
Holds true before after = (c : Construct) (around : List Construct) → before ≡ c ∷ around → KindIn c around after

holds_same : (b : Bool) (before after : List Construct) → after ≡ before → Holds b before after
holds_same false before after e = e
holds_same true before after e = λ c around is. (c.kind, e ∙ is)

holds_then : (b : Bool) (x y z : List Construct) → Holds b x y → Holds b y z → Holds b x z
holds_then false x y z f g = g ∙ f
holds_then true x y z f g = λ c around is. let k = f c around is in let l = g (record c { kind = k.0 }) around k.1 in (l.0, l.1)

pub record IsLaid (limits : Limits) {b : Bool} (context : Context) (n : Nested b) (w : Compilation) : Type 0 where
  pub runs : run limits context (happenings n) w ≡ laid limits context n w
  pub holds : Holds b w.constructs (laid limits context n w).constructs
  pub none_ahead : (laid limits context n w).closed ≡ 0

abbrev pub Inner : {b : Bool} → Limits → Context → Nested b → Type 0
Inner limits context n = (w : Compilation) → w.closed ≡ 0 → IsLaid limits context n w

at_body : (limits : Limits) (context : Context) (body : Nested false) → Inner limits context body →
    (c : Construct) (around : List Construct) (w : Compilation)
    → At c around w → At c around (laid limits context body w)
at_body limits context body inner c around w at =
    let i = inner w at.none_ahead in record { is = i.holds ∙ at.is; none_ahead = i.none_ahead }

-- the closing behind other happenings
abbrev close : Moment → List Happening
close at = Acts at Action.Close ∷ []

-- Tells whether a statement ends where the happenings before its closing leave it as the innermost.
record Ends (limits : Limits) (context : Context) (hs : List Happening) (v : Compilation) (c : Construct) (around : List Construct)
    (closes : Moment)
    (w : Compilation) : Type 0 where
  runs : run limits context hs v ≡ ended_as limits closes c around w
  none_ahead : w.closed ≡ 0

closed_behind : (limits : Limits) (context : Context) (c : Construct) (around : List Construct) (closes : Moment) (xs : List Happening)
    (v w : Compilation)
    → run limits context xs v ≡ w → At c around w
    → Ends limits context (xs ++ close closes) v c around closes w
closed_behind limits context c around closes xs v w e at = record {
  runs = run_then limits context xs (close closes) v ∙ (ap (run limits context (close closes)) e ∙ closing_is limits closes c around w at);
  none_ahead = at.none_ahead;
}

-- a body, and the closing
body_closed : (limits : Limits) (context : Context) (body : Nested false) → Inner limits context body
    → (c : Construct) (around : List Construct) (closes : Moment) (v : Compilation) → At c around v
    → Ends limits context (happenings body ++ close closes) v c around closes (laid limits context body v)
body_closed limits context body inner c around closes v at =
    closed_behind limits context c around closes (happenings body) v (laid limits context body v) (inner v at.none_ahead).runs
    (at_body limits context body inner c around v at)

-- quiet happenings, a body, and the closing
quiet_body_closed : (limits : Limits) (context : Context) (q : Quiet) (body : Nested false) → Inner limits context body
    → (c : Construct) (around : List Construct) (closes : Moment) (v : Compilation) → At c around v
    → Ends limits context (q.all ++ (happenings body ++ close closes)) v c around closes
    (laid limits context body (run limits context q.all v))
quiet_body_closed limits context q body inner c around closes v at =
    let ends =
    body_closed limits context body inner c around closes (run limits context q.all v) (at_quiet limits context q c around v at) in
    record { runs = run_then limits context q.all (happenings body ++ close closes) v ∙ ends.runs; none_ahead = ends.none_ahead }

-- the compilation behind the word of a statement
abbrev word_read : Limits → Context → Moment → Kind → Compilation → Compilation
word_read limits context opens k w = opened_at context opens (opened limits k w.output) w

at_word : (limits : Limits) (context : Context) (opens : Moment) (k : Kind) (w : Compilation) → w.closed ≡ 0
    → At (opened limits k w.output).0 w.constructs (word_read limits context opens k w)
at_word limits context opens k w e = record { is = refl; none_ahead = e }

-- A statement that is laid as a whole
record Whole (limits : Limits) {b : Bool} (context : Context) (n : Nested b) (w : Compilation) : Type 0 where
  runs : run limits context (happenings n) w ≡ laid limits context n w
  none_ahead : (laid limits context n w).closed ≡ 0

if_is : {b : Bool} (limits : Limits) (context : Context) (opens : Moment) (test : Quiet) (body : Nested false) (closes : Moment)
    (w : Compilation) →
    w.closed ≡ 0
    → Inner limits context body → Whole limits context (If {b = b} opens test body closes) w
if_is limits context opens test body closes w e inner =
    let end = quiet_body_closed limits context test body inner (opened limits Kind.If w.output).0 w.constructs closes
    (word_read limits context opens Kind.If w)
    (at_word limits context opens Kind.If w e) in
    record {
      runs = ap (run limits context (test.all ++ (happenings body ++ close closes))) (opening_is limits context opens Kind.If w) ∙ end.runs;
      none_ahead = end.none_ahead;
    }

while_is : {b : Bool} (limits : Limits) (context : Context) (opens : Moment) (test : Quiet) (body : Nested false) (closes : Moment)
    (w : Compilation) →
    w.closed ≡ 0
    → Inner limits context body → Whole limits context (While {b = b} opens test body closes) w
while_is limits context opens test body closes w e inner =
    let end = quiet_body_closed limits context test body inner (opened limits Kind.While w.output).0 w.constructs closes
    (word_read limits context opens Kind.While w) (at_word limits context opens Kind.While w e) in
    record {
      runs = ap (run limits context (test.all ++ (happenings body ++ close closes))) (opening_is limits context opens Kind.While w)
          ∙ end.runs;
      none_ahead = end.none_ahead;
    }

else_is : {b : Bool} (limits : Limits) (context : Context) (opens : Moment) (test : Quiet) (body : Nested false) (joins : Moment)
    (word : Quiet)
    (other : Nested false) (closes : Moment) (w : Compilation) → w.closed ≡ 0
    → Inner limits context body → Inner limits context other → Whole limits context (IfElse {b = b} opens test body joins word other closes)
    w
else_is limits context opens test body joins word other closes w e inner inner_other =
    let rest : List Happening = word.all ++ (happenings other ++ close closes) in
    let c = opened limits Kind.If w.output in
    let v = word_read limits context opens Kind.If w in
    let tested = run limits context test.all v in
    let at_test = at_quiet limits context test c.0 w.constructs v (at_word limits context opens Kind.If w e) in
    let first = laid limits context body tested in
    let at = at_body limits context body inner c.0 w.constructs tested at_test in
    let joined = between limits c.0 first.output in
    let end = quiet_body_closed limits context word other inner_other joined.0 w.constructs closes (holding joins joined w.constructs first)
    (at_holding joins joined w.constructs first at.none_ahead) in
    record {
      runs = ap (run limits context (test.all ++ (happenings body ++ Acts joins Action.Else ∷ rest)))
          (opening_is limits context opens Kind.If w)
          ∙ (run_then limits context test.all (happenings body ++ Acts joins Action.Else ∷ rest) v
          ∙ (run_then limits context (happenings body) (Acts joins Action.Else ∷ rest) tested
          ∙ (ap (run limits context (Acts joins Action.Else ∷ rest)) (inner tested at_test.none_ahead).runs
          ∙ (ap (run limits context rest) (joining_is limits joins c.0 w.constructs first at)
          ∙ end.runs))));
      none_ahead = end.none_ahead;
    }

do_is : {b : Bool} (limits : Limits) (context : Context) (opens : Moment) (body : Nested false) (word : Quiet) (joins : Moment)
    (test : Quiet)
    (closes : Moment) (w : Compilation) → w.closed ≡ 0 → Inner limits context body
    → Whole limits context (Do {b = b} opens body word joins test closes) w
do_is limits context opens body word joins test closes w e inner =
    let rest : List Happening = test.all ++ close closes in
    let c = opened limits Kind.Do w.output in
    let v = word_read limits context opens Kind.Do w in
    let at_v = at_word limits context opens Kind.Do w e in
    let done = laid limits context body v in
    let first = run limits context word.all done in
    let at = at_quiet limits context word c.0 w.constructs done (at_body limits context body inner c.0 w.constructs v at_v) in
    let joined = between limits c.0 first.output in
    let behind = holding joins joined w.constructs first in
    let at_behind = at_holding joins joined w.constructs first at.none_ahead in
    let end = closed_behind limits context joined.0 w.constructs closes test.all behind (run limits context test.all behind) refl
    (at_quiet limits context test joined.0 w.constructs behind at_behind) in
    record {
      runs = ap (run limits context (happenings body ++ (word.all ++ Acts joins Action.Until ∷ rest)))
          (opening_is limits context opens Kind.Do w)
          ∙ (run_then limits context (happenings body) (word.all ++ Acts joins Action.Until ∷ rest) v
          ∙ (ap (run limits context (word.all ++ Acts joins Action.Until ∷ rest)) (inner v at_v.none_ahead).runs
          ∙ (run_then limits context word.all (Acts joins Action.Until ∷ rest) done
          ∙ (ap (run limits context rest) (joining_is limits joins c.0 w.constructs first at)
          ∙ end.runs))));
      none_ahead = end.none_ahead;
    }

-- Lemmas about the step of a `for`

kept_step : (c : Construct) (around constructs : List Construct) → StepIn c around constructs
    → constructs ≡ with_step_in constructs c ∷ around
kept_step c around constructs k = k.1 ∙ ap (λ d. d ∷ around) (sym (ap (λ l. with_step_in l c) k.1))

at_step : (limits : Limits) (context : Context) (step : Step) (c : Construct) (around : List Construct) (w : Compilation) → At c around w
    → At (with_step_in (run limits context (step_happenings step) w).constructs c) around (run limits context (step_happenings step) w)
at_step limits context NoStep c around w at = record { is = kept_step c around w.constructs (c.step, at.is); none_ahead = at.none_ahead }
at_step limits context (StepEnds step ends) c around w at =
    let front = run limits context step.all w in
    let at_front = at_quiet limits context step c around w at in
    let s = step_ends limits context ends.place front c around at_front.is in
    let same = run_then limits context step.all (Acts ends Action.EndForStep ∷ []) w in
    subst (λ v. At (with_step_in v.constructs c) around v) (sym same)
    (record {
      is = kept_step c around (happens limits context (Acts ends Action.EndForStep) front).constructs s.0;
      none_ahead = s.1 ∙ at_front.none_ahead;
    })

-- a statement that is open already is held
held : (c : Construct) (around : List Construct) (w : Compilation) → At c around w → w ≡ record w { constructs = c ∷ around }
held c around w at = ap (λ l. record w { constructs = l }) at.is

for_is : {b : Bool} (limits : Limits) (context : Context) (opens : Moment) (start : Quiet) (joins : Moment) (test : Quiet) (step : Step)
    (bracket : Quiet)
    (body : Nested false) (closes : Moment) (w : Compilation)
    → w.closed ≡ 0 → Inner limits context body → Whole limits context (For {b = b} opens start joins test step bracket body closes) w
for_is limits context opens start joins test step bracket body closes w e inner =
    let last : List Happening = bracket.all ++ (happenings body ++ close closes) in
    let rest : List Happening = test.all ++ (step_happenings step ++ last) in
    let c = opened limits Kind.For w.output in
    let v = word_read limits context opens Kind.For w in
    let started = run limits context start.all v in
    let at = at_quiet limits context start c.0 w.constructs v (at_word limits context opens Kind.For w e) in
    let top = between limits c.0 started.output in
    let behind = holding joins top w.constructs started in
    let at_top = at_holding joins top w.constructs started at.none_ahead in
    let tested = run limits context test.all behind in
    let stepped = run limits context (step_happenings step) tested in
    let own = with_step_in stepped.constructs top.0 in
    let at_own = at_step limits context step top.0 w.constructs tested (at_quiet limits context test top.0 w.constructs behind at_top) in
    let ready = record stepped { constructs = own ∷ w.constructs } in
    let end = quiet_body_closed limits context bracket body inner own w.constructs closes ready
    (record { is = refl; none_ahead = at_own.none_ahead }) in
    record {
      runs = ap (run limits context (start.all ++ Acts joins Action.ForTop ∷ rest)) (opening_is limits context opens Kind.For w)
          ∙ (run_then limits context start.all (Acts joins Action.ForTop ∷ rest) v
          ∙ (ap (run limits context rest) (joining_is limits joins c.0 w.constructs started at)
          ∙ (run_then limits context test.all (step_happenings step ++ last) behind
          ∙ (run_then limits context (step_happenings step) last tested
          ∙ (ap (run limits context last) (held own w.constructs stepped at_own)
          ∙ end.runs)))));
      none_ahead = end.none_ahead;
    }

-- The innermost statement is of another kind

kept_kind : (c : Construct) (around constructs : List Construct) → KindIn c around constructs
    → constructs ≡ with_kind_in constructs c ∷ around
kept_kind c around constructs k = k.1 ∙ ap (λ d. d ∷ around) (sym (ap (λ l. with_kind_in l c) k.1))

loop_is : {b : Bool} (limits : Limits) (context : Context) (opens : Moment) (loop : Quiet) (ends joins : Moment) (bracket : Quiet)
    (body : Nested false)
    (closes : Moment) (w : Compilation) → w.closed ≡ 0 → Inner limits context body
    → Whole limits context (Objectloop {b = b} opens loop ends joins bracket body closes) w
loop_is limits context opens loop ends joins bracket body closes w e inner =
    let rest : List Happening = bracket.all ++ (happenings body ++ close closes) in
    let k = Kind.Objects Over.Nothing 0 in
    let c = opened limits k w.output in
    let v = word_read limits context opens k w in
    let unit = run limits context loop.all v in
    let at = at_quiet limits context loop c.0 w.constructs v (at_word limits context opens k w e) in
    let looped = happens limits context (Acts ends Action.EndObjectloop) unit in
    let l = loop_ends limits context ends.place unit c.0 w.constructs at.is in
    let own = with_kind_in looped.constructs c.0 in
    let none : looped.closed ≡ 0 = l.1 ∙ at.none_ahead in
    let joined = between limits own looped.output in
    let end = quiet_body_closed limits context bracket body inner joined.0 w.constructs closes (holding joins joined w.constructs looped)
    (at_holding joins joined w.constructs looped none) in
    record {
      runs = ap (run limits context (loop.all ++ Acts ends Action.EndObjectloop ∷ Acts joins Action.Loop ∷ rest))
          (opening_is limits context opens k w)
          ∙ (run_then limits context loop.all (Acts ends Action.EndObjectloop ∷ Acts joins Action.Loop ∷ rest) v
          ∙ (ap (run limits context rest) (joining_is limits joins own w.constructs looped
          (record { is = kept_kind c.0 w.constructs looped.constructs l.0; none_ahead = none }))
          ∙ end.runs));
      none_ahead = end.none_ahead;
    }

switch_is : {b : Bool} (limits : Limits) (context : Context) (opens : Moment) (value : Quiet) (cases : Nested true) (brace : Quiet)
    (closes : Moment)
    (w : Compilation) → w.closed ≡ 0 → Inner limits context cases
    → Whole limits context (Switch {b = b} opens value cases brace closes) w
switch_is limits context opens value cases brace closes w e inner =
    let k = Kind.Switch case.Nothing false in
    let c = opened limits k w.output in
    let v = word_read limits context opens k w in
    let valued = run limits context value.all v in
    let at = at_quiet limits context value c.0 w.constructs v (at_word limits context opens k w e) in
    let done = laid limits context cases valued in
    let i = inner valued at.none_ahead in
    let h = i.holds c.0 w.constructs at.is in
    let inside = run limits context brace.all done in
    let at_inside =
    at_quiet limits context brace (record c.0 { kind = h.0 }) w.constructs done (record { is = h.1; none_ahead = i.none_ahead }) in
    let own = with_kind_in inside.constructs c.0 in
    let at_own : At own w.constructs inside = record {
      is = kept_kind c.0 w.constructs inside.constructs (h.0, at_inside.is);
      none_ahead = at_inside.none_ahead;
    } in
    let end = closed_behind limits context own w.constructs closes brace.all done inside refl at_own in
    record {
      runs = ap (run limits context (value.all ++ (happenings cases ++ (brace.all ++ close closes)))) (opening_is limits context opens k w)
          ∙ (run_then limits context value.all (happenings cases ++ (brace.all ++ close closes)) v
          ∙ (run_then limits context (happenings cases) (brace.all ++ close closes) valued
          ∙ (ap (run limits context (brace.all ++ close closes)) i.runs
          ∙ end.runs)));
      none_ahead = end.none_ahead;
    }

-- Lemmas about each nested statement

pub laid_as : {b : Bool} (limits : Limits) (context : Context) (n : Nested b) → Inner limits context n
laid_as limits context (Plain {b} plain) w e =
    let same = quiet_run limits context plain.all w plain.are in
    record { runs = refl; holds = holds_same b w.constructs (run limits context plain.all w).constructs same.0; none_ahead = same.1 ∙ e }
laid_as limits context (Then {b} before behind) w e =
    let one = laid_as limits context before w e in
    let v = laid limits context before w in
    let two = laid_as limits context behind v one.none_ahead in
    record {
      runs = run_then limits context (happenings before) (happenings behind) w
          ∙ (ap (run limits context (happenings behind)) one.runs ∙ two.runs);
      holds = holds_then b w.constructs v.constructs (laid limits context behind v).constructs one.holds two.holds;
      none_ahead = two.none_ahead;
    }
laid_as limits context (Case values ends) w e =
    let v = run limits context values.all w in
    let same = quiet_run limits context values.all w values.are in
    record {
      runs = run_then limits context values.all (Acts ends Action.EndCase ∷ []) w;
      holds = λ c around is. case_ends limits context ends.place v c around (same.0 ∙ is);
      none_ahead = case_none_ahead limits context ends.place v ∙ (same.1 ∙ e);
    }
laid_as limits context (If {b} opens test body closes) w e =
    let whole = if_is {b = b} limits context opens test body closes w e (laid_as limits context body) in
    record { runs = whole.runs; holds = holds_same b w.constructs w.constructs refl; none_ahead = whole.none_ahead }
laid_as limits context (IfElse {b} opens test body joins word other closes) w e =
    let whole = else_is {b = b} limits context opens test body joins word other closes w e (laid_as limits context body)
    (laid_as limits context other) in
    record { runs = whole.runs; holds = holds_same b w.constructs w.constructs refl; none_ahead = whole.none_ahead }
laid_as limits context (While {b} opens test body closes) w e =
    let whole = while_is {b = b} limits context opens test body closes w e (laid_as limits context body) in
    record { runs = whole.runs; holds = holds_same b w.constructs w.constructs refl; none_ahead = whole.none_ahead }
laid_as limits context (Do {b} opens body word joins test closes) w e =
    let whole = do_is {b = b} limits context opens body word joins test closes w e (laid_as limits context body) in
    record { runs = whole.runs; holds = holds_same b w.constructs w.constructs refl; none_ahead = whole.none_ahead }
laid_as limits context (For {b} opens start joins test step bracket body closes) w e =
    let whole = for_is {b = b} limits context opens start joins test step bracket body closes w e (laid_as limits context body) in
    record { runs = whole.runs; holds = holds_same b w.constructs w.constructs refl; none_ahead = whole.none_ahead }
laid_as limits context (Objectloop {b} opens loop ends joins bracket body closes) w e =
    let whole = loop_is {b = b} limits context opens loop ends joins bracket body closes w e (laid_as limits context body) in
    record { runs = whole.runs; holds = holds_same b w.constructs w.constructs refl; none_ahead = whole.none_ahead }
laid_as limits context (Switch {b} opens value cases brace closes) w e =
    let whole = switch_is {b = b} limits context opens value cases brace closes w e (laid_as limits context cases) in
    record { runs = whole.runs; holds = holds_same b w.constructs w.constructs refl; none_ahead = whole.none_ahead }

-- Proofs of the laws

whole_of : {b : Bool} (limits : Limits) (context : Context) (s : Nested b) (hs : List Happening) → happenings s ≡ hs →
    IsWhole limits context s hs
whole_of limits context s hs same =
    record { same = same; lays = λ w e. sym (ap (λ l. run limits context l w) same) ∙ (laid_as limits context s w e).runs }

leaves_open : (limits : Limits) (context : Context) (s : Nested false) (hs : List Happening) → happenings s ≡ hs →
    LeavesOpen limits context hs
leaves_open limits context s hs same w e =
    let i = laid_as limits context s w e in
    let runs = sym (ap (λ l. run limits context l w) same) ∙ i.runs in
    record {
      same = ap (λ (v : Compilation). v.constructs) runs ∙ i.holds;
      none_ahead = ap (λ (v : Compilation). v.closed) runs ∙ i.none_ahead;
    }

rest_nested : (rest : Symbol Action) (hs : List Happening) → IsOneOf rest rests → IsRead rest hs → Compound false rest hs
rest_nested rest hs first is = if_is_nested hs is
rest_nested rest hs (later first) is = while_is_nested hs is
rest_nested rest hs (later (later first)) is = do_is_nested hs is
rest_nested rest hs (later (later (later first))) is = for_is_nested hs is
rest_nested rest hs (later (later (later (later first)))) is = objectloop_is_nested hs is
rest_nested rest hs (later (later (later (later (later first))))) is = switch_is_nested hs is
rest_nested rest hs (later (later (later (later (later (later m)))))) is = elim m [ ]

pub statements_leave_what_is_open : (limits : Limits) → StatementsLeaveWhatIsOpen limits
statements_leave_what_is_open limits = record {
  of_statements = λ context hs is. let n = statement_is_nested hs is in leaves_open limits context n.0 hs n.1;
  of_rests = λ context rest hs m is. let n = rest_nested rest hs m is in leaves_open limits context n.nested hs n.same;
}

pub statements_are_laid_whole : (limits : Limits) → StatementsAreLaidWhole limits
statements_are_laid_whole limits = record {
  of_statements = λ context hs is. let n = statement_is_nested hs is in (n.0, whole_of limits context n.0 hs n.1);
  of_rests = λ context rest hs m is. let n = rest_nested rest hs m is in (n.nested, n.is, whole_of limits context n.nested hs n.same);
}

-- Lemmas about routines

pub alone_behind : {b : Bool} (limits : Limits) (context : Context) (n : Nested b) (w : Compilation) → w.closed ≡ 0 →
    own_alone w.constructs ≡ true
    → own_alone (laid limits context n w).constructs ≡ true
alone_behind limits context (Plain plain) w e h = ap own_alone (quiet_run limits context plain.all w plain.are).0 ∙ h
alone_behind limits context (Then before behind) w e h =
    let one = laid_as limits context before w e in
    alone_behind limits context behind (laid limits context before w) one.none_ahead (alone_behind limits context before w e h)
alone_behind limits context (Case values ends) w e h = case_alone limits context ends.place (run limits context values.all w)
    (ap own_alone (quiet_run limits context values.all w values.are).0 ∙ h)
alone_behind limits context other w e h = h

-- the depth is not 0 where two statements are open, or one that is not the routine's own cases
more_by : (k : Option Kind) (n : ℕ) → depth_by k (suc (suc n)) ≡ 0 → ⊥
more_by None n e = omega (arith, e)
more_by (Some k) n e = of_both (λ m. m ≡ 0 → ⊥) (are_cases k) (suc (suc n) - 1) (suc (suc n)) (λ _ f. omega (arith, f))
    (λ _ f. omega (arith, f)) e

one_by : (b : Bool) → (if b then 1 - 1 else 1) ≡ 0 → b ≡ true
one_by true e = refl
one_by false e = absurd (omega (arith, e))

alone_of : (constructs : List Construct) → depth constructs ≡ 0 → own_alone constructs ≡ true
alone_of [] e = refl
alone_of (c ∷ []) e = one_by (are_cases c.kind) e
alone_of (c ∷ d ∷ constructs) e = absurd (more_by (outermost (c ∷ d ∷ constructs)) (length constructs) e)

pub depth_of : (constructs : List Construct) → own_alone constructs ≡ true → depth constructs ≡ 0
depth_of [] h = refl
depth_of (c ∷ []) h = ap (λ b. if b then 1 - 1 else 1) h
depth_of (c ∷ d ∷ constructs) h = cc

body_nested : (body : Symbol Action) (hs : List Happening) → IsOneOf body bodies → IsRead body hs → (s : Nested true) × (happenings s ≡ hs)
body_nested body hs first is = body_is_nested hs is
body_nested body hs (later first) is = embedded_is_nested hs is
body_nested body hs (later (later m)) is = elim m [ ]

ends_open : (limits : Limits) (context : Context) (s : Nested true) (hs : List Happening) → happenings s ≡ hs → EndsOpen limits context hs
ends_open limits context s hs same w e h =
    let i = laid_as limits context s w e in
    let runs = sym (ap (λ l. run limits context l w) same) ∙ i.runs in (
      ap (λ (v : Compilation). depth v.constructs) runs
          ∙ depth_of (laid limits context s w).constructs (alone_behind limits context s w e (alone_of w.constructs h)),
      ap (λ (v : Compilation). v.closed) runs ∙ i.none_ahead,
    )

pub routines_are_laid_whole : (limits : Limits) → RoutinesAreLaidWhole limits
routines_are_laid_whole limits = record {
  whole = λ context body hs m is. let n = body_nested body hs m is in (n.0, whole_of limits context n.0 hs n.1);
  ends = λ context body hs m is. let n = body_nested body hs m is in ends_open limits context n.0 hs n.1;
}

-- Lemmas about statements that are closed ahead

abbrev pub ahead : Limits → ℕ → Compilation → Compilation
ahead limits count w = record (constructs_laid (all_ended limits count w.constructs) w) { closed = count }

pub ahead_is : (limits : Limits) (count : ℕ) (w : Compilation) → w.closed ≡ 0 → closed_ahead limits count w ≡ ahead limits count w
ahead_is limits count w e =
    let all : count - 0 ≡ count = omega arith in
    let most : max 0 count ≡ count = omega arith in
    ap (λ n. record (constructs_laid (all_ended limits (count - n) w.constructs) w) { closed = max n count }) e
    ∙ (ap (λ n. record (constructs_laid (all_ended limits n w.constructs) w) { closed = max 0 count }) all
    ∙ ap (λ n. record (constructs_laid (all_ended limits count w.constructs) w) { closed = n }) most)

pub next_ahead : (limits : Limits) (count : ℕ) (w : Compilation) →
    construct_closed limits (ahead limits (suc count) w) ≡ ahead limits count (construct_ended limits w)
next_ahead limits count w =
    let some : nat_lt 0 (suc count) ≡ true = lt-ltb 0 (suc count) (omega arith) in
    let one_less : suc count - 1 ≡ count = omega arith in
    ap (λ b. if b then record (ahead limits (suc count) w) { closed = suc count - 1 } else construct_ended limits
    (ahead limits (suc count) w)) some
    ∙ ap (λ n. record (ahead limits count (construct_ended limits w)) { closed = n }) one_less

-- the effect before the next end comes behind it
pub next_passed : (limits : Limits) (m : Between) (count : ℕ) (w : Compilation)
    → construct_closed limits (passed m (ahead limits (suc count) w)) ≡ passed m (construct_closed limits (ahead limits (suc count) w))
next_passed limits m count w =
    let some : nat_lt 0 (suc count) ≡ true = lt-ltb 0 (suc count) (omega arith) in
    let v = passed m (ahead limits (suc count) w) in
    ap (λ b. if b then record v { closed = suc count - 1 } else construct_ended limits v) some
    ∙ sym (ap (λ b. passed m (if b then record (ahead limits (suc count) w) { closed = suc count - 1 } else construct_ended limits
    (ahead limits (suc count) w))) some)

all_ahead : (limits : Limits) (context : Context) (m : Between) (places : List Place) (w : Compilation) → w.closed ≡ 0
    → run limits context (endings places) (passed m (ahead limits (length places) w)) ≡ passed m (run limits context (endings places) w)
all_ahead limits context m [] w e = ap (λ n. passed m (record w { closed = n })) (sym e)
all_ahead limits context m (place ∷ places) w e =
    ap (run limits context (endings places)) (next_passed limits m (length places) w ∙ ap (passed m) (next_ahead limits (length places) w))
    ∙ (all_ahead limits context m places (construct_ended limits w) e ∙ ap (λ v. passed m (run limits context (endings places) v))
    (sym (closing_open limits w e)))

again_ahead : (limits : Limits) (count : ℕ) (m : Between) (w : Compilation) →
    closed_ahead limits count (passed m (ahead limits count w)) ≡ passed m (ahead limits count w)
again_ahead limits count m w =
    let none : count - count ≡ 0 = omega arith in
    let most : max count count ≡ count = omega arith in
    let v = passed m (ahead limits count w) in
    ap (λ n. record (constructs_laid (all_ended limits n v.constructs) v) { closed = max count count }) none
    ∙ ap (λ n. record v { closed = n }) most

pub closing_ahead_is_closing : (limits : Limits) → ClosingAheadIsClosing limits
closing_ahead_is_closing limits = record {
  behind = λ context places m w e. ap (λ v. run limits context (endings places) (passed m v)) (ahead_is limits (length places) w e)
      ∙ all_ahead limits context m places w e;
  again = λ count m w e. ap (λ v. closed_ahead limits count (passed m v)) (ahead_is limits count w e)
      ∙ (again_ahead limits count m w ∙ sym (ap (passed m) (ahead_is limits count w e)));
}

pub units_keep_labels : (limits : Limits) → UnitsKeepLabels limits
units_keep_labels limits = record {
  of_loops = λ context place c around w e. kept_kind c around (act limits context place Action.EndObjectloop w).constructs
      (loop_ends limits context place w c around e).0;
  of_steps = λ context place c around w e. kept_step c around (act limits context place Action.EndForStep w).constructs
      (step_ends limits context place w c around e).0;
  of_cases = λ context place c around w e. kept_kind c around (act limits context place Action.EndCase w).constructs
      (case_ends limits context place w c around e);
}

-- The code of statements as a whole. Each that holds others is opened once, its parts run in their order with it as the
-- innermost, and it is closed with the labels that were handed out where its word was read. The statements around it are
-- open behind it. No label is looked for among open statements. Designer's Manual, fourth edition, sections 1.7 to 1.9.
use Rattle.std.specs.Prelude.{Bool, false, List, [], ◌∷◌, None}
use Rattle.inf_settings.specs.Bounds.{Limits}
use Rattle.inf_scanner.specs.declared.tokens.Place.{Place}
use Rattle.inf_syntax.specs.declared.actions.Action.{Action}
use Rattle.inf_output.specs.Output.{Out}
use Rattle.inf_compilation.specs.{Actions.Compilation, Actions.is_deep, Actions.nested, Actions.took, Context.Context}
use Rattle.inf_unit.specs.Units.{last_place}
use Rattle.inf_constructs.specs.{declared.constructs.Construct.Construct, declared.constructs.Kind.Kind, declared.constructs.Over.Over}
use Rattle.inf_constructs.specs.Constructs.{between, closed, opened}
use Rattle.inf_constructs.specs.declared.constructs.Case.TheVariants as case
use Rattle.inf_reader.specs.Acting.{act}
use Rattle.inf_statement_laws.specs.Happenings.{Acts, Between, Happening, Moment, Takes}
use Rattle.inf_statement_laws.specs.Nested.{Case, Do, For, If, IfElse, Nested, Objectloop, Plain, Switch, Then, While, step_happenings}

-- Definitions of happenings one by one

abbrev pub passed : Between → Compilation → Compilation
passed m w = record w {
  report = m.report w.output w.report;
  output = m.output w.output;
  most_labels = m.most_labels w.output w.most_labels;
  asked = m.asked w.asked;
}

-- The next token comes: the word of a statement no longer waits to be reported with a bad token behind it.
abbrev pub next_comes : Compilation → Compilation
next_comes w = record w { opening = None }

abbrev pub happens : Limits → Context → Happening → Compilation → Compilation
happens limits context (Acts at a) w = passed at.behind (act limits context at.place a w)
happens limits context (Takes t m) w = next_comes (passed m (took context t w))

abbrev pub run : Limits → Context → List Happening → Compilation → Compilation
run limits context [] w = w
run limits context (h ∷ happenings) w = run limits context happenings (happens limits context h w)

-- Definitions of statements that hold others

-- the compilation with a construct as the innermost of the open ones `around`, and with the code so far
abbrev pub holding : Moment → Construct × Out → List Construct → Compilation → Compilation
holding at c around w = passed at.behind (record w { constructs = c.0 ∷ around; output = c.1 })

-- A statement is opened where its word was read, and reported there if it is nested too deep.
abbrev pub told_deep : Context → Place → Compilation → Compilation
told_deep context place w = record w { report = (nested context (last_place w.unit.tokens place) (is_deep w 1) w).report }

abbrev pub opened_at : Context → Moment → Construct × Out → Compilation → Compilation
opened_at context at c w = holding at c w.constructs (told_deep context at.place w)

-- A statement ends: its end is laid behind its parts.
abbrev pub ended_as : Limits → Moment → Construct → List Construct → Compilation → Compilation
ended_as limits at c around w = passed at.behind (record w { constructs = around; output = closed limits c w.output })

-- The kind and the step of a statement, as units leave them: the unit of a loop over objects changes its kind, and so does
-- a case that of its `switch`; the unit of a step adds the step. The labels stay.
abbrev pub with_kind_in : List Construct → Construct → Construct
with_kind_in [] c = c
with_kind_in (d ∷ constructs) c = record c { kind = d.kind }

abbrev pub with_step_in : List Construct → Construct → Construct
with_step_in [] c = c
with_step_in (d ∷ constructs) c = record c { step = d.step }

abbrev pub laid : {b : Bool} → Limits → Context → Nested b → Compilation → Compilation
laid limits context (Plain plain) w = run limits context plain.all w
laid limits context (Then first second) w = laid limits context second (laid limits context first w)
laid limits context (Case values ends) w = happens limits context (Acts ends Action.EndCase) (run limits context values.all w)
laid limits context (If opens test body closes) w =
    let c = opened limits Kind.If w.output in
    ended_as limits closes c.0 w.constructs (laid limits context body (run limits context test.all (opened_at context opens c w)))
laid limits context (IfElse opens test body joins word other closes) w =
    let c = opened limits Kind.If w.output in
    let first = laid limits context body (run limits context test.all (opened_at context opens c w)) in
    let joined = between limits c.0 first.output in
    ended_as limits closes joined.0 w.constructs
    (laid limits context other (run limits context word.all (holding joins joined w.constructs first)))
laid limits context (While opens test body closes) w =
    let c = opened limits Kind.While w.output in
    ended_as limits closes c.0 w.constructs (laid limits context body (run limits context test.all (opened_at context opens c w)))
laid limits context (Do opens body word joins test closes) w =
    let c = opened limits Kind.Do w.output in
    let first = run limits context word.all (laid limits context body (opened_at context opens c w)) in
    let joined = between limits c.0 first.output in
    ended_as limits closes joined.0 w.constructs (run limits context test.all (holding joins joined w.constructs first))
laid limits context (For opens start joins test step bracket body closes) w =
    let c = opened limits Kind.For w.output in
    let started = run limits context start.all (opened_at context opens c w) in
    let top = between limits c.0 started.output in
    let stepped = run limits context (step_happenings step) (run limits context test.all (holding joins top w.constructs started)) in
    let own = with_step_in stepped.constructs top.0 in
    ended_as limits closes own w.constructs (laid limits context body (run limits context bracket.all
    (record stepped { constructs = own ∷ w.constructs })))
laid limits context (Objectloop opens loop ends joins bracket body closes) w =
    let c = opened limits (Kind.Objects Over.Nothing 0) w.output in
    let looped = happens limits context (Acts ends Action.EndObjectloop) (run limits context loop.all (opened_at context opens c w)) in
    let joined = between limits (with_kind_in looped.constructs c.0) looped.output in
    ended_as limits closes joined.0 w.constructs (laid limits context body (run limits context bracket.all
    (holding joins joined w.constructs looped)))
laid limits context (Switch opens value cases brace closes) w =
    let c = opened limits (Kind.Switch case.Nothing false) w.output in
    let inside = run limits context brace.all (laid limits context cases (run limits context value.all (opened_at context opens c w))) in
    ended_as limits closes (with_kind_in inside.constructs c.0) w.constructs inside

-- Nested statements whose parts have the effects that a control flow gives them.
use Rattle.std.specs.Prelude.{◌≡◌, Bool, false, List, ◌∷◌, Some}
use Rattle.inf_settings.specs.Bounds.{Limits}
use Rattle.inf_opcode.specs.declared.instructions.Label.{Label}
use Rattle.inf_syntax.specs.declared.actions.Action.{Action}
use Rattle.inf_output.specs.Output.{Out}
use Rattle.inf_compilation.specs.{Actions.Compilation, Context.Context}
use Rattle.inf_constructs.specs.{Constructs.between, Constructs.opened, declared.constructs.Case.Case as CaseKind}
use Rattle.inf_constructs.specs.{declared.constructs.Construct.Construct, declared.constructs.Kind.Kind, declared.constructs.Over.Over}
use Rattle.inf_statement_laws.specs.Happenings.{Acts, Moment}
use Rattle.inf_statement_laws.specs.Nested.{Case, Do, For, If, IfElse, Nested, Objectloop, Plain, Switch, Then, While, step_happenings}
use Rattle.inf_statement_laws.specs.Laid.{happens, holding, laid, opened_at, run, with_kind_in, with_step_in}
use Rattle.inf_interpreter.specs.Machine.{World}
use Rattle.inf_meaning_laws.specs.Laws.{Branches, GivesNothing}
use Rattle.inf_control_laws.specs.Control.{Both, ByCases, CaseOf, Control, Does, DoUntil, Either, ForEach, IfTrue, Objects, Truth}
use Rattle.inf_control_laws.specs.Control.{WhileTrue}
use Rattle.inf_control_laws.specs.Runs.{KeepsApart, Lays, LaysNone, Runs, exits}
use Rattle.inf_control_laws.specs.Parts.{BeginsCase, BeginsLoop, GoesOver, open_case}

-- Conditional directives behind an action lay nothing.
abbrev pub IsStill : Moment → Type 0
IsStill at = (o : Out) → LaysNone o (at.behind.output o)

-- a condition whose code branches to a label where it is not true
abbrev pub Tests : World → Truth → Label → Compilation → Compilation → Type 0
Tests w holds label before now = Lays w (Branches false w holds false label) before.output now.output

-- A case begins, in a `switch` whose end has a label.
pub record CaseBegins (w : World) (holds : Truth) (around constructs : List Construct) (before now : Out) : Type 0 where
  pub old : CaseKind
  pub new : CaseKind
  pub end : Label
  pub was : open_case around ≡ Some old
  pub is : open_case constructs ≡ Some new
  pub breaks : (exits around).breaks ≡ Some end
  pub same : exits constructs ≡ exits around
  pub begins : Lays w (BeginsCase w holds old new end) before now

-- The parts of a statement have their effects where they stand: with the statement as the innermost one, and with the labels that were
-- handed out where its word was read. Its own code, and the code around it, is not spoken of.
abbrev pub Carries : {b : Bool} → World → Limits → Context → Nested b → Control → Compilation → Type 0
Carries w limits context (Plain plain) (Does e) v = Lays w (Runs w (exits v.constructs) e) v.output (run limits context plain.all v).output
Carries w limits context (Then first second) (Both p q) v =
    Carries w limits context first p v × Carries w limits context second q (laid limits context first v)
Carries w limits context (If opens test body closes) (IfTrue holds p) v =
    let c = opened limits Kind.If v.output in
    let inside = opened_at context opens c v in
    let tested = run limits context test.all inside in
    IsStill opens × Tests w holds c.0.next inside tested × Carries w limits context body p tested × IsStill closes
Carries w limits context (IfElse opens test body joins word other closes) (Either holds p q) v =
    let c = opened limits Kind.If v.output in
    let inside = opened_at context opens c v in
    let tested = run limits context test.all inside in
    let first = laid limits context body tested in
    let joined = between limits c.0 first.output in
    let behind = holding joins joined v.constructs first in
    let ready = run limits context word.all behind in
    IsStill opens × Tests w holds c.0.next inside tested × Carries w limits context body p tested × IsStill joins
    × LaysNone behind.output ready.output × Carries w limits context other q ready × IsStill closes
Carries w limits context (While opens test body closes) (WhileTrue holds p) v =
    let c = opened limits Kind.While v.output in
    let inside = opened_at context opens c v in
    let tested = run limits context test.all inside in
    IsStill opens × Tests w holds c.0.end inside tested × Carries w limits context body p tested × IsStill closes
Carries w limits context (Do opens body word joins test closes) (DoUntil p holds) v =
    let c = opened limits Kind.Do v.output in
    let inside = opened_at context opens c v in
    let first = laid limits context body inside in
    let ready = run limits context word.all first in
    let joined = between limits c.0 ready.output in
    let behind = holding joins joined v.constructs ready in
    IsStill opens × Carries w limits context body p inside × LaysNone first.output ready.output × IsStill joins
    × Tests w holds c.0.top behind (run limits context test.all behind) × IsStill closes
Carries w limits context (For opens start joins test step bracket body closes) (ForEach begins holds next p) v =
    let c = opened limits Kind.For v.output in
    let inside = opened_at context opens c v in
    let started = run limits context start.all inside in
    let top = between limits c.0 started.output in
    let behind = holding joins top v.constructs started in
    let tested = run limits context test.all behind in
    let stepped = run limits context (step_happenings step) tested in
    let own = with_step_in stepped.constructs top.0 in
    let ready = run limits context bracket.all (record stepped { constructs = own ∷ v.constructs }) in
    IsStill opens × Lays w (GivesNothing w begins) inside.output started.output × IsStill joins × Tests w holds c.0.end behind tested
    × KeepsApart w (GivesNothing w next) tested.output stepped.output own.step × LaysNone stepped.output ready.output
    × Carries w limits context body p ready × IsStill closes
Carries w limits context (Objectloop opens loop ends joins bracket body closes) (Objects first holds next p) v =
    let c = opened limits (Kind.Objects Over.Nothing 0) v.output in
    let inside = opened_at context opens c v in
    let looped = happens limits context (Acts ends Action.EndObjectloop) (run limits context loop.all inside) in
    let own = with_kind_in looped.constructs c.0 in
    let joined = between limits own looped.output in
    let behind = holding joins joined v.constructs looped in
    let ready = run limits context bracket.all behind in
    GoesOver w limits next c.0.top own.kind × IsStill opens
    × Lays w (BeginsLoop w first holds c.0.top c.0.next c.0.end) inside.output looped.output × IsStill joins
    × LaysNone behind.output ready.output × Carries w limits context body p ready × IsStill closes
Carries w limits context (Switch opens value cases brace closes) (ByCases keeps p) v =
    let c = opened limits (Kind.Switch CaseKind.Nothing false) v.output in
    let inside = opened_at context opens c v in
    let valued = run limits context value.all inside in
    let done = laid limits context cases valued in
    let ready = run limits context brace.all done in
    IsStill opens × Lays w (GivesNothing w keeps) inside.output valued.output × Carries w limits context cases p valued
    × LaysNone done.output ready.output × IsStill closes
Carries w limits context (Case values ends) (CaseOf holds) v =
    let before = run limits context values.all v in
    let now = happens limits context (Acts ends Action.EndCase) before in
    LaysNone v.output before.output × CaseBegins w holds v.constructs now.constructs before.output now.output
Carries w limits context n p v = ⊥

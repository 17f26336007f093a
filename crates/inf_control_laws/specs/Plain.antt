-- Statements that hold no others, by their trees: expressions alone, and those by which control leaves a statement or the routine.
-- Designer's Manual, fourth edition, sections 1.4 to 1.8.
use Rattle.std.specs.Prelude.{List, [], ◌∷◌, Option, Some, None, false}
use Rattle.inf_settings.specs.Bounds.{Limits}
use Rattle.inf_opcode.specs.declared.instructions.Label.{Label}
use Rattle.inf_expressions.specs.Trees.{Tree}
use Rattle.inf_output.specs.Output.{Out}
use Rattle.inf_statements.specs.{Effects.Site, Effects.statement_code, declared.statements.Statement.Statement}
use Rattle.inf_interpreter.specs.Machine.{World, ◌then◌}
use Rattle.inf_meaning_laws.specs.{Covered.Covered, Values.sense, Values.value_of}
use Rattle.inf_control_laws.specs.Control.{Broke, Continued, Done, Effect, Outcome, Returned}
use Rattle.inf_control_laws.specs.Runs.{Exits, Lays, Runs, exits}

-- Control leaves to a label, where there is one.
abbrev pub left_run : Option Label → Outcome → Effect
left_run None r s = None
left_run (Some l) r s = Some (r, s)

-- Only the first tree is of meaning. Without a tree nothing is done, or 1 is returned.
abbrev pub alone_run : World → List Tree → Effect
alone_run w [] s = Some (Done, s)
alone_run w (t ∷ trees) s = (sense w t).alone s then λ u. Some (Done, u)

abbrev pub return_run : World → List Tree → Effect
return_run w [] s = Some (Returned 1, s)
return_run w (t ∷ trees) s = value_of w t s then λ p. Some (Returned p.0, p.1)

abbrev pub plain_run : World → Exits → List Tree → Statement → Effect
plain_run w x trees Statement.Expression = alone_run w trees
plain_run w x trees Statement.Return = return_run w trees
plain_run w x trees Statement.ReturnTrue = λ s. Some (Returned 1, s)
plain_run w x trees Statement.ReturnFalse = λ s. Some (Returned 0, s)
plain_run w x trees Statement.Break = left_run x.breaks Broke
plain_run w x trees Statement.Continue = left_run x.continues Continued
plain_run w x trees _ = λ s. Some (Done, s)

-- Statements of which the law speaks. The expression is one that is covered.
abbrev pub IsPlain : Statement → Type 0
IsPlain Statement.Empty = Unit {0}
IsPlain Statement.Expression = Unit {0}
IsPlain Statement.Return = Unit {0}
IsPlain Statement.ReturnTrue = Unit {0}
IsPlain Statement.ReturnFalse = Unit {0}
IsPlain Statement.Break = Unit {0}
IsPlain Statement.Continue = Unit {0}
IsPlain _ = ⊥

abbrev pub IsCovered : List Tree → Type 0
IsCovered [] = Unit {0}
IsCovered (t ∷ trees) = Covered false t

-- The code of such a statement does what it means, among the statements that hold it.
abbrev pub PlainStatementsRun : Type 0
PlainStatementsRun =
    (w : World) (limits : Limits) (site : Site) (trees : List Tree) (s : Statement) → IsPlain s → IsCovered trees → (o : Out) →
    let x = exits site.constructs in Lays w (Runs w x (plain_run w x trees s)) o (statement_code limits site trees s o)

-- Statements that hold others do what they mean, where their parts do.
use Rattle.std.specs.Prelude.{◌≡◌, ℕ, false}
use Rattle.inf_settings.specs.Bounds.{Limits}
use Rattle.inf_compilation.specs.{Actions.Compilation, Context.Context}
use Rattle.inf_statement_laws.specs.{Laid.laid, Nested.Nested}
use Rattle.inf_interpreter.specs.Machine.{World}
use Rattle.inf_control_laws.specs.{Carrying.Carries, Control.Control, Control.effect, Runs.Lays, Runs.Runs, Runs.exits}

-- The code that is laid for a nested statement has the effect of its control flow, for any number of turns that loops may make, and leads
-- where this says: behind the statement, to the labels of the statements around it, or out of the routine.
abbrev pub StatementsRun : Type 0
StatementsRun =
    (w : World) (limits : Limits) (context : Context) (s : Nested false) (p : Control) (v : Compilation) → v.closed ≡ 0 →
    Carries w limits context s p v → (turns : ℕ) →
    Lays w (Runs w (exits v.constructs) (effect turns p)) v.output (laid limits context s v).output

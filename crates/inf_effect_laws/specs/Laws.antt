-- The code of statements that print and that change objects has the effects that are described.
use Rattle.std.specs.Prelude.{◌≡◌, List, Some}
use Rattle.inf_settings.specs.Bounds.{Limits}
use Rattle.inf_expressions.specs.Trees.{Tree}
use Rattle.inf_output.specs.Output.{Out, low_string_at}
use Rattle.inf_statements.specs.{Effects.Site, Effects.statement_code, declared.statements.Statement.Statement}
use Rattle.inf_interpreter.specs.Machine.{World}
use Rattle.inf_control_laws.specs.Runs.{Lays, Runs, exits}
use Rattle.inf_effect_laws.specs.{Described.Deed, Described.effect, Written.Covers, Written.HasTexts, Written.deed_of}

-- The code of such a statement runs to what it does, among the statements that hold it.
abbrev pub EffectsAreLaid : Type 0
EffectsAreLaid =
    (w : World) (limits : Limits) (site : Site) (trees : List Tree) (s : Statement) (o : Out) (d : Deed) →
    deed_of site (low_string_at o) trees s ≡ Some d → Covers d → HasTexts w o →
    Lays w (Runs w (exits site.constructs) (effect w d)) o (statement_code limits site trees s o)

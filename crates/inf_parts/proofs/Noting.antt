-- The locals that the leaves of a unit name are noted before its own finding is made and before it begins, which go by no such note.
use Rattle.std.proofs.Common.{◌≡◌, ℕ, List, [], map, false, Option, refl, sym, ap, ◌∙◌}
use Rattle.inf_settings.specs.Bounds.{Limits}
use Rattle.inf_constructs.specs.Roots.{tree_in}
use Rattle.inf_expressions.specs.{Findings.least_of_both, Rooted.Rooted, Units.trees_of, declared.findings.Finding.Finding}
use Rattle.inf_expressions.specs.{declared.operators.Operand.Operand, declared.units.Wanted.Wanted}
use Rattle.inf_names.specs.Symbols.{no_names}
use Rattle.inf_operands.proofs.{Noting.all_looked_ahead, Staying.alike_leaves}
use Rattle.inf_statements.proofs.LinesNoted.{line_looked}
use Rattle.inf_statements.specs.{Assembly.ends_of, Effects.site_finding, Effects.statement_finding, declared.statements.Statement.Statement}
use Rattle.inf_operands.specs.Operands.{leaves_named}
use Rattle.inf_unit.specs.Units.{order}
use Rattle.inf_compilation.specs.{Actions.Compilation, Actions.named, Actions.operands_of, Actions.trees_at, Context.Context}
use Rattle.inf_parts.specs.Parts.{leaves_noted, line_finding_of, order_of, own_finding, part_begun, site_of, stores_noted, wanted_of}
use Rattle.inf_parts.specs.declared.parts.Part.{Part}

pub operands_noted : (w : Compilation) → operands_of (leaves_noted w) ≡ operands_of w
operands_noted w =
    all_looked_ahead (leaves_named w.unit.tokens w.unit.gathering.leaves w.locals) w.locals w.output w.unit.tokens w.unit.gathering.leaves
    (no_names false) [] (alike_leaves w.unit.tokens w.unit.gathering.leaves w.locals)

order_noted : (p : Part) (w : Compilation) → order_of p (leaves_noted w) ≡ order_of p w
order_noted (Part.Statement s) w = refl
order_noted Part.Condition w = refl
order_noted Part.Start w = refl
order_noted Part.Step w = refl
order_noted Part.Loop w = refl
order_noted Part.Switched w = refl
order_noted Part.Case w = refl

pub trees_noted : (p : Part) (w : Compilation) (trees : List Rooted) → trees ≡ trees_at (order_of p w) (wanted_of p) (operands_of w) w
    → trees ≡ trees_at (order_of p (leaves_noted w)) (wanted_of p) (operands_of (leaves_noted w)) (leaves_noted w)
trees_noted p w trees e = e
    ∙ sym (ap (λ (operands : List Operand). trees_of (wanted_of p) (order_of p w) operands w.unit.gathering.symbols) (operands_noted w))
    ∙ sym (ap (λ (n : ℕ). trees_of (wanted_of p) n (operands_of (leaves_noted w)) w.unit.gathering.symbols) (order_noted p w))

line_noted : (limits : Limits) (context : Context) (w : Compilation)
    → line_finding_of limits context (leaves_noted w) ≡ line_finding_of limits context w
line_noted limits context w =
    ap (λ (operands : List Operand). least_of_both w.unit.passed (site_finding limits (site_of context (leaves_noted w)) w.output.names
    (map tree_in (trees_at (order w.unit.begun) Wanted.Operand operands w)))) (operands_noted w)
    ∙ ap (λ (f : Option Finding). least_of_both w.unit.passed f)
    (line_looked limits (leaves_named w.unit.tokens w.unit.gathering.leaves w.locals) w.locals w.output.names w.unit.tokens w.unit.begun
    (ends_of w.unit.items) (map tree_in (trees_at (order w.unit.begun) Wanted.Operand (operands_of w) w))
    (alike_leaves w.unit.tokens w.unit.gathering.leaves w.locals))

statement_noted : (limits : Limits) (context : Context) (s : Statement) (w : Compilation)
    → own_finding limits context (Part.Statement s) (leaves_noted w) ≡ own_finding limits context (Part.Statement s) w
unfolding statement_finding
statement_noted limits context Statement.Empty w = refl
statement_noted limits context Statement.Expression w = refl
statement_noted limits context Statement.Print w = refl
statement_noted limits context Statement.PrintReturn w = refl
statement_noted limits context Statement.Return w = refl
statement_noted limits context Statement.NewLine w = refl
statement_noted limits context Statement.Quit w = refl
statement_noted limits context Statement.ReturnTrue w = refl
statement_noted limits context Statement.ReturnFalse w = refl
statement_noted limits context Statement.Break w = refl
statement_noted limits context Statement.Continue w = refl
statement_noted limits context Statement.Jump w = refl
statement_noted limits context Statement.Place w = refl
statement_noted limits context Statement.Give w = refl
statement_noted limits context Statement.Move w = refl
statement_noted limits context Statement.Remove w = refl
statement_noted limits context Statement.Spaces w = refl
statement_noted limits context Statement.String w = refl
statement_noted limits context Statement.Style w = refl
statement_noted limits context Statement.Assembly w = line_noted limits context w
statement_noted limits context Statement.Action w = refl
statement_noted limits context Statement.ActionReturn w = refl

pub own_noted : (limits : Limits) (context : Context) (p : Part) (w : Compilation)
    → own_finding limits context p (leaves_noted w) ≡ own_finding limits context p w
own_noted limits context (Part.Statement s) w = statement_noted limits context s w
own_noted limits context Part.Condition w = refl
own_noted limits context Part.Start w = refl
own_noted limits context Part.Step w = refl
own_noted limits context Part.Loop w = refl
own_noted limits context Part.Switched w = refl
own_noted limits context Part.Case w = refl

pub begun_named : (limits : Limits) (p : Part) (w : Compilation)
    → stores_noted (part_begun limits p (leaves_noted w)) ≡ named (part_begun limits p w)
begun_named limits (Part.Statement s) w = refl
begun_named limits Part.Condition w = refl
begun_named limits Part.Start w = refl
begun_named limits Part.Step w = refl
begun_named limits Part.Loop w = refl
begun_named limits Part.Switched w = refl
begun_named limits Part.Case w = refl

-- The trees of a unit stay those of its operands while it begins and its locals are named.
pub trees_begun : (limits : Limits) (p : Part) (w : Compilation) (operands : List Operand)
    → trees_at (order_of p w) (wanted_of p) operands w
    ≡ trees_at (order_of p (named (part_begun limits p w))) (wanted_of p) operands (named (part_begun limits p w))
trees_begun limits (Part.Statement s) w operands = refl
trees_begun limits Part.Condition w operands = refl
trees_begun limits Part.Start w operands = refl
trees_begun limits Part.Step w operands = refl
trees_begun limits Part.Loop w operands = refl
trees_begun limits Part.Switched w operands = refl
trees_begun limits Part.Case w operands = refl

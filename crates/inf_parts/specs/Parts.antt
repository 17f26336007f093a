-- The units of a routine that have expressions, and the statements that hold others.
use Rattle.std.specs.Prelude.{◌≡◌, ℕ, List, ◌∷◌, map, Bool, true, false, if◌then◌else◌, Option, Some, None}
use Rattle.inf_settings.specs.Bounds.{Limits}
use Rattle.inf_scanner.specs.declared.tokens.Place.{Place}
use Rattle.inf_expressions.specs.{Findings.least_of_both, Rooted.Rooted, declared.findings.Finding.Finding, declared.units.Wanted.Wanted}
use Rattle.inf_gathering.specs.Gatherings.{with_actions}
use Rattle.inf_output.specs.Output.{apart, ◌▸◌}
use Rattle.inf_compilation.specs.{Context.Context, Findings.found_alone, Findings.nothing_found, Nesting.constructs_laid}
use Rattle.inf_compilation.specs.Actions.{Compilation, finding_at, named, operands_of, passed, settled_of, trees_at, unit_ended}
use Rattle.inf_opcode.specs.declared.opcodes.Opcode.{Opcode}
use Rattle.inf_unit.specs.Units.{first_place, line_opcode, order, own_place, prepared as unit_prepared}
use Rattle.inf_unit.specs.declared.items.Item.{Item}
use Rattle.inf_constructs.specs.{Cases.case_code, Roots.tree_in}
use Rattle.inf_constructs.specs.Constructs.{are_own, begun, cases_begun, changed, condition_label, entered, is_late, looped_over, next_case}
use Rattle.inf_constructs.specs.Constructs.{stepped}
use Rattle.inf_statements.specs.Effects.{Site, misplaced_default, only_if, site_finding, statement_finding, statement_laid, wanted_by}
use Rattle.inf_statements.specs.Statements.{alone, statement_in, switched, tested}
use Rattle.inf_statements.specs.declared.statements.Statement.{Statement}
use Rattle.inf_operands.specs.Operands.{leaves_named, stores_named}
use Rattle.inf_parts.specs.declared.parts.Part.{Part}

-- Tells whether the last token of a unit is still to come when it ends.
abbrev pub has_last : Part → Bool
has_last (Part.Statement s) = true
has_last _ = false

-- Tells whether a unit is a case.
abbrev pub is_case : Part → Bool
is_case Part.Case = true
is_case _ = false

-- Use that a unit makes of its expressions.
abbrev pub wanted_of : Part → Wanted
wanted_of (Part.Statement s) = wanted_by s
wanted_of Part.Loop = Wanted.Loop
wanted_of Part.Case = Wanted.Case
wanted_of _ = Wanted.Value

-- Order of the first token of a unit, and its place: a case begins with the first token behind the unit before, and every other
-- unit with its own first token.
abbrev pub order_of : Part → Compilation → ℕ
order_of Part.Case w = 0
order_of _ w = order w.unit.begun

abbrev pub place_of : Part → Place → Compilation → Place
place_of Part.Case place w = first_place w.unit.tokens place
place_of _ place w = own_place w.unit place

-- Tells whether a unit is an assembly line, and whether an opcode is that of the unit, if it is such a line.
abbrev pub is_line : Part → Bool
is_line (Part.Statement Statement.Assembly) = true
is_line _ = false

abbrev pub KnowsOpcode : Part → Option Opcode → Compilation → Type 0
KnowsOpcode p opcode w = is_line p ≡ true → opcode ≡ line_opcode w.unit

-- Site of the statement at hand, beside its trees, and the statement itself.
abbrev pub site_of : Context → Compilation → Site
site_of context w = record {
  set = context.set;
  tokens = w.unit.tokens;
  begun = w.unit.begun;
  items = w.unit.items;
  locals = w.locals;
  constructs = w.constructs;
}

abbrev pub statement_at : Compilation → Statement
statement_at w = statement_in w.unit.tokens w.unit.begun w.unit.items

-- Finding about a unit: the least of those about its expressions and beside them.
abbrev pub line_finding_of : Limits → Context → Compilation → Option Finding
line_finding_of limits context w = least_of_both w.unit.passed
    (site_finding limits (site_of context w) w.output.names (map tree_in (trees_at (order w.unit.begun) Wanted.Operand (operands_of w) w)))

abbrev pub own_finding : Limits → Context → Part → Compilation → Option Finding
own_finding limits context (Part.Statement Statement.Assembly) w = line_finding_of limits context w
own_finding limits context (Part.Statement s) w = statement_finding (site_of context w) w.labels s
own_finding limits context Part.Case w = only_if (is_late w.constructs) misplaced_default
own_finding limits context _ w = None

abbrev pub found_in : Limits → Context → Part → Compilation → Option Finding
found_in limits context p w = least_of_both (finding_at (order_of p w) (wanted_of p) w) (own_finding limits context p w)

-- Locals that the leaves of a unit name, and those in which it stores, are named.
abbrev pub leaves_noted : Compilation → Compilation
leaves_noted w = record w { locals = leaves_named w.unit.tokens w.unit.gathering.leaves w.locals }

abbrev pub stores_noted : Compilation → Compilation
stores_noted w = record w { locals = stores_named w.unit.tokens w.unit.items w.locals }

-- Definitions of open statements

-- A case begins, also one with an error: the code before it goes to the end of its `switch`.
abbrev pub is_default : List Item → Bool
is_default (Item.Default ∷ items) = true
is_default _ = false

abbrev pub part_begun : Limits → Part → Compilation → Compilation
part_begun limits Part.Case w = constructs_laid (changed (entered limits (is_default w.unit.items)) w.constructs) w
part_begun limits _ w = w

-- Effect of a unit, with its trees.
abbrev pub statement_laid_in : Limits → Context → Statement → List Rooted → Compilation → Compilation
statement_laid_in limits context s trees w =
    let laid =
    statement_laid limits (site_of context w) s (map tree_in trees) w.labels w.output in record w { labels = laid.0; output = laid.1 }

unfoldable pub part_effect : Limits → Context → Part → List Rooted → Compilation → Compilation
part_effect limits context (Part.Statement s) trees w = statement_laid_in limits context s trees w
part_effect limits context Part.Condition trees w =
    record w { output = tested limits (condition_label w.constructs) (map tree_in trees) w.output }
part_effect limits context Part.Start trees w = record w { output = alone limits (map tree_in trees) w.output }
part_effect limits context Part.Step trees w = constructs_laid (λ o. stepped w.constructs ((apart ▸ alone limits (map tree_in trees)) o)) w
part_effect limits context Part.Loop trees w = constructs_laid (looped_over limits trees w.constructs) w
part_effect limits context Part.Switched trees w = record w { output = switched limits (map tree_in trees) w.output }
part_effect limits context Part.Case trees w = record w { output = case_code limits (next_case w.constructs) (map tree_in trees) w.output }

-- End of a unit, which begins at a place. With an error it has no effect but that its locals are named, and that a case begins.
abbrev pub part_carried : Limits → Context → Place → Part → Option Finding → Compilation → Compilation
part_carried limits context first p (Some f) w = unit_ended limits context first (has_last p) (found_alone (Some f)) w
part_carried limits context first p None w =
    let s = settled_of limits context w in
    unit_ended limits context first (has_last p) nothing_found
    (part_effect limits context p (trees_at (order_of p w) (wanted_of p) s.operands w)
    (record w { output = record s.out { first = first } }))

-- End of a unit without an error, which begins at a place and has these trees.
abbrev pub part_laid : Limits → Context → Place → Part → List Rooted → Compilation → Compilation
part_laid limits context first p trees w = unit_ended limits context first (has_last p) nothing_found
    (part_effect limits context p trees (record w { output = record w.output { first = first } }))

abbrev pub part_finished : Limits → Context → Place → Part → Compilation → Compilation
part_finished limits context first p w = part_carried limits context first p (found_in limits context p w) (named (part_begun limits p w))

abbrev pub part_prepared : Compilation → Compilation
part_prepared w = record w { unit = unit_prepared w.unit }

-- Preparation of a case: one outside of any statement is one of the own cases of the routine, whose values are actions.
abbrev pub actions_named : Bool → Compilation → Compilation
actions_named true w = record w { unit = record w.unit { gathering = with_actions w.unit.gathering } }
actions_named false w = w

abbrev pub own_case_prepared : Limits → Compilation → Compilation
own_case_prepared limits w =
    let begun = constructs_laid (cases_begun limits w.constructs) w in actions_named (are_own begun.constructs) begun

abbrev pub case_prepared : Limits → Part → Compilation → Compilation
case_prepared limits Part.Case w = own_case_prepared limits w
case_prepared limits _ w = w

-- End of a unit before a token at a place; in a routine that is passed over nothing has an effect.
abbrev pub part_ended : Limits → Context → Place → Part → Compilation → Compilation
part_ended limits context place p w =
    if w.is_replaced then passed (has_last p) w
    else let ready = case_prepared limits p (part_prepared w) in part_finished limits context (place_of p place ready) p ready

-- Assembly lines. Z-Machine Standard 1.1, sections 4 and 14.
use Rattle.std.specs.Prelude.{ℕ, ◌==◌, List, [], ◌∷◌, length, nat_le, codes, Bool, true, false, not, ◌&&◌, if◌then◌else◌, Option, Some}
use Rattle.std.specs.Prelude.{None, is_some, unwrap_or}
use Rattle.std.specs.Str.{str_eq_ignore_ascii_case}
use Rattle.inf_settings.specs.Bounds.{Limits}
use Rattle.inf_characters.specs.declared.characters.CharSet.{CharSet}
use Rattle.inf_scanner.specs.declared.tokens.Place.{Place}
use Rattle.inf_opcode.specs.{Opcodes.row_of, declared.instructions.Branch.Branch, declared.instructions.Destination.Destination}
use Rattle.inf_opcode.specs.{declared.instructions.Label.Label, declared.opcodes.Opcode.Opcode, declared.opcodes.OpcodeRow.OpcodeRow}
use Rattle.inf_expressions.specs.{Findings.least_of_both, Findings.wrong_kind, Trees.Tree, declared.findings.Finding.Finding}
use Rattle.inf_expressions.specs.{declared.findings.UnitError.UnitError, declared.operators.Operand.Operand}
use Rattle.inf_names.specs.{Locals.Local, Locals.local_number, Symbols.Table}
use Rattle.inf_output.specs.declared.operands.Simple.{Simple}
use Rattle.inf_output.specs.Output.{Code, behind, instruction, jumped, naming, next_label, nothing}
use Rattle.inf_templates.specs.Meaning.{meaning}
use Rattle.inf_unit.specs.{Opcodes.opcode_of, Tokens.SourceToken, Units.bytes_at, Units.next_place, Units.order, declared.items.Item.Item}
use Rattle.inf_constructs.specs.{Cases.operand_in, Constructs.Laying, Constructs.giving}
use Rattle.inf_constructs.specs.Labels.{NamedLabel, given, label_of, wanted}
use Rattle.inf_operands.specs.{Operands.is_stack, Operands.looked_name, Texts.text_at}
use Rattle.inf_statements.specs.{Statements.printed, declared.assembly.Ends.Ends}

-- Definitions of named labels

-- the label of a name that is used, and all labels then
abbrev pub labelled : List ℕ → List NamedLabel → Laying (Label × List NamedLabel)
labelled name labels o = ((label_of name (next_label o) labels, wanted name (next_label o) labels), record o { next = behind o.next })

-- the label of a name whose place is given, and all labels then
abbrev pub placed : List ℕ → List NamedLabel → Laying (Label × List NamedLabel)
placed name labels o = ((label_of name (next_label o) labels, given name (next_label o) labels), record o { next = behind o.next })

-- Definitions of the ends of a line: all in it that is no operand

abbrev pub no_ends : Ends
no_ends = record { store = None; branch = None; text = None; jump = None }

abbrev pub with_end : Item → Ends → Ends
with_end (Item.Store at) e = record e { store = Some at }
with_end (Item.Branch at sense) e = record e { branch = Some (at, sense) }
with_end (Item.Text at) e = record e { text = Some at }
with_end (Item.Jump at) e = record e { jump = Some at }
with_end _ e = e

abbrev pub ends_from : List Item → Ends → Ends
ends_from [] e = e
ends_from (i ∷ items) e = ends_from items (with_end i e)

abbrev pub ends_of : List Item → Ends
ends_of items = ends_from items no_ends

-- Definitions of the operands and ends that an opcode takes

abbrev pub same : Bool → Bool → Bool
same true b = b
same false b = not b

abbrev pub variable_of : Option Simple → Option ℕ
variable_of (Some (Simple.Variable v)) = Some v
variable_of _ = None

abbrev pub first_variable : Limits → List Tree → Option ℕ
first_variable limits [] = None
first_variable limits (e ∷ trees) = variable_of (meaning limits e).operand

abbrev pub has_ends : OpcodeRow → Ends → Bool
has_ends row e = same row.stores (is_some e.store) && same row.branches (is_some e.branch) && same row.has_text (is_some e.text)

-- Tells whether an opcode of `row` takes `operands` operands and the ends `e`. No instruction has more than eight operands, and the first
-- is a variable where the opcode wants one.
abbrev pub fits_row : OpcodeRow → ℕ → Bool → Ends → Bool
fits_row row operands has_variable e =
    nat_le row.least operands && nat_le operands row.most && nat_le operands 8 && (if row.names_variable then has_variable else true) &&
    has_ends row e

-- Tells whether the ends are those of a jump, which has one name, and nothing behind it.
abbrev pub fits_jump : Ends → Bool
fits_jump e = is_some e.jump && not (is_some e.store) && not (is_some e.branch)

unfoldable pub fits : Limits → Opcode → List Tree → Ends → Bool
fits limits op trees e =
    if (row_of op).jumps then fits_jump e else fits_row (row_of op) (length trees) (is_some (first_variable limits trees)) e

-- The findings about a line: about its opcode, its operands and ends, or the variable in which it stores

abbrev pub fits_some : Limits → Option Opcode → List Tree → Ends → Bool
fits_some limits None trees e = false
fits_some limits (Some op) trees e = fits limits op trees e

abbrev pub wrong_opcode : ℕ → Finding
wrong_opcode at = record { order = at; error = UnitError.WrongOpcode }

abbrev pub stored_in : Operand → Option ℕ
stored_in (Operand.Variable v) = Some v
stored_in _ = None

abbrev pub store_variable : List Local → Table Place → List ℕ → Option ℕ
store_variable locals names name = if is_stack name (local_number name locals) then Some 0 else stored_in (looked_name locals names name)

-- the variable in which a line stores (0 where the name is no variable, which is a finding)
abbrev pub store_of : List Local → Table Place → List SourceToken → Option ℕ → Option ℕ
store_of locals names tokens None = None
store_of locals names tokens (Some at) = Some (unwrap_or (store_variable locals names (bytes_at tokens at)) 0)

abbrev pub store_finding_by : Option ℕ → ℕ → Option Finding
store_finding_by None at = Some (wrong_kind (order at))
store_finding_by (Some v) at = None

abbrev pub store_finding : List Local → Table Place → List SourceToken → Option ℕ → Option Finding
store_finding locals names tokens None = None
store_finding locals names tokens (Some at) = store_finding_by (store_variable locals names (bytes_at tokens at)) at

abbrev pub line_finding : Limits → List Local → Table Place → List SourceToken → ℕ → Ends → List Tree → Option Finding
line_finding limits locals names tokens begun e trees =
    let stores = store_finding locals names tokens e.store in
    if fits_some limits (opcode_of (bytes_at tokens (next_place begun))) trees e then stores else least_of_both stores
    (Some (wrong_opcode (order (next_place begun))))

-- Definitions of the code of a line

abbrev pub operands_in : Limits → List Tree → List Simple
operands_in limits [] = []
operands_in limits (e ∷ trees) = operand_in limits e ∷ operands_in limits trees

abbrev pub branch_to : Bool → Destination → Option Branch
branch_to sense destination = Some (record { sense = sense; target = destination })

abbrev pub branched_to : List ℕ → Bool → List NamedLabel → Laying (Option Branch × List NamedLabel)
branched_to name sense labels o =
    if str_eq_ignore_ascii_case name (codes "rtrue") then ((branch_to sense Destination.ReturnTrue, labels), o) else
    if str_eq_ignore_ascii_case name (codes "rfalse") then ((branch_to sense Destination.ReturnFalse, labels), o) else
    let l = labelled name labels o in ((branch_to sense (Destination.To l.0.0), l.0.1), l.1)

unfoldable pub branched : List SourceToken → Option (ℕ × Bool) → List NamedLabel → Laying (Option Branch × List NamedLabel)
branched tokens None labels o = ((None, labels), o)
branched tokens (Some b) labels o = branched_to (bytes_at tokens b.0) b.1 labels o

abbrev pub jumped_on : Limits → List SourceToken → Option ℕ → List NamedLabel → Laying (List NamedLabel)
jumped_on limits tokens None labels o = (labels, o)
jumped_on limits tokens (Some at) labels o = let l = labelled (bytes_at tokens at) labels o in (l.0.1, jumped limits l.0.0 l.1)

abbrev pub named_first : Limits → Opcode → List Tree → Option ℕ → Option Branch → Code
named_first limits op [] store branch o = o
named_first limits op (e ∷ trees) store branch o =
    naming limits op (unwrap_or (variable_of (meaning limits e).operand) 0) (operands_in limits trees) store branch o

unfoldable pub instructed : Limits → Bool → Opcode → List Tree → Option ℕ → Option Branch → Code
instructed limits true op trees store branch = named_first limits op trees store branch
instructed limits false op trees store branch = instruction limits op (operands_in limits trees) store branch

abbrev pub line_instructed : Limits → List Local → List SourceToken → Opcode → Ends → List Tree → List NamedLabel → Laying (List NamedLabel)
line_instructed limits locals tokens op e trees labels o =
    let b = branched tokens e.branch labels o in
    (b.0.1, instructed limits (row_of op).names_variable op trees (store_of locals b.1.names tokens e.store) b.0.0 b.1)

-- Tells whether an opcode prints a text and takes nothing else.
abbrev pub prints : OpcodeRow → Bool
prints row = row.has_text && not row.jumps && not row.stores && not row.branches && (row.least == 0)

abbrev pub printing_of : Opcode → Option Opcode
printing_of op = if prints (row_of op) then Some op else None

abbrev pub text_printed : Limits → CharSet → List SourceToken → Option Opcode → ℕ → Code
text_printed limits set tokens None at = nothing
text_printed limits set tokens (Some op) at = printed limits op (text_at set tokens at)

abbrev pub some_printed : Limits → CharSet → List SourceToken → Opcode → Option ℕ → Code
some_printed limits set tokens op None = nothing
some_printed limits set tokens op (Some at) = text_printed limits set tokens (printing_of op) at

abbrev pub line_laid_by : Limits → Bool → Bool → CharSet → List Local → List SourceToken → Opcode → Ends → List Tree → List NamedLabel →
    Laying (List NamedLabel)
line_laid_by limits true has_text set locals tokens op e trees labels = jumped_on limits tokens e.jump labels
line_laid_by limits false true set locals tokens op e trees labels = giving labels (some_printed limits set tokens op e.text)
line_laid_by limits false false set locals tokens op e trees labels = line_instructed limits locals tokens op e trees labels

abbrev pub line_laid_as : Limits → Bool → CharSet → List Local → List SourceToken → Opcode → Ends → List Tree → List NamedLabel →
    Laying (List NamedLabel)
line_laid_as limits true set locals tokens op e trees labels =
    line_laid_by limits (row_of op).jumps (row_of op).has_text set locals tokens op e trees labels
line_laid_as limits false set locals tokens op e trees labels = giving labels nothing

-- the code of a line that has no error, and the labels then
unfoldable pub line_laid : Limits → CharSet → List Local → List SourceToken → Option Opcode → Ends → List Tree → List NamedLabel →
    Laying (List NamedLabel)
line_laid limits set locals tokens None e trees labels o = (labels, o)
line_laid limits set locals tokens (Some op) e trees labels o =
    line_laid_as limits (fits limits op trees e) set locals tokens op e trees labels o

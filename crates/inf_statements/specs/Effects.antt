-- The effects of a routine's statements, and the findings about them beside those about their expressions.
use Rattle.std.specs.Prelude.{ℕ, List, ◌∷◌, Bool, true, false, if◌then◌else◌, Option, Some, None}
use Rattle.inf_settings.specs.Bounds.{Limits}
use Rattle.inf_characters.specs.{declared.characters.CharSet.CharSet, declared.texts.TextItem.TextItem}
use Rattle.inf_scanner.specs.declared.tokens.Place.{Place}
use Rattle.inf_opcode.specs.declared.opcodes.Opcode.{Opcode}
use Rattle.inf_expressions.specs.{Findings.wrong_kind, Trees.Tree, declared.findings.Finding.Finding, declared.findings.UnitError.UnitError}
use Rattle.inf_expressions.specs.{declared.units.Wanted.Wanted}
use Rattle.inf_names.specs.{Locals.Local, Symbols.Table}
use Rattle.inf_output.specs.Output.{Code, jumped, marked, nothing, ◌▸◌}
use Rattle.inf_unit.specs.{Opcodes.opcode_of, Tokens.SourceToken, Units.bytes_at, Units.next_place, Units.order, declared.items.Item.Item}
use Rattle.inf_statements.specs.{Printing.items_printed, declared.statements.Statement.Statement}
use Rattle.inf_statements.specs.Assembly.{ends_of, labelled, line_finding, line_laid, placed}
use Rattle.inf_statements.specs.Statements.{action_laid, alone, attributes_changed, jumped_to, moved, one_worked, plain, returned, spaced}
use Rattle.inf_statements.specs.Statements.{string_changed, style_of, styled}
use Rattle.inf_constructs.specs.{Labels.NamedLabel, Labels.is_given, declared.constructs.Construct.Construct}
use Rattle.inf_constructs.specs.Constructs.{Laying, giving, left_to}
use Rattle.inf_operands.specs.Texts.{text_at}

-- The site of a statement, all that it goes by beside its trees: the character set of the source; its tokens, the place where it begins
-- among them, and its items beside its expressions; the locals of its routine; and the statements that hold it, the innermost first.
pub record Site : Type 0 where
  pub set : CharSet
  pub tokens : List SourceToken
  pub begun : ℕ
  pub items : List Item
  pub locals : List Local
  pub constructs : List Construct

-- the name behind the first token of a statement
abbrev pub name_behind : Site → List ℕ
name_behind s = bytes_at s.tokens (next_place s.begun)

-- Definitions of the findings

-- a label is given again; there is nothing to leave or continue; a default does not come once and last
abbrev pub given_twice : ℕ → Finding
given_twice at = record { order = at; error = UnitError.LabelTwice }

abbrev pub nothing_to_leave : ℕ → Finding
nothing_to_leave at = record { order = at; error = UnitError.NothingToLeave }

abbrev pub misplaced_default : Finding
misplaced_default = record { order = 0; error = UnitError.MisplacedDefault }

abbrev pub unless_some : {A : Type 0} → Option A → Finding → Option Finding
unless_some None f = Some f
unless_some (Some a) f = None

abbrev pub only_if : Bool → Finding → Option Finding
only_if b f = if b then Some f else None

-- the finding about a statement that is no assembly line
unfoldable pub statement_finding : Site → List NamedLabel → Statement → Option Finding
statement_finding s labels Statement.Break = unless_some (left_to false s.constructs) (nothing_to_leave (order s.begun))
statement_finding s labels Statement.Continue = unless_some (left_to true s.constructs) (nothing_to_leave (order s.begun))
statement_finding s labels Statement.Place = only_if (is_given (name_behind s) labels) (given_twice (order (next_place s.begun)))
statement_finding s labels Statement.Style = unless_some (style_of (name_behind s)) (wrong_kind (order (next_place s.begun)))
statement_finding s labels _ = None

-- the finding about an assembly line, by the trees of its operands, whose names are only looked up
abbrev pub site_finding : Limits → Site → Table Place → List Tree → Option Finding
site_finding limits s names trees = line_finding limits s.locals names s.tokens s.begun (ends_of s.items) trees

-- the kind of expressions that a statement takes
abbrev pub wanted_by : Statement → Wanted
wanted_by Statement.Assembly = Wanted.Operand
wanted_by _ = Wanted.Value

-- Definitions of the effects

-- the text that a statement has beside its expressions
abbrev pub text_in : CharSet → List SourceToken → List Item → Option (List TextItem)
text_in set tokens ((Item.Text at) ∷ items) = text_at set tokens at
text_in set tokens _ = None

abbrev pub last_text : Site → Option (List TextItem)
last_text s = text_in s.set s.tokens s.items

abbrev pub statement_code : Limits → Site → List Tree → Statement → Code
statement_code limits s trees Statement.Empty = nothing
statement_code limits s trees Statement.Expression = alone limits trees
statement_code limits s trees Statement.Print = items_printed limits s.set s.tokens false false s.items trees
statement_code limits s trees Statement.PrintReturn = items_printed limits s.set s.tokens true false s.items trees
statement_code limits s trees Statement.Return = returned limits trees
statement_code limits s trees Statement.NewLine = plain limits Opcode.NewLine
statement_code limits s trees Statement.Quit = plain limits Opcode.Quit
statement_code limits s trees Statement.ReturnTrue = plain limits Opcode.Rtrue
statement_code limits s trees Statement.ReturnFalse = plain limits Opcode.Rfalse
statement_code limits s trees Statement.Break = jumped_to limits (left_to false s.constructs)
statement_code limits s trees Statement.Continue = jumped_to limits (left_to true s.constructs)
statement_code limits s trees Statement.Give = attributes_changed limits s.items trees
statement_code limits s trees Statement.String = string_changed limits (last_text s) trees
statement_code limits s trees Statement.Move = moved limits trees
statement_code limits s trees Statement.Action = action_laid limits trees
statement_code limits s trees Statement.ActionReturn = action_laid limits trees ▸ plain limits Opcode.Rtrue
statement_code limits s trees Statement.Remove = one_worked limits Opcode.RemoveObj trees
statement_code limits s trees Statement.Spaces = spaced limits trees
statement_code limits s trees Statement.Style = styled limits (name_behind s)
statement_code limits s trees Statement.Place = nothing
statement_code limits s trees Statement.Jump = nothing
statement_code limits s trees Statement.Assembly = nothing

abbrev pub jump_laid : Limits → List ℕ → List NamedLabel → Laying (List NamedLabel)
jump_laid limits name labels o = let l = labelled name labels o in (l.0.1, jumped limits l.0.0 l.1)

abbrev pub place_laid : Limits → List ℕ → List NamedLabel → Laying (List NamedLabel)
place_laid limits name labels o = let l = placed name labels o in (l.0.1, marked limits l.0.0 l.1)

unfoldable pub statement_laid : Limits → Site → Statement → List Tree → List NamedLabel → Laying (List NamedLabel)
statement_laid limits s Statement.Jump trees labels = jump_laid limits (name_behind s) labels
statement_laid limits s Statement.Place trees labels = place_laid limits (name_behind s) labels
statement_laid limits s Statement.Assembly trees labels =
    line_laid limits s.set s.locals s.tokens (opcode_of (name_behind s)) (ends_of s.items) trees labels
statement_laid limits s other trees labels = giving labels (statement_code limits s trees other)

-- Statements and their code.
use Rattle.std.specs.Prelude.{◌≡◌, ℕ, ◌==◌, List, [], ◌∷◌, codes, Bool, true, false, slice_get, if◌then◌else◌, Option, Some, None}
use Rattle.std.specs.Str.{str_eq_ignore_ascii_case}
use Rattle.inf_settings.specs.Bounds.{Limits}
use Rattle.inf_area.specs.{declared.targets.AreaName.AreaName, declared.targets.Target.Target}
use Rattle.inf_characters.specs.declared.texts.TextItem.{TextItem}
use Rattle.inf_scanner.specs.{declared.tokens.Mark.Mark, declared.tokens.TokenKind.TokenKind}
use Rattle.inf_text.specs.Packing.{packed}
use Rattle.inf_opcode.specs.{Instructions.bare, Opcodes.row_of, declared.instructions.Label.Label, declared.opcodes.Opcode.Opcode}
use Rattle.inf_expressions.specs.Trees.{Tree}
use Rattle.inf_output.specs.{Texts.used_in, declared.items.Item.TheVariants.Instruction, declared.operands.Simple.Simple}
use Rattle.inf_output.specs.{declared.veneer.Veneer.Veneer}
use Rattle.inf_output.specs.Output.{Code, instruction, jumped, laid, low_string_at, nothing, with_low_text, ◌▸◌}
use Rattle.inf_templates.specs.Meaning.{Meaning, meaning, part}
use Rattle.inf_templates.specs.Parts.{Part, SP, TEMP, call_routine, is, worked}
use Rattle.inf_unit.specs.{Tokens.SourceToken, Tokens.keyword, declared.items.Item.Item}
use Rattle.inf_syntax.specs.declared.words.Keyword.{Keyword}
use Rattle.inf_syntax.specs.declared.words.Keyword.TheVariants as keyword
use Rattle.inf_constructs.specs.Cases.{SWITCHED}
use Rattle.inf_statements.specs.declared.statements.Statement.{Statement}
use Rattle.inf_operands.specs.Texts.{text_packed}

-- The statement that begins with this word of the grammar, or with a mark. Designer's Manual, fourth edition, sections 1.4 to 1.12.
abbrev pub word_statement : Option Keyword → Statement
word_statement (Some keyword.Print) = Statement.Print
word_statement (Some keyword.PrintRet) = Statement.PrintReturn
word_statement (Some keyword.Return) = Statement.Return
word_statement (Some keyword.NewLine) = Statement.NewLine
word_statement (Some keyword.Quit) = Statement.Quit
word_statement (Some keyword.Rtrue) = Statement.ReturnTrue
word_statement (Some keyword.Rfalse) = Statement.ReturnFalse
word_statement (Some keyword.Break) = Statement.Break
word_statement (Some keyword.Continue) = Statement.Continue
word_statement (Some keyword.Jump) = Statement.Jump
word_statement (Some keyword.Give) = Statement.Give
word_statement (Some keyword.Move) = Statement.Move
word_statement (Some keyword.Remove) = Statement.Remove
word_statement (Some keyword.Spaces) = Statement.Spaces
word_statement (Some keyword.String) = Statement.String
word_statement (Some keyword.Style) = Statement.Style
word_statement _ = Statement.Expression

abbrev pub mark_statement : Mark → Statement
mark_statement Mark.Dot = Statement.Place
mark_statement Mark.At = Statement.Assembly
mark_statement Mark.Less = Statement.Action
mark_statement Mark.DoubleLess = Statement.ActionReturn
mark_statement _ = Statement.Expression

-- the statement that begins with a text: one alone is printed, and one with an operator behind it is an expression
abbrev pub text_statement : List Item → Statement
text_statement [] = Statement.Expression
text_statement (i ∷ items) = Statement.PrintReturn

abbrev pub statement_of_kind : TokenKind → SourceToken → List Item → Statement
statement_of_kind TokenKind.Name t items = word_statement (keyword t)
statement_of_kind TokenKind.Text t items = text_statement items
statement_of_kind (TokenKind.Mark m) t items = mark_statement m
statement_of_kind _ t items = Statement.Expression

-- the statement that begins with a token, and the empty one where there is none
abbrev pub statement_by : Option SourceToken → List Item → Statement
statement_by None items = Statement.Empty
statement_by (Some t) items = statement_of_kind t.kind t items

unfoldable pub statement_in : List SourceToken → ℕ → List Item → Statement
statement_in tokens begun items = statement_by (slice_get tokens begun) items

-- an instruction of an opcode alone
abbrev pub plain : Limits → Opcode → Code
plain limits op = instruction limits op [] None None

-- the instruction that prints a text: Z-Machine Standard 1.1, sections 4.8 and 14
abbrev pub printed : Limits → Opcode → Option (List TextItem) → Code
printed limits op None o = o
printed limits op (Some text) o = laid limits (Instruction (record (bare op) { text = packed text (used_in o.texts) })) (text_packed o)

-- A number that is known as 1 or 0 has an instruction of its own to return it. What needs code is returned from the stack.
abbrev pub returned_number : Limits → ℕ → Code
returned_number limits number =
    if number == 1 then plain limits Opcode.Rtrue else if number == 0 then plain limits Opcode.Rfalse else instruction limits Opcode.Ret
    (Simple.Known number ∷ []) None None

abbrev pub returned_by : Limits → Option Simple → Meaning → Code
returned_by limits (Some (Simple.Known number)) m = returned_number limits number
returned_by limits (Some s) m = instruction limits Opcode.Ret (s ∷ []) None None
returned_by limits None m = m.value SP ▸ plain limits Opcode.RetPopped

-- without an expression 1 is returned
abbrev pub returned : Limits → List Tree → Code
returned limits [] = plain limits Opcode.Rtrue
returned limits (e ∷ trees) = returned_by limits (meaning limits e).operand (meaning limits e)

abbrev pub rest : List Tree → List Tree
rest [] = []
rest (e ∷ trees) = trees

-- the code of an expression without result
abbrev pub alone : Limits → List Tree → Code
alone limits [] = nothing
alone limits (e ∷ trees) = (meaning limits e).alone

-- an instruction of some trees, each of which is an operand
abbrev pub parts_in : Limits → List Tree → List Part
parts_in limits [] = []
parts_in limits (e ∷ trees) = part (meaning limits e) ∷ parts_in limits trees

abbrev pub one_worked : Limits → Opcode → List Tree → Code
one_worked limits op [] = nothing
one_worked limits op (e ∷ trees) = worked limits op (part (meaning limits e) ∷ []) None None

abbrev pub moved : Limits → List Tree → Code
moved limits (a ∷ b ∷ trees) = worked limits Opcode.InsertObj (part (meaning limits a) ∷ part (meaning limits b) ∷ []) None None
moved limits _ = nothing

abbrev pub spaced : Limits → List Tree → Code
spaced limits [] = nothing
spaced limits (e ∷ trees) = call_routine limits Veneer.Spaces (part (meaning limits e) ∷ []) None

-- A string variable becomes a low string: its word among the abbreviations is written, which begin with the string variables (Z-Machine
-- Standard 1.1, section 3.3).
abbrev pub abbreviations : Target
abbreviations = Target.Place AreaName.Abbreviations 0

abbrev pub string_set : Limits → Target → List Tree → Code
string_set limits low [] = nothing
string_set limits low (e ∷ trees) =
    worked limits Opcode.Storew (is (Simple.Later abbreviations) ∷ part (meaning limits e) ∷ is (Simple.Later low) ∷ []) None None

abbrev pub string_of : Limits → List ℕ → List Tree → Code
string_of limits text trees o = string_set limits (low_string_at o) trees (with_low_text limits text o)

abbrev pub string_changed : Limits → Option (List TextItem) → List Tree → Code
string_changed limits None trees o = o
string_changed limits (Some text) trees o = string_of limits (packed text []) trees (text_packed o)

-- an action, with a noun or two: a call of the routine that processes actions
abbrev pub processed : Limits → List Part → Code
processed limits parts = call_routine limits Veneer.Process parts None

abbrev pub action_on : Limits → Part → List Tree → Code
action_on limits action [] = processed limits (action ∷ [])
action_on limits action (a ∷ []) = processed limits (action ∷ part (meaning limits a) ∷ [])
action_on limits action (a ∷ b ∷ trees) = processed limits (action ∷ part (meaning limits a) ∷ part (meaning limits b) ∷ [])

abbrev pub action_laid : Limits → List Tree → Code
action_laid limits [] = nothing
action_laid limits (e ∷ trees) = action_on limits (part (meaning limits e)) trees

-- the code of a branch where the expression is not true
abbrev pub unless : Limits → List Tree → Label → Code
unless limits [] label = nothing
unless limits (e ∷ trees) label = (meaning limits e).branch false label

-- the code that tests the condition of the open construct, if there is one
abbrev pub tested : Limits → Option Label → List Tree → Code
tested limits None trees = nothing
tested limits (Some label) trees = unless limits trees label

-- the code that stores the value that is switched on
abbrev pub switched : Limits → List Tree → Code
switched limits [] = nothing
switched limits (e ∷ trees) = (meaning limits e).value SWITCHED

-- The code of attributes that an object is given or that are taken from it, one by one. With several of them an object that needs code is
-- worked out first.
abbrev pub attribute_code : Limits → Opcode → Part → List Tree → Code
attribute_code limits op object [] = nothing
attribute_code limits op object (a ∷ attributes) = worked limits op (object ∷ part (meaning limits a) ∷ []) None None

abbrev pub attribute_opcode : Item → Opcode
attribute_opcode Item.Set = Opcode.SetAttr
attribute_opcode _ = Opcode.ClearAttr

abbrev pub attributes_given : Limits → Part → List Item → List Tree → Code
attributes_given limits object [] attributes = nothing
attributes_given limits object (i ∷ items) attributes =
    attribute_code limits (attribute_opcode i) object attributes ▸ attributes_given limits object items (rest attributes)

abbrev pub are_several : List Item → Bool
are_several (i ∷ j ∷ items) = true
are_several _ = false

abbrev pub given_by : Limits → Bool → Option Simple → Meaning → List Item → List Tree → Code
given_by limits true None object items attributes = object.value TEMP ▸ attributes_given limits (is (Simple.Variable TEMP)) items attributes
given_by limits several operand object items attributes = attributes_given limits (part object) items attributes

abbrev pub attributes_changed : Limits → List Item → List Tree → Code
attributes_changed limits items [] = nothing
attributes_changed limits items (e ∷ trees) = given_by limits (are_several items) (meaning limits e).operand (meaning limits e) items trees

-- Styles of text (Z-Machine Standard 1.1, section 15, `set_text_style`)
abbrev pub style_of : List ℕ → Option ℕ
style_of name = if str_eq_ignore_ascii_case name (codes "roman") then Some 0 else
    if str_eq_ignore_ascii_case name (codes "reverse") then Some 1 else if str_eq_ignore_ascii_case name (codes "bold") then Some 2 else
    if str_eq_ignore_ascii_case name (codes "underline") then Some 4 else
    if str_eq_ignore_ascii_case name (codes "fixed") then Some 8 else None

abbrev pub styled_by : Limits → Option ℕ → Code
styled_by limits None = nothing
styled_by limits (Some style) = instruction limits Opcode.SetTextStyle (Simple.Known style ∷ []) None None

abbrev pub styled : Limits → List ℕ → Code
styled limits name = styled_by limits (style_of name)

-- the code of a jump out of, or on with, the open construct
abbrev pub jumped_to : Limits → Option Label → Code
jumped_to limits None = nothing
jumped_to limits (Some label) = jumped limits label

-- An opcode prints a text, and takes nothing else.
pub record PrintsText (op : Opcode) : Type 0 where
  pub none : (row_of op).least ≡ 0
  pub stores : (row_of op).stores ≡ false
  pub branches : (row_of op).branches ≡ false
  pub jump : (row_of op).jumps ≡ false
  pub text : (row_of op).has_text ≡ true

-- The values of properties: words of the dictionary, expressions, and routines. Designer's Manual, fourth edition, sections 3.2 to 3.5.
use Rattle.std.specs.Prelude.{ℕ, ◌+◌, ◌-◌, ◌==◌, List, [], ◌∷◌, length, slice_get, Bool, true, false, ◌&&◌, if◌then◌else◌, Option}
use Rattle.std.specs.Prelude.{Some, None, is_some}
use Rattle.inf_settings.specs.Bounds.{Limits}
use Rattle.inf_area.specs.{declared.targets.AreaName.AreaName, declared.targets.Target.Target, declared.targets.Value.Value}
use Rattle.inf_characters.specs.{Reading.text_of, declared.characters.CharSet.CharSet, declared.reading.Mode.Mode}
use Rattle.inf_characters.specs.{declared.texts.TextItem.TextItem}
use Rattle.inf_code.specs.Code.{place_behind}
use Rattle.inf_dictionary.specs.declared.uses.WordUse.{WordUse}
use Rattle.inf_expressions.specs.{declared.findings.Finding.Finding, declared.units.Wanted.Wanted}
use Rattle.inf_expressions.specs.Findings.{least_of_both, out_of_range}
use Rattle.inf_gathering.specs.declared.gathering.Leaf.{Leaf}
use Rattle.inf_output.specs.Output.{with_word}
use Rattle.inf_scanner.specs.{declared.tokens.Mark.Mark, declared.tokens.Place.Place, declared.tokens.TokenKind.TokenKind}
use Rattle.inf_operands.specs.Texts.{text_at}
use Rattle.inf_report.specs.declared.messages.FixedLimit.{FixedLimit}
use Rattle.inf_names.specs.Locals.{Headed, no_locals}
use Rattle.inf_text.specs.Packing.{dictionary_bytes}
use Rattle.inf_compilation.specs.{Context.Context, Findings.Findings, Findings.header_findings}
use Rattle.inf_compilation.specs.Actions.{Compilation, finding_at, opened_with, settled_of}
use Rattle.inf_unit.specs.{Texts.fit_characters, Tokens.SourceToken, Tokens.is_mark, Units.first_place, Units.order}
use Rattle.inf_named_values.specs.Values.{looked_value, variables_from, value_of}
use Rattle.inf_bodies.specs.Bodies.{is_words, last_at, place_finding, placed, placed_finding, property_of}
use Rattle.inf_bodies.specs.Objects.{entry_told, found_at}

-- the place of the name of a property, which comes before its first value
abbrev pub place_before : ℕ → Option ℕ
place_before at = if at == 0 then None else Some (at - 1)

abbrev pub name_place : Option ℕ → Option ℕ
name_place None = None
name_place (Some at) = place_before at

abbrev pub wrong_if : Bool → Option Finding
wrong_if is_wrong = if is_wrong then Some (out_of_range 0) else None

-- Words of the dictionary: a character or a text, as a value of `name`

abbrev pub takes_words : Option ℕ → Compilation → Bool
takes_words None w = w.is_name
takes_words (Some at) w = is_words (property_of (found_at at w))

abbrev pub only_leaf : List Leaf → Option Leaf
only_leaf (l ∷ []) = Some l
only_leaf _ = None

abbrev pub word_leaf : Bool → Compilation → Option Leaf
word_leaf takes w = if takes && (length w.unit.gathering.symbols == 1) then only_leaf w.unit.gathering.leaves else None

-- the character that the last token is, as a text
abbrev pub char_by : CharSet → Option SourceToken → Option (List TextItem)
char_by set None = None
char_by set (Some t) = fit_characters (text_of set Mode.Quote t.bytes)

abbrev pub char_text : Context → Compilation → Option (List TextItem)
char_text context w = char_by context.set (slice_get w.unit.tokens (last_at w.unit.tokens))

abbrev pub leaf_text : Context → Leaf → Compilation → Option (List TextItem)
leaf_text context (Leaf.Char c) w = char_text context w
leaf_text context (Leaf.Text at) w = text_at context.set w.unit.tokens at
leaf_text context _ w = None

abbrev pub word_text_by : Context → Option Leaf → Compilation → Option (List TextItem)
word_text_by context None w = None
word_text_by context (Some l) w = leaf_text context l w

abbrev pub word_text : Context → Bool → Compilation → Option (List TextItem)
word_text context takes w = word_text_by context (word_leaf takes w) w

-- no string variable may be among its characters
abbrev pub text_value : Bool → List TextItem → Value
text_value has_variables items = if has_variables then Value.Known 0 else Value.Later (Target.Word (dictionary_bytes items))

abbrev pub word_used : Limits → Option Finding → List TextItem → Compilation → Compilation
word_used limits None items w = record w { output = with_word limits (dictionary_bytes items) WordUse.Other false w.output }
word_used limits (Some f) items w = w

abbrev pub text_finding_by : Limits → Bool → Option ℕ → List TextItem → Compilation → Option Finding
text_finding_by limits is_wrong name items w = placed_finding limits name (text_value is_wrong items) (wrong_if is_wrong) w

abbrev pub text_placed_by : Limits → Bool → Option ℕ → List TextItem → Compilation → Compilation
text_placed_by limits is_wrong name items w = word_used limits (text_finding_by limits is_wrong name items w) items
    (placed limits name (text_value is_wrong items) (wrong_if is_wrong) w)

abbrev pub text_finding : Limits → Option ℕ → List TextItem → Compilation → Option Finding
text_finding limits name items w = text_finding_by limits (variables_from items false) name items w

abbrev pub text_placed : Limits → Option ℕ → List TextItem → Compilation → Compilation
text_placed limits name items w = text_placed_by limits (variables_from items false) name items w

-- Expressions: the finding about one comes before its names are used

abbrev pub settled_work : Limits → Context → Compilation → Compilation
settled_work limits context w = record w { output = (settled_of limits context w).out }

abbrev pub settled_finding : Limits → Context → Option ℕ → Compilation → Option Finding
settled_finding limits context name w = placed_finding limits name (value_of limits context w) None (settled_work limits context w)

abbrev pub settled_placed : Limits → Context → Option ℕ → Compilation → Compilation
settled_placed limits context name w = placed limits name (value_of limits context w) None (settled_work limits context w)

abbrev pub value_finding_by : Limits → Context → Option Finding → Option ℕ → Option Finding → Value → Compilation → Option Finding
value_finding_by limits context None name judged looked w = settled_finding limits context name w
value_finding_by limits context (Some f) name judged looked w = placed_finding limits name looked judged w

abbrev pub value_by : Limits → Context → Option Finding → Option ℕ → Option Finding → Value → Compilation → Compilation
value_by limits context None name judged looked w = settled_placed limits context name w
value_by limits context (Some f) name judged looked w = placed limits name looked judged w

abbrev pub value_with_finding : Limits → Context → Option ℕ → Option Finding → Value → Compilation → Option Finding
value_with_finding limits context name judged looked w =
    value_finding_by limits context (least_of_both judged (place_finding limits name looked w)) name judged looked w

abbrev pub value_with : Limits → Context → Option ℕ → Option Finding → Value → Compilation → Compilation
value_with limits context name judged looked w =
    value_by limits context (least_of_both judged (place_finding limits name looked w)) name judged looked w

abbrev pub expression_finding : Limits → Context → Option ℕ → Compilation → Option Finding
expression_finding limits context name w = value_with_finding limits context name (finding_at 0 Wanted.Constant w) (looked_value w) w

abbrev pub expression_placed : Limits → Context → Option ℕ → Compilation → Compilation
expression_placed limits context name w = value_with limits context name (finding_at 0 Wanted.Constant w) (looked_value w) w

abbrev pub any_finding : Limits → Context → Option (List TextItem) → Option ℕ → Compilation → Option Finding
any_finding limits context None name w = expression_finding limits context name w
any_finding limits context (Some items) name w = text_finding limits name items w

abbrev pub any_placed : Limits → Context → Option (List TextItem) → Option ℕ → Compilation → Compilation
any_placed limits context None name w = expression_placed limits context name w
any_placed limits context (Some items) name w = text_placed limits name items w

abbrev pub value_finding : Limits → Context → Option ℕ → Compilation → Option Finding
value_finding limits context name w = any_finding limits context (word_text context (takes_words name w) w) name w

abbrev pub value_placed : Limits → Context → Option ℕ → Compilation → Compilation
value_placed limits context name w = any_placed limits context (word_text context (takes_words name w) w) name w

abbrev pub value_read_at : Limits → Context → Place → Option ℕ → Compilation → Compilation
value_read_at limits context first name w =
    entry_told limits context first (value_finding limits context name w) (value_placed limits context name w)

abbrev pub value_read : Limits → Context → Place → Compilation → Compilation
value_read limits context place w = value_read_at limits context (first_place w.unit.tokens place) (name_place w.unit.outer) w

-- Definitions of routines

-- the place of the bracket that opens one, which is the last of its unit
abbrev pub bracket_step : ℕ → Option TokenKind → ℕ → ℕ
bracket_step at None bracket = bracket
bracket_step at (Some k) bracket = if is_mark Mark.OpenBracket k then at else bracket

abbrev pub bracket_from : ℕ → List SourceToken → ℕ → ℕ
bracket_from at [] bracket = bracket
bracket_from at (t ∷ tokens) bracket = bracket_from (at + 1) tokens (bracket_step at (Some t.kind) bracket)

abbrev pub bracket_in : List SourceToken → ℕ
bracket_in tokens = bracket_from 0 tokens 0

abbrev pub next_routine : Compilation → Value
next_routine w = Value.Later (Target.Place AreaName.Code (place_behind w.output.code.finished))

-- The limit that a routine as a value passes: where there are too many locals it is that of locals, else that of values.
abbrev pub many_by : Bool → FixedLimit
many_by are_locals = if are_locals then FixedLimit.Locals else FixedLimit.Values

abbrev pub embedded_findings : Option Finding → Bool → Findings → Findings
embedded_findings own are_locals header = record header { least = least_of_both own header.least; many = many_by are_locals }

-- the findings about a routine that is a value: its locals come behind the tokens of its unit
abbrev pub found_embedded : Limits → Option ℕ → Headed → Compilation → Findings
found_embedded limits name h w =
    embedded_findings (place_finding limits name (next_routine w) w) h.are_too_many (header_findings (order (length w.unit.tokens)) None h)

abbrev pub routine_placed : Limits → Option ℕ → Bool → Compilation → Compilation
routine_placed limits name is_lost w = placed limits name (next_routine w) (wrong_if is_lost) w

abbrev pub embedded_opened : Limits → Context → Place → Headed → Findings → Compilation → Compilation
embedded_opened limits context first h found w =
    opened_with limits context first h found (record w { is_embedded = true; is_replaced = false })

abbrev pub embedded_begun : Limits → Context → Place → Option ℕ → Headed → Findings → Compilation → Compilation
embedded_begun limits context first name h found w =
    embedded_opened limits context first h found (routine_placed limits name (is_some found.least) w)

unfoldable pub embedded : Limits → Context → Place → Option ℕ → Headed → Compilation → Compilation
embedded limits context first name h w = embedded_begun limits context first name h (found_embedded limits name h w) w

abbrev pub embedded_read : Limits → Context → Place → Compilation → Compilation
embedded_read limits context place w =
    embedded limits context (first_place w.unit.tokens place) (place_before (bracket_in w.unit.tokens)) w.unit.headed
    (record w { unit = record w.unit { headed = no_locals } })

-- Values of a statement that prints, or gives attributes, of which there are more than code may have bytes for.
use Rattle.std.specs.Prelude.{ℕ, List, [], ◌∷◌, ◌++◌, length, drop, nat_lt, Bool, true, false, not, ◌&&◌, ◌||◌, Option, Some, None}
use Rattle.std.specs.Prelude.{option_map}
use Rattle.inf_expressions.specs.{Units.judged, declared.findings.Finding.Finding, declared.operators.Binary.Binary}
use Rattle.inf_expressions.specs.{declared.operators.Function.Function, declared.operators.Operand.Operand}
use Rattle.inf_expressions.specs.{declared.operators.Operation.Operation, declared.operators.Unary.Unary, declared.symbols.Symbol.Symbol}
use Rattle.inf_expressions.specs.{declared.units.Wanted.Wanted}
use Rattle.inf_gathering.specs.{Gatherings.Gathering, declared.gathering.Leaf.Leaf}
use Rattle.inf_names.specs.{Locals.Local, Locals.local_number, Symbols.Table, Symbols.found_in, declared.symbols.Found.Found}
use Rattle.inf_output.specs.{Output.Out, Veneer.name_of, declared.veneer.Veneer.Veneer}
use Rattle.inf_scanner.specs.declared.tokens.Place.{Place}
use Rattle.inf_settings.specs.{Settings.number_of as setting_number, declared.setting.Setting.Setting, declared.settings.Settings.Settings}
use Rattle.inf_operands.specs.Operands.{leaves_named, looked_leaf}
use Rattle.inf_unit.specs.{Crowds.Crowd, Tokens.SourceToken, declared.items.Item.Item, declared.items.PrintRule.PrintRule}
use Rattle.inf_unit.specs.LongLines.{LongLine, name_added, word_added}
use Rattle.inf_unit.specs.Units.{Unit, bytes_at, crowd_begun, order, value_sifted as unit_value_sifted}
use Rattle.inf_compilation.specs.{Actions.Compilation, Context.Context}

-- The settings that a value may pass before that of the bytes of code

-- A name or a word came: the line that has it, and whether it is new.
abbrev pub with_line : LongLine × Bool → Crowd → Crowd
with_line r c = record c { line = r.0; tells = c.tells || r.1 }

-- A name that is not known so far, and is no local, may be one too many.
abbrev pub is_unknown : Found Place → Bool
is_unknown Found.Unknown = true
is_unknown (Found.System m) = false
is_unknown (Found.Declared m place) = false
is_unknown Found.Used = false

abbrev pub is_new_by : Option ℕ → Found Place → Bool
is_new_by (Some local) f = false
is_new_by None f = is_unknown f

abbrev pub is_new : List Local → Table Place → List ℕ → Bool
is_new locals names name = is_new_by (local_number name locals) (found_in name names)

abbrev pub name_brought : Settings → Bool → List ℕ → Crowd → Crowd
name_brought settings true name c = with_line (name_added name (setting_number Setting.Symbols settings) c.line) c
name_brought settings false name c = c

abbrev pub word_brought : Settings → List ℕ → Crowd → Crowd
word_brought settings text c = with_line (word_added text (setting_number Setting.DictionaryEntries settings) c.line) c

-- A text is a string of the story.
abbrev pub leaf_told : Settings → List Local → Table Place → List SourceToken → Leaf → Crowd → Crowd
leaf_told settings locals names tokens (Leaf.Name at) c =
    name_brought settings (is_new locals names (bytes_at tokens at)) (bytes_at tokens at) c
leaf_told settings locals names tokens (Leaf.Alone at) c =
    name_brought settings (is_new locals names (bytes_at tokens at)) (bytes_at tokens at) c
leaf_told settings locals names tokens (Leaf.Word word) c = word_brought settings word.text c
leaf_told settings locals names tokens (Leaf.Text at) c = record c { tells = true }
leaf_told settings locals names tokens (Leaf.Number n) c = c
leaf_told settings locals names tokens (Leaf.Char z) c = c
leaf_told settings locals names tokens (Leaf.Action at) c = c
leaf_told settings locals names tokens (Leaf.System at) c = c

-- The code of a function of the system may have a label, or call a routine by its name.
abbrev pub is_loud_function : Function → Bool
is_loud_function Function.Child = true
is_loud_function Function.Sibling = true
is_loud_function Function.Children = true
is_loud_function Function.Parent = false
is_loud_function Function.Random = false
is_loud_function Function.Indirect = false

abbrev pub is_loud : Operand → Bool
is_loud (Operand.Function f) = is_loud_function f
is_loud (Operand.Known n) = false
is_loud (Operand.Variable v) = false
is_loud (Operand.Later target) = false
is_loud Operand.Unknown = false

-- The operand of a leaf, behind the new actions so far: the actions, and the operand.
abbrev pub operand_added : Table Place × Operand → Crowd → Crowd
operand_added r c = record c {
  operands = c.operands ++ r.1 ∷ [];
  actions = r.0;
  tells = c.tells || is_loud r.1;
  acts = c.acts || nat_lt (length c.actions.names) (length r.0.names);
}

abbrev pub leaf_brought : Settings → List Local → Out → List SourceToken → Leaf → Crowd → Crowd
leaf_brought settings locals o tokens l c =
    leaf_told settings locals o.names tokens l (operand_added (looked_leaf locals o tokens l c.actions) c)

abbrev pub leaves_brought : Settings → List Local → Out → List SourceToken → List Leaf → Crowd → Crowd
leaves_brought settings locals o tokens [] c = c
leaves_brought settings locals o tokens (l ∷ leaves) c =
    leaves_brought settings locals o tokens leaves (leaf_brought settings locals o tokens l c)

-- A rule of the language may be the name of a routine that the code calls.
abbrev pub rule_routine : PrintRule → Option Veneer
rule_routine PrintRule.Character = None
rule_routine PrintRule.String = None
rule_routine PrintRule.Address = None
rule_routine PrintRule.Object = None
rule_routine PrintRule.ShortName = Some Veneer.ShortName
rule_routine PrintRule.DefiniteArticle = Some Veneer.DefiniteArticle
rule_routine PrintRule.CapitalArticle = Some Veneer.CapitalArticle
rule_routine PrintRule.IndefiniteArticle = Some Veneer.IndefiniteArticle
rule_routine PrintRule.EnglishNumber = Some Veneer.EnglishNumber
rule_routine PrintRule.Routine = None

abbrev pub routine_brought : Settings → Table Place → Option Veneer → Crowd → Crowd
routine_brought settings names None c = c
routine_brought settings names (Some v) c = name_brought settings (is_unknown (found_in (name_of v) names)) (name_of v) c

abbrev pub item_brought : Settings → Table Place → Item → Crowd → Crowd
item_brought settings names (Item.Ruled r) c = routine_brought settings names (rule_routine r) c
item_brought settings names _ c = c

abbrev pub items_brought : Settings → Table Place → List Item → Crowd → Crowd
items_brought settings names [] c = c
items_brought settings names (i ∷ items) c = items_brought settings names items (item_brought settings names i c)

-- An entry of an array, or a property, is in memory.
abbrev pub is_entry : Operation → Bool
is_entry Operation.Byte = true
is_entry Operation.Word = true
is_entry _ = false

abbrev pub is_in_memory : Symbol → Bool
is_in_memory (Symbol.Two (Binary.Operation o)) = is_entry o
is_in_memory (Symbol.Two (Binary.Property p)) = true
is_in_memory _ = false

abbrev pub are_in_memory : List Symbol → Bool → Bool
are_in_memory [] found = found
are_in_memory (s ∷ symbols) found = are_in_memory symbols (found || is_in_memory s)

-- Operators whose code has bytes and references alone: it has no label, and calls no routine by its name. What is assigned or stepped has
-- to be a variable, and nothing be in memory.
abbrev pub is_plain_one : Bool → Unary → Bool
is_plain_one in_memory Unary.Negate = true
is_plain_one in_memory (Unary.Single s) = true
is_plain_one in_memory Unary.Not = false
is_plain_one in_memory (Unary.Before s) = not in_memory
is_plain_one in_memory (Unary.Behind s) = not in_memory
is_plain_one in_memory (Unary.Relative r) = false
is_plain_one in_memory Unary.Children = false
is_plain_one in_memory Unary.Call = true
is_plain_one in_memory Unary.Indirect = true

abbrev pub is_plain_two : Bool → Binary → Bool
is_plain_two in_memory (Binary.Operation o) = true
is_plain_two in_memory (Binary.Property p) = false
is_plain_two in_memory (Binary.Test t) = false
is_plain_two in_memory (Binary.Fails t) = false
is_plain_two in_memory Binary.Assign = not in_memory
is_plain_two in_memory Binary.Comma = true
is_plain_two in_memory Binary.And = false
is_plain_two in_memory Binary.Or = false
is_plain_two in_memory Binary.Call = true
is_plain_two in_memory Binary.Then = true
is_plain_two in_memory Binary.To = true

abbrev pub is_plain : Bool → Symbol → Bool
is_plain in_memory (Symbol.Leaf first token leaf) = true
is_plain in_memory (Symbol.Bracketed order) = true
is_plain in_memory (Symbol.Prefix order op) = is_plain_one in_memory op
is_plain in_memory (Symbol.Suffix op) = is_plain_one in_memory op
is_plain in_memory (Symbol.Two op) = is_plain_two in_memory op
is_plain in_memory Symbol.Comma = true
is_plain in_memory (Symbol.List joints) = true
is_plain in_memory (Symbol.Call given) = true

abbrev pub are_plain : Bool → List Symbol → Bool → Bool
are_plain in_memory [] plain = plain
are_plain in_memory (s ∷ symbols) plain = are_plain in_memory symbols (plain && is_plain in_memory s)

abbrev pub symbols_heard : List Symbol → Crowd → Crowd
symbols_heard symbols c = record c { tells = c.tells || not (are_plain (are_in_memory symbols false) symbols true) }

-- Definitions of the value at hand

-- The parts of a unit behind those of the values that are kept come, one kind after the other.
abbrev pub value_leaves : Settings → List Local → Out → List SourceToken → List Leaf → Crowd → Crowd
value_leaves settings locals o tokens leaves c = leaves_brought settings locals o tokens (drop c.extent.leaves leaves) c

abbrev pub value_items : Settings → Table Place → List Item → Crowd → Crowd
value_items settings names items c = items_brought settings names (drop c.items items) c

abbrev pub value_symbols : List Symbol → Crowd → Crowd
value_symbols symbols c = symbols_heard (drop c.extent.symbols symbols) c

abbrev pub value_heard : Settings → List Local → Out → List SourceToken → Gathering → List Item → Crowd → Crowd
value_heard settings locals o tokens g items c =
    value_symbols g.symbols (value_items settings o.names items (value_leaves settings locals o tokens g.leaves c))

abbrev pub value_brought : Settings → List Local → Out → Unit → Unit
value_brought settings locals o u = record u { crowd = option_map (value_heard settings locals o u.tokens u.gathering u.items) u.crowd }

-- The least finding about the value at hand.
abbrev pub value_finding_by : Option Crowd → Unit → Option Finding
value_finding_by None u = None
value_finding_by (Some c) u = judged Wanted.Value (order u.begun) c.operands (drop c.extent.symbols u.gathering.symbols)

abbrev pub value_finding : Unit → Option Finding
value_finding u = value_finding_by u.crowd u

-- The value at hand names its locals.
abbrev pub value_named_by : Option Crowd → Unit → List Local → List Local
value_named_by None u locals = locals
value_named_by (Some c) u locals = leaves_named u.tokens (drop c.extent.leaves u.gathering.leaves) locals

abbrev pub value_named : Unit → List Local → List Local
value_named u locals = value_named_by u.crowd u locals

-- The value at hand ends.
abbrev pub crowd_opened : Compilation → Compilation
crowd_opened w = record w { unit = crowd_begun w.unit }

abbrev pub crowd_told : Context → Compilation → Compilation
crowd_told context w = record w { unit = value_brought context.settings w.locals w.output w.unit }

abbrev pub crowd_named : Compilation → Compilation
crowd_named w = record w { locals = value_named w.unit w.locals }

abbrev pub crowd_sifted : Compilation → Compilation
crowd_sifted w = record w { unit = unit_value_sifted (value_finding w.unit) w.unit }

abbrev pub value_sifted : Context → Compilation → Compilation
value_sifted context w = crowd_sifted (crowd_named (crowd_told context (crowd_opened w)))

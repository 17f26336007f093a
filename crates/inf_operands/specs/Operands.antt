-- The operands of a unit's leaves.
use Rattle.std.specs.Prelude.{ℕ, ◌+◌, ◌%◌, length, List, [], ◌∷◌, ◌++◌, codes, Bool, false, if◌then◌else◌, Option, Some, None, unwrap_or}
use Rattle.std.specs.Str.{str_eq_ignore_ascii_case}
use Rattle.inf_settings.specs.Bounds.{Limits}
use Rattle.inf_area.specs.{Scales.version, declared.scale.Scale.Scale, declared.targets.AreaName.AreaName}
use Rattle.inf_area.specs.{declared.targets.SystemConstant.SystemConstant, declared.targets.Target.Target}
use Rattle.inf_characters.specs.{declared.characters.CharSet.CharSet, declared.texts.TextItem.TextItem}
use Rattle.inf_dictionary.specs.declared.uses.WordUse.{WordUse}
use Rattle.inf_scanner.specs.{declared.tokens.DictionaryWord.DictionaryWord, declared.tokens.Place.Place}
use Rattle.inf_text.specs.Packing.{packed}
use Rattle.inf_expressions.specs.{declared.operators.Function.Function, declared.operators.Operand.Operand}
use Rattle.inf_gathering.specs.declared.gathering.Leaf.{Leaf}
use Rattle.inf_names.specs.{Locals.Local, Locals.local_number, Locals.with_named, Spellings.Name}
use Rattle.inf_names.specs.declared.{meanings.Function.Function as NamedFunction, meanings.Meaning.Meaning, symbols.Found.Found}
use Rattle.inf_names.specs.Symbols.{Table, found_in, no_names, number_of as name_number, with_used}
use Rattle.inf_unit.specs.{Tokens.SourceToken, Units.bytes_at, Units.name_at, declared.items.Item.Item}
use Rattle.inf_output.specs.{Actions.action_number, Actions.action_of, Actions.key_of, Texts.used_in}
use Rattle.inf_output.specs.Output.{Code, Out, referred, referred_as, string_at, with_text, with_word}
use Rattle.inf_operands.specs.Texts.{text_at, text_packed}

-- Definitions of names

abbrev pub function_of : NamedFunction → Function
function_of NamedFunction.Child = Function.Child
function_of NamedFunction.Parent = Function.Parent
function_of NamedFunction.Sibling = Function.Sibling
function_of NamedFunction.Children = Function.Children
function_of NamedFunction.Random = Function.Random
function_of NamedFunction.Indirect = Function.Indirect

-- the operand of a name whose value is known, or that is a variable or a function
abbrev pub standing : Meaning → Option Operand
standing (Meaning.Number number) = Some (Operand.Known number)
standing (Meaning.Variable number) = Some (Operand.Variable number)
standing (Meaning.Attribute number) = Some (Operand.Known number)
standing (Meaning.Property number is_additive) = Some (Operand.Known number)
standing (Meaning.IndividualProperty number) = Some (Operand.Known number)
standing (Meaning.Object number) = Some (Operand.Known number)
standing (Meaning.Class number) = Some (Operand.Known number)
standing (Meaning.FakeAction number) = Some (Operand.Known number)
standing (Meaning.Function f) = Some (Operand.Function (function_of f))
standing (Meaning.Text place) = None
standing (Meaning.Word place) = None
standing (Meaning.LowString place) = None
standing (Meaning.Array place) = None
standing (Meaning.Routine place) = None
standing (Meaning.PackedAddress place) = None

-- the operand of every other name: a reference by its number among the names
abbrev pub referring : Option ℕ → Operand
referring number = Operand.Later (Target.Name (unwrap_or number 0))

abbrev pub operand_by : Option Operand → Option ℕ → Operand
operand_by (Some known) number = known
operand_by None number = referring number

abbrev pub found_operand : Found Place → Option ℕ → Operand
found_operand (Found.System m) number = operand_by (standing m) number
found_operand (Found.Declared m place) number = operand_by (standing m) number
found_operand Found.Used number = referring number
found_operand Found.Unknown number = referring number

-- Definitions of operands whose names are only looked up

-- the operand of a name, which a local hides
abbrev pub looked_by : Option ℕ → List ℕ → Table Place → Operand
looked_by (Some local) name names = Operand.Variable local
looked_by None name names = found_operand (found_in name names) (name_number name names)

abbrev pub looked_name : List Local → Table Place → List ℕ → Operand
looked_name locals names name = looked_by (local_number name locals) name names

-- Tells whether an operand of an assembly line that is a name by itself is the stack: it is `sp`, and no local has this name.
abbrev pub is_stack : List ℕ → Option ℕ → Bool
is_stack name (Some local) = false
is_stack name None = str_eq_ignore_ascii_case name (codes "sp")

abbrev pub looked_alone : List Local → Table Place → List ℕ → Operand
looked_alone locals names name = if is_stack name (local_number name locals) then Operand.Variable 0 else looked_name locals names name

-- the operand of a word of the dictionary: a reference by its text
abbrev pub word_operand : DictionaryWord → Operand
word_operand word = Operand.Later (Target.Word word.text)

-- The constant of the story as a whole that a name behind a sign asks for. Designer's Manual, fourth edition, section 39.
abbrev pub system_constant : List ℕ → Option SystemConstant
system_constant name = if str_eq_ignore_ascii_case name (codes "grammar_table") then Some SystemConstant.GrammarTable else
    if str_eq_ignore_ascii_case name (codes "actions_table") then Some SystemConstant.ActionsTable else
    if str_eq_ignore_ascii_case name (codes "preactions_table") then Some SystemConstant.PreactionsTable else
    if str_eq_ignore_ascii_case name (codes "dictionary_table") then Some SystemConstant.DictionaryTable else
    if str_eq_ignore_ascii_case name (codes "classes_table") then Some SystemConstant.ClassesTable else
    if str_eq_ignore_ascii_case name (codes "globals_array") then Some SystemConstant.GlobalsArray else
    if str_eq_ignore_ascii_case name (codes "readable_memory_offset") then Some SystemConstant.ReadableMemoryOffset else
    if str_eq_ignore_ascii_case name (codes "code_offset") then Some SystemConstant.CodeOffset else
    if str_eq_ignore_ascii_case name (codes "strings_offset") then Some SystemConstant.StringsOffset else
    if str_eq_ignore_ascii_case name (codes "highest_object_number") then Some SystemConstant.HighestObjectNumber else None

-- the operand of a system constant, which is known when the story is laid out
abbrev pub system_by : Option SystemConstant → Operand
system_by (Some c) = Operand.Later (Target.System c)
system_by None = Operand.Unknown

abbrev pub system_operand : List ℕ → Scale → Operand
system_operand name scale =
    if str_eq_ignore_ascii_case name (codes "version_number") then Operand.Known (version scale) else system_by (system_constant name)

-- the operand of a leaf that is no action, where its name is only looked up, in a story of a version: a text is some string
abbrev pub looked : List Local → Table Place → Scale → List SourceToken → Leaf → Operand
looked locals names scale tokens (Leaf.Name at) = looked_name locals names (bytes_at tokens at)
looked locals names scale tokens (Leaf.Alone at) = looked_alone locals names (bytes_at tokens at)
looked locals names scale tokens (Leaf.Number number) = Operand.Known number
looked locals names scale tokens (Leaf.Char zscii) = Operand.Known zscii
looked locals names scale tokens (Leaf.Word word) = word_operand word
looked locals names scale tokens (Leaf.Text at) = Operand.Later (Target.Place AreaName.Strings 0)
looked locals names scale tokens (Leaf.Action at) = Operand.Unknown
looked locals names scale tokens (Leaf.System at) = system_operand (bytes_at tokens at) scale

-- The number of an action that did not appear is the next one, behind other new ones of its unit.
abbrev pub word_sum : ℕ → ℕ → ℕ
word_sum a b = (a % 65536 + b % 65536) % 65536

abbrev pub new_action : Name → Out → Table Place → Table Place × ℕ
new_action n o ahead =
    let key = key_of n.bytes in (with_used key n.place ahead, word_sum (length o.seen.names) (unwrap_or (name_number key ahead) 0))

abbrev pub as_known : {A : Type 0} → A × ℕ → A × Operand
as_known s = (s.0, Operand.Known s.1)

abbrev pub looked_action_by : Option ℕ → Name → Out → Table Place → Table Place × Operand
looked_action_by (Some number) n o ahead = (ahead, Operand.Known number)
looked_action_by None n o ahead = as_known (new_action n o ahead)

abbrev pub looked_action : Option Name → Out → Table Place → Table Place × Operand
looked_action None o ahead = (ahead, Operand.Known 0)
looked_action (Some n) o ahead = looked_action_by (action_number n.bytes o) n o ahead

-- the operand of a leaf behind others with new actions, and those of all leaves
abbrev pub looked_leaf : List Local → Out → List SourceToken → Leaf → Table Place → Table Place × Operand
looked_leaf locals o tokens (Leaf.Action at) ahead = looked_action (name_at tokens at) o ahead
looked_leaf locals o tokens l ahead = (ahead, looked locals o.names o.code.scale tokens l)

abbrev pub looked_from : List Local → Out → List SourceToken → List Leaf → Table Place → List Operand → List Operand
looked_from locals o tokens [] ahead operands = operands
looked_from locals o tokens (l ∷ leaves) ahead operands =
    let s = looked_leaf locals o tokens l ahead in looked_from locals o tokens leaves s.0 (operands ++ s.1 ∷ [])

abbrev pub all_looked : List Local → Out → List SourceToken → List Leaf → List Operand
all_looked locals o tokens leaves = looked_from locals o tokens leaves (no_names false) []

-- Definitions of operands whose names and words are used

-- the output so far, and the operands of some leaves
pub record Settled : Type 0 where
  pub out : Out
  pub operands : List Operand

-- the operand of a name that was used: 0 where the name is one too many
abbrev pub settled_as : Option (Found Place × Option ℕ) → Operand
settled_as None = Operand.Known 0
settled_as (Some f) = found_operand f.0 f.1

abbrev pub settled_by : Limits → Option ℕ → List ℕ → Place → Out → Out × Operand
settled_by limits (Some local) name place o = (o, Operand.Variable local)
settled_by limits None name place o = (referred limits name place o, settled_as (referred_as limits name o))

abbrev pub settled_name : Limits → List Local → Option Name → Out → Out × Operand
settled_name limits locals None o = (o, Operand.Known 0)
settled_name limits locals (Some n) o = settled_by limits (local_number n.bytes locals) n.bytes n.place o

abbrev pub settled_alone : Limits → List Local → List SourceToken → ℕ → Out → Out × Operand
settled_alone limits locals tokens at o =
    if is_stack (bytes_at tokens at) (local_number (bytes_at tokens at) locals) then (o, Operand.Variable 0) else settled_name limits locals
    (name_at tokens at) o

-- the operand of a text with these characters: a string of the story, which is packed and added
abbrev pub settled_text : Limits → Option (List TextItem) → Out → Out × Operand
settled_text limits None o = (o, Operand.Unknown)
settled_text limits (Some items) o = (with_text limits (packed items (used_in o.texts)) (text_packed o), Operand.Later (string_at o))

-- the operand of a word of the dictionary, which is used
abbrev pub settled_word : Limits → DictionaryWord → Out → Out × Operand
settled_word limits word o = (with_word limits word.text WordUse.Other word.is_plural o, word_operand word)

-- the operand of an action, which appears
abbrev pub settled_action : Limits → Option Name → Out → Out × Operand
settled_action limits None o = (o, Operand.Known 0)
settled_action limits (Some n) o = as_known (action_of limits n.bytes n.place o)

-- the operand of a leaf, whose name is used where it is no local
abbrev pub settled_leaf : Limits → CharSet → List Local → List SourceToken → Leaf → Out → Out × Operand
settled_leaf limits set locals tokens (Leaf.Name at) o = settled_name limits locals (name_at tokens at) o
settled_leaf limits set locals tokens (Leaf.Alone at) o = settled_alone limits locals tokens at o
settled_leaf limits set locals tokens (Leaf.Number number) o = (o, Operand.Known number)
settled_leaf limits set locals tokens (Leaf.Char zscii) o = (o, Operand.Known zscii)
settled_leaf limits set locals tokens (Leaf.Word word) o = settled_word limits word o
settled_leaf limits set locals tokens (Leaf.Text at) o = settled_text limits (text_at set tokens at) o
settled_leaf limits set locals tokens (Leaf.Action at) o = settled_action limits (name_at tokens at) o
settled_leaf limits set locals tokens (Leaf.System at) o = (o, system_operand (bytes_at tokens at) o.code.scale)

-- the output with a leaf added that is a text, a word or an action
abbrev pub one_added : Limits → CharSet → List SourceToken → Leaf → Code
one_added limits set tokens (Leaf.Text at) o = (settled_text limits (text_at set tokens at) o).0
one_added limits set tokens (Leaf.Word word) o = (settled_word limits word o).0
one_added limits set tokens (Leaf.Action at) o = (settled_action limits (name_at tokens at) o).0
one_added limits set tokens _ o = o

abbrev pub leaf_added : Limits → CharSet → List SourceToken → List Leaf → Code
leaf_added limits set tokens [] o = o
leaf_added limits set tokens (l ∷ leaves) o = leaf_added limits set tokens leaves (one_added limits set tokens l o)

abbrev pub with_settled : Out × Operand → List Operand → Settled
with_settled s operands = record { out = s.0; operands = operands ++ s.1 ∷ [] }

-- the operands of leaves, from left to right
abbrev pub settled : Limits → CharSet → List Local → List SourceToken → List Leaf → Settled → Settled
settled limits set locals tokens [] s = s
settled limits set locals tokens (l ∷ leaves) s =
    settled limits set locals tokens leaves (with_settled (settled_leaf limits set locals tokens l s.out) s.operands)

-- the locals, with those noted that the leaves of a unit name
abbrev pub leaf_named : List SourceToken → Leaf → List Local → List Local
leaf_named tokens (Leaf.Name at) locals = with_named (bytes_at tokens at) locals
leaf_named tokens (Leaf.Alone at) locals = with_named (bytes_at tokens at) locals
leaf_named tokens _ locals = locals

abbrev pub leaves_named : List SourceToken → List Leaf → List Local → List Local
leaves_named tokens [] locals = locals
leaves_named tokens (l ∷ leaves) locals = leaves_named tokens leaves (leaf_named tokens l locals)

-- the locals, with those noted in which a unit stores
abbrev pub store_named : List SourceToken → Item → List Local → List Local
store_named tokens (Item.Store at) locals = with_named (bytes_at tokens at) locals
store_named tokens _ locals = locals

abbrev pub stores_named : List SourceToken → List Item → List Local → List Local
stores_named tokens [] locals = locals
stores_named tokens (i ∷ items) locals = stores_named tokens items (store_named tokens i locals)

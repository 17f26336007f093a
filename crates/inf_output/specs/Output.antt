-- Code, as a change of an output, and the words by which pieces of code are put together.
use Rattle.std.specs.Prelude.{◌≡◌, ℕ, ◌+◌, ◌-◌, ◌≤◌, min, Bool, true, false, nat_lt, if◌then◌else◌, List, [], ◌∷◌, ◌++◌, length, map}
use Rattle.std.specs.Prelude.{Option, Some, None}
use Rattle.inf_settings.specs.{Bounds.Limits, Settings.place_of, declared.setting.Setting.Setting}
use Rattle.inf_scanner.specs.declared.tokens.Place.{Place}
use Rattle.inf_area.specs.{declared.scale.Scale.Scale, declared.targets.AreaName.AreaName, declared.targets.Target.Target}
use Rattle.inf_opcode.specs.{Cells.Of, Counts.counts_of, Instructions.front_cells, Opcodes.row_of}
use Rattle.inf_opcode.specs.declared.{cells.Special.Special, instructions.Branch.Branch, instructions.Destination.Destination}
use Rattle.inf_opcode.specs.declared.{instructions.Label.Label, instructions.Operand.Operand, opcodes.Opcode.Opcode, writing.Counts.Counts}
use Rattle.inf_assembler.specs.{declared.routines.CloseFault.CloseFault, declared.routines.Limit.Limit as CodeLimit}
use Rattle.inf_assembler.specs.{declared.routines.RoutineKind.RoutineKind}
use Rattle.inf_code.specs.Code.{Routines, begun as code_begun, code_left, fault_closed, full_begun, full_label, full_opened, full_with}
use Rattle.inf_code.specs.Code.{is_lost_in}
use Rattle.inf_code.specs.Code.{labels_left, references_left, with_item, with_closed, with_label as with_mark, with_none_open, with_opened}
use Rattle.inf_names.specs.{declared.meanings.Meaning.Meaning, declared.symbols.DeclareFault.DeclareFault, declared.symbols.Found.Found}
use Rattle.inf_names.specs.{declared.symbols.ReferFault.ReferFault}
use Rattle.inf_names.specs.Symbols.{Table, declare_fault, found_in, number_of, refer_fault, with_declared, with_used}
use Rattle.inf_output.specs.{Operands.written, Strings.StringArea, Strings.fits, Strings.with_string, Texts.Packing, Veneer.name_of}
use Rattle.inf_output.specs.declared.{items.Item.Item, operands.Simple.Simple, past.Past.Past, veneer.Veneer.Veneer}
use Rattle.inf_dictionary.specs.{Texts.Text, declared.dictionary.AddFault.AddFault as WordFault, declared.uses.WordUse.WordUse}
use Rattle.inf_dictionary.specs.Words.{add_fault, with_use, word_of}
use Rattle.inf_tables.specs.{LowStrings.low_fits, LowStrings.low_size, LowStrings.with_low, Tables.AllTables, Tables.references}

-- Output of the units of a source: the routines of the story, its strings, its tables, the names, how texts are packed, the actions
-- that appeared, the place of the first token of the unit at hand, the number of the next label of the routine, the room left of
-- each limit once one was passed, and the items of code that is kept apart, if there is such code.
pub record Out : Type 0 where
  pub code : Routines
  pub strings : StringArea
  pub tables : AllTables
  pub names : Table Place
  pub texts : Packing
  pub seen : Table Place
  pub first : Place
  pub next : ℕ
  pub past : Option Past
  pub kept : Option (List Item)

abbrev pub Code : Type 0
Code = Out → Out

-- Definitions of limits

-- Room left beside some code.
abbrev pub whole : Limits → Routines → Past
whole limits code = record {
  symbols = false;
  labels = labels_left limits code;
  tables = None;
  code = code_left limits code;
  strings = false;
  refs = references_left limits code;
}

-- Room of a limit when `more` of it is taken; `None` once the limit is passed.
abbrev pub less : Option ℕ → ℕ → Option ℕ
less None more = None
less (Some rest) more = if nat_lt rest more then None else Some (rest - more)

abbrev pub taken : Counts → Past → Past
taken counts past =
    record past { labels = less past.labels counts.labels; code = less past.code counts.bytes; refs = less past.refs counts.fixups }

abbrev pub past_by : Limits → Option Past → Routines → Past
past_by limits None code = whole limits code
past_by limits (Some past) code = past

-- Room left in an output.
abbrev pub past_of : Limits → Out → Past
past_of limits o = past_by limits o.past o.code

-- Room left behind an item: an instruction, whose text has bytes of its own, or the place of a label.
abbrev pub without_bytes : ℕ → Past → Past
without_bytes bytes past = record past { code = less past.code bytes }

abbrev pub without : Item → Past → Past
without (Item.Instruction parts) past = without_bytes (length parts.text) (taken (counts_of (front_cells parts)) past)
without (Item.Mark label) past = taken (counts_of (Of (Special.Marks label) ∷ [])) past

-- Room left behind an item in a routine that is lost, of which the labels count alone.
abbrev pub without_labels : ℕ → Past → Past
without_labels labels past = record past { labels = less past.labels labels }

abbrev pub without_lost : Item → Past → Past
without_lost (Item.Instruction parts) past = without_labels (counts_of (front_cells parts)).labels past
without_lost (Item.Mark label) past = without (Item.Mark label) past

-- An item that is not laid any more is counted all the same.
abbrev pub without_item : Routines → Item → Past → Past
without_item code item past = if is_lost_in code.opened then without_lost item past else without item past

abbrev pub passed : Limits → Item → Code
passed limits item o = record o { past = Some (without_item o.code item (past_of limits o)) }

-- First limit that was passed, in the order of the settings.
abbrev pub full_of : Option ℕ → Setting → Option Setting → Option Setting
full_of None limit others = Some limit
full_of (Some rest) limit others = others

abbrev pub or_full : Option Setting → Option Setting → Option Setting
or_full None others = others
or_full (Some limit) others = Some limit

abbrev pub full_past : Past → Option Setting
full_past past = if past.symbols then Some Setting.Symbols else
    full_of past.labels Setting.Labels (or_full past.tables (full_of past.code Setting.Code (
    if past.strings then Some Setting.Strings else full_of past.refs Setting.References None)))

-- Room left where tables have `references` more references.
abbrev pub counted : ℕ → Past → Past
counted references past = record past { refs = less past.refs references }

abbrev pub full : Limits → Out → Option Setting
full limits o = full_past (counted (references o.tables) (past_of limits o))

-- First of two limits of tables, in the order of the settings.
abbrev pub first_table : Option Setting → Setting → Setting
first_table None limit = limit
first_table (Some other) limit = if nat_lt (place_of limit) (place_of other) then limit else other

-- A limit of a table is passed.
abbrev pub table_passed : Setting → Past → Past
table_passed limit past = record past { tables = Some (first_table past.tables limit) }

-- Definitions of items

-- First limit that an item in the open routine would pass, and the routines with the item.
abbrev pub full_item : Item → Routines → Option CodeLimit
full_item (Item.Instruction parts) routines = full_with parts routines
full_item (Item.Mark label) routines = full_label routines

abbrev pub grown : Item → Routines → Routines
grown (Item.Instruction parts) routines = record routines { opened = with_item parts routines.opened }
grown (Item.Mark label) routines = record routines { opened = with_mark label routines.opened }

-- An item is laid: into the code that is kept apart, if there is such code, and else into the open routine. From the first item on
-- that would pass a limit nothing is laid any more.
abbrev pub fitted : Limits → Option CodeLimit → Item → Code
fitted limits None item o = record o { code = grown item o.code }
fitted limits (Some limit) item o = passed limits item o

abbrev pub in_routine : Limits → Option Past → Item → Code
in_routine limits None item o = fitted limits (full_item item o.code) item o
in_routine limits (Some past) item o = passed limits item o

abbrev pub laid_by : Limits → Option (List Item) → Item → Code
laid_by limits None item o = in_routine limits o.past item o
laid_by limits (Some items) item o = record o { kept = Some (items ++ item ∷ []) }

unfoldable pub laid : Limits → Item → Code
laid limits item o = laid_by limits o.kept item o

-- Items are laid one behind the other.
abbrev pub laid_all : Limits → List Item → Code
laid_all limits [] o = o
laid_all limits (item ∷ items) o = laid_all limits items (laid limits item o)

-- Code is kept apart from here on, and no longer from here on.
abbrev pub apart : Code
apart o = record o { kept = Some [] }

abbrev pub together : Code
together o = record o { kept = None }

abbrev pub items_of : Option (List Item) → List Item
items_of None = []
items_of (Some items) = items

-- Definitions of routines

-- Another routine is opened, unless that passes a limit; its labels are counted from 0.
abbrev pub passed_limit : CodeLimit → Past → Past
passed_limit CodeLimit.Labels past = record past { labels = None }
passed_limit CodeLimit.Code past = record past { code = None }
passed_limit CodeLimit.Refs past = record past { refs = None }

abbrev pub opened_by : Limits → Option CodeLimit → ℕ → Bool → Code
opened_by limits None locals is_lost o = record o { code = with_opened locals is_lost o.code; next = 0 }
opened_by limits (Some limit) locals is_lost o =
    let code = with_none_open o.code in
    record o { code = code; next = 0; past = Some (passed_limit limit (past_by limits o.past code)) }

abbrev pub opened : Limits → ℕ → Bool → Code
opened limits locals is_lost o = opened_by limits (full_opened limits is_lost o.code) locals is_lost o

-- Code begins with the first routine of the story, unless it has begun. Where that would pass a limit it does not begin, and the limit is
-- passed.
abbrev pub begun_by : Limits → Option CodeLimit → Code
begun_by limits None o = record o { code = code_begun limits o.code }
begun_by limits (Some limit) o = record o { code = code_begun limits o.code; past = Some (passed_limit limit (past_of limits o)) }

abbrev pub begun : Limits → Code
begun limits o = begun_by limits (full_begun limits o.code) o

-- The open routine is closed, if there is one. Where something is wrong with it, it is given up.
abbrev pub closed_by : Limits → Option CloseFault → RoutineKind → Code
closed_by limits None kind o = record o { code = with_closed kind o.code }
closed_by limits (Some (CloseFault.Full limit)) kind o =
    record o { code = with_none_open o.code; past = Some (passed_limit limit (past_by limits o.past (with_none_open o.code))) }
closed_by limits (Some fault) kind o = record o { code = with_none_open o.code }

abbrev pub code_closed : Limits → RoutineKind → Code
code_closed limits kind o = closed_by limits (fault_closed limits kind o.code) kind o

-- Where the routine had too many labels, their limit is passed.
abbrev pub with_labels_left : Limits → Option ℕ → Code
with_labels_left limits None o = record o { past = Some (passed_limit CodeLimit.Labels (past_of limits o)) }
with_labels_left limits (Some rest) o = o

abbrev pub closed : Limits → RoutineKind → Code
closed limits kind o = with_labels_left limits (past_of limits o).labels (code_closed limits kind o)

-- The scale of packed addresses, by which they are multiplied

-- Packed addresses are multiplied by another scale: the next routine and the next string are filled up to it.
abbrev pub with_scale : Scale → Code
with_scale scale o = record o { code = record o.code { scale = scale }; strings = record o.strings { scale = scale } }

-- Definitions of strings

-- Place of the next string.
abbrev pub string_at : Out → Target
string_at o = Target.Place AreaName.Strings (length o.strings.bytes)

-- A string with some bytes is added. Where it would pass the limit, nothing is added and the limit is passed.
abbrev pub with_text_by : Limits → Bool → List ℕ → Code
with_text_by limits true text o = record o { strings = with_string text o.strings }
with_text_by limits false text o = record o { past = Some (record (past_of limits o) { strings = true }) }

abbrev pub with_text : Limits → List ℕ → Code
with_text limits text o = with_text_by limits (fits limits text o.strings) text o

-- Definitions of tables

-- A table would hold more than its limit allows.
abbrev pub passed_table : Limits → Setting → Code
passed_table limits limit o = record o { past = Some (table_passed limit (past_of limits o)) }

-- Place of the next low string, and one more: where it would pass the limit it is not added, and the limit is passed.
abbrev pub low_string_at : Out → Target
low_string_at o = Target.Place AreaName.LowStrings (low_size o.tables.low_strings)

abbrev pub with_low_strings : List ℕ → AllTables → AllTables
with_low_strings text tables = record tables { low_strings = with_low text tables.low_strings }

abbrev pub with_low_text_by : Limits → Bool → List ℕ → Code
with_low_text_by limits true text o = record o { tables = with_low_strings text o.tables }
with_low_text_by limits false text o = passed_table limits Setting.LowStrings o

abbrev pub with_low_text : Limits → List ℕ → Code
with_low_text limits text o = with_low_text_by limits (low_fits limits text o.tables.low_strings) text o

abbrev pub with_dictionary : Text → WordUse → Bool → AllTables → AllTables
with_dictionary text how is_plural tables = record tables { dictionary = with_use text how is_plural tables.dictionary }

-- A word is used. Where it would be one too many it is not added, and the limit is passed; nor is it added where it is one of another verb.
abbrev pub with_word_by : Limits → Option WordFault → Text → WordUse → Bool → Code
with_word_by limits None text how is_plural o = record o { tables = with_dictionary text how is_plural o.tables }
with_word_by limits (Some WordFault.Full) text how is_plural o = passed_table limits Setting.DictionaryEntries o
with_word_by limits (Some WordFault.OtherVerb) text how is_plural o = o
with_word_by limits (Some WordFault.Memory) text how is_plural o = o

abbrev pub with_word : Limits → Text → WordUse → Bool → Code
with_word limits text how is_plural o =
    with_word_by limits (add_fault limits (word_of text o.tables.dictionary.list) how o.tables.dictionary) text how is_plural o

-- Definitions of names

abbrev pub symbols_passed : Limits → Code
symbols_passed limits o = record o { past = Some (record (past_of limits o) { symbols = true }) }

-- A name is declared, unless something is wrong with that.
abbrev pub declared_by : Limits → Option (DeclareFault Place) → List ℕ → Place → Meaning → Code
declared_by limits None name place m o = record o { names = with_declared name place m o.names }
declared_by limits (Some DeclareFault.Full) name place m o = symbols_passed limits o
declared_by limits (Some fault) name place m o = o

abbrev pub declared : Limits → List ℕ → Place → Meaning → Code
declared limits name place m o = declared_by limits (declare_fault limits name o.names) name place m o

-- A name is used at a place; where it is one too many, the limit of names is passed.
abbrev pub referred_by : Limits → Option ReferFault → List ℕ → Place → Code
referred_by limits None name place o = record o { names = with_used name place o.names }
referred_by limits (Some fault) name place o = symbols_passed limits o

abbrev pub referred : Limits → List ℕ → Place → Code
referred limits name place o = referred_by limits (refer_fault limits name o.names) name place o

-- Meaning that the look-up of a name finds, and its number among the names; `None` where it would be one too many.
abbrev pub referred_as_by : Option ReferFault → List ℕ → Table Place → Option (Found Place × Option ℕ)
referred_as_by None name names = Some (found_in name names, number_of name names)
referred_as_by (Some fault) name names = None

abbrev pub referred_as : Limits → List ℕ → Out → Option (Found Place × Option ℕ)
referred_as limits name o = referred_as_by (refer_fault limits name o.names) name o.names

-- Definitions of words

abbrev pub nothing : Code
nothing o = o

-- A piece of code behind another.
infixr 30 ◌▸◌
abbrev pub ◌▸◌ : Code → Code → Code
(first ▸ second) o = second (first o)

-- Number behind that of a label; numbers end long behind the most labels that a routine may have.
unfoldable pub behind : ℕ → ℕ
behind number = min (number + 1) 4294967295

abbrev pub next_label : Out → Label
next_label o = record { number = o.next }

-- Code with a label of its own.
abbrev pub with_label : (Label → Code) → Code
with_label body o = body (next_label o) (record o { next = behind o.next })

-- An instruction of simple operands, and one whose first operand names a variable.
unfoldable pub instruction : Limits → Opcode → List Simple → Option ℕ → Option Branch → Code
instruction limits opcode operands store branch o = laid limits (Item.Instruction (record {
  opcode = opcode;
  operands = map written operands;
  store = store;
  branch = branch;
  text = [];
})) o

unfoldable pub naming : Limits → Opcode → ℕ → List Simple → Option ℕ → Option Branch → Code
naming limits opcode variable operands store branch o = laid limits (Item.Instruction (record {
  opcode = opcode;
  operands = Operand.Small variable ∷ map written operands;
  store = store;
  branch = branch;
  text = [];
})) o

-- Place of a label, a jump to it, and a branch to it that is taken where the test is `sense`.
unfoldable pub marked : Limits → Label → Code
marked limits label o = laid limits (Item.Mark label) o

unfoldable pub jumped : Limits → Label → Code
jumped limits label o = laid limits (Item.Instruction (record {
  opcode = Opcode.Jump;
  operands = Operand.Offset label ∷ [];
  store = None;
  branch = None;
  text = [];
})) o

abbrev pub to : Bool → Label → Option Branch
to sense label = Some (record { sense = sense; target = Destination.To label })

-- The opcode takes `operands` operands of which none names a variable, with a store and a branch or without (Z-Machine Standard
-- 1.1, section 14).
pub record Takes (opcode : Opcode) (operands : ℕ) (with_store with_branch : Bool) : Type 0 where
  pub enough : (row_of opcode).least ≤ operands
  pub few : operands ≤ (row_of opcode).most
  pub variable : (row_of opcode).names_variable ≡ false
  pub jump : (row_of opcode).jumps ≡ false
  pub stores : with_store ≡ (row_of opcode).stores
  pub branches : with_branch ≡ (row_of opcode).branches
  pub text : (row_of opcode).has_text ≡ false

-- The opcode takes a first operand that names a variable and `operands` others, with a store and a branch or without.
pub record TakesVariable (opcode : Opcode) (operands : ℕ) (with_store with_branch : Bool) : Type 0 where
  pub enough : (row_of opcode).least ≤ operands + 1
  pub few : operands + 1 ≤ (row_of opcode).most
  pub jump : (row_of opcode).jumps ≡ false
  pub stores : with_store ≡ (row_of opcode).stores
  pub branches : with_branch ≡ (row_of opcode).branches
  pub text : (row_of opcode).has_text ≡ false

-- Definitions of routines of the veneer

-- Operand of a name whose number is known, or that is a variable.
abbrev pub standing_simple : Meaning → Option Simple
standing_simple (Meaning.Number number) = Some (Simple.Known number)
standing_simple (Meaning.Variable number) = Some (Simple.Variable number)
standing_simple (Meaning.Attribute number) = Some (Simple.Known number)
standing_simple (Meaning.Property number is_additive) = Some (Simple.Known number)
standing_simple (Meaning.IndividualProperty number) = Some (Simple.Known number)
standing_simple (Meaning.Object number) = Some (Simple.Known number)
standing_simple (Meaning.Class number) = Some (Simple.Known number)
standing_simple (Meaning.FakeAction number) = Some (Simple.Known number)
standing_simple (Meaning.Text place) = None
standing_simple (Meaning.Word place) = None
standing_simple (Meaning.LowString place) = None
standing_simple (Meaning.Array place) = None
standing_simple (Meaning.Routine place) = None
standing_simple (Meaning.PackedAddress place) = None
standing_simple (Meaning.Function function) = None

-- A name with a number among the names is a reference by that, unless it has an operand of its own.
abbrev pub simple_by : Option Simple → Option ℕ → Simple
simple_by (Some simple) number = simple
simple_by None None = Simple.Known 0
simple_by None (Some number) = Simple.Later (Target.Name number)

abbrev pub found_simple : Found Place → Option ℕ → Simple
found_simple (Found.System meaning) number = simple_by (standing_simple meaning) number
found_simple (Found.Declared meaning place) number = simple_by (standing_simple meaning) number
found_simple Found.Used number = simple_by None number
found_simple Found.Unknown number = simple_by None number

-- Operand by which a routine is called: its name is looked up where it is called, and no local hides it. A name that is one too
-- many refers to nothing, since nothing is laid any more.
abbrev pub routine_by : Option ReferFault → List ℕ → Table Place → Simple
routine_by None name names = found_simple (found_in name names) (number_of name names)
routine_by (Some fault) name names = Simple.Later (Target.Name 0)

unfoldable pub routine : Limits → Veneer → Out → Simple
routine limits veneer o = routine_by (refer_fault limits (name_of veneer) o.names) (name_of veneer) o.names

-- The name of the routine is used where it is called, at the first token of the unit.
abbrev pub used_by : Limits → Option ReferFault → List ℕ → Code
used_by limits None name o = record o { names = with_used name o.first o.names }
used_by limits (Some fault) name o = record o { past = Some (record (past_of limits o) { symbols = true }) }

unfoldable pub used : Limits → Veneer → Code
used limits veneer o = used_by limits (refer_fault limits (name_of veneer) o.names) (name_of veneer) o

-- Code that calls a routine of the veneer.
abbrev pub with_routine : Limits → Veneer → (Simple → Code) → Code
with_routine limits veneer body o = body (routine limits veneer o) (used limits veneer o)

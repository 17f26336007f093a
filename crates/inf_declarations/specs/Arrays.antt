-- The directive `Array`: its header, and its entries one by one. Designer's Manual, fourth edition, section 2.4.
use Rattle.std.specs.Prelude.{◌≡◌, ℕ, ◌+◌, ◌==◌, List, [], ◌∷◌, length, map, codes, Bool, true, false, not, ◌&&◌, if◌then◌else◌, Option}
use Rattle.std.specs.Prelude.{Some, None}
use Rattle.std.specs.Str.{str_eq_ignore_ascii_case}
use Rattle.inf_settings.specs.{Bounds.Limits, Bounds.unbounded, declared.setting.Setting.Setting}
use Rattle.inf_area.specs.declared.targets.Value.{Value}
use Rattle.inf_arrays.specs.{declared.arrays.ArrayFault.ArrayFault, declared.kinds.ArrayKind.ArrayKind}
use Rattle.inf_arrays.specs.Arrays.{Adding, One, Zeros, Characters, AllArrays, added_fault, all_of, arrays_size, no_arrays, open_fault}
use Rattle.inf_arrays.specs.Arrays.{opened, values_in, with_entries}
use Rattle.inf_characters.specs.declared.texts.TextItem.{TextItem}
use Rattle.inf_expressions.specs.{declared.findings.Finding.Finding, declared.symbols.Symbol.Symbol, declared.units.Wanted.Wanted}
use Rattle.inf_expressions.specs.Findings.{least_of_both, out_of_range}
use Rattle.inf_gathering.specs.declared.gathering.Leaf.{Leaf}
use Rattle.inf_names.specs.{Spellings.Name, declared.meanings.Meaning.Meaning}
use Rattle.inf_output.specs.Output.{Code, passed_table}
use Rattle.inf_report.specs.declared.messages.FixedLimit.{FixedLimit}
use Rattle.inf_scanner.specs.{declared.tokens.Mark.Mark, declared.tokens.Place.Place, declared.tokens.TokenKind.TokenKind}
use Rattle.inf_operands.specs.Texts.{text_at}
use Rattle.inf_compilation.specs.{Context.Context, Findings.found_alone, Findings.nothing_found}
use Rattle.inf_compilation.specs.Actions.{Compilation, finding_at, passed, settled_of, unit_ended}
use Rattle.inf_unit.specs.{Tokens.SourceToken, Units.bytes_at, Units.first_place, Units.kind_at, Units.name_order}
use Rattle.inf_named_values.specs.{Declarations.declared_ended, Declarations.name_declared, Declarations.plainly_known, Values.looked_value}
use Rattle.inf_named_values.specs.{Values.value_of, Values.variables_from, declared.declarations.Declared.Declared}

-- Definitions of the header

-- the kind of an array, by the token behind its name
abbrev pub kind_named : List ℕ → ArrayKind
kind_named bytes = if str_eq_ignore_ascii_case bytes (codes "string") then ArrayKind.String else ArrayKind.Table

abbrev pub array_kind : Option TokenKind → List ℕ → ArrayKind
array_kind (Some (TokenKind.Mark Mark.Arrow)) bytes = ArrayKind.Bytes
array_kind (Some (TokenKind.Mark m)) bytes = ArrayKind.Words
array_kind (Some k) bytes = kind_named bytes
array_kind None bytes = ArrayKind.Words

abbrev pub kind_in : List SourceToken → ArrayKind
kind_in tokens = let at = name_order tokens + 1 in array_kind (kind_at tokens at) (bytes_at tokens at)

abbrev pub with_arrays : AllArrays → Code
with_arrays arrays o = record o { tables = record o.tables { arrays = arrays } }

-- the name of an array is declared, which begins at `place`
abbrev pub array_declared : Limits → Name → ℕ → Code
array_declared limits name place o = name_declared limits name (Meaning.Array place) o

-- An array that would pass the limit is not opened, and has its name all the same: that may pass a limit before that of arrays.
abbrev pub array_refused : Limits → Name → Code
array_refused limits name o = array_declared limits name 0 (passed_table limits Setting.Arrays o)

-- One more array of the story, with its name.
abbrev pub array_opened_by : Limits → Option ArrayFault → ArrayKind → Name → Code
array_opened_by limits None k name o =
    array_declared limits name (arrays_size (all_of o.tables.arrays)) (with_arrays (opened k o.tables.arrays) o)
array_opened_by limits (Some f) k name o = array_refused limits name o

abbrev pub array_opened : Limits → ArrayKind → Name → Code
array_opened limits k name o = array_opened_by limits (open_fault limits k o.tables.arrays) k name o

-- An array whose header has an error is none of the story: its entries are read, and kept apart.
abbrev pub apart_by : Option ArrayFault → ArrayKind → AllArrays → AllArrays
apart_by None k arrays = opened k arrays
apart_by (Some f) k arrays = arrays

abbrev pub apart : ArrayKind → AllArrays
apart k = apart_by (open_fault unbounded k no_arrays) k no_arrays

abbrev pub listed : Limits → Option Finding → ArrayKind → Name → Compilation → Compilation
listed limits None k name w =
    record w { listing = record { is_lost = false; has_entries = false }; output = array_opened limits k name w.output }
listed limits (Some f) k name w = record w { listing = record { is_lost = true; has_entries = false }; lost = apart k }

abbrev pub header_with : Limits → Context → Place → Name → Declared → Compilation → Compilation
header_with limits context first name d w =
    declared_ended limits context first false name FixedLimit.Globals d (listed limits d.finding (kind_in w.unit.tokens) name w)

abbrev pub array_header : Limits → Context → Place → Name → Compilation → Compilation
array_header limits context first name w = header_with limits context first name (plainly_known name (name_order w.unit.tokens) w) w

abbrev pub array_named : Limits → Context → Place → List Name → Compilation → Compilation
array_named limits context first [] w = passed false w
array_named limits context first (name ∷ names) w = array_header limits context first name w

-- Definitions of entries

-- The first entry is alone where it is the last one, too: as a number it asks for that many zeros, and as a text for its characters.
abbrev pub is_alone : Bool → Compilation → Bool
is_alone is_last w = is_last && not w.listing.has_entries

-- the place of the text that an expression is by itself
abbrev pub bare_leaf : List Leaf → Option ℕ
bare_leaf ((Leaf.Text at) ∷ []) = Some at
bare_leaf _ = None

-- the number that a leaf is: a character is a number, too
abbrev pub number_in : Leaf → Option ℕ
number_in (Leaf.Number number) = Some number
number_in (Leaf.Char zscii) = Some zscii
number_in _ = None

-- the number that an expression with these leaves is by itself, where it is the first of them
abbrev pub number_leaf : List Leaf → Option ℕ
number_leaf (l ∷ []) = number_in l
number_leaf _ = None

-- Tells whether an expression with these symbols is its first leaf and nothing else.
abbrev pub is_first : Symbol → Bool
is_first (Symbol.Leaf first token place) = place == 0
is_first _ = false

abbrev pub is_first_leaf : List Symbol → Bool
is_first_leaf (s ∷ []) = is_first s
is_first_leaf _ = false

abbrev pub bare_text : Bool → Compilation → Option ℕ
bare_text alone w = if alone && (length w.unit.gathering.symbols == 1) then bare_leaf w.unit.gathering.leaves else None

-- the codes of characters, of which none may be that of a string variable
abbrev pub code_of : TextItem → ℕ
code_of (TextItem.Variable n) = 0
code_of (TextItem.Character z) = z

abbrev pub codes_of : List TextItem → List ℕ
codes_of items = map code_of items

-- The finding about an entry that its array refuses. It is no error of the unit that there are too many bytes.
abbrev pub refused : Option ArrayFault → Option Finding
refused (Some ArrayFault.TooMany) = Some (out_of_range 0)
refused (Some ArrayFault.NotAByte) = Some (out_of_range 0)
refused (Some ArrayFault.NoEntries) = Some (out_of_range 0)
refused (Some ArrayFault.Full) = None
refused (Some ArrayFault.Memory) = None
refused None = None

abbrev pub added_finding : Limits → Adding → Compilation → Option Finding
added_finding limits a w =
    refused (if w.listing.is_lost then added_fault unbounded a w.lost else added_fault limits a w.output.tables.arrays)

abbrev pub items_finding : Limits → Bool → List TextItem → Compilation → Option Finding
items_finding limits has_variables items w =
    if has_variables then Some (out_of_range 0) else added_finding limits (Characters (codes_of items)) w

abbrev pub text_finding : Limits → Option (List TextItem) → Compilation → Option Finding
text_finding limits None w = Some (out_of_range 0)
text_finding limits (Some items) w = items_finding limits (variables_from items false) items w

abbrev pub adding : Bool → Value → Adding
adding true (Value.Known count) = Zeros count
adding true v = One v
adding false v = One v

-- The unit's expression is this number by itself.
pub record IsNumber (number : ℕ) (w : Compilation) : Type 0 where
  pub leaf : number_leaf w.unit.gathering.leaves ≡ Some number
  pub alone : is_first_leaf w.unit.gathering.symbols ≡ true

abbrev pub own_finding : Limits → Context → Option ℕ → Bool → Compilation → Option Finding
own_finding limits context (Some at) alone w = text_finding limits (text_at context.set w.unit.tokens at) w
own_finding limits context None alone w = added_finding limits (adding alone (looked_value w)) w

abbrev pub entry_finding : Limits → Context → Bool → Compilation → Option Finding
entry_finding limits context alone w =
    least_of_both (finding_at 0 Wanted.Constant w) (own_finding limits context (bare_text alone w) alone w)

-- more entries of the open array of the story, or of the one that is kept apart
abbrev pub story_added : Limits → Option ArrayFault → Adding → Code
story_added limits None a o = with_arrays (with_entries (values_in a) o.tables.arrays) o
story_added limits (Some f) a o = passed_table limits Setting.Arrays o

abbrev pub lost_added : Option ArrayFault → Adding → AllArrays → AllArrays
lost_added None a arrays = with_entries (values_in a) arrays
lost_added (Some f) a arrays = arrays

abbrev pub added : Limits → Adding → Compilation → Compilation
added limits a w =
    if w.listing.is_lost then record w { lost = lost_added (added_fault unbounded a w.lost) a w.lost }
    else record w { output = story_added limits (added_fault limits a w.output.tables.arrays) a w.output }

abbrev pub text_added : Limits → Option (List TextItem) → Compilation → Compilation
text_added limits None w = w
text_added limits (Some items) w = added limits (Characters (codes_of items)) w

abbrev pub value_added : Limits → Context → Bool → Compilation → Compilation
value_added limits context alone w =
    added limits (adding alone (value_of limits context w)) (record w { output = (settled_of limits context w).out })

abbrev pub entry_added_by : Limits → Context → Option ℕ → Bool → Compilation → Compilation
entry_added_by limits context (Some at) alone w = text_added limits (text_at context.set w.unit.tokens at) w
entry_added_by limits context None alone w = value_added limits context alone w

abbrev pub entry_added : Limits → Context → Bool → Compilation → Compilation
entry_added limits context alone w = entry_added_by limits context (bare_text alone w) alone w

abbrev pub entry_with : Limits → Context → Place → Bool → Option Finding → Compilation → Compilation
entry_with limits context first alone None w = unit_ended limits context first false nothing_found (entry_added limits context alone w)
entry_with limits context first alone (Some f) w = unit_ended limits context first false (found_alone (Some f)) w

-- an array has an entry, with an error or without
abbrev pub one_more : Compilation → Compilation
one_more w = record w { listing = record w.listing { has_entries = true } }

abbrev pub entry_judged : Limits → Context → Place → Bool → Compilation → Compilation
entry_judged limits context first alone w = entry_with limits context first alone (entry_finding limits context alone w) (one_more w)

abbrev pub entry_ended : Limits → Context → Place → Bool → Compilation → Compilation
entry_ended limits context place is_last w = entry_judged limits context (first_place w.unit.tokens place) (is_alone is_last w) w

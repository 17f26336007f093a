-- Arrays as they are read: their headers, and their entries one behind the other.
use Rattle.std.specs.Prelude.{◌≡◌, ℕ, ◌<◌, List, [], ◌∷◌, length, map, Bool, true, false, Some, None}
use Rattle.inf_settings.specs.Bounds.{Limits}
use Rattle.inf_area.specs.declared.targets.{Target.Target, Value.Value}
use Rattle.inf_characters.specs.declared.texts.TextItem.{TextItem}
use Rattle.inf_scanner.specs.declared.tokens.Place.{Place}
use Rattle.inf_names.specs.{Spellings.Name, Symbols.declare_fault, Symbols.found_in, declared.meanings.Meaning.Meaning}
use Rattle.inf_names.specs.declared.symbols.Found.{Found}
use Rattle.inf_arrays.specs.Arrays.{Adding, AllArrays, Characters, One, Zeros, added_fault, all_of, array_cells, arrays_size, open_fault}
use Rattle.inf_arrays.specs.Arrays.{opened}
use Rattle.inf_arrays.specs.declared.kinds.ArrayKind.{ArrayKind}
use Rattle.inf_operands.specs.Texts.{text_at}
use Rattle.inf_unit.specs.Units.{name_order}
use Rattle.inf_compilation.specs.{Actions.Compilation, Context.Context, declared.compilation.Listing.Listing}
use Rattle.inf_named_values.specs.{Declarations.plainly_known, Values.value_of}
use Rattle.inf_objects.specs.Reading.{filled}
use Rattle.inf_declarations.specs.Arrays.{array_header, bare_text, codes_of, entry_ended, entry_finding, is_alone, kind_in}
use Rattle.inf_declaration_laws.specs.Arrays.{Item, Later, Number, Text, entries, in_memory, value}

-- Entries as they are read: all that was compiled before the end of each

pub record Entry : Type 0 where
  pub item : Item
  pub place : Place
  pub work : Compilation

abbrev pub is_last : List Entry → Bool
is_last [] = true
is_last (e ∷ behind) = false

abbrev pub ended : Limits → Context → Entry → List Entry → Compilation
ended limits context e behind = entry_ended limits context e.place (is_last behind) e.work

abbrev pub all_ended : Limits → Context → Compilation → List Entry → Compilation
all_ended limits context w [] = w
all_ended limits context w (e ∷ behind) = all_ended limits context (ended limits context e behind) behind

-- The unit that is read says the item.

pub record IsText (context : Context) (t : List ℕ) (w : Compilation) : Type 0 where
  pub at : ℕ
  pub items : List TextItem
  pub bare : bare_text true w ≡ Some at
  pub text : text_at context.set w.unit.tokens at ≡ Some items
  pub codes : codes_of items ≡ t

abbrev pub SaysItem : Limits → Context → Item → Compilation → Type 0
SaysItem limits context (Number n) w = (bare_text true w ≡ None) × (value_of limits context w ≡ Value.Known n)
SaysItem limits context (Text t v) w = IsText context t w × (value_of limits context w ≡ v)
SaysItem limits context (Later t) w = (bare_text true w ≡ None) × (value_of limits context w ≡ Value.Later t)

abbrev pub adding_of : Bool → Item → Adding
adding_of true (Number n) = Zeros n
adding_of true (Text t v) = Characters t
adding_of true (Later t) = One (Value.Later t)
adding_of false item = One (value item)

-- Nothing is found wrong with an entry, and its array has room for it.
pub record IsRight (limits : Limits) (context : Context) (is_last : Bool) (e : Entry) : Type 0 where
  pub says : SaysItem limits context e.item e.work
  pub untold : entry_finding limits context (is_alone is_last e.work) e.work ≡ None
  pub fits : added_fault limits (adding_of (is_alone is_last e.work) e.item) e.work.output.tables.arrays ≡ None

-- The entries of an array are read one behind the other.
abbrev pub Follow : Limits → Context → Compilation → List Entry → Type 0
Follow limits context w [] = Unit {0}
Follow limits context w (e ∷ behind) =
    (e.work.listing ≡ w.listing) × (e.work.output.tables.arrays ≡ w.output.tables.arrays) × IsRight limits context (is_last behind) e
    × Follow limits context (ended limits context e behind) behind

abbrev pub no_entries : Listing
no_entries = record { is_lost = false; has_entries = false }

abbrev pub with_open : ArrayKind → List Value → AllArrays → AllArrays
with_open kind values before = record { closed = all_of before; open_one = Some (record { kind = kind; entries = values }) }

-- Behind the entries of an array that was opened it has the entries of the description.
abbrev pub EntriesAgree : Type 0
EntriesAgree =
    (limits : Limits) (context : Context) (kind : ArrayKind) (before : AllArrays) (w : Compilation) (all : List Entry) →
    w.listing ≡ no_entries → w.output.tables.arrays ≡ opened kind before → Follow limits context w all →
    (all_ended limits context w all).output.tables.arrays ≡ with_open kind (entries (map (λ e. e.item) all)) before

-- The header opens an array of its kind, and its name stands for the place behind the arrays before it.
pub record HeaderOpens (limits : Limits) (context : Context) (place : Place) (n : Name) (w : Compilation) : Type 0 where
  pub listing : (array_header limits context place n w).listing ≡ no_entries
  pub arrays : (array_header limits context place n w).output.tables.arrays ≡ opened (kind_in w.unit.tokens) w.output.tables.arrays
  pub name : declare_fault limits n.bytes w.output.names ≡ None
      → found_in n.bytes (array_header limits context place n w).output.names
      ≡ Found.Declared (Meaning.Array (arrays_size (all_of w.output.tables.arrays))) n.place

abbrev pub HeadersOpen : Type 0
HeadersOpen =
    (limits : Limits) (context : Context) (place : Place) (n : Name) (w : Compilation) →
    (plainly_known n (name_order w.unit.tokens) w).finding ≡ None →
    open_fault limits (kind_in w.unit.tokens) w.output.tables.arrays ≡ None → HeaderOpens limits context place n w

-- Bytes are known and below 256, and so is the count of a `string`; that of a `table` is a number of 16 bits.

abbrev pub AreBytes : List Value → Type 0
AreBytes [] = Unit {0}
AreBytes ((Value.Known n) ∷ values) = (n < 256) × AreBytes values
AreBytes ((Value.Later t) ∷ values) = ⊥

abbrev pub AreFit : ArrayKind → List Value → Type 0
AreFit ArrayKind.Bytes values = AreBytes values
AreFit ArrayKind.Words values = Unit {0}
AreFit ArrayKind.String values = (length values < 256) × AreBytes values
AreFit ArrayKind.Table values = length values < 65536

abbrev pub BytesAgree : Type 0
BytesAgree =
    (address : Target → ℕ) (kind : ArrayKind) (values : List Value) → AreFit kind values →
    filled address (array_cells (record { kind = kind; entries = values })) ≡ in_memory address kind values

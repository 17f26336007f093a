-- Kinds of arrays: the entries that fit in them, and how these are written (Designer's Manual, fourth edition, section 2.4).
use Rattle.std.specs.Prelude.{ℕ, ◌+◌, ◌%◌, List, [], ◌∷◌, Option, Some, None, Bool, true, false, ◌&&◌, not, nat_le, nat_lt}
use Rattle.std.specs.Prelude.{length, if◌then◌else◌}
use Rattle.inf_area.specs.{Cells.values_cells, Cells.word_cells, Sums.sum_of, declared.cells.Cell.Cell, declared.targets.Value.Value}
use Rattle.inf_arrays.specs.{declared.arrays.ArrayFault.ArrayFault, declared.kinds.ArrayKind.ArrayKind}

-- whether an entry is a byte
abbrev pub is_of_bytes : ArrayKind → Bool
is_of_bytes ArrayKind.Bytes = true
is_of_bytes ArrayKind.Words = false
is_of_bytes ArrayKind.String = true
is_of_bytes ArrayKind.Table = false

abbrev pub is_string : ArrayKind → Bool
is_string ArrayKind.Bytes = false
is_string ArrayKind.Words = false
is_string ArrayKind.String = true
is_string ArrayKind.Table = false

-- the number of bytes of an entry
abbrev pub entry_size : ArrayKind → ℕ
entry_size ArrayKind.Bytes = 1
entry_size ArrayKind.Words = 2
entry_size ArrayKind.String = 1
entry_size ArrayKind.Table = 2

-- the number of bytes of the count before the entries
abbrev pub count_size : ArrayKind → ℕ
count_size ArrayKind.Bytes = 0
count_size ArrayKind.Words = 0
count_size ArrayKind.String = 1
count_size ArrayKind.Table = 2

abbrev pub is_byte : Value → Bool
is_byte (Value.Known number) = nat_le number 255
is_byte (Value.Later target) = false

abbrev pub are_bytes : List Value → Bool
are_bytes [] = true
are_bytes (v ∷ values) = is_byte v && are_bytes values

-- the number of values that are known later
abbrev pub later_in : Value → ℕ
later_in (Value.Known number) = 0
later_in (Value.Later target) = 1

abbrev pub laters : List Value → ℕ
laters values = sum_of later_in values

abbrev pub laters_of : ArrayKind → List Value → ℕ
laters_of k values = if is_of_bytes k then 0 else laters values

-- the fault of `added` values behind `count` entries, where `fit` says whether they are bytes
abbrev pub misfit_by : ArrayKind → ℕ → ℕ → Bool → Option ArrayFault
misfit_by k count added fit =
    if is_string k && nat_lt 255 (count + added) then Some ArrayFault.TooMany else if is_of_bytes k && not fit then Some
    ArrayFault.NotAByte else None

-- the fault of values: a `string` has at most 255 entries; bytes are known and 0 to 255
abbrev pub misfit : ArrayKind → ℕ → List Value → Option ArrayFault
misfit k count values = misfit_by k count (length values) (are_bytes values)

-- The count of an array and its entries as they are written.
abbrev pub count_cells : ArrayKind → ℕ → List Cell
count_cells ArrayKind.Bytes count = []
count_cells ArrayKind.Words count = []
count_cells ArrayKind.String count = Cell.Byte (count % 256) ∷ []
count_cells ArrayKind.Table count = word_cells (count % 65536)

-- the byte of a value that is known to be one, as each entry of an array of bytes is
abbrev pub low_byte : Value → ℕ
low_byte (Value.Known number) = number % 256
low_byte (Value.Later target) = 0

abbrev pub bytes_cells : List Value → List Cell
bytes_cells [] = []
bytes_cells (v ∷ values) = Cell.Byte (low_byte v) ∷ bytes_cells values

abbrev pub entries_cells : ArrayKind → List Value → List Cell
entries_cells ArrayKind.Bytes values = bytes_cells values
entries_cells ArrayKind.Words values = values_cells values
entries_cells ArrayKind.String values = bytes_cells values
entries_cells ArrayKind.Table values = values_cells values

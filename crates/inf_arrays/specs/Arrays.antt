-- The arrays of a story: each is its kind and its entries; the last one may be open.
use Rattle.std.specs.Prelude.{ℕ, ◌+◌, ◌*◌, ◌≤◌, List, [], ◌∷◌, ◌++◌, Option, Some, None, Bool, true, nat_lt, length, option_map}
use Rattle.std.specs.Prelude.{option_to_list, replicate, if◌then◌else◌}
use Rattle.inf_area.specs.{Sums.sum_of, declared.cells.Cell.Cell, declared.targets.Value.Value}
use Rattle.inf_settings.specs.{Bounds.Limits, declared.setting.Setting.Setting}
use Rattle.inf_arrays.specs.{declared.arrays.ArrayFault.ArrayFault, declared.kinds.ArrayKind.ArrayKind}
use Rattle.inf_arrays.specs.Kinds.{are_bytes, count_cells, count_size, entries_cells, entry_size, laters_of, misfit_by}

pub record Listed : Type 0 where
  pub kind : ArrayKind
  pub entries : List Value

-- the arrays that ended, and the one that is open
pub record AllArrays : Type 0 where
  pub closed : List Listed
  pub open_one : Option Listed

-- all arrays, in order
abbrev pub all_of : AllArrays → List Listed
all_of arrays = arrays.closed ++ option_to_list arrays.open_one

abbrev pub no_arrays : AllArrays
no_arrays = record { closed = []; open_one = None }

-- the arrays where the open one ends
abbrev pub closed_one : AllArrays → AllArrays
closed_one arrays = record { closed = all_of arrays; open_one = None }

-- the arrays where one is opened, and another ends
abbrev pub opened : ArrayKind → AllArrays → AllArrays
opened kind arrays = record { closed = all_of arrays; open_one = Some (record { kind = kind; entries = [] }) }

abbrev pub more_entries : List Value → Listed → Listed
more_entries values array = record { kind = array.kind; entries = array.entries ++ values }

-- the arrays where the open one has more entries
abbrev pub with_entries : List Value → AllArrays → AllArrays
with_entries values arrays = record { closed = arrays.closed; open_one = option_map (more_entries values) arrays.open_one }

-- the characters of a text
abbrev pub characters : List ℕ → List Value
characters [] = []
characters (c ∷ text) = Value.Known c ∷ characters text

-- the number of bytes of an array, and of several
abbrev pub array_size : Listed → ℕ
array_size array = count_size array.kind + entry_size array.kind * length array.entries

abbrev pub arrays_size : List Listed → ℕ
arrays_size arrays = sum_of array_size arrays

-- the number of entries that are known later
abbrev pub arrays_laters : List Listed → ℕ
arrays_laters arrays = sum_of (λ array. laters_of array.kind array.entries) arrays

-- Tells whether an array is open and there is room for `added` more entries.
abbrev pub RoomIn : Limits → Option Listed → ℕ → AllArrays → Type 0
RoomIn limits None added arrays = ⊥
RoomIn limits (Some array) added arrays = arrays_size (all_of arrays) + entry_size array.kind * added ≤ limits Setting.Arrays

abbrev pub HasRoom : Limits → ℕ → AllArrays → Type 0
HasRoom limits added arrays = RoomIn limits arrays.open_one added arrays

-- the fault for which an array cannot be opened
abbrev pub open_fault : Limits → ArrayKind → AllArrays → Option ArrayFault
open_fault limits kind arrays =
    if nat_lt (limits Setting.Arrays) (arrays_size (all_of arrays) + count_size kind) then Some ArrayFault.Full else None

-- the fault of `added` more entries of the open array, where `fit` says whether they are bytes
abbrev pub more_fault : Limits → ℕ → Bool → AllArrays → Listed → Option ArrayFault
more_fault limits added fit arrays array = option_or (misfit_by array.kind (length array.entries) added fit)
    (if nat_lt (limits Setting.Arrays) (arrays_size (all_of arrays) + entry_size array.kind * added) then Some ArrayFault.Full
    else None) where
      option_or : Option ArrayFault → Option ArrayFault → Option ArrayFault
      option_or None other = other
      option_or (Some f) other = Some f

abbrev pub fault_in : Limits → Option Listed → ℕ → Bool → AllArrays → Option ArrayFault
fault_in limits None added fit arrays = None
fault_in limits (Some array) added fit arrays = more_fault limits added fit arrays array

abbrev pub fault_by : Limits → ℕ → Bool → AllArrays → Option ArrayFault
fault_by limits added fit arrays = fault_in limits arrays.open_one added fit arrays

abbrev pub entries_fault : Limits → List Value → AllArrays → Option ArrayFault
entries_fault limits values arrays = fault_by limits (length values) (are_bytes values) arrays

-- the fault of zeros, which are bytes, and of which there is one at least
abbrev pub zeros_fault : Limits → ℕ → AllArrays → Option ArrayFault
zeros_fault limits count arrays = if nat_lt count 1 then Some ArrayFault.NoEntries else fault_by limits count true arrays

-- the fault of characters, which are bytes
abbrev pub characters_fault : Limits → List ℕ → AllArrays → Option ArrayFault
characters_fault limits text arrays = fault_by limits (length text) true arrays

-- An item of a source that adds entries: a value, a number of zeros, or characters.
pub data Adding : Type 0 where
  One : (v : Value) → Adding
  Zeros : (count : ℕ) → Adding
  Characters : (text : List ℕ) → Adding

abbrev pub values_in : Adding → List Value
values_in (One v) = v ∷ []
values_in (Zeros count) = replicate count (Value.Known 0)
values_in (Characters text) = characters text

abbrev pub added_fault : Limits → Adding → AllArrays → Option ArrayFault
added_fault limits (One v) arrays = entries_fault limits (v ∷ []) arrays
added_fault limits (Zeros count) arrays = zeros_fault limits count arrays
added_fault limits (Characters text) arrays = characters_fault limits text arrays

-- arrays as they are written
abbrev pub array_cells : Listed → List Cell
array_cells array = count_cells array.kind (length array.entries) ++ entries_cells array.kind array.entries

abbrev pub arrays_cells : List Listed → List Cell
arrays_cells [] = []
arrays_cells (array ∷ arrays) = array_cells array ++ arrays_cells arrays

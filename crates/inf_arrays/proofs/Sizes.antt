-- Numbers of bytes of arrays, and of numbers in them that are known later: of joined lists, of one array with more entries,
-- and as they are written.
use Rattle.std.proofs.Common.{◌≡◌, ℕ, ◌+◌, ◌*◌, ◌-◌, ◌≤◌, zero, suc, List, [], ◌∷◌, ◌++◌, length, replicate, refl, arith, ap, ◌∙◌}
use Rattle.std.proofs.Common.{length-append, append_assoc, append-nil, sym}
use Rattle.std.proofs.lemmas.List.{length-replicate}
use Rattle.inf_area.specs.{declared.targets.Value.Value}
use Rattle.inf_area.specs.Cells.{bytes_of, later_count, value_cells, values_cells}
use Rattle.inf_area.proofs.{Joining.later_count-append, Joining.size-append, Joining.values_size, Sums.sum_of-append, Sums.sum_of_push}
use Rattle.inf_arrays.specs.{Globals.all_globals, Globals.globals_cells, declared.kinds.ArrayKind.ArrayKind}
use Rattle.inf_arrays.specs.Arrays.{Listed, array_cells, array_size, arrays_cells, arrays_laters, arrays_size, more_entries}
use Rattle.inf_arrays.specs.Kinds.{bytes_cells, count_size, entry_size, later_in, laters, laters_of}

laters_of_joined : (k : ArrayKind) (xs ys : List Value) → laters_of k (xs ++ ys) ≡ laters_of k xs + laters_of k ys
laters_of_joined ArrayKind.Bytes xs ys = refl
laters_of_joined ArrayKind.Words xs ys = sum_of-append later_in xs ys
laters_of_joined ArrayKind.String xs ys = refl
laters_of_joined ArrayKind.Table xs ys = sum_of-append later_in xs ys

entries_more : (k : ArrayKind) (xs ys : List Value) → entry_size k * length (xs ++ ys) ≡ entry_size k * length xs + entry_size k * length ys
entries_more ArrayKind.Bytes xs ys = omega (arith, length-append xs ys)
entries_more ArrayKind.Words xs ys = omega (arith, length-append xs ys)
entries_more ArrayKind.String xs ys = omega (arith, length-append xs ys)
entries_more ArrayKind.Table xs ys = omega (arith, length-append xs ys)

-- the size of arrays of which the last has more entries
pub size_more : (xs : List Listed) (a : Listed) (ys : List Value)
    → arrays_size (xs ++ more_entries ys a ∷ []) ≡ arrays_size (xs ++ a ∷ []) + entry_size a.kind * length ys
size_more xs a ys =
    omega (arith, sum_of_push array_size xs (more_entries ys a), sum_of_push array_size xs a, entries_more a.kind a.entries ys)

pub laters_more : (xs : List Listed) (a : Listed) (ys : List Value)
    → arrays_laters (xs ++ more_entries ys a ∷ []) ≡ arrays_laters (xs ++ a ∷ []) + laters_of a.kind ys
laters_more xs a ys =
    let one = sum_of_push (λ (array : Listed). laters_of array.kind array.entries) xs in
    omega (arith, one (more_entries ys a), one a, laters_of_joined a.kind a.entries ys)

-- the size of arrays with one more, which has no entries
pub size_opened : (xs : List Listed) (k : ArrayKind) →
    arrays_size (xs ++ record { kind = k; entries = [] } ∷ []) ≡ arrays_size xs + count_size k
size_opened xs ArrayKind.Bytes = sum_of_push array_size xs (record { kind = ArrayKind.Bytes; entries = [] })
size_opened xs ArrayKind.Words = sum_of_push array_size xs (record { kind = ArrayKind.Words; entries = [] })
size_opened xs ArrayKind.String = sum_of_push array_size xs (record { kind = ArrayKind.String; entries = [] })
size_opened xs ArrayKind.Table = sum_of_push array_size xs (record { kind = ArrayKind.Table; entries = [] })

no_laters : (k : ArrayKind) → laters_of k [] ≡ 0
no_laters ArrayKind.Bytes = refl
no_laters ArrayKind.Words = refl
no_laters ArrayKind.String = refl
no_laters ArrayKind.Table = refl

pub laters_opened : (xs : List Listed) (k : ArrayKind) → arrays_laters (xs ++ record { kind = k; entries = [] } ∷ []) ≡ arrays_laters xs
laters_opened xs k =
    let one = sum_of_push (λ (array : Listed). laters_of array.kind array.entries) xs in
    omega (arith, one (record { kind = k; entries = [] }), no_laters k)

-- the invariant of arrays of which one was opened
pub opened_stands : (closed : List Listed) (k : ArrayKind) (size later limit n : ℕ)
    → size ≡ arrays_size (closed ++ []) → later ≡ arrays_laters (closed ++ []) → later ≤ size → size + n ≤ limit → n ≡ count_size k
    → (size + n ≡ arrays_size (closed ++ record { kind = k; entries = [] } ∷ [])) ×
    (later ≡ arrays_laters (closed ++ record { kind = k; entries = [] } ∷ [])) × (later ≤ size + n) × (size + n ≤ limit)
opened_stands closed k size later limit n of_size of_later less room is = (
  omega (arith, of_size, is, size_opened closed k, ap arrays_size (append-nil closed)),
  omega (arith, of_later, laters_opened closed k, ap arrays_laters (append-nil closed)),
  omega (arith, less),
  room,
)

-- the invariant of arrays of which the last has more entries
pub grown_stands : (closed : List Listed) (a : Listed) (ys : List Value) (size later limit e l : ℕ)
    → size ≡ arrays_size (closed ++ a ∷ []) → later ≡ arrays_laters (closed ++ a ∷ []) → later ≤ size
    → size + entry_size a.kind * length ys ≤ limit → e ≡ entry_size a.kind * length ys → l ≡ laters_of a.kind ys → l ≤ entry_size a.kind *
    length ys → (size + e ≡ arrays_size (closed ++ more_entries ys a ∷ [])) × (later + l ≡ arrays_laters (closed ++ more_entries ys a ∷ []))
    × (later + l ≤ size + e) × (size + e ≤ limit)
grown_stands closed a ys size later limit e l of_size of_later less room is_e is_l few = (
  omega (arith, of_size, is_e, size_more closed a ys),
  omega (arith, of_later, is_l, laters_more closed a ys),
  omega (arith, less, few, is_e),
  omega (arith, room, is_e),
)

-- cells of joined lists
pub cells_joined : (xs ys : List Listed) → arrays_cells (xs ++ ys) ≡ arrays_cells xs ++ arrays_cells ys
cells_joined [] ys = refl
cells_joined (x ∷ xs) ys =
    ap (λ cs. array_cells x ++ cs) (cells_joined xs ys) ∙ sym (append_assoc (array_cells x) (arrays_cells xs) (arrays_cells ys))

bytes_of_bytes : (vs : List Value) → length (bytes_of (bytes_cells vs)) ≡ length vs
bytes_of_bytes [] = refl
bytes_of_bytes (v ∷ vs) = omega (arith, bytes_of_bytes vs)

later_of_bytes : (vs : List Value) → later_count (bytes_cells vs) ≡ 0
later_of_bytes [] = refl
later_of_bytes (v ∷ vs) = later_of_bytes vs

later_of_value : (v : Value) → later_count (value_cells v) ≡ later_in v
later_of_value (Value.Known n) = refl
later_of_value (Value.Later t) = refl

pub later_of_values : (vs : List Value) → later_count (values_cells vs) ≡ laters vs
later_of_values [] = refl
later_of_values (v ∷ vs) = omega (arith, later_count-append (value_cells v) (values_cells vs), later_of_value v, later_of_values vs)

array_bytes : (k : ArrayKind) (vs : List Value) →
    length (bytes_of (array_cells (record { kind = k; entries = vs }))) ≡ array_size (record { kind = k; entries = vs })
array_bytes ArrayKind.Bytes vs = omega (arith, bytes_of_bytes vs)
array_bytes ArrayKind.Words vs = omega (arith, values_size vs)
array_bytes ArrayKind.String vs = omega (arith, bytes_of_bytes vs)
array_bytes ArrayKind.Table vs = omega (arith, values_size vs)

array_later : (k : ArrayKind) (vs : List Value) → later_count (array_cells (record { kind = k; entries = vs })) ≡ laters_of k vs
array_later ArrayKind.Bytes vs = later_of_bytes vs
array_later ArrayKind.Words vs = later_of_values vs
array_later ArrayKind.String vs = later_of_bytes vs
array_later ArrayKind.Table vs = later_of_values vs

-- as many bytes are written as are counted
pub size_written : (xs : List Listed) → length (bytes_of (arrays_cells xs)) ≡ arrays_size xs
size_written [] = refl
size_written (x ∷ xs) = omega (arith, size-append (array_cells x) (arrays_cells xs), array_bytes x.kind x.entries, size_written xs)

-- as many numbers that are known later are written as are counted
pub laters_written : (xs : List Listed) → later_count (arrays_cells xs) ≡ arrays_laters xs
laters_written [] = refl
laters_written (x ∷ xs) = omega (arith, later_count-append (array_cells x) (arrays_cells xs), array_later x.kind x.entries, laters_written xs)

-- zeros are known
zeros_known : (n : ℕ) → laters (replicate n (Value.Known 0)) ≡ 0
zeros_known zero = refl
zeros_known (suc n) = omega (arith, zeros_known n)

pub globals_later : (vs : List Value) → later_count (globals_cells vs) ≡ laters vs
globals_later vs = later_of_values (all_globals vs)
    ∙ omega (arith, sum_of-append later_in vs (replicate (240 - length vs) (Value.Known 0)), zeros_known (240 - length vs))

pub globals_size : (vs : List Value) → length vs ≤ 235 → length (bytes_of (globals_cells vs)) ≡ 480
globals_size vs few = values_size (all_globals vs)
    ∙ omega (arith, few, length-append vs (replicate (240 - length vs) (Value.Known 0)), length-replicate (240 - length vs) (Value.Known 0))

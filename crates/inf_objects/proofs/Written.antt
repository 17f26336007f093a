-- The number of bytes that are written of objects.
use Rattle.std.proofs.Common.{◌≡◌, ◌≤◌, ◌<◌, ◌+◌, ◌*◌, ◌%◌, ◌∷◌, ◌++◌, ◌==◌, [], ℕ, List, Bool, true, false, inl, inr, length, refl, sym}
use Rattle.std.proofs.Common.{ap, ◌∙◌, arith, nat_le, sum_by, if◌then◌else◌}
use Rattle.std.proofs.lemmas.Bool.{le-leb, lt-leb, lt-ltb, le-ltb, cases_lt, cases_eq, eq-eqb, ne_eqb}
use Rattle.std.proofs.lemmas.List.Sums.{sum_by-cons}
use Rattle.inf_area.specs.declared.{cells.Cell.Cell, targets.AreaName.AreaName, targets.Target.Target, targets.Value.Value}
use Rattle.inf_area.specs.Cells.{bytes_of, later_count, value_cells, values_cells, word_cells}
use Rattle.inf_properties.specs.{declared.sizes.Owner.Owner, declared.sizes.Size.Size, declared.values.Property.Property}
use Rattle.inf_properties.specs.Properties.{AreFree, AreNew}
use Rattle.inf_properties.specs.Sizes.{common_bytes, individual_bytes, later_count as values_later, size_of}
use Rattle.inf_objects.specs.{Objects.list_bytes, declared.objects.Object.Object, declared.sizes.Part.Part}
use Rattle.inf_objects.specs.Measures.{kind_part, measure_by, measured, no_part, part_of, parts_of}
use Rattle.inf_objects.specs.Tables.{address_rows, all_falling, byte_cells, class_rows, class_values, falling, has_individual}
use Rattle.inf_objects.specs.Tables.{individual_row_cells, individual_rows_cells, individual_table_by, individual_table_cells}
use Rattle.inf_objects.specs.Tables.{is_individual, name_cells, row_cells, rows_by, rows_cells, shown, size_cells, table_cells}
use Rattle.inf_area.proofs.Joining.{later_count-append, size-append, values_size}
use Rattle.inf_objects.proofs.Falling.{below, below_in, below_out, sum_rows}
use Rattle.inf_objects.proofs.Rows.{length-class_values, nothing_falls}

-- the number of bytes of cells
abbrev pub size : List Cell → ℕ
size cells = length (bytes_of cells)

value_later : (v : Value) → later_count (value_cells v) ≡ values_later (v ∷ [])
value_later (Value.Known n) = refl
value_later (Value.Later t) = refl

later_cons : (v : Value) (vs : List Value) → values_later (v ∷ vs) ≡ values_later (v ∷ []) + values_later vs
later_cons (Value.Known n) vs = omega arith
later_cons (Value.Later t) vs = omega arith

pub values_laters : (vs : List Value) → later_count (values_cells vs) ≡ values_later vs
values_laters [] = refl
values_laters (v ∷ vs) = omega (arith, later_count-append (value_cells v) (values_cells vs), value_later v, values_laters vs, later_cons v vs)

shown_later : (vs : List Value) → values_later (shown vs) ≡ values_later vs
shown_later [] = refl
shown_later (v ∷ vs) = refl

-- A single property takes the bytes that it counts.
few_size : (n count : ℕ) → count ≤ 1 → size (size_cells n count) ≡ 1
few_size n count h = ap (λ (b : Bool). size (if b then Cell.Byte (64 + n) ∷ [] else Cell.Byte (128 + n) ∷ Cell.Byte (128 + 2 * count % 64) ∷
    [])) (le-leb count 1 h)

more_size : (n count : ℕ) → 1 < count → size (size_cells n count) ≡ 2
more_size n count h = ap (λ (b : Bool). size (if b then Cell.Byte (64 + n) ∷ [] else Cell.Byte (128 + n) ∷ Cell.Byte
    (128 + 2 * count % 64) ∷ [])) (lt-leb count 1 h)

size_later : (n count : ℕ) → later_count (size_cells n count) ≡ 0
size_later n count = go (nat_le count 1) where
  go : (b : Bool) → later_count (if b then Cell.Byte (64 + n) ∷ [] else Cell.Byte (128 + n) ∷ Cell.Byte (128 + 2 * count % 64) ∷ []) ≡ 0
  go true = refl
  go false = refl

common_few : (count : ℕ) → count ≤ 1 → common_bytes count ≡ 3
common_few count h = ap (λ (b : Bool). if b then 3 else 2 + 2 * count) (le-leb count 1 h)

common_more : (count : ℕ) → 1 < count → common_bytes count ≡ 2 + 2 * count
common_more count h = ap (λ (b : Bool). if b then 3 else 2 + 2 * count) (lt-leb count 1 h)

row_by : (n : ℕ) (vs : List Value) → size (size_cells n (length vs) ++ values_cells (shown vs)) ≡ common_bytes (length vs)
row_by n [] = refl
row_by n (v ∷ vs) = elim (cases_lt 1 (length (v ∷ vs))) [
  | inl h ↦ omega (
    arith,
    size-append (size_cells n (length (v ∷ vs))) (values_cells (v ∷ vs)),
    values_size (v ∷ vs),
    more_size n (length (v ∷ vs)) h,
    common_more (length (v ∷ vs)) h,
  )
  | inr h ↦ omega (
    arith,
    size-append (size_cells n (length (v ∷ vs))) (values_cells (v ∷ vs)),
    values_size (v ∷ vs),
    few_size n (length (v ∷ vs)) h,
    common_few (length (v ∷ vs)) h,
  )
]

abbrev pub row_size : Property → ℕ
row_size p = common_bytes (length p.values)

abbrev pub row_laters : Property → ℕ
row_laters p = values_later p.values

pub rows_size : (ps : List Property) → size (rows_cells ps) ≡ sum_by row_size ps
rows_size [] = refl
rows_size (p ∷ ps) =
    omega (arith, size-append (row_cells p) (rows_cells ps), row_by p.number p.values, rows_size ps, sum_by-cons row_size p ps)

row_later : (p : Property) → later_count (row_cells p) ≡ row_laters p
row_later p = later_count-append (size_cells p.number (length p.values)) (values_cells (shown p.values))
    ∙ omega (arith, size_later p.number (length p.values), values_laters (shown p.values), shown_later p.values)

pub rows_later : (ps : List Property) → later_count (rows_cells ps) ≡ sum_by row_laters ps
rows_later [] = refl
rows_later (p ∷ ps) = omega (arith, later_count-append (row_cells p) (rows_cells ps), row_later p, rows_later ps, sum_by-cons row_laters p ps)

-- The list of classes and the address take the bytes that they count.
class_size : (cs : List ℕ) → sum_by row_size (class_rows cs) ≡ list_bytes (length cs)
class_size [] = refl
class_size (c ∷ cs) =
    let row : Property = record { number = 2; is_additive = false; values = class_values (c ∷ cs) } in
    let count = ap common_bytes (length-class_values (c ∷ cs)) in
    let some : (length (c ∷ cs) == 0) ≡ false = ne_eqb (length (c ∷ cs)) 0 (λ e. omega (arith, e)) in
    let list = ap (λ (b : Bool). if b then 0 else if length (c ∷ cs) == 1 then 3 else 2 + 2 * length (c ∷ cs)) some in
    sum_by-cons row_size row [] ∙ omega (arith, count, one (length (c ∷ cs)) (omega arith), list)
  where
    one : (n : ℕ) → 1 ≤ n → common_bytes n ≡ (if n == 1 then 3 else 2 + 2 * n)
    one n h = elim (cases_eq n 1) [
      | inl e ↦ common_few n (omega (arith, e)) ∙ sym (ap (λ (b : Bool). if b then 3 else 2 + 2 * n) (eq-eqb n 1 e))
      | inr e ↦ common_more n (omega (arith, e, h)) ∙ sym (ap (λ (b : Bool). if b then 3 else 2 + 2 * n) (ne_eqb n 1 e))
    ]

pub known_classes : (cs : List ℕ) → values_later (class_values cs) ≡ 0
known_classes [] = refl
known_classes (c ∷ cs) = known_classes cs

class_later : (cs : List ℕ) → sum_by row_laters (class_rows cs) ≡ 0
class_later [] = refl
class_later (c ∷ cs) = sum_by-cons row_laters (record { number = 2; is_additive = false; values = class_values (c ∷ cs) }) []
    ∙ omega (arith, known_classes (c ∷ cs))

abbrev address_row : ℕ → Property
address_row part = record { number = 3; is_additive = false; values = Value.Later (Target.Part AreaName.IndividualTables part) ∷ [] }

address_sum : (f : Property → ℕ) (n part : ℕ) (ps : List Property) → f (address_row part) ≡ n
    → sum_by f (address_rows part ps) ≡ (if has_individual ps then n else 0)
address_sum f n part ps is = go (has_individual ps) where
  go : (b : Bool) → sum_by f (if b then address_row part ∷ [] else []) ≡ (if b then n else 0)
  go true = sum_by-cons f (address_row part) [] ∙ omega (arith, is)
  go false = refl

-- the bytes and later numbers of properties, kind by kind
abbrev common_of : Property → Size
common_of p = record { bytes = row_size p; fixups = row_laters p; individuals = 0 }

abbrev individual_of : Property → Size
individual_of p = record { bytes = individual_bytes (length p.values); fixups = row_laters p; individuals = 1 }

size_common : (p : Property) → p.number < 64 → size_of Owner.Object p ≡ common_of p
size_common p h = ap (λ (b : Bool). if b then common_of p else individual_of p) (lt-ltb p.number 64 h)

size_individual : (p : Property) → 64 ≤ p.number → size_of Owner.Object p ≡ individual_of p
size_individual p h = ap (λ (b : Bool). if b then common_of p else individual_of p) (le-ltb p.number 64 h)

declared : (p : Property) → p.number < 64 → is_individual p ≡ false
declared p h = lt-leb 64 p.number h

individual : (p : Property) → 64 ≤ p.number → is_individual p ≡ true
individual p h = le-leb 64 p.number h

-- the part of a property, by its number
kind_declared : (b : Bool) (p : Property) → p.number < 64 → kind_part b p ≡ (if b then no_part else part_of p)
kind_declared b p h = ap (λ (c : Bool). if c then (if b then part_of p else no_part) else (if b then no_part else part_of p)) (declared p h)

kind_individual : (b : Bool) (p : Property) → 64 ≤ p.number → kind_part b p ≡ (if b then part_of p else no_part)
kind_individual b p h =
    ap (λ (c : Bool). if c then (if b then part_of p else no_part) else (if b then no_part else part_of p)) (individual p h)

-- the measure of a property that is individual, and else 0
abbrev pub individual_if : (Property → ℕ) → Property → ℕ
individual_if f p = if is_individual p then f p else 0

individual_in : (f : Property → ℕ) (p : Property) → 64 ≤ p.number → individual_if f p ≡ f p
individual_in f p h = ap (λ (b : Bool). if b then f p else 0) (individual p h)

individual_out : (f : Property → ℕ) (p : Property) → p.number < 64 → individual_if f p ≡ 0
individual_out f p h = ap (λ (b : Bool). if b then f p else 0) (declared p h)

abbrev individual_size : Property → ℕ
individual_size p = individual_bytes (length p.values)

common_kind : (p : Property) → ((kind_part false p).bytes ≡ below 64 row_size p) × ((kind_part false p).later ≡ below 64 row_laters p)
common_kind p = elim (cases_lt p.number 64) [
  | inl h ↦ (
    ap (λ (x : Part). x.bytes) (kind_declared false p h) ∙ ap (λ (s : Size). s.bytes) (size_common p h) ∙ sym (below_in 64 row_size p h),
    ap (λ (x : Part). x.later) (kind_declared false p h) ∙ ap (λ (s : Size). s.fixups) (size_common p h) ∙ sym (below_in 64 row_laters p h),
  )
  | inr h ↦ (
    ap (λ (x : Part). x.bytes) (kind_individual false p h) ∙ sym (below_out 64 row_size p h),
    ap (λ (x : Part). x.later) (kind_individual false p h) ∙ sym (below_out 64 row_laters p h),
  )
]

individual_kind : (p : Property) →
    ((kind_part true p).bytes ≡ individual_if individual_size p) × ((kind_part true p).later ≡ individual_if row_laters p)
individual_kind p = elim (cases_lt p.number 64) [
  | inl h ↦ (
    ap (λ (x : Part). x.bytes) (kind_declared true p h) ∙ sym (individual_out individual_size p h),
    ap (λ (x : Part). x.later) (kind_declared true p h) ∙ sym (individual_out row_laters p h),
  )
  | inr h ↦ (
    ap (λ (x : Part). x.bytes) (kind_individual true p h) ∙ ap (λ (s : Size). s.bytes) (size_individual p h)
        ∙ sym (individual_in individual_size p h),
    ap (λ (x : Part). x.later) (kind_individual true p h) ∙ ap (λ (s : Size). s.fixups) (size_individual p h)
        ∙ sym (individual_in row_laters p h),
  )
]

pub same_sums : (f g : Property → ℕ) (ps : List Property) → ((p : Property) → f p ≡ g p) → sum_by f ps ≡ sum_by g ps
same_sums f g [] same = refl
same_sums f g (p ∷ ps) same = omega (arith, sum_by-cons f p ps, sum_by-cons g p ps, same p, same_sums f g ps same)

-- A property table takes the bytes that it is measured to take.
bytes_size : (bs : List ℕ) → (size (byte_cells bs) ≡ length bs) × (later_count (byte_cells bs) ≡ 0)
bytes_size [] = (refl, refl)
bytes_size (b ∷ bs) = let later = bytes_size bs in (omega (arith, later.0), later.1)

table_parts : (part : ℕ) (o : Object) (rows : List Cell)
    → (size (name_cells o.name ++ rows ++ Cell.Byte 0 ∷ []) ≡ 2 + length o.name + size rows) ×
    (later_count (name_cells o.name ++ rows ++ Cell.Byte 0 ∷ []) ≡ later_count rows)
table_parts part o rows =
    let name = bytes_size o.name in (
      omega (arith, size-append (name_cells o.name ++ rows) (Cell.Byte 0 ∷ []), size-append (name_cells o.name) rows, name.0),
      omega (arith, later_count-append (name_cells o.name ++ rows) (Cell.Byte 0 ∷ []), later_count-append (name_cells o.name) rows, name.1),
    )

object_rows : (part : ℕ) (o : Object) → AreNew [] o.properties → AreFree o.properties
    → (size (rows_cells (all_falling (rows_by Owner.Object part o))) ≡ list_bytes (length o.classes) +
    (if has_individual o.properties then 3 else 0) + (parts_of false o.properties).bytes)
    × (later_count (rows_cells (all_falling (rows_by Owner.Object part o))) ≡ (if has_individual o.properties then 1 else 0) +
    (parts_of false o.properties).later)
unfolding all_falling
object_rows part o new free =
    let ps = o.properties in let rows = rows_by Owner.Object part o in
    let bytes = same_sums (λ p. (kind_part false p).bytes) (below 64 row_size) ps (λ p. (common_kind p).0) in
    let laters = same_sums (λ p. (kind_part false p).later) (below 64 row_laters) ps (λ p. (common_kind p).1) in (
      rows_size (falling 64 rows) ∙ sum_rows row_size 64 part o (omega arith) new free
          ∙ omega (arith, class_size o.classes, address_sum row_size 3 part ps refl, bytes),
      rows_later (falling 64 rows) ∙ sum_rows row_laters 64 part o (omega arith) new free
          ∙ omega (arith, class_later o.classes, address_sum row_laters 1 part ps refl, laters),
    )

bare_rows : (part : ℕ) (o : Object) → (size (rows_cells (all_falling [])) ≡ 0) × (later_count (rows_cells (all_falling [])) ≡ 0)
unfolding all_falling
bare_rows part o = (ap (λ ps. size (rows_cells ps)) (nothing_falls 64), ap (λ ps. later_count (rows_cells ps)) (nothing_falls 64))

-- tells whether the cells of a property table have the bytes and the later numbers that were measured
abbrev pub IsMeasured : Owner → ℕ → Object → Type 0
IsMeasured w part o =
    (size (name_cells o.name ++ rows_cells (all_falling (rows_by w part o)) ++ Cell.Byte 0 ∷ []) ≡ (measure_by w o).table.bytes)
    × (later_count (name_cells o.name ++ rows_cells (all_falling (rows_by w part o)) ++ Cell.Byte 0 ∷ []) ≡ (measure_by w o).table.later)

measured_by : (w : Owner) (part : ℕ) (o : Object) → AreNew [] o.properties → AreFree o.properties → IsMeasured w part o
measured_by Owner.Object part o new free =
    let rows = object_rows part o new free in
    let parts = table_parts part o (rows_cells (all_falling (rows_by Owner.Object part o))) in
    (omega (arith, rows.0, parts.0), omega (arith, rows.1, parts.1))
measured_by Owner.Class part o new free =
    let rows = bare_rows part o in let parts = table_parts part o (rows_cells (all_falling [])) in
    (omega (arith, rows.0, parts.0), omega (arith, rows.1, parts.1))
measured_by Owner.Nothing part o new free =
    let rows = bare_rows part o in let parts = table_parts part o (rows_cells (all_falling [])) in
    (omega (arith, rows.0, parts.0), omega (arith, rows.1, parts.1))

pub table_measured : (part : ℕ) (o : Object) → AreNew [] o.properties → AreFree o.properties
    → (size (table_cells part o) ≡ (measured o).table.bytes) × (later_count (table_cells part o) ≡ (measured o).table.later)
table_measured part o new free = measured_by o.owner part o new free

-- An individual table takes the bytes that it is measured to take.
individual_few : (count : ℕ) → count ≤ 1 → individual_bytes count ≡ 5
individual_few count h = ap (λ (b : Bool). if b then 5 else 3 + 2 * count) (le-leb count 1 h)

individual_more : (count : ℕ) → 1 < count → individual_bytes count ≡ 3 + 2 * count
individual_more count h = ap (λ (b : Bool). if b then 5 else 3 + 2 * count) (lt-leb count 1 h)

shown_bytes : (vs : List Value) → 3 + 2 * length (shown vs) ≡ individual_bytes (length vs)
shown_bytes [] = refl
shown_bytes (v ∷ vs) = elim (cases_lt 1 (length (v ∷ vs))) [
  | inl h ↦ sym (individual_more (length (v ∷ vs)) h)
  | inr h ↦ omega (arith, individual_few (length (v ∷ vs)) h, h)
]

individual_row : (p : Property) →
    (size (individual_row_cells p) ≡ individual_size p) × (later_count (individual_row_cells p) ≡ row_laters p)
individual_row p =
    let number = word_cells (p.number % 65536) in let count = Cell.Byte (2 * length (shown p.values) % 256) ∷ [] in
    let values = values_cells (shown p.values) in (
      omega (arith, size-append (number ++ count) values, size-append number count, values_size (shown p.values), shown_bytes p.values),
      omega (arith, later_count-append (number ++ count) values, later_count-append number count, values_laters (shown p.values), shown_later p.values),
    )

individual_rows : (ps : List Property) → (size (individual_rows_cells ps) ≡ sum_by (individual_if individual_size) ps) ×
    (later_count (individual_rows_cells ps) ≡ sum_by (individual_if row_laters) ps)
individual_rows [] = (refl, refl)
individual_rows (p ∷ ps) =
    let here = one (is_individual p) in let later = individual_rows ps in
    let cells = if is_individual p then individual_row_cells p else [] in (
      omega (arith, size-append cells (individual_rows_cells ps), here.0, later.0, sum_by-cons (individual_if individual_size) p ps),
      omega (arith, later_count-append cells (individual_rows_cells ps), here.1, later.1, sum_by-cons (individual_if row_laters) p ps),
    )
  where
    one : (b : Bool) → (size (if b then individual_row_cells p else []) ≡ (if b then individual_size p else 0))
        × (later_count (if b then individual_row_cells p else []) ≡ (if b then row_laters p else 0))
    one true = individual_row p
    one false = (refl, refl)

individual_table : (ps : List Property) (b : Bool) → (size (if b then individual_rows_cells ps ++ word_cells 0 else []) ≡
    (if b then record { bytes = (parts_of true ps).bytes + 2; later = (parts_of true ps).later } else no_part).bytes)
    × (later_count (if b then individual_rows_cells ps ++ word_cells 0 else []) ≡
    (if b then record { bytes = (parts_of true ps).bytes + 2; later = (parts_of true ps).later } else no_part).later)
individual_table ps true =
    let rows = individual_rows ps in (
      omega (
        arith,
        size-append (individual_rows_cells ps) (word_cells 0),
        rows.0,
        same_sums (λ p. (kind_part true p).bytes) (individual_if individual_size) ps (λ p. (individual_kind p).0),
      ),
      omega (
        arith,
        later_count-append (individual_rows_cells ps) (word_cells 0),
        rows.1,
        same_sums (λ p. (kind_part true p).later) (individual_if row_laters) ps (λ p. (individual_kind p).1),
      ),
    )
individual_table ps false = (refl, refl)

individual_by : (w : Owner) (o : Object) → (size (individual_table_by w o.properties) ≡ (measure_by w o).individual_table.bytes) ×
    (later_count (individual_table_by w o.properties) ≡ (measure_by w o).individual_table.later)
individual_by Owner.Object o = individual_table o.properties (has_individual o.properties)
individual_by Owner.Class o = (refl, refl)
individual_by Owner.Nothing o = (refl, refl)

pub individual_table_measured : (o : Object) → (size (individual_table_cells o) ≡ (measured o).individual_table.bytes) ×
    (later_count (individual_table_cells o) ≡ (measured o).individual_table.later)
individual_table_measured o = individual_by o.owner o

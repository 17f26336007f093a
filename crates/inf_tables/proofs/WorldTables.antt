-- The sizes of the tables of some objects, as a loop goes over them.
use Rattle.std.proofs.Common.{◌≡◌, ◌≤◌, ◌<◌, ◌+◌, ◌∷◌, ◌++◌, [], ℕ, zero, suc, List, false, length, length-append, append_assoc, drop}
use Rattle.std.proofs.Common.{get_or, refl, sym, ap, subst, ◌∙◌, arith, sum_by}
use Rattle.std.proofs.{lemmas.List.Sums.sum_by-cons, lemmas.List.drop_more}
use Rattle.inf_area.specs.{Cells.bytes_of, Cells.later_count, declared.cells.Cell.Cell}
use Rattle.inf_properties.specs.declared.sizes.Owner.{Owner}
use Rattle.inf_objects.specs.{Measures.CountedBy, declared.objects.Object.Object, declared.sizes.Measure.Measure}
use Rattle.inf_objects.specs.Objects.{is_lost, object_bytes, object_fixups}
use Rattle.inf_objects.specs.Tables.{individual_table_cells, table_cells}
use Rattle.inf_area.proofs.Joining.{bytes_of-append, drop_front, later_count-append, size-append}
use Rattle.inf_tables.specs.Areas.{held_by, held_bytes, individual_places_from, individual_tables, table_places_from, tables_from}
use Rattle.inf_tables.specs.World.{AreHung}

-- a measure counts the bytes and fixups of an object
abbrev pub Counts : Object → Measure → Type 0
Counts o m = (m.table.bytes + m.individual_table.bytes + held_by o.owner o ≡ object_bytes o) ×
    (m.table.later + m.individual_table.later + 1 ≡ object_fixups o)

pub counts : (o : Object) (m : Measure) → is_lost o.owner ≡ false → CountedBy o.owner o m → Counts o m
counts o m e h = go o.owner e h where
  go : (w : Owner) → is_lost w ≡ false → CountedBy w o m → (m.table.bytes + m.individual_table.bytes + held_by w o ≡ object_bytes o) ×
      (m.table.later + m.individual_table.later + 1 ≡ object_fixups o)
  go Owner.Object e h = (omega (arith, h.0), h.1)
  go Owner.Class e h = h
  go Owner.Nothing e h = cc

-- the first of the objects that are left
pub left_is : (objects : List Object) (i : ℕ) (o : Object) → i < length objects → o ≡ get_or objects i o →
    drop i objects ≡ o ∷ drop (i + 1) objects
left_is objects i o h is = drop_more objects i o h ∙ ap (λ p. p ∷ drop (i + 1) objects) (sym is)

-- behind the first `i` objects, the sums over them with those over the objects that are left are the sums over all
pub record Left (most : ℕ) (objects : List Object) (i : ℕ) (all : Measure) : Type 0 where
  pub hung : AreHung most (drop i objects)
  pub table_bytes : all.table.bytes + length (bytes_of (tables_from (4 + i) (drop i objects))) ≡ length (bytes_of (tables_from 4 objects))
  pub table_later : all.table.later + later_count (tables_from (4 + i) (drop i objects)) ≡ later_count (tables_from 4 objects)
  pub individual_bytes : all.individual_table.bytes + length (bytes_of (individual_tables (drop i objects))) ≡ length
      (bytes_of (individual_tables objects))
  pub individual_later : all.individual_table.later + later_count (individual_tables (drop i objects)) ≡ later_count
      (individual_tables objects)
  pub within_bytes : all.table.bytes + all.individual_table.bytes + sum_by object_bytes (drop i objects) ≤ sum_by object_bytes objects
  pub within_later : all.table.later + all.individual_table.later + sum_by object_fixups (drop i objects) ≤ sum_by object_fixups objects
  pub bytes : all.table.bytes + all.individual_table.bytes + held_bytes objects + sum_by object_bytes (drop i objects) ≡ sum_by object_bytes
      objects + held_bytes (drop i objects)
  pub later : all.table.later + all.individual_table.later + length objects + sum_by object_fixups (drop i objects) ≡ sum_by object_fixups
      objects + length (drop i objects)

-- the sums with one object more
abbrev pub with_measure : Measure → Measure → Measure
with_measure all m = record {
  table = record { bytes = all.table.bytes + m.table.bytes; later = all.table.later + m.table.later };
  individual_table = record {
    bytes = all.individual_table.bytes + m.individual_table.bytes;
    later = all.individual_table.later + m.individual_table.later;
  };
}

-- a measure of an object that is the size of its written tables
pub record Told (part : ℕ) (o : Object) (m : Measure) : Type 0 where
  pub counts : Counts o m
  pub table_bytes : length (bytes_of (table_cells part o)) ≡ m.table.bytes
  pub table_later : later_count (table_cells part o) ≡ m.table.later
  pub individual_bytes : length (bytes_of (individual_table_cells o)) ≡ m.individual_table.bytes
  pub individual_later : later_count (individual_table_cells o) ≡ m.individual_table.later

pub left_next : (most : ℕ) (objects : List Object) (i : ℕ) (o : Object) (all m : Measure) → i < length objects → o ≡ get_or objects i o
    → Left most objects i all → Told (4 + i) o m → Left most objects (i + 1) (with_measure all m)
left_next most objects i o all m h is left told =
    let rest = drop (i + 1) objects in let here = left_is objects i o h is in
    let next : 4 + i + 1 ≡ 4 + (i + 1) = omega arith in
    let tables = ap (tables_from (4 + i)) here ∙ ap (λ k. table_cells (4 + i) o ++ tables_from k rest) next in
    let individual = ap individual_tables here in
    let bytes = ap (sum_by object_bytes) here ∙ sum_by-cons object_bytes o rest in
    let fixups = ap (sum_by object_fixups) here ∙ sum_by-cons object_fixups o rest in
    let held = ap held_bytes here ∙ sum_by-cons (λ (p : Object). held_by p.owner p) o rest in
    record {
      hung = (subst (AreHung most) here left.hung).2;
      table_bytes = omega (
        arith,
        left.table_bytes,
        told.table_bytes,
        ap (λ cs. length (bytes_of cs)) tables,
        size-append (table_cells (4 + i) o) (tables_from (4 + (i + 1)) rest),
      );
      table_later = omega (
        arith,
        left.table_later,
        told.table_later,
        ap later_count tables,
        later_count-append (table_cells (4 + i) o) (tables_from (4 + (i + 1)) rest),
      );
      individual_bytes = omega (
        arith,
        left.individual_bytes,
        told.individual_bytes,
        ap (λ cs. length (bytes_of cs)) individual,
        size-append (individual_table_cells o) (individual_tables rest),
      );
      individual_later = omega (
        arith,
        left.individual_later,
        told.individual_later,
        ap later_count individual,
        later_count-append (individual_table_cells o) (individual_tables rest),
      );
      within_bytes = omega (arith, left.within_bytes, bytes, told.counts.0);
      within_later = omega (arith, left.within_later, fixups, told.counts.1);
      bytes = omega (arith, left.bytes, bytes, held, told.counts.0);
      later = omega (arith, left.later, fixups, told.counts.1, ap length here);
    }

-- Where tables begin one more table in front
front_more : (front : List ℕ) (first rest : List Cell) → front ++ bytes_of (first ++ rest) ≡ (front ++ bytes_of first) ++ bytes_of rest
front_more front first rest = ap (λ bs. front ++ bs) (bytes_of-append first rest) ∙ sym (append_assoc front (bytes_of first) (bytes_of rest))

front_length : (front more : List ℕ) (at : ℕ) → length front ≡ at → length (front ++ more) ≡ at + length more
front_length front more at e = omega (arith, length-append front more, e)

table_behind : (front : List ℕ) (at part n : ℕ) (objects : List Object) → length front ≡ at → n < length objects
    → drop (get_or (table_places_from at part objects) n 0) (front ++ bytes_of (tables_from part objects)) ≡ bytes_of
    (tables_from (part + n) (drop n objects))
table_behind front at part n [] e h = absurd (omega (arith, h))
table_behind front at part zero (o ∷ objects) e h =
    let here : part ≡ part + 0 = omega arith in
    drop_front at front (bytes_of (tables_from part (o ∷ objects))) e ∙ ap (λ k. bytes_of (tables_from k (o ∷ objects))) here
table_behind front at part (suc n) (o ∷ objects) e h =
    let place = get_or (table_places_from (at + length (bytes_of (table_cells part o))) (part + 1) objects) n 0 in
    let there : part + 1 + n ≡ part + suc n = omega arith in
    ap (drop place) (front_more front (table_cells part o) (tables_from (part + 1) objects))
    ∙ table_behind (front ++ bytes_of (table_cells part o)) (at + length (bytes_of (table_cells part o))) (part + 1) n objects
    (front_length front (bytes_of (table_cells part o)) at e) (omega (arith, h)) ∙ ap (λ k. bytes_of (tables_from k (drop n objects))) there

pub table_placed : (n : ℕ) (objects : List Object) → n < length objects
    → drop (get_or (table_places_from 0 0 objects) n 0) (bytes_of (tables_from 0 objects)) ≡ bytes_of (tables_from n (drop n objects))
table_placed n objects h =
    let here : 0 + n ≡ n = omega arith in table_behind [] 0 0 n objects refl h ∙ ap (λ k. bytes_of (tables_from k (drop n objects))) here

individual_behind : (front : List ℕ) (at n : ℕ) (objects : List Object) → length front ≡ at → n < length objects
    → drop (get_or (individual_places_from at objects) n 0) (front ++ bytes_of (individual_tables objects)) ≡ bytes_of
    (individual_tables (drop n objects))
individual_behind front at n [] e h = absurd (omega (arith, h))
individual_behind front at zero (o ∷ objects) e h = drop_front at front (bytes_of (individual_tables (o ∷ objects))) e
individual_behind front at (suc n) (o ∷ objects) e h =
    let place = get_or (individual_places_from (at + length (bytes_of (individual_table_cells o))) objects) n 0 in
    ap (drop place) (front_more front (individual_table_cells o) (individual_tables objects))
    ∙ individual_behind (front ++ bytes_of (individual_table_cells o)) (at + length (bytes_of (individual_table_cells o))) n objects
    (front_length front (bytes_of (individual_table_cells o)) at e) (omega (arith, h))

pub individual_placed : (n : ℕ) (objects : List Object) → n < length objects
    → drop (get_or (individual_places_from 0 objects) n 0) (bytes_of (individual_tables objects)) ≡ bytes_of
    (individual_tables (drop n objects))
individual_placed n objects h = individual_behind [] 0 n objects refl h

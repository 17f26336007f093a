-- Areas of joined lists of objects.
use Rattle.std.proofs.Common.{◌≡◌, ◌≤◌, ◌+◌, ◌-◌, ◌%◌, ◌∷◌, ◌++◌, [], ℕ, zero, suc, List, Bool, length, drop, map, replicate, append_assoc}
use Rattle.std.proofs.{Common.append-nil, Math.ListN.drop_of_length-le}
use Rattle.std.proofs.Common.{refl, sym, ap, subst, ◌∙◌, arith}
use Rattle.inf_area.specs.declared.{cells.Cell.Cell, targets.AreaName.AreaName, targets.Target.Target, targets.Value.Value}
use Rattle.inf_area.specs.Cells.{bytes_of, later_count, values_cells, word_cells}
use Rattle.inf_properties.specs.Sizes.{later_count as values_later}
use Rattle.inf_properties.proofs.Sums.{later_count-append as values_later-append}
use Rattle.inf_objects.specs.{Attributes.attribute_cells, Attributes.no_attributes, declared.objects.Object.Object, declared.tree.Link.Link}
use Rattle.inf_objects.specs.Tables.{all_falling, class_values, table_cells}
use Rattle.inf_objects.specs.Tree.{AreWithin, child_of, each_from, link_at, link_of, links_of, sibling_of}
use Rattle.inf_objects.proofs.{Walking.link_is, Written.known_classes, Written.values_laters}
use Rattle.inf_area.proofs.Joining.{later_count-append, size-append, values_cells-append}
use Rattle.inf_tables.specs.{World.AreHung, World.later_defaults, World.later_in, declared.kinds.DeclaredProperty.DeclaredProperty}
use Rattle.inf_tables.specs.Areas.{all_defaults, all_objects, bare_cells, class_numbers_from, entries_by, entry_cells, first_names}
use Rattle.inf_tables.specs.Areas.{first_objects, individual_places_from, individual_tables, object_by, object_cells, objects_from}
use Rattle.inf_tables.specs.Areas.{parents_of, shown_attributes, table_places_from, tables_from}

pub tables-append : (part : ℕ) (xs ys : List Object) →
    tables_from part (xs ++ ys) ≡ tables_from part xs ++ tables_from (part + length xs) ys
tables-append part [] ys = let here : part ≡ part + 0 = omega arith in ap (λ n. tables_from n ys) here
tables-append part (x ∷ xs) ys =
    let there : part + 1 + length xs ≡ part + length (x ∷ xs) = omega arith in
    ap (λ cs. table_cells part x ++ cs) (tables-append (part + 1) xs ys ∙ ap (λ n. tables_from (part + 1) xs ++ tables_from n ys) there)
    ∙ sym (append_assoc (table_cells part x) (tables_from (part + 1) xs) (tables_from (part + length (x ∷ xs)) ys))

pub entries-append : (links : List Link) (part : ℕ) (xs ys : List Object) →
    entries_by links part (xs ++ ys) ≡ entries_by links part xs ++ entries_by links (part + length xs) ys
entries-append links part [] ys = let here : part ≡ part + 0 = omega arith in ap (λ n. entries_by links n ys) here
entries-append links part (x ∷ xs) ys =
    let there : part + 1 + length xs ≡ part + length (x ∷ xs) = omega arith in
    ap (λ cs. object_by links part x ++ cs) (entries-append links (part + 1) xs ys ∙ ap
    (λ n. entries_by links (part + 1) xs ++ entries_by links n ys) there)
    ∙ sym (append_assoc (object_by links part x) (entries_by links (part + 1) xs) (entries_by links (part + length (x ∷ xs)) ys))

-- the objects that each story has are four
first_count : length first_objects ≡ 4
unfolding first_names
first_count = refl

pub all_tables : (objects : List Object) → tables_from 0 (all_objects objects) ≡ tables_from 0 first_objects ++ tables_from 4 objects
unfolding first_names
all_tables objects = tables-append 0 first_objects objects ∙ ap (λ n. tables_from 0 first_objects ++ tables_from n objects) first_count

pub all_entries : (links : List Link) (objects : List Object) →
    entries_by links 0 (all_objects objects) ≡ entries_by links 0 first_objects ++ entries_by links 4 objects
unfolding first_names
all_entries links objects =
    entries-append links 0 first_objects objects ∙ ap (λ n. entries_by links 0 first_objects ++ entries_by links n objects) first_count

pub first_parents : (objects : List Object) → parents_of (all_objects objects) ≡ 0 ∷ 0 ∷ 0 ∷ 0 ∷ parents_of objects
unfolding first_names
first_parents objects = refl

pub all_classes : (objects : List Object) → class_numbers_from 1 (all_objects objects) ≡ class_numbers_from 5 objects
unfolding first_names
all_classes objects = refl

pub all_individual : (objects : List Object) → individual_tables (all_objects objects) ≡ individual_tables objects
unfolding first_names
all_individual objects = refl

pub all_individual_places : (objects : List Object) →
    individual_places_from 0 (all_objects objects) ≡ 0 ∷ 0 ∷ 0 ∷ 0 ∷ individual_places_from 0 objects
unfolding first_names
all_individual_places objects = refl

pub all_table_places : (objects : List Object) →
    table_places_from 0 0 (all_objects objects) ≡ 0 ∷ 6 ∷ 14 ∷ 22 ∷ table_places_from 30 4 objects
unfolding first_names all_falling
all_table_places objects = refl

pub first_tables : tables_from 0 first_objects
    ≡ bare_cells (17 ∷ 17 ∷ 155 ∷ 24 ∷ []) ++ bare_cells (18 ∷ 135 ∷ 61 ∷ 72 ∷ 228 ∷ 165 ∷ []) ++ bare_cells
    (18 ∷ 244 ∷ 107 ∷ 46 ∷ 205 ∷ 69 ∷ []) ++ bare_cells (19 ∷ 25 ∷ 93 ∷ 211 ∷ 176 ∷ 165 ∷ [])
unfolding first_names all_falling
first_tables = refl

first_later : later_count (tables_from 0 first_objects) ≡ 0
unfolding first_names all_falling
first_later = refl

first_bytes : length (bytes_of (tables_from 0 first_objects)) ≡ 30
unfolding first_names all_falling
first_bytes = refl

-- where all objects hang within `most`, so do the parents in their list
pub hung_within : (most : ℕ) (objects : List Object) → AreHung most objects → AreWithin most (parents_of objects)
hung_within most [] h = tt
hung_within most (o ∷ objects) h = (h.0, hung_within most objects h.2)

pub length-parents : (objects : List Object) → length (parents_of objects) ≡ length objects
length-parents [] = refl
length-parents (o ∷ objects) = omega (arith, length-parents objects)

pub entries_are : (parents : List ℕ) (part : ℕ) (objects : List Object) → part + length objects ≤ length parents
    → entries_by (links_of parents) part objects ≡ objects_from parents part objects
entries_are parents part [] h = refl
entries_are parents part (o ∷ objects) h =
    ap (λ (l : Link). entry_cells (shown_attributes o.owner o.attributes) o.parent l.sibling l.child part ++ entries_by (links_of parents)
    (part + 1) objects) (link_is parents part (omega (arith, h)))
    ∙ ap (λ cs. object_cells parents part o ++ cs) (entries_are parents (part + 1) objects (omega (arith, h)))

-- the cells of four entries, joined from the left or the right
four : (z a b c d : List Cell) → (((z ++ a) ++ b) ++ c) ++ d ≡ z ++ (a ++ (b ++ (c ++ (d ++ []))))
four (x ∷ z) a b c d = ap (λ l. x ∷ l) (four z a b c d)
four [] (x ∷ a) b c d = ap (λ l. x ∷ l) (four [] a b c d)
four [] [] (x ∷ b) c d = ap (λ l. x ∷ l) (four [] [] b c d)
four [] [] [] (x ∷ c) d = ap (λ l. x ∷ l) (four [] [] [] c d)
four [] [] [] [] (x ∷ d) = ap (λ l. x ∷ l) (four [] [] [] [] d)
four [] [] [] [] [] = refl

abbrev pub first_entry : List Link → ℕ → List Cell
first_entry links n = entry_cells no_attributes 0 (link_at links n).sibling (link_at links n).child n

pub four_entries : (links : List Link) (z : List Cell)
    → (((z ++ first_entry links 0) ++ first_entry links 1) ++ first_entry links 2) ++ first_entry links 3 ≡ z ++ entries_by links 0
    first_objects
unfolding first_names no_attributes
four_entries links z = four z (first_entry links 0) (first_entry links 1) (first_entry links 2) (first_entry links 3)

pub four_and_more : (objects : List Object) → length (parents_of (all_objects objects)) ≡ 4 + length objects
four_and_more objects = ap length (first_parents objects) ∙ omega (arith, length-parents objects)

pub hung_links : (objects : List Object) (parents : List ℕ) → AreHung (4 + length objects) objects →
    parents ≡ parents_of (all_objects objects) → AreWithin (length parents) parents
hung_links objects parents h is =
    let count : length parents ≡ 4 + length objects = ap length is ∙ four_and_more objects in
    subst (λ ps. AreWithin (length parents) ps) (sym (is ∙ first_parents objects)) (
      omega arith,
      (
        omega arith,
        (
          omega arith,
          (omega arith, subst (λ n. AreWithin n (parents_of objects)) (sym count) (hung_within (4 + length objects) objects h)),
        ),
      ),
    )

pub length-links : (parents : List ℕ) → length (links_of parents) ≡ length parents
length-links parents = each_count 1 (length parents) where
  each_count : (first count : ℕ) → length (each_from first count (link_of parents)) ≡ count
  each_count first zero = refl
  each_count first (suc count) = omega (arith, each_count (first + 1) count)

pub enough_links : (objects : List Object) (parents : List ℕ) (links : List Link) → parents ≡ parents_of (all_objects objects) →
    links ≡ links_of parents → length links ≡ 4 + length objects
enough_links objects parents links is made = ap length made ∙ length-links parents ∙ ap length is ∙ four_and_more objects

pub all_written : (objects : List Object) (parents : List ℕ) (links : List Link) (cells : List Cell) →
    parents ≡ parents_of (all_objects objects) → links ≡ links_of parents
    → cells ≡ entries_by links 0 first_objects ++ entries_by links 4 objects → cells ≡ objects_from (parents_of (all_objects objects)) 0
    (all_objects objects)
all_written objects parents links cells is made written =
    let all = parents_of (all_objects objects) in let joined = written ∙ sym (all_entries links objects) in
    joined ∙ ap (λ l. entries_by l 0 (all_objects objects)) (made ∙ ap links_of is)
    ∙ entries_are all 0 (all_objects objects) (omega (arith, length-parents (all_objects objects)))

-- behind the last object there are no more tables
pub individual_end : (cells : List Cell) (objects : List Object) (i : ℕ) → length objects ≤ i
    → cells ++ individual_tables (drop i objects) ≡ individual_tables objects → cells ≡ individual_tables (all_objects objects)
individual_end cells objects i h is =
    sym (append-nil cells) ∙ ap (λ os. cells ++ individual_tables os) (sym (drop_of_length-le objects h)) ∙ is ∙ sym (all_individual objects)

-- the defaults
pub defaults_joined : (ds : List DeclaredProperty) →
    (values_cells (replicate 3 (Value.Known 0)) ++ values_cells (map (λ (d : DeclaredProperty). d.default) ds))
    ++ values_cells (replicate (60 - length ds) (Value.Known 0)) ≡ values_cells (all_defaults ds)
defaults_joined ds =
    let own = map (λ (d : DeclaredProperty). d.default) ds in
    let front = replicate 3 (Value.Known 0) in let rest = replicate (60 - length ds) (Value.Known 0) in
    ap (λ cs. cs ++ values_cells rest) (sym (values_cells-append front own)) ∙ sym (values_cells-append (front ++ own) rest)

-- numbers that are known later
attributes_known : (attributes : List Bool) → later_count (attribute_cells attributes) ≡ 0
unfolding attribute_cells
attributes_known attributes = refl

entry_later : (attributes : List Bool) (parent sibling child part : ℕ) → later_count (entry_cells attributes parent sibling child part) ≡ 1
entry_later attributes parent sibling child part =
    let address = Cell.Later (Target.Part AreaName.PropertyTables part) ∷ [] in
    omega (
      arith,
      later_count-append (attribute_cells attributes ++ word_cells (parent % 65536) ++ word_cells (sibling % 65536) ++ word_cells (child % 65536))
          address,
      later_count-append (attribute_cells attributes ++ word_cells (parent % 65536) ++ word_cells (sibling % 65536)) (word_cells (child % 65536)),
      later_count-append (attribute_cells attributes ++ word_cells (parent % 65536)) (word_cells (sibling % 65536)),
      later_count-append (attribute_cells attributes) (word_cells (parent % 65536)),
      attributes_known attributes,
    )

pub objects_later : (parents : List ℕ) (part : ℕ) (objects : List Object) → later_count (objects_from parents part objects) ≡ length objects
objects_later parents part [] = refl
objects_later parents part (o ∷ objects) = omega (
  arith,
  later_count-append (object_cells parents part o) (objects_from parents (part + 1) objects),
  entry_later (shown_attributes o.owner o.attributes) o.parent (sibling_of (part + 1) parents) (child_of (part + 1) parents) part,
  objects_later parents (part + 1) objects,
)

pub tables_later : (objects : List Object) → later_count (tables_from 0 (all_objects objects)) ≡ later_count (tables_from 4 objects)
tables_later objects =
    ap later_count (all_tables objects) ∙ omega (arith, later_count-append (tables_from 0 first_objects) (tables_from 4 objects), first_later)

pub classes_later : (ns : List ℕ) → later_count (values_cells (class_values ns) ++ word_cells 0) ≡ 0
classes_later ns =
    later_count-append (values_cells (class_values ns)) (word_cells 0) ∙ omega (arith, values_laters (class_values ns), known_classes ns)

zeros_known : (n : ℕ) → values_later (replicate n (Value.Known 0)) ≡ 0
zeros_known zero = refl
zeros_known (suc n) = zeros_known n

defaults_later : (ds : List DeclaredProperty) → values_later (map (λ (d : DeclaredProperty). d.default) ds) ≡ later_defaults ds
defaults_later [] = refl
defaults_later (d ∷ ds) = one d.default (defaults_later ds) where
  one : (v : Value) → values_later (map (λ (d : DeclaredProperty). d.default) ds) ≡ later_defaults ds
      → values_later (v ∷ map (λ (d : DeclaredProperty). d.default) ds) ≡ later_in v + later_defaults ds
  one (Value.Known n) later = omega (arith, later)
  one (Value.Later t) later = omega (arith, later)

pub all_defaults_later : (ds : List DeclaredProperty) → later_count (values_cells (all_defaults ds)) ≡ later_defaults ds
all_defaults_later ds =
    let own = map (λ (d : DeclaredProperty). d.default) ds in
    let front = replicate 3 (Value.Known 0) in let rest = replicate (60 - length ds) (Value.Known 0) in
    values_laters (all_defaults ds) ∙ omega (
      arith,
      values_later-append (front ++ own) rest,
      values_later-append front own,
      zeros_known 3,
      zeros_known (60 - length ds),
      defaults_later ds,
    )

-- of all objects
pub all_objects_later : (parents : List ℕ) (objects : List Object) →
    later_count (objects_from parents 0 (all_objects objects)) ≡ 4 + length objects
all_objects_later parents objects = objects_later parents 0 (all_objects objects)
    ∙ omega (arith, ap length (first_parents objects), length-parents (all_objects objects), length-parents objects)

pub all_classes_later : (objects : List Object) →
    later_count (values_cells (class_values (class_numbers_from 1 (all_objects objects))) ++ word_cells 0) ≡ 0
all_classes_later objects = classes_later (class_numbers_from 1 (all_objects objects))

pub all_bytes : (objects : List Object) →
    length (bytes_of (tables_from 0 (all_objects objects))) ≡ 30 + length (bytes_of (tables_from 4 objects))
all_bytes objects = ap (λ cs. length (bytes_of cs)) (all_tables objects)
    ∙ omega (arith, size-append (tables_from 0 first_objects) (tables_from 4 objects), first_bytes)

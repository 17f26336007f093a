-- Targets in the areas of a story are found, and so in the story of a reading.
use Rattle.std.specs.Prelude.{if◌then◌else◌, is_some, nat_le, not, option_to_list, replicate, slice_get, ◌%◌, ◌&&◌, ◌*◌, ◌-◌, ◌==◌, ◌||◌}
use Rattle.std.proofs.Common.{Bool, List, None, Option, Some, [], arith, false, length, map, refl, subst, suc, sym, true, zero, ℕ, ◌++◌}
use Rattle.std.proofs.Common.{◌+◌, ◌<◌, ◌∷◌, ◌≡◌, ◌≤◌}
use Rattle.inf_area.specs.{Cells.bytes_of, Cells.value_cells, Cells.values_cells, Cells.word_cells, declared.cells.Cell.Cell}
use Rattle.inf_area.specs.{declared.targets.AreaName.AreaName, declared.targets.Target.Target, declared.targets.Value.Value}
use Rattle.inf_scanner.specs.declared.tokens.Place.{Place}
use Rattle.inf_settings.specs.{Bounds.Limits, Bounds.limits_of, declared.setting.Setting.Setting}
use Rattle.inf_dictionary.specs.{Texts.Text, Words.dictionary_bytes, declared.uses.Word.Word}
use Rattle.inf_arrays.specs.{Arrays.Listed, Arrays.all_of, Arrays.array_cells, Arrays.arrays_cells, Globals.all_globals, Kinds.bytes_cells}
use Rattle.inf_arrays.specs.{Kinds.count_cells, Kinds.entries_cells, declared.kinds.ArrayKind.ArrayKind}
use Rattle.inf_verbs.specs.{Routines.routines_cells, declared.lines.LineToken.LineToken}
use Rattle.inf_verbs.specs.Lines.{LineOf, line_cells, lines_cells, token_type, token_value, tokens_cells}
use Rattle.inf_verbs.specs.Verbs.{VerbOf, address_cells, lines_of, part_size, parts_cells, places_from, verb_cells}
use Rattle.inf_properties.specs.{Properties.found, declared.sizes.Owner.Owner, declared.values.Property.Property}
use Rattle.inf_objects.specs.{Attributes.attribute_cells, Tree.child_of, Tree.sibling_of, declared.objects.Object.Object}
use Rattle.inf_objects.specs.Tables.{address_rows, all_falling, byte_cells, class_rows, class_values, falling, has_individual}
use Rattle.inf_objects.specs.Tables.{individual_row_cells, individual_rows_cells, individual_table_by, individual_table_cells}
use Rattle.inf_objects.specs.Tables.{is_individual, name_cells, row_cells, rows_by, rows_cells, rows_of, shown, size_cells, table_cells}
use Rattle.inf_tables.specs.{Tables.AllTables, Tables.references, declared.kinds.DeclaredProperty.DeclaredProperty}
use Rattle.inf_tables.specs.Areas.{all_defaults, all_objects, class_numbers_from, first_names, first_object, first_objects}
use Rattle.inf_tables.specs.Areas.{individual_places_from, individual_tables, object_cells, objects_from, parents_of, shown_attributes}
use Rattle.inf_tables.specs.Areas.{table_places_from, tables_from}
use Rattle.inf_devices.specs.Files.{Sources}
use Rattle.inf_names.specs.declared.meanings.Meaning.{Meaning}
use Rattle.inf_names.specs.Symbols.{IsDeclared, IsUsed, Named, Standing, meaning_in}
use Rattle.inf_code.specs.Code.{Routines, known}
use Rattle.inf_output.specs.{Strings.StringArea, declared.past.Past.Past}
use Rattle.inf_output.specs.Output.{Out, counted, full, full_of, full_past, less, or_full, past_by}
use Rattle.inf_report.specs.Messages.{Undeclared}
use Rattle.inf_unit.specs.{Messages.FileNames, Messages.Reported, Messages.location, Names.main_of, Names.with_all_undeclared}
use Rattle.inf_unit.specs.{Names.with_undeclared}
use Rattle.inf_compilation.specs.Actions.{Compilation, begun_at}
use Rattle.inf_link.specs.Targets.{Lookup}
use Rattle.inf_story.specs.Names.{value_by, values_of, with_value}
use Rattle.inf_story.specs.Tables.{abbreviations, areas, declared_at, looked_up, three_spaces, undeclared}
use Rattle.inf_ending.specs.Ending.{begun, begun_from, first_place, is_clean, laid, named, refused, told_of}
use Rattle.inf_session.specs.Choices.{Choices}
use Rattle.inf_word_laws.specs.Standing.{AllOf}
use Rattle.inf_word_laws.proofs.Numbering.{names_are_found, same_some}
use Rattle.inf_step_walk.specs.Walking.{Remains}
use Rattle.inf_step_walk.specs.Standing.{CellsStand, DefaultsStand, Holds, LinesStand, ListedStand, MeaningStands, NamesStand, ObjectsStand}
use Rattle.inf_step_walk.specs.Standing.{PropertiesStand, RoutinesStand, StandingStands, TargetStands, TokensStand, ValueStands}
use Rattle.inf_step_walk.specs.Standing.{ValuesStand, VerbsStand, is_short, is_short_by}
use Rattle.inf_step_walk.proofs.{Lists.all_arrays, Lists.never, Lists.no_some, Premises.all_join}
use Rattle.inf_message_laws.proofs.Told.{error_adds, remains}
use Rattle.inf_limit_laws.proofs.Ways.{none_full}
use Rattle.inf_target_laws.specs.Laws.{AllFound, AreasFound, CellIsFound, IsFound, StoriesAreWhole, StoryIsWhole, ValueIsFound, ValuesFound}
use Rattle.inf_target_laws.proofs.Walked.{end_stands}

-- A look-up in which all targets are found that stand in an output
pub record Finds (u : Out) (targets : Lookup) (words : List (Text × Word)) : Type 0 where
  pub finds : (t : Target) → TargetStands u t → IsFound targets words t

pub bytes_found : (targets : Lookup) (words : List (Text × Word)) (bytes : List ℕ) → AllFound targets words (known bytes)
bytes_found targets words [] = tt
bytes_found targets words (byte ∷ bytes) = (tt, bytes_found targets words bytes)

-- Parts

found_below : (places : List ℕ) (part : ℕ) → part < length places → is_some (slice_get places part) ≡ true
found_below [] part below = absurd (omega (arith, below))
found_below (place ∷ places) zero below = refl
found_below (place ∷ places) (suc part) below = found_below places part (omega (arith, below))

pub verbs_placed : (at : ℕ) (verbs : List VerbOf) → length (places_from at verbs) ≡ length verbs
verbs_placed at [] = refl
verbs_placed at (verb ∷ verbs) = let on = verbs_placed (at + part_size verb) verbs in omega (arith, on)

pub tables_placed : (at part : ℕ) (objects : List Object) → length (table_places_from at part objects) ≡ length objects
tables_placed at part [] = refl
tables_placed at part (o ∷ objects) =
    let on = tables_placed (at + length (bytes_of (table_cells part o))) (part + 1) objects in omega (arith, on)

pub individuals_placed : (at : ℕ) (objects : List Object) → length (individual_places_from at objects) ≡ length objects
individuals_placed at [] = refl
individuals_placed at (o ∷ objects) =
    let on = individuals_placed (at + length (bytes_of (individual_table_cells o))) objects in omega (arith, on)

module _ (u : Out) (targets : Lookup) (words : List (Text × Word)) where
  pub join : (a b : List Cell) → AllFound targets words a → AllFound targets words b → AllFound targets words (a ++ b)
  join a b h k = all_join (CellIsFound targets words) a b h k

  -- Code and values

  pub code_found : Finds u targets words → (cells : List Cell) → CellsStand u cells → AllFound targets words cells
  code_found f [] h = tt
  code_found f (Cell.Byte byte ∷ cells) h = (tt, code_found f cells h.1)
  code_found f (Cell.Later t ∷ cells) h = (f.finds t h.0, code_found f cells h.1)

  pub values_found : Finds u targets words → (values : List Value) → ValuesStand u values → ValuesFound targets words values
  values_found f [] h = tt
  values_found f (Value.Known number ∷ values) h = (tt, values_found f values h.1)
  values_found f (Value.Later t ∷ values) h = (f.finds t h.0, values_found f values h.1)

  value_written : (v : Value) → ValueIsFound targets words v → AllFound targets words (value_cells v)
  value_written (Value.Known number) h = (tt, (tt, tt))
  value_written (Value.Later t) h = (h, tt)

  pub values_written : (values : List Value) → ValuesFound targets words values → AllFound targets words (values_cells values)
  values_written [] h = tt
  values_written (v ∷ values) h = join (value_cells v) (values_cells values) (value_written v h.0) (values_written values h.1)

  pub known_values : (count number : ℕ) → ValuesFound targets words (replicate count (Value.Known number))
  known_values zero number = tt
  known_values (suc count) number = (tt, known_values count number)

  -- Arrays

  low_bytes : (values : List Value) → AllFound targets words (bytes_cells values)
  low_bytes [] = tt
  low_bytes (v ∷ values) = (tt, low_bytes values)

  entries_found : (k : ArrayKind) (values : List Value) → ValuesFound targets words values → AllFound targets words (entries_cells k values)
  entries_found ArrayKind.Bytes values h = low_bytes values
  entries_found ArrayKind.Words values h = values_written values h
  entries_found ArrayKind.String values h = low_bytes values
  entries_found ArrayKind.Table values h = values_written values h

  count_found : (k : ArrayKind) (count : ℕ) → AllFound targets words (count_cells k count)
  count_found ArrayKind.Bytes count = tt
  count_found ArrayKind.Words count = tt
  count_found ArrayKind.String count = (tt, tt)
  count_found ArrayKind.Table count = (tt, (tt, tt))

  pub arrays_found : Finds u targets words → (arrays : List Listed) → ListedStand u arrays → AllFound targets words (arrays_cells arrays)
  arrays_found f [] h = tt
  arrays_found f (a ∷ arrays) h = join (array_cells a) (arrays_cells arrays)
      (join (count_cells a.kind (length a.entries)) (entries_cells a.kind a.entries) (count_found a.kind (length a.entries))
      (entries_found a.kind a.entries (values_found f a.entries h.0)))
      (arrays_found f arrays h.1)

  -- Routines of actions and of the grammar

  pub routines_found : Finds u targets words → (routines : List ℕ) → RoutinesStand u routines
      → AllFound targets words (routines_cells routines)
  routines_found f [] h = tt
  routines_found f (routine ∷ routines) h = (f.finds (Target.Name routine) h.0, routines_found f routines h.1)

  -- Lines of verbs

  tokens_found : Finds u targets words → (tokens : List LineToken) → TokensStand u tokens → AllFound targets words (tokens_cells tokens)
  tokens_found f [] h = tt
  tokens_found f (t ∷ tokens) h =
      let v = values_found f (token_value t ∷ []) (h.0, tt) in
      join (Cell.Byte (token_type t) ∷ value_cells (token_value t)) (tokens_cells tokens) (tt, value_written (token_value t) v.0)
      (tokens_found f tokens h.1)

  line_found : Finds u targets words → (line : LineOf) → TokensStand u line.tokens → AllFound targets words (line_cells line)
  line_found f line h = (tt, (tt, join (tokens_cells line.tokens) (Cell.Byte 15 ∷ []) (tokens_found f line.tokens h) (tt, tt)))

  lines_found : Finds u targets words → (lines : List LineOf) → LinesStand u lines → AllFound targets words (lines_cells lines)
  lines_found f [] h = tt
  lines_found f (line ∷ lines) h = join (line_cells line) (lines_cells lines) (line_found f line h.0) (lines_found f lines h.1)

  lines_both : (a b : List LineOf) → LinesStand u a → LinesStand u b → LinesStand u (a ++ b)
  lines_both [] b h k = k
  lines_both (line ∷ a) b h k = (h.0, lines_both a b h.1 k)

  pub verbs_found : Finds u targets words → (verbs : List VerbOf) → VerbsStand u verbs → AllFound targets words (parts_cells verbs)
  verbs_found f [] h = tt
  verbs_found f (verb ∷ verbs) h = join (verb_cells verb) (parts_cells verbs)
      (tt, lines_found f (lines_of verb) (lines_both verb.first verb.rest h.0.0 h.0.1)) (verbs_found f verbs h.1)

  pub addresses_found : (number : ℕ) → number ≤ length targets.verbs → AllFound targets words (address_cells number)
  addresses_found zero within = tt
  addresses_found (suc number) within =
      join (address_cells number) (Cell.Later (Target.Part AreaName.Grammar number) ∷ []) (addresses_found number (omega (arith, within)))
      (found_below targets.verbs number (omega (arith, within)), tt)

  -- Objects

  attributes_found : (attributes : List Bool) → AllFound targets words (attribute_cells attributes)
  unfolding attribute_cells
  attributes_found attributes = (tt, (tt, (tt, (tt, (tt, (tt, tt))))))

  abbrev link_cells : ℕ → ℕ → ℕ → ℕ → List Cell
  link_cells parent sibling child part = word_cells (parent % 65536) ++ word_cells (sibling % 65536) ++ word_cells (child % 65536)
      ++ Cell.Later (Target.Part AreaName.PropertyTables part) ∷ []

  links_found : (parent sibling child part : ℕ) → part < length targets.property_tables
      → AllFound targets words (link_cells parent sibling child part)
  links_found parent sibling child part below = (tt, (tt, (tt, (tt, (tt, (tt, (found_below targets.property_tables part below, tt)))))))

  object_found : (parents : List ℕ) (part : ℕ) (o : Object) → part < length targets.property_tables
      → AllFound targets words (object_cells parents part o)
  unfolding attribute_cells
  object_found parents part o below =
      let attributes = shown_attributes o.owner o.attributes in
      let sibling = sibling_of (part + 1) parents in
      let child = child_of (part + 1) parents in
      join (attribute_cells attributes) (link_cells o.parent sibling child part) (attributes_found attributes)
      (links_found o.parent sibling child part below)

  pub objects_found : (parents : List ℕ) (part : ℕ) (objects : List Object) → part + length objects ≤ length targets.property_tables
      → AllFound targets words (objects_from parents part objects)
  objects_found parents part [] within = tt
  objects_found parents part (o ∷ objects) within =
      join (object_cells parents part o) (objects_from parents (part + 1) objects) (object_found parents part o (omega (arith, within)))
      (objects_found parents (part + 1) objects (omega (arith, within)))

  -- Property tables

  abbrev RowsFound : List Property → Type 0
  RowsFound rows = AllOf (λ (p : Property). ValuesFound targets words p.values) rows

  properties_found : Finds u targets words → (properties : List Property) → PropertiesStand u properties → RowsFound properties
  properties_found f [] h = tt
  properties_found f (p ∷ properties) h = (values_found f p.values h.0, properties_found f properties h.1)

  class_found : (classes : List ℕ) → ValuesFound targets words (class_values classes)
  class_found [] = tt
  class_found (n ∷ classes) = (tt, class_found classes)

  pub numbers_found : (classes : List ℕ) → AllFound targets words (values_cells (class_values classes) ++ word_cells 0)
  numbers_found classes =
      join (values_cells (class_values classes)) (word_cells 0) (values_written (class_values classes) (class_found classes)) (tt, (tt, tt))

  class_rows_found : (classes : List ℕ) → RowsFound (class_rows classes)
  class_rows_found [] = tt
  class_rows_found (n ∷ classes) = (class_found (n ∷ classes), tt)

  address_found : (part : ℕ) (properties : List Property) → part < length targets.individual_tables
      → RowsFound (address_rows part properties)
  address_found part properties below = go (has_individual properties)
    where
      go : (b : Bool) → RowsFound (if b then record {
        number = 3;
        is_additive = false;
        values = Value.Later (Target.Part AreaName.IndividualTables part) ∷ [];
      } ∷ [] else [])
      go true = ((found_below targets.individual_tables part below, tt), tt)
      go false = tt

  rows_found : Finds u targets words → (owner : Owner) (part : ℕ) (o : Object) → PropertiesStand u o.properties
      → part < length targets.individual_tables → RowsFound (rows_by owner part o)
  rows_found f Owner.Object part o h below =
      all_join (λ (p : Property). ValuesFound targets words p.values) (class_rows o.classes ++ address_rows part o.properties) o.properties
      (all_join (λ (p : Property). ValuesFound targets words p.values)
      (class_rows o.classes) (address_rows part o.properties) (class_rows_found o.classes)
      (address_found part o.properties below))
      (properties_found f o.properties h)
  rows_found f Owner.Class part o h below = tt
  rows_found f Owner.Nothing part o h below = tt

  row_at : (number : ℕ) (rows : List Property) → RowsFound rows → RowsFound (option_to_list (found number rows))
  row_at number [] h = tt
  row_at number (p ∷ rows) h = go (p.number == number) (row_at number rows h.1)
    where
      go : (b : Bool) → RowsFound (option_to_list (found number rows))
          → RowsFound (option_to_list (if b then Some p else found number rows))
      go true rest = (h.0, tt)
      go false rest = rest

  falling_found : (number : ℕ) (rows : List Property) → RowsFound rows → RowsFound (falling number rows)
  falling_found zero rows h = tt
  falling_found (suc number) rows h = all_join (λ (p : Property). ValuesFound targets words p.values)
      (option_to_list (found number rows)) (falling number rows) (row_at number rows h) (falling_found number rows h)

  all_falling_found : (rows : List Property) → RowsFound rows → RowsFound (all_falling rows)
  unfolding all_falling
  all_falling_found rows h = falling_found 64 rows h

  shown_found : (values : List Value) → ValuesFound targets words values → ValuesFound targets words (shown values)
  shown_found [] h = (tt, tt)
  shown_found (v ∷ values) h = h

  size_found : (number count : ℕ) → AllFound targets words (size_cells number count)
  size_found number count = go (nat_le count 1)
    where
      go : (b : Bool) → AllFound targets words
          (if b then Cell.Byte (64 + number) ∷ [] else Cell.Byte (128 + number) ∷ Cell.Byte (128 + 2 * count % 64) ∷ [])
      go true = (tt, tt)
      go false = (tt, (tt, tt))

  rows_written : (rows : List Property) → RowsFound rows → AllFound targets words (rows_cells rows)
  rows_written [] h = tt
  rows_written (p ∷ rows) h = join (row_cells p) (rows_cells rows)
      (join (size_cells p.number (length p.values)) (values_cells (shown p.values)) (size_found p.number (length p.values))
      (values_written (shown p.values) (shown_found p.values h.0)))
      (rows_written rows h.1)

  name_found : (bytes : List ℕ) → AllFound targets words (byte_cells bytes)
  name_found [] = tt
  name_found (b ∷ bytes) = (tt, name_found bytes)

  table_found : Finds u targets words → (part : ℕ) (o : Object) → PropertiesStand u o.properties → part < length targets.individual_tables
      → AllFound targets words (table_cells part o)
  table_found f part o h below =
      let rows = all_falling (rows_of part o) in
      join (name_cells o.name ++ rows_cells rows) (Cell.Byte 0 ∷ [])
      (join (name_cells o.name) (rows_cells rows) (tt, name_found o.name)
      (rows_written rows (all_falling_found (rows_of part o) (rows_found f o.owner part o h below))))
      (tt, tt)

  pub tables_found : Finds u targets words → (part : ℕ) (objects : List Object) → ObjectsStand u objects
      → part + length objects ≤ length targets.individual_tables → AllFound targets words (tables_from part objects)
  tables_found f part [] h within = tt
  tables_found f part (o ∷ objects) h within =
      join (table_cells part o) (tables_from (part + 1) objects) (table_found f part o h.0 (omega (arith, within)))
      (tables_found f (part + 1) objects h.1 (omega (arith, within)))

  -- Individual tables

  individual_row : Finds u targets words → (p : Property) → ValuesStand u p.values
      → AllFound targets words (if is_individual p then individual_row_cells p else [])
  individual_row f p h = go (is_individual p)
    where
      go : (b : Bool) → AllFound targets words (if b then individual_row_cells p else [])
      go true = (tt, (tt, (tt, values_written (shown p.values) (shown_found p.values (values_found f p.values h)))))
      go false = tt

  individual_rows : Finds u targets words → (properties : List Property) → PropertiesStand u properties
      → AllFound targets words (individual_rows_cells properties)
  individual_rows f [] h = tt
  individual_rows f (p ∷ properties) h =
      join (if is_individual p then individual_row_cells p else []) (individual_rows_cells properties) (individual_row f p h.0)
      (individual_rows f properties h.1)

  individual_found : Finds u targets words → (owner : Owner) (properties : List Property) → PropertiesStand u properties
      → AllFound targets words (individual_table_by owner properties)
  individual_found f Owner.Object properties h = go (has_individual properties)
    where
      go : (b : Bool) → AllFound targets words (if b then individual_rows_cells properties ++ word_cells 0 else [])
      go true = join (individual_rows_cells properties) (word_cells 0) (individual_rows f properties h) (tt, (tt, tt))
      go false = tt
  individual_found f Owner.Class properties h = tt
  individual_found f Owner.Nothing properties h = tt

  pub individuals_found : Finds u targets words → (objects : List Object) → ObjectsStand u objects
      → AllFound targets words (individual_tables objects)
  individuals_found f [] h = tt
  individuals_found f (o ∷ objects) h =
      join (individual_table_cells o) (individual_tables objects) (individual_found f o.owner o.properties h.0)
      (individuals_found f objects h.1)

-- Targets that stand are found, where all names have values.

all_finds : (u : Out) (names : List Value) → values_of u.names.names ≡ Some names
    → Finds u (looked_up names u.tables) u.tables.dictionary.list
all_finds u names are = record { finds = finds }
  where
    finds : (t : Target) → TargetStands u t → IsFound (looked_up names u.tables) u.tables.dictionary.list t
    finds (Target.Name number) h = (names_are_found u.names.names names are).found u.tables number h
    finds (Target.Word text) h = h
    finds (Target.Part area part) h = absurd h
    finds (Target.Place area place) h = tt
    finds (Target.System constant) h = tt

-- Lemmas about values of names

abbrev MaybeMeaning : Out → Option Meaning → Type 0
MaybeMeaning u None = Unit {0}
MaybeMeaning u (Some m) = MeaningStands u m

meaning_value : (u : Out) (m : Option Meaning) (v : Value) → value_by m ≡ Some v → MaybeMeaning u m → ValueStands u v
meaning_value u None v e h = no_some (sym e)
meaning_value u (Some (Meaning.Word text)) v e h = subst (ValueStands u) (same_some e) h
meaning_value u (Some (Meaning.Function function)) v e h = no_some (sym e)
meaning_value u other v e h = subst (ValueStands u) (same_some e) tt

standing_meaning : (u : Out) (s : Standing Place) → StandingStands u s → MaybeMeaning u (meaning_in (Some s))
standing_meaning u (IsDeclared number m place) h = h
standing_meaning u (IsUsed spelling place) h = tt

one_value : (u : Out) (x : Option Value) (y : Option (List Value)) (values : List Value) → with_value x y ≡ Some values
    → ((v : Value) → x ≡ Some v → ValueStands u v) → ((vs : List Value) → y ≡ Some vs → ValuesStand u vs) → ValuesStand u values
one_value u None y values e f g = no_some (sym e)
one_value u (Some v) None values e f g = no_some (sym e)
one_value u (Some v) (Some vs) values e f g = subst (ValuesStand u) (same_some e) (f v refl, g vs refl)

values_stand : (u : Out) (names : List (Named Place)) (values : List Value) → values_of names ≡ Some values → NamesStand u names
    → ValuesStand u values
values_stand u [] values e h = subst (ValuesStand u) (same_some e) tt
values_stand u (n ∷ names) values e h = one_value u (value_by (meaning_in (Some n.standing))) (values_of names) values e
    (λ v is. meaning_value u (meaning_in (Some n.standing)) v is (standing_meaning u n.standing h.0))
    (λ vs is. values_stand u names vs is h.1)

-- Lemmas about objects with the first four, and the defaults of properties

first_stand : (u : Out) (names : List (List ℕ)) → ObjectsStand u (map first_object names)
first_stand u [] = tt
first_stand u (name ∷ names) = (tt, first_stand u names)

objects_stand : (u : Out) (objects : List Object) → ObjectsStand u objects → ObjectsStand u (all_objects objects)
objects_stand u objects h = all_join (λ (o : Object). PropertiesStand u o.properties) first_objects objects (first_stand u first_names) h

defaults_stand : (u : Out) (declared : List DeclaredProperty) → DefaultsStand u declared
    → ValuesStand u (map (λ (d : DeclaredProperty). d.default) declared)
defaults_stand u [] h = tt
defaults_stand u (d ∷ declared) h = (h.0, defaults_stand u declared h.1)

-- Lemmas about all areas

places_found : (targets : Lookup) (words : List (Text × Word)) (places : List ℕ) → AllFound targets words (map declared_at places)
places_found targets words [] = tt
places_found targets words (place ∷ places) = (tt, places_found targets words places)

module _ (u : Out) (names : List Value) (are : values_of u.names.names ≡ Some names) (h : Holds u u) where
  abbrev targets : Lookup
  targets = looked_up names u.tables

  abbrev words : List (Text × Word)
  words = u.tables.dictionary.list

  finds : Finds u targets words
  finds = all_finds u names are

  abbrev objects : List Object
  objects = all_objects u.tables.world.objects

  all_stand : ObjectsStand u objects
  all_stand = objects_stand u u.tables.world.objects h.1.1.0.of_objects

  abbreviations_found : (places : List ℕ) → AllFound targets words (abbreviations places)
  unfolding abbreviations
  abbreviations_found places =
      let rest = undeclared (64 - length places) in
      join u targets words (undeclared 32 ++ map declared_at places) rest
      (join u targets words (undeclared 32) (map declared_at places)
      (values_written u targets words (replicate 32 (Value.Known 32)) (known_values u targets words 32 32))
      (places_found targets words places))
      (values_written u targets words (replicate (64 - length places) (Value.Known 32))
      (known_values u targets words (64 - length places) 32))

  defaults_found : AllFound targets words (values_cells (all_defaults u.tables.world.declared))
  defaults_found =
      let declared = u.tables.world.declared in
      let own = map (λ (d : DeclaredProperty). d.default) declared in
      let rest = replicate (60 - length declared) (Value.Known 0) in
      values_written u targets words (all_defaults declared)
      (all_join (ValueIsFound targets words) (replicate 3 (Value.Known 0)) (own ++ rest) (known_values u targets words 3 0)
      (all_join (ValueIsFound targets words) own rest
      (values_found u targets words finds own (defaults_stand u declared h.1.1.0.of_declared))
      (known_values u targets words (60 - length declared) 0)))

  globals_found : AllFound targets words (values_cells (all_globals u.tables.globals))
  globals_found =
      let rest = replicate (240 - length u.tables.globals) (Value.Known 0) in
      values_written u targets words (all_globals u.tables.globals)
      (all_join (ValueIsFound targets words) u.tables.globals rest
      (values_found u targets words finds u.tables.globals h.1.0.of_globals)
      (known_values u targets words (240 - length u.tables.globals) 0))

  grammar_found : AllFound targets words (address_cells (length u.tables.verbs.list) ++ parts_cells u.tables.verbs.list)
  grammar_found =
      let verbs = u.tables.verbs.list in
      let placed = verbs_placed (2 * length verbs) verbs in
      join u targets words (address_cells (length verbs)) (parts_cells verbs)
      (addresses_found u targets words (length verbs) (omega (arith, placed)))
      (verbs_found u targets words finds verbs h.1.0.of_verbs)

  pub areas_found : (main : ℕ) → AreasFound targets words (areas main u.code.finished u.strings.bytes u.tables)
  areas_found main =
      let placed = tables_placed 0 0 objects in
      let individual = individuals_placed 0 objects in
      record {
        low_strings = bytes_found targets words (three_spaces ++ u.tables.low_strings.bytes);
        abbreviations = abbreviations_found u.tables.low_strings.abbreviations;
        property_defaults = defaults_found;
        objects = objects_found u targets words (parents_of objects) 0 objects (omega (arith, placed));
        property_tables = tables_found u targets words finds 0 objects all_stand (omega (arith, individual));
        class_numbers = numbers_found u targets words (class_numbers_from 1 objects);
        individual_tables = individuals_found u targets words finds objects all_stand;
        globals = globals_found;
        arrays = arrays_found u targets words finds (all_of u.tables.arrays) (all_arrays u u.tables.arrays h.1.0.of_arrays);
        grammar = grammar_found;
        actions = routines_found u targets words finds u.tables.actions.routines h.1.0.of_actions;
        parsing_routines = routines_found u targets words finds u.tables.parsing h.1.0.of_parsing;
        dictionary = bytes_found targets words (dictionary_bytes words);
        code = (tt, (tt, (tt, (tt, (tt, (tt, (tt, code_found u targets words finds u.code.finished h.0.of_finished)))))));
        strings = bytes_found targets words u.strings.bytes;
      }

  pub whole : StoryIsWhole u
  whole = record {
    names = names;
    are = are;
    direct = (names_are_found u.names.names names are).direct;
    values = values_found u targets words finds names (values_stand u u.names.names names are h.1.1.1);
    in_areas = areas_found;
  }

-- A limit of names or of tables is told.

short_full : (past : Past) (refs : ℕ) → is_short_by (Some past) ≡ true → full_past (counted refs past) ≡ None → ⊥
short_full past refs short none = symbols past.symbols past.tables past.labels short none
  where
    others : Option Setting
    others = full_of past.code Setting.Code (if past.strings then Some Setting.Strings else
        full_of (less past.refs refs) Setting.References None)

    labels : (o : Option ℕ) (t : Option Setting) → is_some t ≡ true → full_of o Setting.Labels (or_full t others) ≡ None → ⊥
    labels None t is none = cc
    labels (Some rest) (Some limit) is none = cc
    labels (Some rest) None is none = cc

    symbols : (s : Bool) (t : Option Setting) (l : Option ℕ) → (s || is_some t) ≡ true
        → (if s then Some Setting.Symbols else full_of l Setting.Labels (or_full t others)) ≡ None → ⊥
    symbols true t l is none = cc
    symbols false t l is none = labels l t is none

not_short : (limits : Limits) (o : Out) → full limits o ≡ None → is_short o ≡ false
not_short limits o none = go (is_short o) refl
  where
    by_past : (past : Option Past) → o.past ≡ past → full_past (counted (references o.tables) (past_by limits past o.code)) ≡ None
        → is_short_by past ≡ true → ⊥
    by_past None is free short = cc
    by_past (Some p) is free short = short_full p (references o.tables) short free

    go : (b : Bool) → is_short o ≡ b → is_short o ≡ false
    go false e = e
    go true e = absurd (by_past o.past refl none e)

-- A story comes from a clean report alone, and from names that all have values.

undeclared_stay : (files : FileNames) (names : List (Named Place)) → Remains (with_all_undeclared files names)
undeclared_stay files [] r free = free
undeclared_stay files (n ∷ names) r free = one n.standing r (undeclared_stay files names (with_undeclared files n.standing r) free)
  where
    one : (s : Standing Place) → Remains (with_undeclared files s)
    one (IsDeclared number m place) told clean = clean
    one (IsUsed spelling place) told clean =
        remains (error_adds (location files place) (location files place) (Undeclared spelling)) told clean

first_true : (a b : Bool) → (a && b) ≡ true → a ≡ true
first_true true b e = refl
first_true false b e = e

not_over : (b : Bool) → not b ≡ true → b ≡ false
not_over true e = never (sym e)
not_over false e = refl

clean_free : (r : Reported) → is_clean r ≡ true → r.counts.is_over ≡ false
clean_free r e = not_over r.counts.is_over (first_true (not r.counts.is_over) (r.counts.errors == 0) e)

-- a story tells that a report is clean, and that all names have values
pub record IsTold (r : Reported) (values : Option (List Value)) : Type 0 where
  pub clean : is_clean r ≡ true
  pub names : List Value
  pub are : values ≡ Some names

named_told : (date : List ℕ) (w : Compilation) (files : FileNames) (main : ℕ) (code : Routines) (strings : StringArea)
    (tables : AllTables) (r : Reported) (bytes : List ℕ) (values : Option (List Value))
    → is_clean r ≡ true → (named (told_of date w) files main code strings tables r values).story ≡ Some bytes → IsTold r values
named_told date w files main code strings tables r bytes None clean e = no_some (sym e)
named_told date w files main code strings tables r bytes (Some names) clean e = record { clean = clean; names = names; are = refl }

from_told : (date : List ℕ) (w : Compilation) (files : FileNames) (main : ℕ) (o : Out) (r : Reported) (bytes : List ℕ)
    → (begun_from (told_of date w) files main o r).story ≡ Some bytes → IsTold r (values_of o.names.names)
from_told date w files main o r bytes e = go (is_clean r) refl e
  where
    go : (b : Bool) → is_clean r ≡ b → (if b then laid (told_of date w) files main o r else refused r).story ≡ Some bytes
        → IsTold r (values_of o.names.names)
    go true clean f = named_told date w files main o.code o.strings o.tables r bytes (values_of o.names.names) clean f
    go false clean f = no_some (sym f)

begun_told : (date : List ℕ) (w : Compilation) (files : FileNames) (o : Out) (r : Reported) (main : Option ℕ) (bytes : List ℕ)
    → (begun (told_of date w) files o r main).story ≡ Some bytes → IsTold r (values_of o.names.names)
begun_told date w files o r None bytes e = no_some (sym e)
begun_told date w files o r (Some main) bytes e = from_told date w files main o r bytes e

pub stories_are_whole : (sources : Sources) (o : Choices) → StoriesAreWhole sources o
stories_are_whole sources o name s reached date bytes e =
    let limits = limits_of o.settings in
    let files = s.nesting.names in
    let b = begun_at limits files first_place s.work in
    let names = b.output.names.names in
    let told = begun_told date b files b.output (with_all_undeclared files names b.report) (main_of b.output.names) bytes e in
    let free = undeclared_stay files names b.report (clean_free (with_all_undeclared files names b.report) told.clean) in
    let short = not_short limits b.output (none_full files first_place (full limits b.output) s.work.report free) in
    let held = end_stands sources o name s reached short in
    whole b.output told.names told.are held.0

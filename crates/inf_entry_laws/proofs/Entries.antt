-- Headers, entries and values are one operation of the world each.
use Rattle.std.proofs.Common.{◌≡◌, ℕ, ◌+◌, ◌%◌, length, List, [], ◌∷◌, Option, Some, None, Bool, true, false, cond, refl, sym, ap, ◌∙◌, subst}
use Rattle.std.proofs.Common.{bytes_eq, is_some}
use Rattle.std.proofs.lemmas.Slice.Eq.{bytes_eq-Decides}
use Rattle.inf_settings.specs.Bounds.{Limits}
use Rattle.inf_area.specs.declared.{targets.Target.Target, targets.Value.Value}
use Rattle.inf_characters.specs.{declared.characters.CharSet.CharSet, declared.texts.TextItem.TextItem}
use Rattle.inf_scanner.specs.{declared.tokens.Place.Place}
use Rattle.inf_gathering.specs.declared.gathering.Leaf.{Leaf}
use Rattle.inf_dictionary.specs.{Texts.Text, Words.add_fault, Words.word_of}
use Rattle.inf_dictionary.specs.{declared.dictionary.AddFault.AddFault as WordFault, declared.uses.WordUse.WordUse}
use Rattle.inf_assembler.specs.declared.routines.Limit.{Limit as CodeLimit}
use Rattle.inf_verbs.specs.{Routines.action_fault, declared.routines.ActionFault.ActionFault}
use Rattle.inf_expressions.specs.{declared.findings.Finding.Finding, declared.operators.Operand.Operand}
use Rattle.inf_expressions.specs.declared.units.Wanted.{Wanted}
use Rattle.inf_names.specs.{Locals.Headed, Locals.Local, Locals.local_number, Spellings.Name, SystemNames.system_meaning}
use Rattle.inf_names.specs.Symbols.{IsDeclared, Named, Standing, declare_fault, folded, found_as, found_in, put, refer_fault, standing_of}
use Rattle.inf_names.specs.declared.{meanings.Meaning.Meaning, symbols.DeclareFault.DeclareFault, symbols.Found.Found}
use Rattle.inf_names.specs.declared.symbols.ReferFault.{ReferFault}
use Rattle.inf_settings.specs.Bounds.{unbounded}
use Rattle.inf_text.specs.Packing.{dictionary_bytes, packed}
use Rattle.inf_code.specs.Code.{full_opened}
use Rattle.inf_unit.specs.{Tokens.SourceToken, Units.bytes_at, Units.name_at, Units.name_order}
use Rattle.inf_output.specs.{Strings.fits, Texts.used_in}
use Rattle.inf_output.specs.Output.{Out, declared, declared_by, opened_by, referred, referred_as, referred_by, with_text_by}
use Rattle.inf_output.specs.Output.{with_word, with_word_by}
use Rattle.inf_output.specs.Actions.{action_by, appeared, fake_number, key_of, numbered_as, numbered_by, routine_name, routine_of}
use Rattle.inf_output.specs.Actions.{seen_by}
use Rattle.inf_operands.specs.Operands.{Settled, is_stack, settled, settled_action, settled_by, settled_leaf, settled_name, settled_text}
use Rattle.inf_operands.specs.Operands.{with_settled}
use Rattle.inf_operands.specs.Texts.{text_at, text_packed}
use Rattle.inf_compilation.specs.{Context.Context}
use Rattle.inf_compilation.specs.Actions.{Compilation, finding_at, world_ended_by}
use Rattle.inf_tables.specs.World.{class_header_fault, given_property_fault, individual_fault, object_header_fault}
use Rattle.inf_tables.specs.World.{with_class_header, with_given_property, with_individual, with_object_header}
use Rattle.inf_named_values.specs.{Declarations.name_declared, Declarations.plainly_known, Declarations.with_world, Values.looked_value}
use Rattle.inf_named_values.specs.{declared.declarations.Declared.Declared}
use Rattle.inf_bodies.specs.ShortNames.{bracketed, name_packed, short_text}
use Rattle.inf_bodies.specs.Objects.{class_begun_by, class_opened, class_of_word, found_at, joined_by, joined_some, object_begun_by}
use Rattle.inf_bodies.specs.Objects.{object_declared, object_ended, object_known, object_opened}
use Rattle.inf_bodies.specs.Bodies.{attribute_set_by, attribute_set_some, further_added_by, further_placed, given, given_finding, given_with, individual_declared}
use Rattle.inf_bodies.specs.Bodies.{individual_given_by, is_given, is_words, last_at, placed, property_given_by, property_gives_by}
use Rattle.inf_bodies.specs.Bodies.{property_of}
use Rattle.inf_bodies.specs.Values.{any_placed, embedded, found_embedded, name_place, next_routine, routine_placed, text_placed_by}
use Rattle.inf_bodies.specs.Values.{text_finding_by, value_by, word_used}
use Rattle.inf_entry_laws.specs.Laws.{EntriesChangeWorlds, FirstClassFits, HeadersChangeWorlds, ValuesChangeWorlds, class_short}
use Rattle.inf_entry_laws.specs.Laws.{header_of, name_of, number_next, object_short, parent_of, with_first_class, world_of}

-- Lemmas about names

put_found : (key : List ℕ) (s : Standing Place) (names : List (Named Place)) → standing_of key (put key s names) ≡ Some s
put_found key s [] = ap (λ b. cond b (Some s) None) (let same : bytes_eq key key ≡ true = (bytes_eq-Decides key key).1 refl in same)
put_found key s (n ∷ names) = by (bytes_eq key n.name) refl (put_found key s names)
  where
    by : (b : Bool) → bytes_eq key n.name ≡ b → standing_of key (put key s names) ≡ Some s
        → standing_of key (cond b (record { name = n.name; standing = s } ∷ names) (n ∷ put key s names)) ≡ Some s
    by true e rest = ap (λ b. cond b (Some s) (standing_of key names)) e
    by false e rest = ap (λ b. cond b (Some n.standing) (standing_of key (put key s names))) e ∙ rest

is_named : (limits : Limits) (n : Name) (m : Meaning) (o : Out) → declare_fault limits n.bytes o.names ≡ None
    → found_in n.bytes (name_declared limits n m o).names ≡ Found.Declared m n.place
is_named limits n m o free = ap (λ f. found_in n.bytes (declared_by limits f n.bytes n.place m o).names) free
    ∙ ap (found_as (system_meaning o.names.is_debugging n.bytes))
    (put_found (folded n.bytes) (IsDeclared o.names.declared m n.place) o.names.names)

declared_tables : (limits : Limits) (n : Name) (m : Meaning) (o : Out) → (name_declared limits n m o).tables ≡ o.tables
declared_tables limits n m o = by (declare_fault limits n.bytes o.names)
  where
    by : (f : Option (DeclareFault Place)) → (declared_by limits f n.bytes n.place m o).tables ≡ o.tables
    by None = refl
    by (Some DeclareFault.Full) = refl
    by (Some (DeclareFault.Present place)) = refl
    by (Some DeclareFault.Memory) = refl

packed_tables : (text : Option (List TextItem)) (o : Out) → (name_packed text o).tables ≡ o.tables
packed_tables None o = refl
packed_tables (Some items) o = refl

packed_names : (text : Option (List TextItem)) (o : Out) → (name_packed text o).names ≡ o.names
packed_names None o = refl
packed_names (Some items) o = refl

-- Lemmas about headers

module _ (limits : Limits) (context : Context) (place : Place) (w : Compilation) where
  -- lemmas about the header of a class
  class_is : (n : Name) → (plainly_known n (name_order w.unit.tokens) w).finding ≡ None
      → class_header_fault limits (class_short context n w) (world_of w) ≡ None
      → (class_opened limits context (plainly_known n (name_order w.unit.tokens) w).finding n w).output
      ≡ class_begun_by limits None (class_short context n w) n (name_packed (bracketed context.set n.bytes) w.output)
  class_is n untold fits =
      let text = bracketed context.set n.bytes in
      let short = class_short context n w in
      ap (λ f. (class_opened limits context f n w).output) untold
      ∙ ap (λ f. class_begun_by limits f short n (name_packed text w.output))
      (ap (λ t. class_header_fault limits short t.world) (packed_tables text w.output) ∙ fits)

  class_changes : (n : Name) → (plainly_known n (name_order w.unit.tokens) w).finding ≡ None
      → class_header_fault limits (class_short context n w) (world_of w) ≡ None
      → (class_opened limits context (plainly_known n (name_order w.unit.tokens) w).finding n w).output.tables.world
      ≡ with_class_header (class_short context n w) (world_of w)
  class_changes n untold fits =
      let o = name_packed (bracketed context.set n.bytes) w.output in
      let short = class_short context n w in
      ap (λ o. o.tables.world) (class_is n untold fits)
      ∙ ap (λ t. t.world) (declared_tables limits n (Meaning.Class ((5 + length o.tables.world.objects) % 65536))
      (with_world (with_class_header short o.tables.world) o))
      ∙ ap (λ t. with_class_header short t.world) (packed_tables (bracketed context.set n.bytes) w.output)

  class_named : (n : Name) → (plainly_known n (name_order w.unit.tokens) w).finding ≡ None
      → class_header_fault limits (class_short context n w) (world_of w) ≡ None → declare_fault limits n.bytes w.output.names ≡ None
      → found_in n.bytes (class_opened limits context (plainly_known n (name_order w.unit.tokens) w).finding n w).output.names
      ≡ Found.Declared (Meaning.Class (number_next w)) n.place
  class_named n untold fits free =
      let text = bracketed context.set n.bytes in
      let o = name_packed text w.output in
      ap (λ o. found_in n.bytes o.names) (class_is n untold fits)
      ∙ is_named limits n (Meaning.Class ((5 + length o.tables.world.objects) % 65536))
      (with_world (with_class_header (class_short context n w) o.tables.world) o)
      (ap (declare_fault limits n.bytes) (packed_names text w.output) ∙ free)
      ∙ ap (λ t. Found.Declared (Meaning.Class ((5 + length t.world.objects) % 65536)) n.place) (packed_tables text w.output)

  -- lemmas about the header of an object
  ended_output : (name : Option Name) (d : Declared) (u : Compilation) → (object_ended limits context place name d u).output ≡ u.output
  ended_output None d u = refl
  ended_output (Some n) d u = refl

  named_tables : (name : Option Name) (number : ℕ) (o : Out) → (object_declared limits name number o).tables ≡ o.tables
  named_tables None number o = refl
  named_tables (Some n) number o = declared_tables limits n (Meaning.Object (number % 65536)) o

  joined_is : (class : Option ℕ) (o : Out) → FirstClassFits limits class o.tables.world
      → joined_some limits class o ≡ with_world (with_first_class class o.tables.world) o
  joined_is None o fits = refl
  joined_is (Some c) o fits = ap (λ f. joined_by limits f c o) fits

  abbrev object_output : Out
  object_output = (object_ended limits context place (name_of w) (object_known context (header_of w) (name_of w) w)
      (object_opened limits context (object_known context (header_of w) (name_of w) w).finding (header_of w) (name_of w) w)).output

  abbrev packed_output : Out
  packed_output = name_packed (short_text context (header_of w) (name_of w) w) w.output

  object_is : (object_known context (header_of w) (name_of w) w).finding ≡ None
      → object_header_fault limits (parent_of w) (object_short context w) (world_of w) ≡ None
      → FirstClassFits limits (class_of_word w) (with_object_header (parent_of w) (object_short context w) (world_of w))
      → object_output
      ≡ object_declared limits (name_of w) (5 + length packed_output.tables.world.objects)
      (with_world (with_first_class (class_of_word w)
      (with_object_header (parent_of w) (object_short context w) packed_output.tables.world)) packed_output)
  object_is untold fits first =
      let text = short_text context (header_of w) (name_of w) w in
      let short = object_short context w in
      let o = packed_output in
      let d = object_known context (header_of w) (name_of w) w in
      let number = 5 + length o.tables.world.objects in
      ended_output (name_of w) d (object_opened limits context d.finding (header_of w) (name_of w) w)
      ∙ ap (λ f. (object_opened limits context f (header_of w) (name_of w) w).output) untold
      ∙ ap (λ f. object_begun_by limits f (parent_of w) short (class_of_word w) (name_of w) o)
      (ap (λ t. object_header_fault limits (parent_of w) short t.world) (packed_tables text w.output) ∙ fits)
      ∙ ap (object_declared limits (name_of w) number)
      (joined_is (class_of_word w) (with_world (with_object_header (parent_of w) short o.tables.world) o)
      (subst (λ t. FirstClassFits limits (class_of_word w) (with_object_header (parent_of w) short t.world))
      (sym (packed_tables text w.output)) first))

  object_changes : (object_known context (header_of w) (name_of w) w).finding ≡ None
      → object_header_fault limits (parent_of w) (object_short context w) (world_of w) ≡ None
      → FirstClassFits limits (class_of_word w) (with_object_header (parent_of w) (object_short context w) (world_of w))
      → object_output.tables.world
      ≡ with_first_class (class_of_word w) (with_object_header (parent_of w) (object_short context w) (world_of w))
  object_changes untold fits first = ap (λ o. o.tables.world) (object_is untold fits first)
      ∙ ap (λ t. t.world) (named_tables (name_of w) _ _)
      ∙ ap (λ t. with_first_class (class_of_word w) (with_object_header (parent_of w) (object_short context w) t.world))
      (packed_tables (short_text context (header_of w) (name_of w) w) w.output)

  object_named : (n : Name) → name_of w ≡ Some n → (object_known context (header_of w) (name_of w) w).finding ≡ None
      → object_header_fault limits (parent_of w) (object_short context w) (world_of w) ≡ None
      → FirstClassFits limits (class_of_word w) (with_object_header (parent_of w) (object_short context w) (world_of w))
      → declare_fault limits n.bytes w.output.names ≡ None
      → found_in n.bytes object_output.names ≡ Found.Declared (Meaning.Object (number_next w)) n.place
  object_named n named untold fits first free =
      let text = short_text context (header_of w) (name_of w) w in
      let o = packed_output in
      let u = with_world (with_first_class (class_of_word w) (with_object_header (parent_of w) (object_short context w) o.tables.world)) o in
      ap (λ o. found_in n.bytes o.names) (object_is untold fits first)
      ∙ ap (λ k. found_in n.bytes (object_declared limits k (5 + length o.tables.world.objects) u).names) named
      ∙ is_named limits n (Meaning.Object ((5 + length o.tables.world.objects) % 65536)) u
      (ap (declare_fault limits n.bytes) (packed_names text w.output) ∙ free)
      ∙ ap (λ t. Found.Declared (Meaning.Object ((5 + length t.world.objects) % 65536)) n.place) (packed_tables text w.output)

pub headers_change : HeadersChangeWorlds
headers_change limits context place w = record {
  class = class_changes limits context place w;
  class_name = class_named limits context place w;
  object = object_changes limits context place w;
  object_name = object_named limits context place w;
}

pub entries_change : EntriesChangeWorlds
entries_change limits context place w = record {
  class = λ c e h. ap (λ k. (joined_some limits k w.output).tables.world) e ∙ ap (λ f. (joined_by limits f c w.output).tables.world) h;
  attribute = λ a e h. ap (λ k. (attribute_set_some k (is_given w.unit.tokens (last_at w.unit.tokens)) w.output).tables.world) e
      ∙ ap (λ f. (attribute_set_by f a (is_given w.unit.tokens (last_at w.unit.tokens)) w.output).tables.world) h;
  property = refl;
  ends = λ h. ap (λ f. world_ended_by f (world_of w)) h;
}

-- Expressions leave the world.

module _ (limits : Limits) where
  word_stays_by : (f : Option WordFault) (text : Text) (how : WordUse) (is_plural : Bool) (o : Out)
      → (with_word_by limits f text how is_plural o).tables.world ≡ o.tables.world
  word_stays_by None text how is_plural o = refl
  word_stays_by (Some WordFault.Full) text how is_plural o = refl
  word_stays_by (Some WordFault.OtherVerb) text how is_plural o = refl
  word_stays_by (Some WordFault.Memory) text how is_plural o = refl

  word_stays : (text : Text) (how : WordUse) (is_plural : Bool) (o : Out)
      → (with_word limits text how is_plural o).tables.world ≡ o.tables.world
  word_stays text how is_plural o =
      word_stays_by (add_fault limits (word_of text o.tables.dictionary.list) how o.tables.dictionary) text how is_plural o

  text_stays_by : (b : Bool) (bytes : List ℕ) (o : Out) → (with_text_by limits b bytes o).tables.world ≡ o.tables.world
  text_stays_by true bytes o = refl
  text_stays_by false bytes o = refl

  text_stays : (items : Option (List TextItem)) (o : Out) → (settled_text limits items o).0.tables.world ≡ o.tables.world
  text_stays None o = refl
  text_stays (Some items) o =
      text_stays_by (fits limits (packed items (used_in o.texts)) (text_packed o).strings) (packed items (used_in o.texts)) (text_packed o)

  referred_stays : (name : List ℕ) (at : Place) (o : Out) → (referred limits name at o).tables.world ≡ o.tables.world
  referred_stays name at o = by (refer_fault limits name o.names)
    where
      by : (r : Option ReferFault) → (referred_by limits r name at o).tables.world ≡ o.tables.world
      by None = refl
      by (Some fault) = refl

  numbered_stays_by : (f : Option ActionFault) (routine : ℕ) (o : Out) → (numbered_by limits f routine o).0.tables.world ≡ o.tables.world
  numbered_stays_by None routine o = refl
  numbered_stays_by (Some fault) routine o = refl

  numbered_stays : (routine : Option ℕ) (o : Out) → (numbered_as limits routine o).0.tables.world ≡ o.tables.world
  numbered_stays None o = refl
  numbered_stays (Some routine) o = numbered_stays_by (action_fault limits routine o.tables.actions) routine o

  appeared_stays : (f : Option (DeclareFault Place)) (key : List ℕ) (at : Place) (o : Out)
      → (seen_by f key at o).tables.world ≡ o.tables.world
  appeared_stays None key at o = refl
  appeared_stays (Some fault) key at o = refl

  action_stays_by : (fake : Option ℕ) (name : List ℕ) (at : Place) (o : Out)
      → (action_by limits fake name at o).0.tables.world ≡ o.tables.world
  action_stays_by (Some fake) name at o = refl
  action_stays_by None name at o =
      let p = appeared (key_of name) at o in
      numbered_stays (routine_of (referred_as limits (routine_name name) p)) (referred limits (routine_name name) at p)
      ∙ referred_stays (routine_name name) at p
      ∙ appeared_stays (declare_fault unbounded (key_of name) o.seen) (key_of name) at o

  action_stays : (name : Option Name) (o : Out) → (settled_action limits name o).0.tables.world ≡ o.tables.world
  action_stays None o = refl
  action_stays (Some n) o = action_stays_by (fake_number (key_of n.bytes) o) n.bytes n.place o

  name_stays_by : (local : Option ℕ) (name : List ℕ) (at : Place) (o : Out)
      → (settled_by limits local name at o).0.tables.world ≡ o.tables.world
  name_stays_by (Some local) name at o = refl
  name_stays_by None name at o = referred_stays name at o

  name_stays : (locals : List Local) (name : Option Name) (o : Out) → (settled_name limits locals name o).0.tables.world ≡ o.tables.world
  name_stays locals None o = refl
  name_stays locals (Some n) o = name_stays_by (local_number n.bytes locals) n.bytes n.place o

  alone_stays : (locals : List Local) (tokens : List SourceToken) (b : Bool) (at : ℕ) (o : Out)
      → (cond b (o, Operand.Variable 0) (settled_name limits locals (name_at tokens at) o)).0.tables.world ≡ o.tables.world
  alone_stays locals tokens true at o = refl
  alone_stays locals tokens false at o = name_stays locals (name_at tokens at) o

  leaf_stays : (set : CharSet) (locals : List Local) (tokens : List SourceToken) (l : Leaf) (o : Out)
      → (settled_leaf limits set locals tokens l o).0.tables.world ≡ o.tables.world
  leaf_stays set locals tokens (Leaf.Name at) o = name_stays locals (name_at tokens at) o
  leaf_stays set locals tokens (Leaf.Alone at) o =
      alone_stays locals tokens (is_stack (bytes_at tokens at) (local_number (bytes_at tokens at) locals)) at o
  leaf_stays set locals tokens (Leaf.Word word) o = word_stays word.text WordUse.Other word.is_plural o
  leaf_stays set locals tokens (Leaf.Text at) o = text_stays (text_at set tokens at) o
  leaf_stays set locals tokens (Leaf.Action at) o = action_stays (name_at tokens at) o
  leaf_stays set locals tokens other o = refl

  settled_stays : (set : CharSet) (locals : List Local) (tokens : List SourceToken) (leaves : List Leaf) (s : Settled)
      → (settled limits set locals tokens leaves s).out.tables.world ≡ s.out.tables.world
  settled_stays set locals tokens [] s = refl
  settled_stays set locals tokens (l ∷ leaves) s =
      settled_stays set locals tokens leaves (with_settled (settled_leaf limits set locals tokens l s.out) s.operands)
      ∙ leaf_stays set locals tokens l s.out

  -- Lemmas about values

  used_stays : (f : Option Finding) (items : List TextItem) (w : Compilation) → world_of (word_used limits f items w) ≡ world_of w
  used_stays None items w = word_stays (dictionary_bytes items) WordUse.Other false w.output
  used_stays (Some f) items w = refl

  individual_tables : (name : Option Name) (number : ℕ) (o : Out) → (individual_declared limits name number o).tables ≡ o.tables
  individual_tables None number o = refl
  individual_tables (Some n) number o = declared_tables limits n (Meaning.IndividualProperty (number % 65536)) o

  opened_stays : (f : Option CodeLimit) (locals : ℕ) (is_lost : Bool) (o : Out)
      → (opened_by limits f locals is_lost o).tables.world ≡ o.tables.world
  opened_stays None locals is_lost o = refl
  opened_stays (Some limit) locals is_lost o = refl

  known_changes : (w : Compilation) (at p : ℕ) (v : Option Value) → property_of (found_at at w) ≡ Some p
      → given_finding limits at v None w ≡ None → given_property_fault limits p v (world_of w) ≡ None
      → world_of (given limits at v None w)
      ≡ with_given_property p v (world_of w)
  known_changes w at p v e none h =
      let named = record w { is_name = is_words (property_of (found_at at w)) } in
      ap (λ f. world_of (given_with limits f at v named)) none
      ∙ ap (λ k. world_of (property_gives_by limits k at v named)) e
      ∙ ap (λ f. (property_given_by limits f p v w.output).tables.world) h

  new_changes : (w : Compilation) (at : ℕ) (v : Option Value) → property_of (found_at at w) ≡ None
      → given_finding limits at v None w ≡ None → individual_fault (world_of w) ≡ None
      → given_property_fault limits (64 + (world_of w).individuals) v (with_individual (world_of w)) ≡ None
      → world_of (given limits at v None w)
      ≡ with_given_property (64 + (world_of w).individuals) v (with_individual (world_of w))
  new_changes w at v e none room h =
      let named = record w { is_name = is_words (property_of (found_at at w)) } in
      let name = name_at w.unit.tokens at in
      let number = 64 + (world_of w).individuals in
      let o = with_world (with_individual (world_of w)) w.output in
      let p = individual_declared limits name number o in
      let tables : p.tables ≡ o.tables = individual_tables name number o in
      ap (λ f. world_of (given_with limits f at v named)) none
      ∙ ap (λ k. world_of (property_gives_by limits k at v named)) e
      ∙ ap (λ f. (individual_given_by limits f name v w.output).tables.world) room
      ∙ ap (λ f. (property_given_by limits f number v p).tables.world) (ap (λ t. given_property_fault limits number v t.world) tables ∙ h)
      ∙ ap (λ t. with_given_property number v t.world) tables

  routine_changes : (context : Context) (w : Compilation) (first : Place) (name : Option ℕ) (h : Headed)
      → (found_embedded limits name h w).least ≡ None
      → world_of (embedded limits context first name h w) ≡ world_of (placed limits name (next_routine w) None w)
  unfolding embedded
  routine_changes context w first name h none =
      let found = found_embedded limits name h w in
      let u = routine_placed limits name (is_some found.least) w in
      opened_stays (full_opened limits (is_some found.least) u.output.code) (length h.locals) (is_some found.least) u.output
      ∙ ap (λ f. world_of (routine_placed limits name (is_some f) w)) none

pub values_change : ValuesChangeWorlds
values_change limits context place w = record {
  known = known_changes limits w;
  new = new_changes limits w;
  more = λ v e h. ap (λ f. world_of (further_placed limits f v w)) e ∙ ap (λ f. (further_added_by limits f v w.output).tables.world) h;
  word = λ items e f.
      let name = name_place w.unit.outer in
      ap (λ t. world_of (any_placed limits context t name w)) e
      ∙ ap (λ b. world_of (text_placed_by limits b name items w)) f
      ∙ used_stays limits (text_finding_by limits false name items w) items
      (placed limits name (Value.Later (Target.Word (dictionary_bytes items))) None w);
  expression = λ e f.
      let name = name_place w.unit.outer in
      ap (λ t. world_of (any_placed limits context t name w)) e
      ∙ ap (λ d. world_of (value_by limits context d name (finding_at 0 Wanted.Constant w) (looked_value w) w)) f;
  settled = settled_stays limits context.set w.locals w.unit.tokens w.unit.gathering.leaves (record { out = w.output; operands = [] });
  routine = routine_changes limits context w;
}

-- Objects and classes: their headers, and the entries in their bodies.
use Rattle.std.specs.Prelude.{if◌then◌else◌, is_some, length, ◌%◌}
use Rattle.std.proofs.Common.{Bool, List, None, Option, Some, ap, false, refl, subst, sym, true, unwrap_or, ℕ, ◌+◌, ◌∙◌, ◌≡◌}
use Rattle.inf_characters.specs.declared.texts.TextItem.{TextItem}
use Rattle.inf_text.specs.Packing.{dictionary_bytes}
use Rattle.inf_area.specs.declared.targets.Value.{Value}
use Rattle.inf_expressions.specs.{Findings.is_before, Findings.least_of_both, declared.findings.Finding.Finding}
use Rattle.inf_expressions.specs.{declared.units.Wanted.Wanted}
use Rattle.inf_scanner.specs.declared.tokens.Place.{Place}
use Rattle.inf_gathering.specs.declared.gathering.Leaf.{Leaf}
use Rattle.inf_settings.specs.Bounds.{Limits}
use Rattle.inf_dictionary.specs.declared.uses.WordUse.{WordUse}
use Rattle.inf_tables.specs.{declared.faults.WorldFault.WorldFault, declared.kinds.Parent.Parent}
use Rattle.inf_tables.specs.World.{WorldOf, class_header_fault, class_of_fault, further_value_fault, given_property_fault, individual_fault}
use Rattle.inf_tables.specs.World.{lost_header_fault, object_header_fault, set_attribute_fault, with_class_header, with_class_of}
use Rattle.inf_tables.specs.World.{with_further_value, with_given_property, with_individual, with_lost_header, with_object_header}
use Rattle.inf_names.specs.{Locals.Headed, Locals.no_locals, Spellings.Name, declared.meanings.Meaning.Meaning}
use Rattle.inf_names.specs.{declared.symbols.Found.Found}
use Rattle.inf_output.specs.Output.{Out, with_word}
use Rattle.inf_templates.specs.Parts.{is}
use Rattle.inf_report.specs.declared.messages.FixedLimit.{FixedLimit}
use Rattle.inf_unit.specs.{Messages.Reported, Units.first_place, Units.name_at, Units.name_order, Units.order}
use Rattle.inf_constructs.specs.declared.constructs.Construct.{Construct}
use Rattle.inf_compilation.specs.{Actions.Compilation, Actions.finding_at, Actions.settled_of, Context.Context, Findings.found_alone}
use Rattle.inf_compilation.specs.{Findings.header_findings, Findings.many_finding}
use Rattle.inf_named_values.specs.{Declarations.declared_findings, Declarations.plainly_known, Declarations.with_world, Values.looked_value}
use Rattle.inf_named_values.specs.{Values.value_of, Values.variables_from, declared.declarations.Declared.Declared}
use Rattle.inf_bodies.specs.declared.headers.Header.{Header}
use Rattle.inf_bodies.specs.Bodies.{attribute_finding, attribute_of, attribute_read, attribute_set_by, attribute_set_some, class_finding}
use Rattle.inf_bodies.specs.Bodies.{class_read, further_added, further_added_by, further_found, further_placed, given_finding, given_with}
use Rattle.inf_bodies.specs.Bodies.{individual_declared, individual_given, individual_given_by, is_given, is_words, last_at, number_finding}
use Rattle.inf_bodies.specs.Bodies.{place_finding, placed, placed_finding, property_finding, property_finding_by, property_given}
use Rattle.inf_bodies.specs.Bodies.{property_given_by, property_gives_by, property_in, property_lost, property_of, property_read}
use Rattle.inf_bodies.specs.Objects.{above_finding, class_begun, class_begun_by, class_declared, class_header, class_of, class_of_word}
use Rattle.inf_bodies.specs.Objects.{class_opened, entry_told, found_at, has_most_classes, headed_finding, header_in, joined_by}
use Rattle.inf_bodies.specs.Objects.{joined_fault, joined_some, lost_begun, lost_begun_by, named_parent_finding, noted, object_begun}
use Rattle.inf_bodies.specs.Objects.{object_begun_by, object_declared, object_ended, object_header, object_known, object_opened}
use Rattle.inf_bodies.specs.Objects.{object_with, object_with_known, own_name, parent_in, setting_of}
use Rattle.inf_bodies.specs.ShortNames.{bracketed, header_text, name_packed, packed_name, short_by, short_text}
use Rattle.inf_bodies.specs.Values.{any_finding, any_placed, bracket_in, embedded, embedded_begun, embedded_findings, embedded_opened}
use Rattle.inf_bodies.specs.Values.{embedded_read, found_embedded, name_place, next_routine, place_before, routine_placed, settled_work}
use Rattle.inf_bodies.specs.Values.{takes_words, text_finding_by, text_placed, text_value, value_by, value_finding_by, value_read}
use Rattle.inf_bodies.specs.Values.{word_leaf, word_text, word_text_by, word_used, wrong_if}
use Rattle.inf_word_laws.specs.Standing.{has_word}
use Rattle.inf_step_walk.specs.Standing.{Before, StepsStand, ValueStands}
use Rattle.inf_step_walk.specs.Walking.{Ends, Follows, Grown, Inner, Lies, Next, Passes, Premises, Puts, Stays, Uses, Walk, Walks, tallies}
use Rattle.inf_step_walk.specs.Walking.{with_report}
use Rattle.inf_step_walk.proofs.{Declaring.value_there, Operands.declares, Operands.other, Outputs.word_stands, Pieces.before}
use Rattle.inf_step_walk.proofs.Lists.{MaybeValue, class_holds, further_holds, given_holds, header_holds, no_some, object_holds}
use Rattle.inf_step_walk.proofs.Lists.{world_grows, world_later}
use Rattle.inf_step_walk.proofs.Units.{inner_like, inside, like, opened_steps, puts, used_grows}

-- The knowledge of an object does not depend on what was reported.

parent_told : (arrow parent : Option ℕ) (of_parent : Option ℕ) (arrows : ℕ) (r : Reported) (w : Compilation)
    → least_of_both (above_finding arrow arrows (with_report r w)) (named_parent_finding parent of_parent (with_report r w))
    ≡ least_of_both (above_finding arrow arrows w) (named_parent_finding parent of_parent w)
parent_told None None of_parent arrows r w = refl
parent_told None (Some at) of_parent arrows r w = refl
parent_told (Some at) None of_parent arrows r w = refl
parent_told (Some at) (Some name) of_parent arrows r w = refl

known_told : (context : Context) (h : Header) (name : Option Name) (r : Reported) (w : Compilation)
    → object_known context h name (with_report r w) ≡ object_known context h name w
known_told context h name r w = go name (ap (least_of_both many) (parent_told h.arrow h.parent h.arrow h.arrows r w))
  where
    many : Option Finding
    many = many_finding (has_most_classes (class_of_word w) w.output)

    go : (name : Option Name) → headed_finding h (with_report r w) ≡ headed_finding h w
        → object_known context h name (with_report r w) ≡ object_known context h name w
    go None e = ap (λ (f : Option Finding). record (object_known context h None w) { finding = f }) e
    go (Some name) e =
        let d = plainly_known name (order (unwrap_or h.own 0)) w in
        ap (λ (f : Option Finding). record d { finding = least_of_both d.finding f }) e

below_told : (at : Option ℕ) (arrows : ℕ) (r : Reported) (w : Compilation) → parent_in at arrows (with_report r w) ≡ parent_in at arrows w
below_told None arrows r w = refl
below_told (Some at) arrows r w = refl

header_told : (context : Context) (at : Option ℕ) (r : Reported) (w : Compilation)
    → header_text context at (with_report r w) ≡ header_text context at w
header_told context None r w = refl
header_told context (Some at) r w = refl

own_told : (at : Option ℕ) (r : Reported) (w : Compilation) → own_name at (with_report r w) ≡ own_name at w
own_told None r w = refl
own_told (Some at) r w = refl

-- a new object with a short name, below a parent
abbrev new_below : Limits → Option Name → Option (List TextItem) → Parent → Compilation → Compilation
new_below limits name text p w = record w {
  output = object_begun limits p (packed_name text w.output.texts) (class_of_word w) name (name_packed text w.output);
}

module _ {limits : Limits} {Q : Premises} where
  -- Refusals, and names

  noted_grows : (f : WorldFault) (o : Out) → Grown limits Q o (noted limits f o)
  noted_grows (WorldFault.Full s) o = Passes (setting_of s)
  noted_grows f o = Stays

  lost_grows : (o : Out) → Grown limits Q o (lost_begun o)
  lost_grows o = go (lost_header_fault o.tables.world)
    where
      w : WorldOf
      w = o.tables.world

      go : (f : Option WorldFault) → Grown limits Q o (lost_begun_by f o)
      go None = world_grows (with_lost_header w) (λ u b. header_holds u w.declared w.objects w.body.properties.own w.body.properties.above)
      go (Some f) = Stays

  class_declared_grows : (name : Name) (number : ℕ) (o : Out) → Grown limits Q o (class_declared limits name number o)
  class_declared_grows name number o = declares name.bytes name.place (Meaning.Class (number % 65536)) (λ u. tt)

  -- Lemmas about classes

  class_begun_grows : (short : List ℕ) (name : Name) (o : Out) → Grown limits Q o (class_begun limits short name o)
  class_begun_grows short name o = go (class_header_fault limits short o.tables.world)
    where
      w : WorldOf
      w = o.tables.world

      go : (f : Option WorldFault) → Grown limits Q o (class_begun_by limits f short name o)
      go None = Follows {p = with_world (with_class_header short w) o} (world_grows (with_class_header short w)
          (λ u b. header_holds u w.declared w.objects w.body.properties.own w.body.properties.above))
          (class_declared_grows name (5 + length w.objects) (with_world (with_class_header short w) o))
      go (Some f) = Follows (noted_grows f o) (class_declared_grows name 0 (noted limits f o))

  short_grows : (text : Option (List TextItem)) (o : Out) → Grown limits Q o (name_packed text o)
  short_grows None o = Stays
  short_grows (Some items) o = other refl (λ u h. h)

  class_opened_lays : (context : Context) (told : Option Finding) (name : Name) (w : Compilation)
      → Lies limits Q w (class_opened limits context told name) w
  class_opened_lays context None name w r =
      let text = bracketed context.set name.bytes in
      let short = packed_name text w.output.texts in
      let v = name_packed text w.output in
      puts (class_begun limits short name v) (Follows (short_grows text w.output) (class_begun_grows short name v)) r
  class_opened_lays context (Some f) name w r =
      let v = lost_begun w.output in
      puts (class_declared limits name 0 v) (Follows (lost_grows w.output) (class_declared_grows name 0 v)) r

  -- Lemmas about objects

  joined_grows : (class : Option ℕ) (o : Out) → Grown limits Q o (joined_some limits class o)
  joined_grows None o = Stays
  joined_grows (Some number) o = go (class_of_fault limits number o.tables.world)
    where
      go : (f : Option WorldFault) → Grown limits Q o (joined_by limits f number o)
      go None = world_grows (with_class_of number o.tables.world) (λ u b. class_holds u number o.tables.world)
      go (Some f) = noted_grows f o

  object_declared_grows : (name : Option Name) (number : ℕ) (o : Out) → Grown limits Q o (object_declared limits name number o)
  object_declared_grows None number o = Stays
  object_declared_grows (Some n) number o = declares n.bytes n.place (Meaning.Object (number % 65536)) (λ u. tt)

  object_begun_grows : (p : Parent) (short : List ℕ) (class : Option ℕ) (name : Option Name) (o : Out)
      → Grown limits Q o (object_begun limits p short class name o)
  object_begun_grows p short class name o = go (object_header_fault limits p short o.tables.world)
    where
      w : WorldOf
      w = o.tables.world

      go : (f : Option WorldFault) → Grown limits Q o (object_begun_by limits f p short class name o)
      go None =
          let v = with_world (with_object_header p short w) o in
          let x = joined_some limits class v in
          Follows {p = v} (world_grows (with_object_header p short w) (λ u b. object_holds u p short w))
          (Follows {p = x} (joined_grows class v) (object_declared_grows name (5 + length w.objects) x))
      go (Some f) = Follows (noted_grows f o) (object_declared_grows name 0 (noted limits f o))

  new_lays : (name : Option Name) (text : Option (List TextItem)) (p : Parent) (w : Compilation)
      → Lies limits Q w (new_below limits name text p) w
  new_lays name text p w r =
      let v = name_packed text w.output in
      puts (object_begun limits p (packed_name text w.output.texts) (class_of_word w) name v)
      (Follows (short_grows text w.output) (object_begun_grows p (packed_name text w.output.texts) (class_of_word w) name v)) r

  object_opened_lays : (context : Context) (told : Option Finding) (h : Header) (name : Option Name) (w : Compilation)
      → Lies limits Q w (object_opened limits context told h name) w
  object_opened_lays context None h name w r =
      let v = with_report r w in
      inner_like
      (ap (λ t. new_below limits name (short_by context.set t name) (parent_in h.parent h.arrows v) v) (header_told context h.text r w)
      ∙ ap (λ p. new_below limits name (short_text context h name w) p v) (below_told h.parent h.arrows r w))
      (new_lays name (short_text context h name w) (parent_in h.parent h.arrows w) w r)
  object_opened_lays context (Some f) header name w r =
      let v = lost_begun w.output in
      puts (object_declared limits name 0 v) (Follows (lost_grows w.output) (object_declared_grows name 0 v)) r

  -- Lemmas about entries

  set_grows : (number : Option ℕ) (is_given : Bool) (o : Out) → Grown limits Q o (attribute_set_some number is_given o)
  set_grows None is_given o = Stays
  set_grows (Some number) is_given o = go (set_attribute_fault number o.tables.world)
    where
      go : (f : Option WorldFault) → Grown limits Q o (attribute_set_by f number is_given o)
      go None = other refl (λ u h. h)
      go (Some f) = Stays

  individual_declared_grows : (name : Option Name) (number : ℕ) (o : Out) → Grown limits Q o (individual_declared limits name number o)
  individual_declared_grows None number o = Stays
  individual_declared_grows (Some n) number o = declares n.bytes n.place (Meaning.IndividualProperty (number % 65536)) (λ u. tt)

  -- Properties, of which the value stands that is given, where the output before it or behind all that follows comes before

  given_grows : (number : ℕ) (v : Option Value) (o x : Out) → ((u : Out) → Before u o → Before u x → MaybeValue u v)
      → Grown limits Q (property_given limits number v o) x → Grown limits Q o x
  given_grows number v o x stands = go (given_property_fault limits number v o.tables.world)
    where
      go : (f : Option WorldFault) → Grown limits Q (property_given_by limits f number v o) x → Grown limits Q o x
      go None later =
          world_later (with_given_property number v o.tables.world) (λ u b e. given_holds u number v o.tables.world (stands u b e)) later
      go (Some f) later = Follows (noted_grows f o) later

  individual_grows : (name : Option Name) (v : Option Value) (o x : Out) → ((u : Out) → Before u o → Before u x → MaybeValue u v)
      → Grown limits Q (individual_given limits name v o) x → Grown limits Q o x
  individual_grows name v o x stands = go (individual_fault o.tables.world)
    where
      number : ℕ
      number = 64 + o.tables.world.individuals

      p : Out
      p = with_world (with_individual o.tables.world) o

      named : Grown limits Q p (individual_declared limits name number p)
      named = individual_declared_grows name number p

      go : (f : Option WorldFault) → Grown limits Q (individual_given_by limits f name v o) x → Grown limits Q o x
      go None later = Follows {p = p} (other refl (λ u h. h)) (Follows named
          (given_grows number v (individual_declared limits name number p) x (λ u b e. stands u (before named u b) e) later))
      go (Some f) later = later

  gives_grows : (number : Option ℕ) (at : ℕ) (v : Option Value) (w : Compilation) (x : Out)
      → ((u : Out) → Before u w.output → Before u x → MaybeValue u v) → Grown limits Q (property_gives_by limits number at v w).output x
      → Grown limits Q w.output x
  gives_grows None at v w x stands later = individual_grows (name_at w.unit.tokens at) v w.output x stands later
  gives_grows (Some number) at v w x stands later = given_grows number v w.output x stands later

  -- where something is wrong, no value is given
  given_with_grows : (f : Option Finding) (at : ℕ) (v : Option Value) (w : Compilation) (x : Out)
      → ((u : Out) → Before u w.output → Before u x → f ≡ None → MaybeValue u v) → Grown limits Q (given_with limits f at v w).output x
      → Grown limits Q w.output x
  given_with_grows None at v w x stands later = gives_grows (property_of (found_at at w)) at v w x (λ u b e. stands u b e refl) later
  given_with_grows (Some f) at v w x stands later =
      let name = name_at w.unit.tokens at in
      Follows (individual_declared_grows name 0 w.output)
      (Follows {p = property_lost limits name w.output} (other refl (λ u h. h)) later)

  further_grows : (v : Value) (o x : Out) → ((u : Out) → Before u o → Before u x → ValueStands u v)
      → Grown limits Q (further_added limits v o) x
      → Grown limits Q o x
  further_grows v o x stands = go (further_value_fault limits v o.tables.world)
    where
      go : (f : Option WorldFault) → Grown limits Q (further_added_by limits f v o) x → Grown limits Q o x
      go None later = world_later (with_further_value v o.tables.world) (λ u b e. further_holds u v o.tables.world (stands u b e)) later
      go (Some f) later = Follows (noted_grows f o) later

  further_placed_grows : (f : Option Finding) (v : Value) (w : Compilation) (x : Out)
      → ((u : Out) → Before u w.output → Before u x → f ≡ None → ValueStands u v) → Grown limits Q (further_placed limits f v w).output x
      → Grown limits Q w.output x
  further_placed_grows None v w x stands later = further_grows v w.output x (λ u b e. stands u b e refl) later
  further_placed_grows (Some f) v w x stands later = later

  placed_grows : (name : Option ℕ) (v : Value) (of_value : Option Finding) (w : Compilation) (x : Out)
      → ((u : Out) → Before u w.output → Before u x → placed_finding limits name v of_value w ≡ None → ValueStands u v)
      → Grown limits Q (placed limits name v of_value w).output x → Grown limits Q w.output x
  placed_grows None v of_value w x stands later = further_placed_grows (further_found limits v of_value w) v w x stands later
  placed_grows (Some at) v of_value w x stands later = given_with_grows (given_finding limits at (Some v) of_value w) at (Some v)
      (record w { is_name = is_words (property_of (found_at at w)) }) x stands later

-- The findings about a value and about its property do not depend on what was reported.

number_told : (limits : Limits) (number : Option ℕ) (v : Option Value) (at : ℕ) (r : Reported) (w : Compilation)
    → number_finding limits number v at (with_report r w) ≡ number_finding limits number v at w
number_told limits None v at r w = refl
number_told limits (Some number) v at r w = refl

property_told : (limits : Limits) (f : Found Place) (at : ℕ) (v : Option Value) (r : Reported) (w : Compilation)
    → property_finding_by limits f at v (with_report r w) ≡ property_finding_by limits f at v w
property_told limits (Found.System m) at v r w = number_told limits (property_in m) v at r w
property_told limits (Found.Declared m first) at v r w = number_told limits (property_in m) v at r w
property_told limits f at v r w = refl

place_told : (limits : Limits) (name : Option ℕ) (v : Value) (r : Reported) (w : Compilation)
    → place_finding limits name v (with_report r w) ≡ place_finding limits name v w
place_told limits None v r w = refl
place_told limits (Some at) v r w = property_told limits (found_at at w) at (Some v) r w

given_told : (limits : Limits) (at : ℕ) (v : Option Value) (of_value : Option Finding) (r : Reported) (w : Compilation)
    → given_finding limits at v of_value (with_report r w) ≡ given_finding limits at v of_value w
given_told limits at v of_value r w = ap (λ f. least_of_both f of_value) (property_told limits (found_at at w) at v r w)

placed_told : (limits : Limits) (name : Option ℕ) (v : Value) (of_value : Option Finding) (r : Reported) (w : Compilation)
    → placed_finding limits name v of_value (with_report r w) ≡ placed_finding limits name v of_value w
placed_told limits None v of_value r w = refl
placed_told limits (Some at) v of_value r w = given_told limits at (Some v) of_value r w

-- The statements that are open, and what is counted and told, stay as they are, and another report is the same.
abbrev Same : Reported → (w v t : Compilation) → Type 0
Same r w v t = (v.constructs ≡ w.constructs) × (tallies v ≡ tallies w) × (t ≡ with_report r v)

given_with_same : (limits : Limits) (f : Option Finding) (at : ℕ) (v : Option Value) (w : Compilation) (r : Reported)
    → Same r w (given_with limits f at v w) (given_with limits f at v (with_report r w))
given_with_same limits None at v w r = go (property_of (found_at at w))
  where
    go : (number : Option ℕ) → Same r w (property_gives_by limits number at v w) (property_gives_by limits number at v (with_report r w))
    go None = (refl, refl, refl)
    go (Some number) = (refl, refl, refl)
given_with_same limits (Some f) at v w r = (refl, refl, refl)

further_same : (limits : Limits) (f : Option Finding) (v : Value) (w : Compilation) (r : Reported)
    → Same r w (further_placed limits f v w) (further_placed limits f v (with_report r w))
further_same limits None v w r = (refl, refl, refl)
further_same limits (Some f) v w r = (refl, refl, refl)

placed_same : (limits : Limits) (name : Option ℕ) (v : Value) (of_value : Option Finding) (w : Compilation) (r : Reported)
    → Same r w (placed limits name v of_value w) (placed limits name v of_value (with_report r w))
placed_same limits None v of_value w r = further_same limits (further_found limits v of_value w) v w r
placed_same limits (Some at) v of_value w r =
    let come = record w { is_name = is_words (property_of (found_at at w)) } in
    let same = given_with_same limits (given_finding limits at (Some v) of_value w) at (Some v) come r in
    (same.0, same.1, ap (λ f. given_with limits f at (Some v) (with_report r come)) (given_told limits at (Some v) of_value r w) ∙ same.2)

puts_same : {limits : Limits} {Q : Premises} {w v t : Compilation} {r : Reported} → Grown limits Q w.output v.output → Same r w v t
    → Inner limits Q w r v t
puts_same g same =
    inner_like same.2 (Puts g (λ u h. subst (λ (constructs : List Construct). StepsStand u constructs) (sym same.0) h) same.1)

-- Words that are values of `name`: each is used behind the property that has it.

text_value_stands : (u : Out) (is_wrong : Bool) (items : List TextItem) → has_word (dictionary_bytes items) u ≡ true
    → ValueStands u (text_value is_wrong items)
text_value_stands u true items h = tt
text_value_stands u false items h = h

none_of : (a b : Option Finding) → least_of_both a b ≡ None → (a ≡ None) × (b ≡ None)
none_of None None e = (refl, refl)
none_of None (Some y) e = no_some e
none_of (Some x) None e = no_some e
none_of (Some x) (Some y) e = go (is_before y x) e
  where
    go : (b : Bool) → (if b then Some y else Some x) ≡ None
        → ◌≡◌ {A = Option Finding} (Some x) None × (◌≡◌ {A = Option Finding} (Some y) None)
    go true e = no_some e
    go false e = no_some e

none_both : (a b : Option Finding) → a ≡ None → b ≡ None → least_of_both a b ≡ None
none_both None None e f = refl
none_both None (Some y) e f = no_some f
none_both (Some x) b e f = no_some e

none_found : (limits : Limits) (name : Option ℕ) (v : Value) (judged : Option Finding) (w : Compilation)
    → placed_finding limits name v judged w ≡ None → least_of_both judged (place_finding limits name v w) ≡ None
none_found limits None v judged w e = e
none_found limits (Some at) v judged w e =
    let none = none_of (property_finding limits at (Some v) w) judged e in
    none_both judged (property_finding limits at (Some v) w) none.1 none.0

module _ {limits : Limits} {Q : Premises} where
  placed_lays : (name : Option ℕ) (v : Value) (of_value : Option Finding) (w : Compilation)
      → ((u : Out) → Before u w.output → placed_finding limits name v of_value w ≡ None → ValueStands u v)
      → Lies limits Q w (placed limits name v of_value) w
  placed_lays name v of_value w stands r =
      puts_same (placed_grows name v of_value w (placed limits name v of_value w).output (λ u b e. stands u b) Stays)
      (placed_same limits name v of_value w r)

  -- a word is used behind what has it
  word_lays : (told : Option Finding) (items : List TextItem) {w p t : Compilation} {r : Reported} → Same r w p t
      → ((x : Out) → ((u : Out) → Before u x → told ≡ None → has_word (dictionary_bytes items) u ≡ true) → Grown limits Q p.output x
      → Grown limits Q w.output x) → Inner limits Q w r (word_used limits told items p) (word_used limits told items t)
  word_lays None items {w} {p} same f = puts_same (f (with_word limits (dictionary_bytes items) WordUse.Other false p.output)
      (λ u e none. word_stands limits u (dictionary_bytes items) WordUse.Other false p.output e)
      (Uses (dictionary_bytes items) WordUse.Other false)) (same.0, same.1, ap (word_used limits None items) same.2)
  word_lays (Some told) items {w} {p} same f = puts_same (f p.output (λ u e none. no_some none) Stays) same

  text_lays : (name : Option ℕ) (items : List TextItem) (w : Compilation) → Lies limits Q w (text_placed limits name items) w
  text_lays name items w r =
      let is_wrong = variables_from items false in
      let v = text_value is_wrong items in
      inner_like
      (ap (λ f. word_used limits f items (placed limits name v (wrong_if is_wrong) (with_report r w)))
      (placed_told limits name v (wrong_if is_wrong) r w))
      (word_lays (text_finding_by limits is_wrong name items w) items (placed_same limits name v (wrong_if is_wrong) w r)
      (λ x there. placed_grows name v (wrong_if is_wrong) w x (λ u b e none. text_value_stands u is_wrong items (there u e none))))

  value_by_lays : (context : Context) (told : Option Finding) (name : Option ℕ) (judged : Option Finding) (looked : Value) (w : Compilation)
      → least_of_both judged (place_finding limits name looked w) ≡ told
      → Lies limits Q w (value_by limits context told name judged looked) w
  value_by_lays context None name judged looked w is r =
      Next {x = settled_work limits context w} (puts (settled_of limits context w).out (used_grows context w) r)
      (placed_lays name (value_of limits context w) None (settled_work limits context w) (λ u e none. value_there limits context w u e) r)
  value_by_lays context (Some f) name judged looked w is r =
      placed_lays name looked judged w (λ u e none. no_some (sym is ∙ none_found limits name looked judged w none)) r

  any_lays : (context : Context) (items : Option (List TextItem)) (name : Option ℕ) (w : Compilation)
      → Lies limits Q w (any_placed limits context items name) w
  any_lays context None name w r =
      let judged = finding_at 0 Wanted.Constant w in
      let looked = looked_value w in
      inner_like
      (ap (λ f. value_by limits context (least_of_both judged f) name judged looked (with_report r w)) (place_told limits name looked r w))
      (value_by_lays context (least_of_both judged (place_finding limits name looked w)) name judged looked w refl r)
  any_lays context (Some items) name w r = text_lays name items w r

-- The finding about a value, and its text, if it is a word, do not depend on what was reported.

value_by_told : (limits : Limits) (context : Context) (f : Option Finding) (name : Option ℕ) (judged : Option Finding) (looked : Value)
    (r : Reported) (w : Compilation)
    → value_finding_by limits context f name judged looked (with_report r w) ≡ value_finding_by limits context f name judged looked w
value_by_told limits context None name judged looked r w =
    placed_told limits name (value_of limits context w) None r (settled_work limits context w)
value_by_told limits context (Some f) name judged looked r w = placed_told limits name looked judged r w

any_told : (limits : Limits) (context : Context) (text : Option (List TextItem)) (name : Option ℕ) (r : Reported) (w : Compilation)
    → any_finding limits context text name (with_report r w) ≡ any_finding limits context text name w
any_told limits context None name r w =
    let judged = finding_at 0 Wanted.Constant w in
    let looked = looked_value w in
    ap (λ f. value_finding_by limits context (least_of_both judged f) name judged looked (with_report r w))
    (place_told limits name looked r w)
    ∙ value_by_told limits context (least_of_both judged (place_finding limits name looked w)) name judged looked r w
any_told limits context (Some items) name r w =
    let is_wrong = variables_from items false in placed_told limits name (text_value is_wrong items) (wrong_if is_wrong) r w

leaf_told : (context : Context) (l : Option Leaf) (r : Reported) (w : Compilation)
    → word_text_by context l (with_report r w) ≡ word_text_by context l w
leaf_told context None r w = refl
leaf_told context (Some (Leaf.Char c)) r w = refl
leaf_told context (Some (Leaf.Text at)) r w = refl
leaf_told context (Some l) r w = refl

takes_told : (name : Option ℕ) (r : Reported) (w : Compilation) → takes_words name (with_report r w) ≡ takes_words name w
takes_told None r w = refl
takes_told (Some at) r w = refl

word_told : (context : Context) (name : Option ℕ) (r : Reported) (w : Compilation)
    → word_text context (takes_words name (with_report r w)) (with_report r w) ≡ word_text context (takes_words name w) w
word_told context name r w = ap (λ takes. word_text context takes (with_report r w)) (takes_told name r w)
    ∙ leaf_told context (word_leaf (takes_words name w) w) r w

module _ {limits : Limits} {context : Context} {Q : Premises} where
  pub class_steps : (first : Place) (name : Name) (w : Compilation) → Walks limits context Q (class_header limits context first name) w
  class_steps first name w r =
      let d = plainly_known name (name_order w.unit.tokens) w in
      Ends first false (declared_findings name FixedLimit.Globals d) (class_opened limits context d.finding name w)
      (class_opened_lays context d.finding name w r)

  object_ends : (first : Place) (name : Option Name) (d : Declared) {x w t : Compilation} {r : Reported} → Inner limits Q x r w t
      → Walk limits context Q x r (object_ended limits context first name d w) (object_ended limits context first name d t)
  object_ends first None d {x} {w} ahead = Ends first false (found_alone d.finding) w ahead
  object_ends first (Some name) d {x} {w} ahead = Ends first false (declared_findings name FixedLimit.Values d) w ahead

  object_with_steps : (first : Place) (h : Header) (name : Option Name) (w : Compilation)
      → Walks limits context Q (object_with limits context first h name) w
  object_with_steps first h name w r =
      let d = object_known context h name w in
      like (ap (λ d. object_with_known limits context first h name d (with_report r w)) (known_told context h name r w))
      (object_ends first name d (object_opened_lays context d.finding h name w r))

  pub object_steps : (first : Place) (w : Compilation) → Walks limits context Q (object_header limits context first) w
  object_steps first w r =
      let h = header_in w.unit.tokens in
      like (ap (λ name. object_with limits context first h name (with_report r w)) (own_told h.own r w))
      (object_with_steps first h (own_name h.own w) w r)

  -- the end of an entry
  told_ends : (place : Place) (f : Option Finding) (x w : Compilation) {t : Compilation} {r : Reported} → Inner limits Q x r w t
      → Walk limits context Q x r (entry_told limits context (first_place x.unit.tokens place) f w)
      (entry_told limits context (first_place x.unit.tokens place) f t)
  told_ends place f x w ahead = Ends (first_place x.unit.tokens place) false (found_alone f) w ahead

  pub class_read_steps : (place : Place) (w : Compilation) → Walks limits context Q (class_read limits context place) w
  class_read_steps place w r =
      let at = last_at w.unit.tokens in
      let class = class_of (found_at at w) in
      let o = joined_some limits class w.output in
      told_ends place (class_finding class (joined_fault limits class w.output) at) w (record w { output = o })
      (puts o (joined_grows class w.output) r)

  pub attribute_read_steps : (place : Place) (w : Compilation) → Walks limits context Q (attribute_read limits context place) w
  attribute_read_steps place w r =
      let at = last_at w.unit.tokens in
      let number = attribute_of (found_at at w) in
      let o = attribute_set_some number (is_given w.unit.tokens at) w.output in
      told_ends place (attribute_finding number at) w (record w { output = o })
      (puts o (set_grows number (is_given w.unit.tokens at) w.output) r)

  pub property_read_steps : (place : Place) (w : Compilation) → Walks limits context Q (property_read limits context place) w
  property_read_steps place w r =
      let at = last_at w.unit.tokens in
      let f = given_finding limits at None None w in
      let come = record w { is_name = is_words (property_of (found_at at w)) } in
      let v = given_with limits f at None come in
      let first = first_place w.unit.tokens place in
      like
      (ap (λ f. entry_told limits context first f (given_with limits f at None (with_report r come))) (given_told limits at None None r w))
      (told_ends place f w v (puts_same (given_with_grows f at None come v.output (λ u b e none. tt) Stays)
      (given_with_same limits f at None come r)))

  pub value_read_steps : (place : Place) (w : Compilation) → Walks limits context Q (value_read limits context place) w
  value_read_steps place w r =
      let name = name_place w.unit.outer in
      let text = word_text context (takes_words name w) w in
      let first = first_place w.unit.tokens place in
      let v = with_report r w in
      like
      (ap (λ t. entry_told limits context first (any_finding limits context t name v) (any_placed limits context t name v))
      (word_told context name r w)
      ∙ ap (λ f. entry_told limits context first f (any_placed limits context text name v)) (any_told limits context text name r w))
      (told_ends place (any_finding limits context text name w) w (any_placed limits context text name w) (any_lays context text name w r))

  -- Lemmas about routines that are values

  embedded_steps : (first : Place) (name : Option ℕ) (h : Headed) (x w : Compilation) (r : Reported)
      → Inner limits Q x r w (with_report r w)
      → Walk limits context Q x r (embedded limits context first name h w) (embedded limits context first name h (with_report r w))
  unfolding embedded
  embedded_steps first name h x w r ahead =
      let told = found_embedded limits name h w in
      let v = routine_placed limits name (is_some told.least) w in
      like
      (ap (λ f. embedded_begun limits context first name h (embedded_findings f h.are_too_many
      (header_findings (order (length w.unit.tokens)) None h)) (with_report r w)) (place_told limits name (next_routine w) r w))
      (inside (embedded_opened limits context first h told)
      (Next ahead (placed_lays name (next_routine w) (wrong_if (is_some told.least)) w (λ u e none. tt) r))
      (λ f. opened_steps first h told x (record v { is_embedded = true; is_replaced = false }) r
      (Next f (Puts Stays (λ u k. k) refl))))

  pub embedded_read_steps : (place : Place) (w : Compilation) → Walks limits context Q (embedded_read limits context place) w
  embedded_read_steps place w r = embedded_steps (first_place w.unit.tokens place) (place_before (bracket_in w.unit.tokens)) w.unit.headed w
      (record w { unit = record w.unit { headed = no_locals } }) r (Puts Stays (λ u h. h) refl)

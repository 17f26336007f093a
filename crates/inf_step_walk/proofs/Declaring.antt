-- The directives that declare: attributes, properties, variables, abbreviations, low strings and arrays; and those that choose how a story
-- is made.
use Rattle.std.specs.Prelude.{if◌then◌else◌, length, nat_le, ◌+◌, ◌-◌}
use Rattle.std.proofs.Common.{Bool, Err, List, None, Ok, Option, Result, Some, [], ap, false, map, refl, true, ℕ, ◌∷◌, ◌≡◌}
use Rattle.inf_characters.specs.{Reading.text_of, declared.reading.Mode.Mode, declared.texts.TextItem.TextItem}
use Rattle.inf_text.specs.Packing.{packed}
use Rattle.inf_area.specs.{declared.targets.Target.Target, declared.targets.Value.Value}
use Rattle.inf_letters.specs.{Letters.ignores, Letters.scale_of, Letters.set_of, Letters.warns, declared.letters.Letters.Letters}
use Rattle.inf_expressions.specs.{Findings.least_of_both, Findings.out_of_range, Questions.constant_of, Trees.Leaf, Trees.Tree}
use Rattle.inf_expressions.specs.{declared.findings.Finding.Finding, declared.findings.UnitError.UnitError}
use Rattle.inf_expressions.specs.{declared.operators.Operand.Operand, declared.units.Wanted.Wanted}
use Rattle.inf_scanner.specs.declared.tokens.Place.{Place}
use Rattle.inf_settings.specs.{Bounds.Limits, declared.setting.Setting.Setting}
use Rattle.inf_arrays.specs.{declared.arrays.ArrayFault.ArrayFault, declared.kinds.ArrayKind.ArrayKind}
use Rattle.inf_arrays.specs.Arrays.{Adding, AllArrays, Characters, added_fault, all_of, arrays_size, open_fault, opened, values_in}
use Rattle.inf_arrays.specs.Arrays.{with_entries}
use Rattle.inf_tables.specs.{LowStrings.low_size, World.attribute_fault, World.property_fault, World.with_property}
use Rattle.inf_tables.specs.{declared.faults.WorldFault.WorldFault}
use Rattle.inf_names.specs.{Spellings.Name, Symbols.found_in, declared.meanings.Meaning.Meaning, declared.symbols.Found.Found}
use Rattle.inf_output.specs.Output.{Out, declared, passed_table, with_low_text, with_scale}
use Rattle.inf_report.specs.declared.messages.FixedLimit.{FixedLimit}
use Rattle.inf_unit.specs.{Directives.Characters as InCharacters, Messages.Reported, Messages.warnings_chosen, declared.roles.Ending.Ending}
use Rattle.inf_unit.specs.Units.{bytes_at, first_place, name_order, quoted_in}
use Rattle.inf_constructs.specs.Roots.{tree_in}
use Rattle.inf_operands.specs.Texts.{text_at, text_packed}
use Rattle.inf_compilation.specs.{Context.Context, Findings.found_alone, Findings.nothing_found}
use Rattle.inf_compilation.specs.Actions.{Compilation, finding_at, operands_of, settled_of, trees_at}
use Rattle.inf_named_values.specs.declared.declarations.Declared.{Declared}
use Rattle.inf_named_values.specs.Declarations.{alias_finding, alias_meaning, alias_told, aliased, attribute_found, attribute_meaning}
use Rattle.inf_named_values.specs.Declarations.{declared_ended, declared_findings, is_additive, is_alias, last_meaning, name_declared}
use Rattle.inf_named_values.specs.Declarations.{name_known, nothing_of, plainly_known, property_found, property_meaning, valued}
use Rattle.inf_named_values.specs.Values.{value_in, value_of, value_or, variables_from}
use Rattle.inf_directives.specs.Abbreviations.{abbreviate_header, abbreviation, abbreviation_added, abbreviation_error}
use Rattle.inf_directives.specs.Abbreviations.{abbreviation_findings, abbreviation_with, low_named_by, low_string, low_string_added}
use Rattle.inf_directives.specs.Abbreviations.{low_unless, or_error, text_declared}
use Rattle.inf_declarations.specs.Arrays.{added, adding, array_named, array_opened, array_opened_by, bare_text, codes_of, entry_added}
use Rattle.inf_declarations.specs.Arrays.{entry_added_by, entry_ended, entry_finding, entry_with, is_alone, items_finding, kind_in, listed}
use Rattle.inf_declarations.specs.Arrays.{one_more, own_finding, story_added, text_added, text_finding, value_added, with_arrays}
use Rattle.inf_declarations.specs.Attributes.{attribute, attribute_added, attribute_number, attribute_with, has_most_attributes}
use Rattle.inf_declarations.specs.Attributes.{new_attribute, new_attribute_by}
use Rattle.inf_declarations.specs.Globals.{global_added, global_variable, global_with, has_most_globals, new_global, with_variable}
use Rattle.inf_directives.specs.Headers.{known_number, release, release_finding, release_told, serial, serial_by, serial_in}
use Rattle.inf_declarations.specs.Properties.{has_most_properties, new_property, new_property_by, property, property_added, property_named}
use Rattle.inf_declarations.specs.Properties.{property_names, property_number, property_order, property_with}
use Rattle.inf_directives.specs.Switches.{has_code, letters_behind, misplaced, switched, switches, switches_by}
use Rattle.inf_code_walk.specs.Made.{TreeMeets, TreesMeet}
use Rattle.inf_step_walk.specs.Standing.{ArraysStand, Before, MeaningStands, TargetStands, ValueStands}
use Rattle.inf_step_walk.specs.Walking.{Abbreviates, After, Asks, Ends, Follows, Grown, Lies, LowTexts, Next, Passes, Premises, Puts, Rests}
use Rattle.inf_step_walk.specs.Walking.{Scales, Stays, Stood, Tables, Walks, Warns, with_report}
use Rattle.inf_step_walk.proofs.{Operands.added_grows, Operands.declares, Operands.other, Pieces.before, Premises.all_join}
use Rattle.inf_step_walk.proofs.{Premises.roots_stand as roots_meet, Premises.trees_in}
use Rattle.inf_step_walk.proofs.Lists.{AddingStands, entries_hold, opened_holds, property_holds, world_grows}
use Rattle.inf_step_walk.proofs.Units.{inner_if, like, passed_steps, puts, rests, steps_if, unit_ends, used_grows, used_stood}

constant_stands : {L : Target → Type 0} (u : Out) (t : Tree) → ((x : Target) → L x → TargetStands u x) → TreeMeets L t
    → ValueStands u (value_or (constant_of t))
constant_stands u (Leaf (Operand.Later t)) wide h = wide t h
constant_stands u t wide h = tt

value_stands : {L : Target → Type 0} (u : Out) (trees : List Tree) → ((x : Target) → L x → TargetStands u x) → TreesMeet L trees
    → ValueStands u (value_in trees)
value_stands u [] wide h = tt
value_stands u (t ∷ trees) wide h = constant_stands u t wide h.0

-- the value of a unit's expression, behind the use of its names
pub value_there : (limits : Limits) (context : Context) (w : Compilation) (u : Out) → Before u (settled_of limits context w).out
    → ValueStands u (value_of limits context w)
value_there limits context w u e =
    let s = settled_of limits context w in
    let trees = trees_at 0 Wanted.Constant s.operands w in
    value_stands {L = Stood s.out} u (map tree_in trees) (λ x h. h u e)
    (trees_in (Stood s.out) trees (roots_meet (Stood s.out) Wanted.Constant 0 s.operands w.unit.gathering.symbols
    (used_stood limits context w)))

nothing_stands : (u : Out) (kind : FixedLimit) → MeaningStands u (nothing_of kind)
nothing_stands u FixedLimit.Attributes = tt
nothing_stands u FixedLimit.Globals = tt
nothing_stands u kind = tt

abbrev SomeMeaning : Out → Option Meaning → Type 0
SomeMeaning u None = Unit {0}
SomeMeaning u (Some m) = MeaningStands u m

attribute_stands : (u : Out) (m : Meaning) → SomeMeaning u (attribute_meaning m)
attribute_stands u (Meaning.Attribute number) = tt
attribute_stands u m = tt

property_stands : (u : Out) (m : Meaning) → SomeMeaning u (property_meaning m)
property_stands u (Meaning.Property number is_additive) = tt
property_stands u m = tt

attribute_found_stands : (u : Out) (f : Found Place) → SomeMeaning u (attribute_found f)
attribute_found_stands u (Found.Declared m first) = attribute_stands u m
attribute_found_stands u f = tt

property_found_stands : (u : Out) (f : Found Place) → SomeMeaning u (property_found f)
property_found_stands u (Found.System m) = property_stands u m
property_found_stands u (Found.Declared m first) = property_stands u m
property_found_stands u Found.Used = tt
property_found_stands u Found.Unknown = tt

alias_stands : (u : Out) (kind : FixedLimit) (f : Found Place) → SomeMeaning u (alias_meaning kind f)
alias_stands u FixedLimit.Attributes f = attribute_found_stands u f
alias_stands u kind f = property_found_stands u f

aliased_stands : (u : Out) (kind : FixedLimit) (m : Option Meaning) (told : Option Finding) → SomeMeaning u m
    → MeaningStands u (aliased kind m told)
aliased_stands u kind (Some m) None h = h
aliased_stands u kind (Some m) (Some f) h = nothing_stands u kind
aliased_stands u kind None None h = nothing_stands u kind
aliased_stands u kind None (Some f) h = nothing_stands u kind

-- tables with other arrays
arrays_grow : {limits : Limits} {Q : Premises} {o : Out} (arrays : AllArrays)
    → ((u : Out) → Before u o → ArraysStand u o.tables.arrays → ArraysStand u arrays) → Grown limits Q o (with_arrays arrays o)
arrays_grow {limits} {Q} {o} arrays f = Tables {p = with_arrays arrays o} Stays refl (λ u b e h. (
  record {
    of_arrays = f u b h.0.of_arrays;
    of_globals = h.0.of_globals;
    of_verbs = h.0.of_verbs;
    of_actions = h.0.of_actions;
    of_parsing = h.0.of_parsing;
  },
  h.1,
))

module _ {limits : Limits} {Q : Premises} where
  -- Attributes

  new_attribute_grows : (o : Out) → Grown limits Q o (new_attribute o)
  new_attribute_grows o = go (attribute_fault o.tables.world)
    where
      go : (fault : Option WorldFault) → Grown limits Q o (new_attribute_by fault o)
      go None = other refl (λ u h. h)
      go (Some fault) = Stays

  attribute_grows : (told : Option Finding) (name : Name) (o : Out) → Grown limits Q o (attribute_added limits told name o)
  attribute_grows (Some f) name o = declares name.bytes name.place (Meaning.Attribute 0) (λ u. tt)
  attribute_grows None name o =
      let v = name_declared limits name (Meaning.Attribute (attribute_number o)) o in
      Follows {p = v} (declares name.bytes name.place (Meaning.Attribute (attribute_number o)) (λ u. tt)) (new_attribute_grows v)

  -- Lemmas about properties

  new_property_grows : (is_additive : Bool) (v : Value) (o : Out) → ((u : Out) → Before u o → ValueStands u v)
      → Grown limits Q o (new_property is_additive v o)
  new_property_grows is_additive v o stands = go (property_fault o.tables.world)
    where
      go : (fault : Option WorldFault) → Grown limits Q o (new_property_by fault is_additive v o)
      go None = world_grows (with_property is_additive v o.tables.world) (λ u e. property_holds u is_additive v o.tables.world (stands u e))
      go (Some fault) = Stays

  property_grows : (context : Context) (told : Option Finding) (name : Name) (is_additive : Bool) (w : Compilation)
      → Grown limits Q w.output (property_added limits context told name is_additive w)
  property_grows context (Some f) name is_additive w = declares name.bytes name.place (nothing_of FixedLimit.Properties) (λ u. tt)
  property_grows context None name is_additive w =
      let o = (settled_of limits context w).out in
      let m = Meaning.Property (property_number o) is_additive in
      let v = name_declared limits name m o in
      let named : Grown limits Q o v = declares name.bytes name.place m (λ u. tt) in
      Follows (used_grows context w) (Follows named (new_property_grows is_additive (value_of limits context w) v
      (λ u e. value_there limits context w u (before named u e))))

  -- Lemmas about variables

  new_global_grows : (v : Value) (o : Out) → ((u : Out) → Before u o → ValueStands u v) → Grown limits Q o (new_global v o)
  new_global_grows v o stands = go (nat_le 235 (length o.tables.globals))
    where
      go : (b : Bool) → Grown limits Q o (if b then o else with_variable v o)
      go true = Stays
      go false = Tables {p = with_variable v o} Stays refl (λ u b e h. (
        record {
          of_arrays = h.0.of_arrays;
          of_globals = all_join (ValueStands u) o.tables.globals (v ∷ []) h.0.of_globals (stands u b, tt);
          of_verbs = h.0.of_verbs;
          of_actions = h.0.of_actions;
          of_parsing = h.0.of_parsing;
        },
        h.1,
      ))

  global_grows : (context : Context) (told : Option Finding) (name : Name) (w : Compilation)
      → Grown limits Q w.output (global_added limits context told name w)
  global_grows context (Some f) name w = declares name.bytes name.place (nothing_of FixedLimit.Globals) (λ u. tt)
  global_grows context None name w =
      let o = (settled_of limits context w).out in
      let m = Meaning.Variable (16 + length o.tables.globals) in
      let v = name_declared limits name m o in
      let named : Grown limits Q o v = declares name.bytes name.place m (λ u. tt) in
      Follows (used_grows context w) (Follows named (new_global_grows (value_of limits context w) v
      (λ u e. value_there limits context w u (before named u e))))

  -- Lemmas about abbreviations

  text_declared_grows : (error : Option UnitError) (items : List TextItem) (o : Out) → Grown limits Q o (text_declared error items o)
  text_declared_grows None items o = other refl (λ u h. h)
  text_declared_grows (Some error) items o = Stays

  unless_grows : (error : Option UnitError) (items : List TextItem) (o : Out) → Q Ending.Abbreviation
      → Grown limits Q o (low_unless limits error items o)
  unless_grows None items o q = Abbreviates (packed items []) q
  unless_grows (Some error) items o q = Stays

  abbreviation_grows : (error : Option UnitError) (items : List TextItem) (o : Out) → Q Ending.Abbreviation
      → Grown limits Q o (abbreviation_added limits error items o)
  abbreviation_grows error items o q =
      Follows (text_declared_grows error items o) (unless_grows error items (text_declared error items o) q)

  -- Lemmas about low strings

  low_by_grows : (name : Name) (items : Result (List TextItem) UnitError) (o : Out) → Grown limits Q o (low_named_by limits name items o)
  low_by_grows name (Err error) o = declares name.bytes name.place (Meaning.Number 0) (λ u. tt)
  low_by_grows name (Ok items) o =
      let p = text_packed o in
      Follows {p = p} (other refl (λ u h. h)) (Follows {p = with_low_text limits (packed items []) p} (LowTexts (packed items []))
      (declares name.bytes name.place (Meaning.LowString (low_size o.tables.low_strings)) (λ u. tt)))

  low_string_grows : (context : Context) (told : Option Finding) (name : Name) (w : Compilation)
      → Grown limits Q w.output (low_string_added limits context.set told name w.unit.tokens w.output)
  low_string_grows context (Some f) name w = declares name.bytes name.place (Meaning.Number 0) (λ u. tt)
  low_string_grows context None name w = low_by_grows name (or_error (text_of context.set Mode.Text (quoted_in w.unit.tokens))) w.output

  -- Lemmas about arrays

  opened_grows : (k : ArrayKind) (name : Name) (o : Out) → Grown limits Q o (array_opened limits k name o)
  opened_grows k name o = go (open_fault limits k o.tables.arrays)
    where
      go : (fault : Option ArrayFault) → Grown limits Q o (array_opened_by limits fault k name o)
      go None = Follows {p =
          with_arrays (opened k o.tables.arrays) o} (arrays_grow (opened k o.tables.arrays) (λ u b. opened_holds u k o.tables.arrays))
          (declares name.bytes name.place (Meaning.Array (arrays_size (all_of o.tables.arrays))) (λ u. tt))
      go (Some f) = Follows {p = passed_table limits Setting.Arrays o} (Passes Setting.Arrays)
          (declares name.bytes name.place (Meaning.Array 0) (λ u. tt))

  listed_lays : (told : Option Finding) (k : ArrayKind) (name : Name) (w : Compilation) → Lies limits Q w (listed limits told k name) w
  listed_lays None k name w r = Puts (opened_grows k name w.output) (λ u h. h) refl
  listed_lays (Some f) k name w r = Puts Stays (λ u h. h) refl

  story_grows : (fault : Option ArrayFault) (a : Adding) (o : Out) → ((u : Out) → Before u o → AddingStands u a)
      → Grown limits Q o (story_added limits fault a o)
  story_grows None a o stands =
      arrays_grow (with_entries (values_in a) o.tables.arrays) (λ u b. entries_hold u a o.tables.arrays (stands u b))
  story_grows (Some f) a o stands = Passes Setting.Arrays

  -- an entry of the story's array: what it adds stands once the output before it comes before
  more_lays : (a : Adding) (w : Compilation) → ((u : Out) → Before u w.output → AddingStands u a) → Lies limits Q w (added limits a) w
  more_lays a w stands r = inner_if w.listing.is_lost (Puts Stays (λ u h. h) refl)
      (puts _ (story_grows (added_fault limits a w.output.tables.arrays) a w.output stands) r)

  text_lays : (items : Option (List TextItem)) (w : Compilation) → Lies limits Q w (text_added limits items) w
  text_lays None w = rests w
  text_lays (Some items) w = more_lays (Characters (codes_of items)) w (λ u e. tt)

adding_stands : (u : Out) (alone : Bool) (v : Value) → ValueStands u v → AddingStands u (adding alone v)
adding_stands u true (Value.Known count) h = tt
adding_stands u true (Value.Later t) h = h
adding_stands u false (Value.Known count) h = h
adding_stands u false (Value.Later t) h = h

module _ {limits : Limits} {Q : Premises} where
  told_lays : (context : Context) (number : Option ℕ) (finding : Option Finding) (w : Compilation)
      → Lies limits Q w (release_told limits context number finding) w
  told_lays context number (Some f) w r = rests w r
  told_lays context number None w r = Puts (added_grows context.set w.unit.tokens w.unit.gathering.leaves w.output) (λ u h. h) refl

  value_lays : (context : Context) (alone : Bool) (w : Compilation) → Lies limits Q w (value_added limits context alone) w
  value_lays context alone w r =
      let o = (settled_of limits context w).out in
      Next {x = record w { output = o }} (puts o (used_grows context w) r)
      (more_lays (adding alone (value_of limits context w)) (record w { output = o })
      (λ u e. adding_stands u alone (value_of limits context w) (value_there limits context w u e)) r)

  entry_lays : (context : Context) (text : Option ℕ) (alone : Bool) (w : Compilation)
      → Lies limits Q w (entry_added_by limits context text alone) w
  entry_lays context (Some at) alone w = text_lays (text_at context.set w.unit.tokens at) w
  entry_lays context None alone w = value_lays context alone w

-- The values of properties and variables, and the findings about entries, do not depend on what was reported.

property_told : (limits : Limits) (context : Context) (told : Option Finding) (name : Name) (is_additive : Bool) (r : Reported)
    (w : Compilation)
    → property_added limits context told name is_additive (with_report r w) ≡ property_added limits context told name is_additive w
property_told limits context (Some f) name is_additive r w = refl
property_told limits context None name is_additive r w = refl

global_told : (limits : Limits) (context : Context) (told : Option Finding) (name : Name) (r : Reported) (w : Compilation)
    → global_added limits context told name (with_report r w) ≡ global_added limits context told name w
global_told limits context (Some f) name r w = refl
global_told limits context None name r w = refl

items_told : (limits : Limits) (has_variables : Bool) (items : List TextItem) (r : Reported) (w : Compilation)
    → items_finding limits has_variables items (with_report r w) ≡ items_finding limits has_variables items w
items_told limits true items r w = refl
items_told limits false items r w = refl

text_told : (limits : Limits) (text : Option (List TextItem)) (r : Reported) (w : Compilation)
    → text_finding limits text (with_report r w) ≡ text_finding limits text w
text_told limits None r w = refl
text_told limits (Some items) r w = items_told limits (variables_from items false) items r w

own_told : (limits : Limits) (context : Context) (at : Option ℕ) (alone : Bool) (r : Reported) (w : Compilation)
    → own_finding limits context at alone (with_report r w) ≡ own_finding limits context at alone w
own_told limits context (Some at) alone r w = text_told limits (text_at context.set w.unit.tokens at) r w
own_told limits context None alone r w = refl

module _ {limits : Limits} {context : Context} {Q : Premises} where
  -- the end of a declaration, with an output that does not depend on what was reported
  declaration_steps : (first : Place) (has_last : Bool) (name : Name) (kind : FixedLimit) (d : Declared) (w : Compilation)
      (out : Compilation → Out) → ((r : Reported) → out (with_report r w) ≡ out w) → Grown limits Q w.output (out w)
      → Walks limits context Q (λ v. declared_ended limits context first has_last name kind d (record v { output = out v })) w
  declaration_steps first has_last name kind d w out same g r =
      like (ap (λ o. declared_ended limits context first has_last name kind d (record w { output = o; report = r })) (same r))
      (Ends first has_last (declared_findings name kind d) (record w { output = out w }) (puts (out w) g r))

  alias_steps : (first : Place) (name : Name) (at : ℕ) (kind : FixedLimit) (w : Compilation)
      → Walks limits context Q (alias_told limits context first name at kind) w
  alias_steps first name at kind w =
      let m = last_meaning kind w in
      let own = name_known name at false w in
      let finding = least_of_both own.finding (alias_finding w.unit.tokens m) in
      declaration_steps first true name kind (record { found = own.found; finding = finding }) w
      (λ v. declared limits name.bytes name.place (aliased kind m finding) v.output) (λ r. refl)
      (declares name.bytes name.place (aliased kind m finding) (λ u. aliased_stands u kind m finding
      (alias_stands u kind (found_in (bytes_at w.unit.tokens (length w.unit.tokens - 1)) w.output.names))))

  attribute_with_steps : (first : Place) (name : Name) (w : Compilation)
      → Walks limits context Q (attribute_with limits context first name) w
  attribute_with_steps first name w =
      let d = name_known name (name_order w.unit.tokens) (has_most_attributes w.output) w in
      declaration_steps first true name FixedLimit.Attributes d w (λ v. attribute_added limits d.finding name v.output) (λ r. refl)
      (attribute_grows d.finding name w.output)

  pub attribute_steps : (first : Place) (names : List Name) (w : Compilation)
      → Walks limits context Q (attribute limits context first names) w
  attribute_steps first [] w r = passed_steps true w r
  attribute_steps first (name ∷ names) w r =
      steps_if (is_alias names w.unit.gathering.leaves) (alias_steps first name (name_order w.unit.tokens) FixedLimit.Attributes w r)
      (attribute_with_steps first name w r)

  property_with_steps : (first : Place) (is_additive : Bool) (name : Name) (w : Compilation)
      → Walks limits context Q (property_with limits context first is_additive name) w
  property_with_steps first is_additive name w =
      let d = valued name (property_order w.unit.tokens is_additive) (has_most_properties w.output) w in
      declaration_steps first true name FixedLimit.Properties d w (property_added limits context d.finding name is_additive)
      (λ r. property_told limits context d.finding name is_additive r w) (property_grows context d.finding name is_additive w)

  property_named_steps : (first : Place) (is_additive : Bool) (names : List Name) (w : Compilation)
      → Walks limits context Q (property_named limits context first is_additive names) w
  property_named_steps first is_additive [] w r = passed_steps true w r
  property_named_steps first is_additive (name ∷ names) w r = steps_if (is_alias names w.unit.gathering.leaves)
      (alias_steps first name (property_order w.unit.tokens is_additive) FixedLimit.Properties w r)
      (property_with_steps first is_additive name w r)

  pub property_steps : (first : Place) (names : List Name) (w : Compilation)
      → Walks limits context Q (property limits context first names) w
  property_steps first names w = property_named_steps first (is_additive names) (property_names names) w

  global_with_steps : (first : Place) (name : Name) (w : Compilation) → Walks limits context Q (global_with limits context first name) w
  global_with_steps first name w =
      let d = valued name (name_order w.unit.tokens) (has_most_globals w.output) w in
      declaration_steps first true name FixedLimit.Globals d w (global_added limits context d.finding name)
      (λ r. global_told limits context d.finding name r w) (global_grows context d.finding name w)

  pub global_steps : (first : Place) (names : List Name) (w : Compilation)
      → Walks limits context Q (global_variable limits context first names) w
  global_steps first [] w = passed_steps true w
  global_steps first (name ∷ names) w = global_with_steps first name w

  abbreviation_with_steps : (first : Place) (items : Result (List TextItem) UnitError) (w : Compilation) → Q Ending.Abbreviation
      → Walks limits context Q (abbreviation_with limits context first items) w
  abbreviation_with_steps first (Err error) w q r = unit_ends first false (abbreviation_findings (Some error)) w r
  abbreviation_with_steps first (Ok items) w q r =
      let error = abbreviation_error items w.output in
      let o = abbreviation_added limits error items w.output in
      Ends first false (abbreviation_findings error) (record w { output = o }) (puts o (abbreviation_grows error items w.output q) r)

  pub abbreviation_steps : (place : Place) (w : Compilation) → Q Ending.Abbreviation
      → Walks limits context Q (abbreviation limits context place) w
  abbreviation_steps place w q = abbreviation_with_steps (first_place w.unit.tokens place)
      (or_error (text_of context.set Mode.Abbreviation (quoted_in w.unit.tokens))) w q

  pub abbreviate_steps : (first : Place) (w : Compilation) → Walks limits context Q (abbreviate_header limits context first) w
  abbreviate_steps first w = unit_ends first false (found_alone None) w

  pub low_string_steps : (first : Place) (names : List Name) (w : Compilation)
      → Walks limits context Q (low_string limits context first names) w
  low_string_steps first [] w = passed_steps true w
  low_string_steps first (name ∷ names) w =
      let d = plainly_known name (name_order w.unit.tokens) w in
      declaration_steps first true name FixedLimit.Values d w
      (λ v. low_string_added limits context.set d.finding name v.unit.tokens v.output) (λ r. refl)
      (low_string_grows context d.finding name w)

  -- Lemmas about releases, serial numbers and letters

  pub release_steps : (first : Place) (w : Compilation) → Walks limits context Q (release limits context first) w
  release_steps first w r =
      let number = known_number (map tree_in (trees_at 0 Wanted.Constant (operands_of w) w)) in
      let finding = release_finding number (finding_at 0 Wanted.Constant w) in
      Ends first true (found_alone finding) (release_told limits context number finding w) (told_lays context number finding w r)

  serial_by_steps : (first : Place) (digits : Option (List ℕ)) (w : Compilation)
      → Walks limits context Q (serial_by limits context first digits) w
  serial_by_steps first None w r = unit_ends first true (found_alone (Some (out_of_range 0))) w r
  serial_by_steps first (Some digits) w r =
      Ends first true (found_alone None) (record w { told = record w.told { serial = Some digits } }) (Puts Stays (λ u h. h) refl)

  pub serial_steps : (first : Place) (w : Compilation) → Walks limits context Q (serial limits context first) w
  serial_steps first w = serial_by_steps first (serial_in (quoted_in w.unit.tokens)) w

  switches_by_steps : (first : Place) (letters : Option Letters) (w : Compilation) → Q Ending.Directive
      → Walks limits context Q (switches_by limits context first letters) w
  switches_by_steps first None w q r = unit_ends first true (found_alone (Some misplaced)) w r
  switches_by_steps first (Some letters) w q r =
      let told = with_report (warnings_chosen (warns letters) w.report) w in
      let asked = record told { asked = InCharacters (set_of letters) } in
      After {x = told} (Warns (warns letters)) (After {x = asked} (Asks (InCharacters (set_of letters)) q)
      (Ends {w = asked} first true nothing_found (switched letters w)
      (Puts {w = asked} {v = switched letters w}
      (Follows {p = with_scale (scale_of letters) w.output} (Scales (scale_of letters)) (other refl (λ u h. h))) (λ u h. h) refl)))

  pub switches_steps : (first : Place) (names : List Name) (w : Compilation) → Q Ending.Directive
      → Walks limits context Q (switches limits context first names) w
  switches_steps first [] w q r = passed_steps true w r
  switches_steps first (name ∷ names) w q r = steps_if (ignores w.letters) (unit_ends first true nothing_found w r)
      (switches_by_steps first (letters_behind (has_code w.output.code) name.bytes w.letters) w q r)

  -- Lemmas about arrays

  pub array_steps : (first : Place) (names : List Name) (w : Compilation)
      → Walks limits context Q (array_named limits context first names) w
  array_steps first [] w r = passed_steps false w r
  array_steps first (name ∷ names) w r =
      let d = plainly_known name (name_order w.unit.tokens) w in
      let k = kind_in w.unit.tokens in
      Ends first false (declared_findings name FixedLimit.Globals d) (listed limits d.finding k name w) (listed_lays d.finding k name w r)

  entry_with_steps : (first : Place) (alone : Bool) (found : Option Finding) (w : Compilation)
      → Walks limits context Q (entry_with limits context first alone found) w
  entry_with_steps first alone None w r =
      Ends first false nothing_found (entry_added limits context alone w) (entry_lays context (bare_text alone w) alone w r)
  entry_with_steps first alone (Some f) w r = unit_ends first false (found_alone (Some f)) w r

  pub entry_steps : (place : Place) (is_last : Bool) (w : Compilation) → Walks limits context Q (entry_ended limits context place is_last) w
  entry_steps place is_last w r =
      let alone = is_alone is_last w in
      let first = first_place w.unit.tokens place in
      After {x = one_more w} {s = r} (Rests (λ u h. h) refl)
      (like (ap (λ f. entry_with limits context first alone (least_of_both (finding_at 0 Wanted.Constant w) f) (with_report r (one_more w)))
      (own_told limits context (bare_text alone w) alone r w))
      (entry_with_steps first alone (entry_finding limits context alone w) (one_more w) r))

-- Behind each directive the names and the counts are those of the description, where they were before it.
use Rattle.std.proofs.Common.{◌≡◌, ◌<◌, ℕ, ◌+◌, ◌%◌, List, [], ◌∷◌, ◌++◌, Option, Some, None, Bool, true, false, cond, refl, sym, ap, subst}
use Rattle.std.proofs.Common.{◌∙◌, arith, codes, is_some, length, map, nat_le, nat_lt}
use Rattle.std.proofs.lemmas.{Bool.Decides.nat_tests, List.length_push}
use Rattle.std.specs.Str.{str_eq_ignore_ascii_case}
use Rattle.inf_settings.specs.Bounds.{Limits}
use Rattle.inf_assembler.specs.declared.routines.RoutineKind.{RoutineKind}
use Rattle.inf_scanner.specs.declared.tokens.Place.{Place}
use Rattle.inf_expressions.specs.{Findings.is_before, Findings.least_of_both, declared.findings.Finding.Finding}
use Rattle.inf_expressions.specs.declared.units.Wanted.{Wanted}
use Rattle.inf_names.specs.{Spellings.Name, declared.meanings.Meaning.Meaning}
use Rattle.inf_names.specs.{declared.symbols.Found.Found, Symbols.found_in}
use Rattle.inf_code.specs.Code.{place_behind}
use Rattle.inf_output.specs.{Actions.faked_by, Actions.key_of, Actions.next_fake, Actions.one_fake, Output.Out}
use Rattle.inf_report.specs.declared.messages.FixedLimit.{FixedLimit}
use Rattle.inf_unit.specs.{Units.name_order}
use Rattle.inf_tables.specs.{World.with_attribute, World.with_property, declared.faults.Limit.Limit as WorldLimit}
use Rattle.inf_tables.specs.declared.faults.WorldFault.{WorldFault}
use Rattle.inf_constructs.specs.Roots.{tree_in}
use Rattle.inf_compilation.specs.{Context.Context, Findings.Again, Findings.again_finding, Findings.many_finding, Findings.nothing_found}
use Rattle.inf_compilation.specs.Actions.{Compilation, constant, constant_added, constant_with, finding_at, is_declared}
use Rattle.inf_compilation.specs.Actions.{new_stub, operands_of, routine_declared, settled_of, stub, stub_code, stub_locals, trees_at, unit_ended}
use Rattle.inf_named_values.specs.Declarations.{alias_finding, alias_told, aliased, attribute_found, attribute_meaning}
use Rattle.inf_named_values.specs.Declarations.{declared_finding, is_additive, last_meaning, late_finding, name_declared, name_known}
use Rattle.inf_named_values.specs.Declarations.{property_found, property_meaning, valued, with_world}
use Rattle.inf_named_values.specs.Values.{value_of}
use Rattle.inf_declarations.specs.Attributes.{attribute, attribute_added, attribute_number, attribute_with, has_most_attributes}
use Rattle.inf_declarations.specs.Attributes.{new_attribute_by}
use Rattle.inf_declarations.specs.{Globals.global_added, Globals.global_variable, Globals.has_most_globals}
use Rattle.inf_directives.specs.Defaults.{default}
use Rattle.inf_declarations.specs.Globals.{with_variable}
use Rattle.inf_declarations.specs.Properties.{has_most_properties, new_property_by, property_added, property_named}
use Rattle.inf_declarations.specs.Properties.{property_names, property_number, property_order, property_with}
use Rattle.inf_verb_lines.specs.Verbs.{fake_action}
use Rattle.inf_declaration_laws.specs.Declarations.{Attribute, AttributeAlias, Constant, Default, Directive, FakeAction, Global, Names, Other}
use Rattle.inf_declaration_laws.specs.Declarations.{Property, PropertyAlias, Stub, Text, attribute_of, count, fake_of, is_attribute, is_fake}
use Rattle.inf_declaration_laws.specs.Declarations.{is_global, is_property, like, named, names_behind, property_of, unless_known, variable_of}
use Rattle.inf_declaration_laws.specs.Declarations.{with_name}
use Rattle.inf_declaration_laws.specs.Laws.{Comes, CountsAgree, Declares, Follow, IsAlias, IsAttribute, IsConstant, IsFake, IsFree}
use Rattle.inf_declaration_laws.specs.Laws.{IsGlobal, IsProperty, IsStub, Keeps, NamesAgree, Read, SaysBy, WhereNew, WithFirst, behind}
use Rattle.inf_declaration_laws.specs.Laws.{counted, counts_of, directives, ended_as, last_bytes, meaning_told, names_of}
use Rattle.inf_declaration_laws.proofs.Names.{is_declared as declared_told}
use Rattle.inf_declaration_laws.proofs.Keeping.{leaves_keep, routine_laid, same, settled_keeps}

pub record Agrees (names : Names) (before : List Directive) (o : Out) : Type 0 where
  pub names_are : (t : Text) → names_of o t ≡ names t
  pub counts_are : counts_of o ≡ counted before

still : {names : Names} {before : List Directive} {o p : Out} → Agrees names before o → Keeps o p → Agrees names before p
still a k = record { names_are = λ t. k.names t ∙ a.names_are t; counts_are = k.counts ∙ a.counts_are }

same_name : (t a b : Text) (m k : Meaning) (f g : Names) → a ≡ b → m ≡ k → f t ≡ g t → with_name a m f t ≡ with_name b k g t
same_name t a b m k f g e h i = ap (λ n. with_name n m f t) e ∙ ap (λ x. with_name b x f t) h
    ∙ ap (λ x. cond (str_eq_ignore_ascii_case t b) (Some k) x) i

-- a name is declared with the meaning of the description, and nothing of a kind that counts is added
declares : {names : Names} {before : List Directive} {o p : Out} (name a : Text) (m k : Meaning) → Agrees names before o
    → Declares a m o p → a ≡ name → m ≡ k → Agrees (with_name name k names) before p
declares {names = names} {o = o} name a m k agrees d e h = record {
  names_are = λ t. d.names t ∙ same_name t a name m k (names_of o) names e h (agrees.names_are t);
  counts_are = d.counts ∙ agrees.counts_are;
}

-- what is declared, and then what keeps that
declares_then : {name : Text} {m : Meaning} {o p q : Out} → Declares name m o p → Keeps p q → Declares name m o q
declares_then d k = record { names = λ t. k.names t ∙ d.names t; counts = k.counts ∙ d.counts }

-- Lemmas about findings

least_none : (a b : Option Finding) → least_of_both a b ≡ None → (a ≡ None) × (b ≡ None)
least_none None None e = (refl, refl)
least_none None (Some y) e = absurd (cc e)
least_none (Some x) None e = absurd (cc e)
least_none (Some x) (Some y) e = by (is_before y x) e
  where
    by : (b : Bool) → cond b (Some y) (Some x) ≡ None → ◌≡◌ {A = Option Finding} (Some x) None × (◌≡◌ {A = Option Finding} (Some y) None)
    by true e = absurd (cc e)
    by false e = absurd (cc e)

none_many : (b : Bool) → many_finding b ≡ None → b ≡ false
none_many true e = absurd (cc e)
none_many false e = refl

few_of : (order : ℕ) (again : Option Again) (late many : Bool) → declared_finding order again late many ≡ None → many ≡ false
few_of order again late many e = none_many many (least_none (late_finding order late) (many_finding many)
    (least_none (again_finding order again) (least_of_both (late_finding order late) (many_finding many)) e).1).1

few_known : (n : Name) (order : ℕ) (many : Bool) (w : Compilation) → (name_known n order many w).finding ≡ None → many ≡ false
few_known n order many w e = few_of order _ _ many e

few_valued : (n : Name) (order : ℕ) (many : Bool) (w : Compilation) → (valued n order many w).finding ≡ None → many ≡ false
few_valued n order many w e = few_known n order many w (least_none (name_known n order many w).finding (finding_at 0 Wanted.Constant w) e).0

below : (most n : ℕ) → nat_le most n ≡ false → n < most
below most n few = grind (arith, nat_tests)

few_attributes : (n : ℕ) → nat_le 48 n ≡ false → n % 256 ≡ n
few_attributes n few = omega (arith, below 48 n few)

few_properties : (n : ℕ) → nat_le 60 n ≡ false → n % 252 ≡ n
few_properties n few = omega (arith, below 60 n few)

module _ (limits : Limits) (context : Context) (first : Place) where
  -- Lemmas about attributes

  attribute_step : (n : Name) (others : List Name) (w : Compilation) (name : Text) (names : Names) (before : List Directive)
      → Agrees names before w.output → IsAttribute limits n others w name
      → Agrees (with_name name (attribute_of before) names) (Attribute name ∷ before) (attribute limits context first (n ∷ others) w).output
  attribute_step n others w name names before a i =
      let few = few_known n (name_order w.unit.tokens) (has_most_attributes w.output) w i.untold in
      let here : w.output.tables.world.attributes ≡ count is_attribute before = ap (λ c. c.attributes) a.counts_are in
      let number : attribute_number w.output ≡ count is_attribute before = few_attributes w.output.tables.world.attributes few ∙ here in
      let p = name_declared limits n (Meaning.Attribute (attribute_number w.output)) w.output in
      let d = declared_told limits n.bytes n.place (Meaning.Attribute (attribute_number w.output)) w.output i.free in
      let b = declares name n.bytes (Meaning.Attribute (attribute_number w.output)) (attribute_of before) a d i.spelled
      (ap Meaning.Attribute number) in
      let ends : (attribute limits context first (n ∷ others) w).output ≡ with_world (with_attribute p.tables.world) p =
      ap (λ b. (cond b (alias_told limits context first n (name_order w.unit.tokens) FixedLimit.Attributes w)
      (attribute_with limits context first n w)).output) i.own
      ∙ ap (λ f. attribute_added limits f n w.output) i.untold
      ∙ ap (λ b. new_attribute_by (cond b (Some (WorldFault.Limit WorldLimit.Attributes)) None) p)
      (ap (λ c. nat_le 48 c.attributes) d.counts ∙ few) in
      let one : count is_attribute before + 1 ≡ count is_attribute (Attribute name ∷ before) = omega arith in
      subst (λ o. Agrees (with_name name (attribute_of before) names) (Attribute name ∷ before) o) (sym ends) (record {
        names_are = b.names_are;
        counts_are =
            ap (λ c. record { attributes = c.attributes + 1; properties = c.properties; globals = c.globals; fakes = c.fakes }) b.counts_are
            ∙ ap (λ k. record {
              attributes = k;
              properties = count is_property before;
              globals = count is_global before;
              fakes = count is_fake before % 65536;
            }) one;
      })

  -- Lemmas about properties and variables, whose values are expressions

  settled_keeps_all : (w : Compilation) → Keeps w.output (settled_of limits context w).out
  settled_keeps_all w =
      settled_keeps limits context.set w.locals w.unit.tokens w.unit.gathering.leaves (record { out = w.output; operands = [] })

  property_step : (additive : Bool) (n : Name) (others : List Name) (w : Compilation) (name : Text) (names : Names) (before : List Directive)
      → Agrees names before w.output → IsProperty limits context additive n others w name
      → Agrees (with_name name (property_of additive before) names) (Property name additive ∷ before)
      (property_named limits context first additive (n ∷ others) w).output
  property_step additive n others w name names before a i =
      let o = (settled_of limits context w).out in
      let c = still a (settled_keeps_all w) in
      let few = few_valued n (property_order w.unit.tokens additive) (has_most_properties w.output) w i.untold in
      let stays : length o.tables.world.declared ≡ length w.output.tables.world.declared =
      ap (λ c. c.properties) (settled_keeps_all w).counts in
      let here : length o.tables.world.declared ≡ count is_property before = ap (λ c. c.properties) c.counts_are in
      let small_here : length o.tables.world.declared % 252 ≡ length o.tables.world.declared =
      few_properties (length o.tables.world.declared) (ap (nat_le 60) stays ∙ few) in
      let number : property_number o ≡ 4 + count is_property before = ap (λ k. 4 + k) (small_here ∙ here) in
      let m = Meaning.Property (property_number o) additive in
      let p = name_declared limits n m o in
      let d = declared_told limits n.bytes n.place m o i.free in
      let b = declares name n.bytes m (property_of additive before) c d i.spelled (ap (λ k. Meaning.Property k additive) number) in
      let v = value_of limits context w in
      let ends : (property_named limits context first additive (n ∷ others) w).output ≡ with_world (with_property additive v p.tables.world) p =
      ap (λ b. (cond b (alias_told limits context first n (property_order w.unit.tokens additive) FixedLimit.Properties w)
      (property_with limits context first additive n w)).output) i.own
      ∙ ap (λ f. property_added limits context f n additive w) i.untold
      ∙ ap (λ b. new_property_by (cond b (Some (WorldFault.Limit WorldLimit.Properties)) None) additive v p)
      (ap (λ c. nat_le 60 c.properties) d.counts ∙ ap (nat_le 60) stays ∙ few) in
      let one : count is_property before + 1 ≡ count is_property (Property name additive ∷ before) = omega arith in
      subst (λ o. Agrees (with_name name (property_of additive before) names) (Property name additive ∷ before) o) (sym ends) (record {
        names_are = b.names_are;
        counts_are = ap (λ k. record {
          attributes = p.tables.world.attributes;
          properties = k;
          globals = length p.tables.globals;
          fakes = p.tables.actions.fakes;
        }) (length_push p.tables.world.declared _)
            ∙ ap (λ c. record { attributes = c.attributes; properties = c.properties + 1; globals = c.globals; fakes = c.fakes })
            b.counts_are
            ∙ ap (λ k. record {
              attributes = count is_attribute before;
              properties = k;
              globals = count is_global before;
              fakes = count is_fake before % 65536;
            }) one;
      })

  global_step : (n : Name) (others : List Name) (w : Compilation) (name : Text) (names : Names) (before : List Directive)
      → Agrees names before w.output → IsGlobal limits context n w name
      → Agrees (with_name name (variable_of before) names) (Global name ∷ before)
      (global_variable limits context first (n ∷ others) w).output
  global_step n others w name names before a i =
      let o = (settled_of limits context w).out in
      let c = still a (settled_keeps_all w) in
      let few = few_valued n (name_order w.unit.tokens) (has_most_globals w.output) w i.untold in
      let stays : length o.tables.globals ≡ length w.output.tables.globals = ap (λ c. c.globals) (settled_keeps_all w).counts in
      let here : 16 + length o.tables.globals ≡ 16 + count is_global before = ap (λ c. 16 + c.globals) c.counts_are in
      let m = Meaning.Variable (16 + length o.tables.globals) in
      let p = name_declared limits n m o in
      let d = declared_told limits n.bytes n.place m o i.free in
      let b = declares name n.bytes m (variable_of before) c d i.spelled (ap Meaning.Variable here) in
      let v = value_of limits context w in
      let ends : (global_variable limits context first (n ∷ others) w).output ≡ with_variable v p =
      ap (λ f. global_added limits context f n w) i.untold
      ∙ ap (λ b. cond b p (with_variable v p)) (ap (λ c. nat_le 235 c.globals) d.counts ∙ ap (nat_le 235) stays ∙ few) in
      let one : count is_global before + 1 ≡ count is_global (Global name ∷ before) = omega arith in
      subst (λ o. Agrees (with_name name (variable_of before) names) (Global name ∷ before) o) (sym ends) (record {
        names_are = b.names_are;
        counts_are = ap (λ k. record {
          attributes = p.tables.world.attributes;
          properties = length p.tables.world.declared;
          globals = k;
          fakes = p.tables.actions.fakes;
        }) (length_push p.tables.globals v)
            ∙ ap (λ c. record { attributes = c.attributes; properties = c.properties; globals = c.globals + 1; fakes = c.fakes })
            b.counts_are
            ∙ ap (λ k. record {
              attributes = count is_attribute before;
              properties = count is_property before;
              globals = k;
              fakes = count is_fake before % 65536;
            }) one;
      })

  -- Lemmas about fake actions

  fake_step : (n : Name) (others : List Name) (w : Compilation) (name : Text) (names : Names) (before : List Directive)
      → Agrees names before w.output → IsFake limits n w name
      → Agrees (with_name (codes "##" ++ name) (fake_of before) names) (FakeAction name ∷ before)
      (fake_action limits context first (n ∷ others) w).output
  fake_step n others w name names before a i =
      let o = w.output in
      let here : o.tables.actions.fakes ≡ count is_fake before % 65536 = ap (λ c. c.fakes) a.counts_are in
      let number : next_fake o ≡ (4096 + count is_fake before) % 65536 = ap (λ k. (4096 + k) % 65536) here ∙ omega arith in
      let m = Meaning.FakeAction (next_fake o) in
      let d = declared_told limits (key_of n.bytes) n.place m (one_fake o) i.free in
      let key : key_of n.bytes ≡ codes "##" ++ name = ap key_of i.spelled in
      let ends : (fake_action limits context first (n ∷ others) w).output ≡ (faked_by limits None (key_of n.bytes) n.place o).0 =
      ap (λ f. (faked_by limits f (key_of n.bytes) n.place o).0) i.untold in
      let one : (count is_fake before % 65536 + 1) % 65536 ≡ count is_fake (FakeAction name ∷ before) % 65536 = omega arith in
      subst (λ o. Agrees (with_name (codes "##" ++ name) (fake_of before) names) (FakeAction name ∷ before) o) (sym ends) (record {
        names_are = λ t. d.names t ∙ same_name t (key_of n.bytes) (codes "##" ++ name) m (fake_of before) (names_of o) names key
            (ap Meaning.FakeAction number) (a.names_are t);
        counts_are = d.counts ∙ ap (λ c. record {
          attributes = c.attributes;
          properties = c.properties;
          globals = c.globals;
          fakes = (c.fakes + 1) % 65536;
        }) a.counts_are ∙ ap (λ k. record {
          attributes = count is_attribute before;
          properties = count is_property before;
          globals = count is_global before;
          fakes = k;
        }) one;
      })

  -- Lemmas about other names

  attribute_same : (m x : Meaning) → attribute_meaning m ≡ Some x → m ≡ x
  attribute_same (Meaning.Attribute number) x e = cc e
  attribute_same other x e = absurd (cc e)

  property_same : (m x : Meaning) → property_meaning m ≡ Some x → m ≡ x
  property_same (Meaning.Property number is_additive) x e = cc e
  property_same other x e = absurd (cc e)

  attribute_told : (f : Found Place) (x : Meaning) → attribute_found f ≡ Some x → meaning_told f ≡ Some x
  attribute_told (Found.Declared m place) x e = ap Some (attribute_same m x e)
  attribute_told other x e = absurd (cc e)

  property_told : (f : Found Place) (x : Meaning) → property_found f ≡ Some x → meaning_told f ≡ Some x
  property_told (Found.System m) x e = ap Some (property_same m x e)
  property_told (Found.Declared m place) x e = ap Some (property_same m x e)
  property_told Found.Used x e = absurd (cc e)
  property_told Found.Unknown x e = absurd (cc e)

  -- the name that stands last has the meaning of an alias, where nothing is found
  abbrev output_of_alias : Name → FixedLimit → ℕ → Compilation → Out
  output_of_alias n kind at w = (alias_told limits context first n at kind w).output

  alias_step_by : (kind : FixedLimit) (at : ℕ) (n : Name) (others : List Name) (w : Compilation) (name old : Text) (names : Names)
      (before : List Directive) (m : Option Meaning)
      → Agrees names before w.output → IsAlias limits kind at n others w name old → last_meaning kind w ≡ m
      → ((x : Meaning) → m ≡ Some x → meaning_told (found_in (last_bytes w) w.output.names) ≡ Some x)
      → Agrees (like name (names old) names) before (output_of_alias n kind at w)
  alias_step_by kind at n others w name old names before None a i is told =
      let wrong : least_of_both (name_known n at false w).finding (alias_finding w.unit.tokens None) ≡ None =
      ap (λ m. least_of_both (name_known n at false w).finding (alias_finding w.unit.tokens m)) (sym is) ∙ i.untold in
      absurd (cc (least_none (name_known n at false w).finding (alias_finding w.unit.tokens None) wrong).1)
  alias_step_by kind at n others w name old names before (Some x) a i is told =
      let d = declared_told limits n.bytes n.place x w.output i.free in
      let ends : output_of_alias n kind at w ≡ name_declared limits n x w.output =
      ap (λ f. name_declared limits n (aliased kind (last_meaning kind w) f) w.output) i.untold
      ∙ ap (λ m. name_declared limits n (aliased kind m None) w.output) is in
      let meant : names old ≡ Some x =
      sym (a.names_are old) ∙ ap (λ t. meaning_told (found_in t w.output.names)) (sym i.last) ∙ told x refl in
      subst (λ o. Agrees (like name (names old) names) before o) (sym ends)
      (subst (λ y. Agrees (like name y names) before (name_declared limits n x w.output)) (sym meant)
      (declares name n.bytes x x a d i.spelled refl))

  -- an alias adds nothing that counts
  recount : {names : Names} {o : Out} (before : List Directive) (d : Directive) → counted (d ∷ before) ≡ counted before
      → Agrees names before o → Agrees names (d ∷ before) o
  recount before d e a = record { names_are = a.names_are; counts_are = a.counts_are ∙ sym e }

  attribute_alias_step : (n : Name) (others : List Name) (w : Compilation) (name old : Text) (names : Names) (before : List Directive)
      → Agrees names before w.output → IsAlias limits FixedLimit.Attributes (name_order w.unit.tokens) n others w name old
      → Agrees (like name (names old) names) (AttributeAlias name old ∷ before) (attribute limits context first (n ∷ others) w).output
  attribute_alias_step n others w name old names before a i =
      let at = name_order w.unit.tokens in
      let ends : (attribute limits context first (n ∷ others) w).output ≡ output_of_alias n FixedLimit.Attributes at w =
      ap (λ b. (cond b (alias_told limits context first n at FixedLimit.Attributes w) (attribute_with limits context first n w)).output)
      i.alias in
      subst (λ o. Agrees (like name (names old) names) (AttributeAlias name old ∷ before) o) (sym ends)
      (recount before (AttributeAlias name old) refl
      (alias_step_by FixedLimit.Attributes at n others w name old names before (last_meaning FixedLimit.Attributes w) a i refl
      (attribute_told (found_in (last_bytes w) w.output.names))))

  property_alias_step : (additive : Bool) (n : Name) (others : List Name) (w : Compilation) (name old : Text) (names : Names)
      (before : List Directive) → Agrees names before w.output
      → IsAlias limits FixedLimit.Properties (property_order w.unit.tokens additive) n others w name old
      → Agrees (like name (names old) names) (PropertyAlias name old ∷ before)
      (property_named limits context first additive (n ∷ others) w).output
  property_alias_step additive n others w name old names before a i =
      let at = property_order w.unit.tokens additive in
      let ends : (property_named limits context first additive (n ∷ others) w).output ≡ output_of_alias n FixedLimit.Properties at w =
      ap (λ b. (cond b (alias_told limits context first n at FixedLimit.Properties w)
      (property_with limits context first additive n w)).output) i.alias in
      subst (λ o. Agrees (like name (names old) names) (PropertyAlias name old ∷ before) o) (sym ends)
      (recount before (PropertyAlias name old) refl
      (alias_step_by FixedLimit.Properties at n others w name old names before (last_meaning FixedLimit.Properties w) a i refl
      (property_told (found_in (last_bytes w) w.output.names))))

  -- Lemmas about constants

  added_keeps_by : (f : Option Finding) (w : Compilation) → Keeps w.output (constant_added limits context f w).output
  added_keeps_by None w = leaves_keep limits context.set w.locals w.unit.tokens w.unit.gathering.leaves w.output
  added_keeps_by (Some f) w = same w.output

  constant_declares : (n : Name) (w : Compilation) (m : Meaning) → IsFree limits n.bytes w.output
      → Declares n.bytes m w.output (constant_with limits context first n (Some m) None w).output
  constant_declares n w m free = declares_then (declared_told limits n.bytes n.place m w.output free)
      (added_keeps_by _ (record w { output = name_declared limits n m w.output }))

  constant_is : (n : Name) (others : List Name) (w : Compilation) (name : Text) (m : Meaning) → IsConstant limits n w name m
      → Declares n.bytes m w.output (constant limits context first (n ∷ others) w).output
  constant_is n others w name m i =
      let trees = map tree_in (trees_at 0 Wanted.Constant (operands_of w) w) in
      let ends : (constant limits context first (n ∷ others) w).output ≡ (constant_with limits context first n (Some m) None w).output =
      ap (λ k. (constant_with limits context first n k (finding_at 0 Wanted.Constant w) w).output) i.means
      ∙ ap (λ f. (constant_with limits context first n (Some m) f w).output) i.untold in
      subst (λ o. Declares n.bytes m w.output o) (sym ends) (constant_declares n w m i.free)

  constant_step : (n : Name) (others : List Name) (w : Compilation) (name : Text) (m : Meaning) (names : Names) (before : List Directive)
      → Agrees names before w.output → IsConstant limits n w name m
      → Agrees (with_name name m names) (Constant name m ∷ before) (constant limits context first (n ∷ others) w).output
  constant_step n others w name m names before a i =
      recount before (Constant name m) refl (declares name n.bytes m m a (constant_is n others w name m i) i.spelled refl)

  -- Lemmas about `Default` and `Stub`

  known_by : (f : Found Place) → is_some (meaning_told f) ≡ is_declared f
  known_by (Found.System m) = refl
  known_by other = refl

  -- whether the name has a meaning, by the description
  known_is : (n : Name) (w : Compilation) (name : Text) (names : Names) (before : List Directive) → Agrees names before w.output
      → n.bytes ≡ name → is_some (names name) ≡ is_declared (found_in n.bytes w.output.names)
  known_is n w name names before a e = ap is_some (sym (a.names_are name)) ∙ known_by (found_in name w.output.names)
      ∙ ap (λ t. is_declared (found_in t w.output.names)) (sym e)

  unless_step : (n : Name) (w : Compilation) (name : Text) (m : Meaning) (names : Names) (before : List Directive) (p q : Out) (b : Bool)
      → Agrees names before w.output → n.bytes ≡ name → is_declared (found_in n.bytes w.output.names) ≡ b → p ≡ w.output
      → (b ≡ false → Declares n.bytes m w.output q) → Agrees (unless_known name m names) before (cond b p q)
  unless_step n w name m names before p q true a e is there new =
      subst (λ c. Agrees (cond c names (with_name name m names)) before p) (sym (known_is n w name names before a e ∙ is))
      (subst (λ o. Agrees names before o) (sym there) a)
  unless_step n w name m names before p q false a e is there new =
      subst (λ c. Agrees (cond c names (with_name name m names)) before q) (sym (known_is n w name names before a e ∙ is))
      (declares name n.bytes m m a (new refl) e refl)

  output_by : (b : Bool) (u v : Compilation) → (cond b u v).output ≡ cond b u.output v.output
  output_by true u v = refl
  output_by false u v = refl

  default_step : (n : Name) (others : List Name) (w : Compilation) (name : Text) (m : Meaning) (names : Names) (before : List Directive)
      → Agrees names before w.output → (n.bytes ≡ name) × WhereNew n w (IsConstant limits n w name m)
      → Agrees (unless_known name m names) (Default name m ∷ before) (default limits context first (n ∷ others) w).output
  default_step n others w name m names before a i =
      let b = is_declared (found_in n.bytes w.output.names) in
      let u = unit_ended limits context first true nothing_found w in
      recount before (Default name m) refl
      (subst (λ o. Agrees (unless_known name m names) before o) (sym (output_by b u (constant limits context first (n ∷ others) w)))
      (unless_step n w name m names before u.output (constant limits context first (n ∷ others) w).output b a i.0 refl refl
      (λ h. constant_is n others w name m (i.1 h))))

  stub_keeps : (b : Bool) (first_locals : ℕ) (o : Out) → Keeps o (cond b o (stub_code limits first_locals o))
  stub_keeps true locals o = same o
  stub_keeps false locals o = routine_laid limits locals RoutineKind.Embedded o

  stub_is : (n : Name) (others : List Name) (w : Compilation) (m : Meaning) → IsStub limits n w m
      → Declares n.bytes m w.output (new_stub limits context first (n ∷ others) w).output
  stub_is n others w m i =
      let v = routine_declared limits n w in
      let locals = stub_locals v.unit.tokens in
      let ends : (new_stub limits context first (n ∷ others) w).output
      ≡ cond (nat_lt 4 locals) v.output (stub_code limits locals v.output) =
      output_by (nat_lt 4 locals) _ _ in
      subst (λ o. Declares n.bytes m w.output o) (sym ends)
      (declares_then (subst (λ k. Declares n.bytes k w.output v.output) i.means
      (declared_told limits n.bytes n.place (Meaning.Routine (place_behind w.output.code.finished)) w.output i.free))
      (stub_keeps (nat_lt 4 locals) locals v.output))

  stub_step : (n : Name) (others : List Name) (w : Compilation) (name : Text) (m : Meaning) (names : Names) (before : List Directive)
      → Agrees names before w.output → (n.bytes ≡ name) × WhereNew n w (IsStub limits n w m)
      → Agrees (unless_known name m names) (Stub name m ∷ before) (stub limits context first (n ∷ others) w).output
  stub_step n others w name m names before a i =
      let b = is_declared (found_in n.bytes w.output.names) in
      let u = unit_ended limits context first true nothing_found w in
      recount before (Stub name m) refl
      (subst (λ o. Agrees (unless_known name m names) before o) (sym (output_by b u (new_stub limits context first (n ∷ others) w)))
      (unless_step n w name m names before u.output (new_stub limits context first (n ∷ others) w).output b a i.0 refl refl
      (λ h. stub_is n others w m (i.1 h))))

  -- Lemmas about all kinds of directives

  -- the first name is there
  with_first : (P : List Name → Type 0) (says : Name → List Name → Type 0) (names : List Name) → WithFirst says names
      → ((n : Name) (others : List Name) → says n others → P (n ∷ others)) → P names
  with_first P says [] h f = absurd h
  with_first P says (n ∷ others) h f = f n others h

  step : (d : Directive) (spelled : List Name) (w : Compilation) (names : Names) (before : List Directive) (o : Out)
      → Agrees names before o → Comes d o w.output → SaysBy limits context d spelled w
      → Agrees (named d before names) (d ∷ before) (ended_as limits context d first spelled w).output
  step (Attribute name) spelled w names before o a c s =
      with_first (λ l. Agrees (with_name name (attribute_of before) names) (Attribute name ∷ before)
      (attribute limits context first l w).output) _ spelled s (λ n others i. attribute_step n others w name names before (still a c) i)
  step (Property name additive) spelled w names before o a c s =
      subst (λ b. Agrees (with_name name (property_of additive before) names) (Property name additive ∷ before)
      (property_named limits context first b (property_names spelled) w).output) (sym s.0)
      (with_first (λ l. Agrees (with_name name (property_of additive before) names) (Property name additive ∷ before)
      (property_named limits context first additive l w).output) _ (property_names spelled) s.1
      (λ n others i. property_step additive n others w name names before (still a c) i))
  step (Global name) spelled w names before o a c s =
      with_first (λ l. Agrees (with_name name (variable_of before) names) (Global name ∷ before)
      (global_variable limits context first l w).output) _ spelled s (λ n others i. global_step n others w name names before (still a c) i)
  step (FakeAction name) spelled w names before o a c s =
      with_first (λ l. Agrees (with_name (codes "##" ++ name) (fake_of before) names) (FakeAction name ∷ before)
      (fake_action limits context first l w).output) _ spelled s (λ n others i. fake_step n others w name names before (still a c) i)
  step (AttributeAlias name old) spelled w names before o a c s =
      with_first (λ l. Agrees (like name (names old) names) (AttributeAlias name old ∷ before)
      (attribute limits context first l w).output) _ spelled s
      (λ n others i. attribute_alias_step n others w name old names before (still a c) i)
  step (PropertyAlias name old) spelled w names before o a c s =
      with_first (λ l. Agrees (like name (names old) names) (PropertyAlias name old ∷ before)
      (property_named limits context first (is_additive spelled) l w).output) _ (property_names spelled) s
      (λ n others i. property_alias_step (is_additive spelled) n others w name old names before (still a c) i)
  step (Constant name m) spelled w names before o a c s =
      with_first (λ l. Agrees (with_name name m names) (Constant name m ∷ before) (constant limits context first l w).output) _ spelled s
      (λ n others i. constant_step n others w name m names before (still a c) i)
  step (Default name m) spelled w names before o a c s =
      with_first (λ l. Agrees (unless_known name m names) (Default name m ∷ before) (default limits context first l w).output) _ spelled s
      (λ n others i. default_step n others w name m names before (still a c) i)
  step (Stub name m) spelled w names before o a c s =
      with_first (λ l. Agrees (unless_known name m names) (Stub name m ∷ before) (stub limits context first l w).output) _ spelled s
      (λ n others i. stub_step n others w name m names before (still a c) i)
  step (Other name m) spelled w names before o a c s = recount before (Other name m) refl (declares name name m m a c refl refl)

all_agree : (limits : Limits) (context : Context) (o : Out) (reads : List Read) → counts_of o ≡ counted [] → Follow limits context o reads
    → Agrees (names_behind (names_of o) (directives reads)) (directives reads) (behind limits context o reads)
all_agree limits context o [] start f = record { names_are = λ t. refl; counts_are = start }
all_agree limits context o (r ∷ before) start f =
    step limits context r.first r.said r.names r.work (names_behind (names_of o) (directives before)) (directives before)
    (behind limits context o before) (all_agree limits context o before start f.2) f.0 f.1

pub names_agree : NamesAgree
names_agree limits context o reads start f = (all_agree limits context o reads start f).names_are

pub counts_agree : CountsAgree
counts_agree limits context o reads start f = (all_agree limits context o reads start f).counts_are

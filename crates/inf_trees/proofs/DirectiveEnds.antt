-- Behind the end of each directive that is one unit the unit is over, but for its semicolon.
use Rattle.std.proofs.Common.{◌≡◌, ℕ, List, [], ◌∷◌, map, Bool, true, Option, Some, None, refl, ◌∙◌, ap, nat_lt}
use Rattle.inf_letters.specs.{Letters.ignores, declared.letters.Letters.Letters}
use Rattle.inf_expressions.specs.{Findings.out_of_range, declared.findings.Finding.Finding, declared.units.Wanted.Wanted}
use Rattle.inf_scanner.specs.declared.tokens.Place.{Place}
use Rattle.inf_settings.specs.Bounds.{Limits}
use Rattle.inf_names.specs.{Spellings.Name, Symbols.declare_fault, declared.meanings.Meaning.Meaning}
use Rattle.inf_names.specs.{declared.symbols.DeclareFault.DeclareFault}
use Rattle.inf_output.specs.Output.{declared}
use Rattle.inf_report.specs.declared.messages.FixedLimit.{FixedLimit}
use Rattle.inf_unit.specs.{Directives.directive_of, declared.directives.Directive.Directive}
use Rattle.inf_unit.specs.Units.{directive_word, first_place, name_order, names_in, over, quoted_in}
use Rattle.inf_unit.proofs.Cases.{of_both}
use Rattle.inf_constructs.specs.Roots.{tree_in}
use Rattle.inf_compilation.specs.{Context.Context, Findings.again_by, Findings.found_alone, Findings.nothing_found}
use Rattle.inf_compilation.specs.Actions.{Compilation, constant, constant_added, constant_declared, constant_ended, constant_finding}
use Rattle.inf_compilation.specs.Actions.{constant_findings, constant_meaning, constant_of, finding_at, is_first_declared, new_stub}
use Rattle.inf_compilation.specs.Actions.{operands_of, replace, routine_declared, stub, stub_code, stub_locals, stubbed, trees_at}
use Rattle.inf_compilation.specs.Actions.{unit_ended}
use Rattle.inf_named_values.specs.Declarations.{alias_told, is_additive, is_alias}
use Rattle.inf_declarations.specs.{Attributes.attribute, Attributes.attribute_with}
use Rattle.inf_directives.specs.{Abbreviations.low_string, Defaults.default}
use Rattle.inf_declarations.specs.Globals.{global_variable}
use Rattle.inf_directives.specs.Headers.{known_number, release, release_finding, release_told, serial_by, serial_in}
use Rattle.inf_declarations.specs.Properties.{property, property_named, property_names, property_order, property_with}
use Rattle.inf_directives.specs.Switches.{has_code, letters_behind, switches, switches_by}
use Rattle.inf_verb_lines.specs.Verbs.{fake_action}
use Rattle.inf_reader.specs.Directives.{carried_out, code_begun_by, directive_end, directive_of_names}

-- whether the unit of a compilation is that of another, over but for its last token
abbrev pub IsOver : Compilation → Compilation → Type 0
IsOver w v = v.unit ≡ over true w.unit

module _ (limits : Limits) (context : Context) (first : Place) where
  -- Lemmas about constants

  added_unit : (found : Option Finding) (w : Compilation) → (constant_added limits context found w).unit ≡ w.unit
  added_unit None w = refl
  added_unit (Some f) w = refl

  constant_ends : (name : Name) (refused : Option (DeclareFault Place)) (finding : Option Finding) (w : Compilation)
      → IsOver w (constant_ended limits context first name refused finding w)
  constant_ends name refused finding w =
      let found = constant_findings (name_order w.unit.tokens) (again_by name refused) finding in
      ap (over true) (added_unit found.least w)

  constant_declares : (name : Name) (m : Option Meaning) (finding : Option Finding) (w : Compilation)
      → IsOver w (constant_declared limits context first name m finding w)
  constant_declares name m finding w = constant_ends name (declare_fault limits name.bytes w.output.names) finding
      (record w { output = declared limits name.bytes name.place (constant_meaning m finding) w.output })

  constant_over : (names : List Name) (w : Compilation) → IsOver w (constant limits context first names w)
  constant_over [] w = refl
  constant_over (name ∷ names) w =
      let m = constant_of (map tree_in (trees_at 0 Wanted.Constant (operands_of w) w)) w in
      constant_declares name m (constant_finding m (finding_at 0 Wanted.Constant w)) w

  default_over : (names : List Name) (w : Compilation) → IsOver w (default limits context first names w)
  default_over names w = of_both (IsOver w) (is_first_declared names w.output.names) (unit_ended limits context first true nothing_found w)
      (constant limits context first names w) (λ e. refl) (λ e. constant_over names w)

  -- Lemmas about routines

  replace_over : (names : List Name) (w : Compilation) → IsOver w (replace limits context first names w)
  replace_over [] w = refl
  replace_over (name ∷ names) w = refl

  stubbed_over : (w : Compilation) → IsOver w (stubbed limits context first w)
  stubbed_over w =
      let locals = stub_locals w.unit.tokens in
      of_both (IsOver w) (nat_lt 4 locals) (unit_ended limits context first true (found_alone (Some (out_of_range 0))) w)
      (unit_ended limits context first true nothing_found (record w { output = stub_code limits locals w.output })) (λ e. refl)
      (λ e. refl)

  new_stub_over : (names : List Name) (w : Compilation) → IsOver w (new_stub limits context first names w)
  new_stub_over [] w = refl
  new_stub_over (name ∷ names) w = stubbed_over (routine_declared limits name w)

  stub_over : (names : List Name) (w : Compilation) → IsOver w (stub limits context first names w)
  stub_over names w = of_both (IsOver w) (is_first_declared names w.output.names) (unit_ended limits context first true nothing_found w)
      (new_stub limits context first names w) (λ e. refl) (λ e. new_stub_over names w)

  -- attributes, properties, variables, fake actions and low strings

  attribute_over : (names : List Name) (w : Compilation) → IsOver w (attribute limits context first names w)
  attribute_over [] w = refl
  attribute_over (name ∷ names) w = of_both (IsOver w) (is_alias names w.unit.gathering.leaves)
      (alias_told limits context first name (name_order w.unit.tokens) FixedLimit.Attributes w) (attribute_with limits context first name w)
      (λ e. refl) (λ e. refl)

  property_named_over : (additive : Bool) (names : List Name) (w : Compilation)
      → IsOver w (property_named limits context first additive names w)
  property_named_over additive [] w = refl
  property_named_over additive (name ∷ names) w = of_both (IsOver w) (is_alias names w.unit.gathering.leaves)
      (alias_told limits context first name (property_order w.unit.tokens additive) FixedLimit.Properties w)
      (property_with limits context first additive name w) (λ e. refl) (λ e. refl)

  property_over : (names : List Name) (w : Compilation) → IsOver w (property limits context first names w)
  property_over names w = property_named_over (is_additive names) (property_names names) w

  global_over : (names : List Name) (w : Compilation) → IsOver w (global_variable limits context first names w)
  global_over [] w = refl
  global_over (name ∷ names) w = refl

  fake_over : (names : List Name) (w : Compilation) → IsOver w (fake_action limits context first names w)
  fake_over [] w = refl
  fake_over (name ∷ names) w = refl

  low_over : (names : List Name) (w : Compilation) → IsOver w (low_string limits context first names w)
  low_over [] w = refl
  low_over (name ∷ names) w = refl

  -- Lemmas about letters, releases and serial numbers

  switches_by_over : (letters : Option Letters) (w : Compilation) → IsOver w (switches_by limits context first letters w)
  switches_by_over None w = refl
  switches_by_over (Some letters) w = refl

  switches_over : (names : List Name) (w : Compilation) → IsOver w (switches limits context first names w)
  switches_over [] w = refl
  switches_over (name ∷ names) w =
      let letters = letters_behind (has_code w.output.code) name.bytes w.letters in
      of_both (IsOver w) (ignores w.letters) (unit_ended limits context first true nothing_found w)
      (switches_by limits context first letters w) (λ e. refl) (λ e. switches_by_over letters w)

  release_unit : (number : Option ℕ) (found : Option Finding) (w : Compilation) → (release_told limits context number found w).unit ≡ w.unit
  release_unit number (Some f) w = refl
  release_unit number None w = refl

  release_over : (w : Compilation) → IsOver w (release limits context first w)
  release_over w =
      let number = known_number (map tree_in (trees_at 0 Wanted.Constant (operands_of w) w)) in
      ap (over true) (release_unit number (release_finding number (finding_at 0 Wanted.Constant w)) w)

  serial_by_over : (digits : Option (List ℕ)) (w : Compilation) → IsOver w (serial_by limits context first digits w)
  serial_by_over None w = refl
  serial_by_over (Some digits) w = refl

  -- Lemmas about any directive

  carried_over : (d : Directive) (names : List Name) (w : Compilation) → IsOver w (carried_out limits d context first names w)
  carried_over Directive.Include names w = refl
  carried_over Directive.Message names w = refl
  carried_over Directive.End names w = refl
  carried_over Directive.Constant names w = constant_over names w
  carried_over Directive.Replace names w = replace_over names w
  carried_over Directive.Stub names w = stub_over names w
  carried_over Directive.Default names w = default_over names w
  carried_over Directive.Attribute names w = attribute_over names w
  carried_over Directive.Property names w = property_over names w
  carried_over Directive.Global names w = global_over names w
  carried_over Directive.FakeAction names w = fake_over names w
  carried_over Directive.Switches names w = switches_over names w
  carried_over Directive.Lowstring names w = low_over names w
  carried_over Directive.Release names w = release_over w
  carried_over Directive.Serial names w = serial_by_over (serial_in (quoted_in w.unit.tokens)) w
  carried_over Directive.SystemFile names w = refl

begun_unit : (limits : Limits) (d : Directive) (w : Compilation) → (code_begun_by limits d w).unit ≡ w.unit
begun_unit limits Directive.Switches w = refl
begun_unit limits _ w = refl

names_over : (limits : Limits) (context : Context) (first : Place) (names : List Name) (w : Compilation)
    → IsOver w (directive_of_names limits context first names w)
names_over limits context first [] w = refl
names_over limits context first (word ∷ names) w =
    let d = directive_of (directive_word w.unit.tokens) in
    carried_over limits context first d names (code_begun_by limits d w) ∙ ap (over true) (begun_unit limits d w)

pub directives_over : (limits : Limits) (context : Context) (place : Place) (w : Compilation)
    → IsOver w (directive_end limits context place w)
directives_over limits context place w = names_over limits context (first_place w.unit.tokens place) (names_in w.unit.tokens) w

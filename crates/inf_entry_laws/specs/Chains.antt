-- Nothing is wrong with the units of declarations: what makes a list of units a chain without an error.
use Rattle.std.specs.Prelude.{◌≡◌, ℕ, ◌+◌, ◌==◌, List, [], ◌∷◌, map, Bool, false, Option, Some, None}
use Rattle.inf_settings.specs.Bounds.{Limits}
use Rattle.inf_area.specs.declared.targets.Value.{Value}
use Rattle.inf_characters.specs.declared.texts.TextItem.{TextItem}
use Rattle.inf_expressions.specs.{Findings.least_of_both, declared.units.Wanted.Wanted}
use Rattle.inf_names.specs.Spellings.{Name}
use Rattle.inf_unit.specs.Units.{name_order}
use Rattle.inf_compilation.specs.{Actions.Compilation, Actions.body_ended, Actions.finding_at, Context.Context}
use Rattle.inf_tables.specs.World.{WorldOf, class_header_fault, class_of_fault, further_value_fault, given_property_fault, individual_fault}
use Rattle.inf_tables.specs.World.{no_body_fault, object_header_fault, set_attribute_fault, with_individual, with_object_header}
use Rattle.inf_named_values.specs.{Declarations.plainly_known, Values.looked_value, Values.variables_from}
use Rattle.inf_bodies.specs.Objects.{class_of, class_of_word, found_at, object_known}
use Rattle.inf_bodies.specs.Bodies.{attribute_of, further_found, given_finding, is_given, last_at, place_finding, property_of}
use Rattle.inf_bodies.specs.Values.{bracket_in, found_embedded, name_place, place_before}
use Rattle.inf_world_laws.specs.Declaring.{Run, number_in}
use Rattle.inf_world_laws.specs.Parts.{AreThings, body_done, part_done}
use Rattle.inf_world_laws.specs.Things.{Declared, Individual, PropertyName}
use Rattle.inf_world_laws.specs.Whole.{AreKinds}
use Rattle.inf_entry_laws.specs.Laws.{FirstClassFits, class_short, header_of, name_of, object_short, parent_of, world_of}
use Rattle.inf_entry_laws.specs.Runs.{AttributeNamed, ClassHeader, ClassNamed, DeclarationUnits, HeaderUnit, ObjectHeader, PartUnits, Piece}
use Rattle.inf_entry_laws.specs.Runs.{Plain, PropertyNamed, Routine, ValueUnit, Valued, all_behind, body_of, header_behind, headless, part_behind}
use Rattle.inf_entry_laws.specs.Runs.{part_of, parts_behind, taken, text_in, value_behind}

-- Whatever is compiled between two units leaves the world as it is.
abbrev pub Continues : Piece → Compilation → Type 0
Continues u before = world_of u.work ≡ world_of before

abbrev pub piece_of : ValueUnit → Piece
piece_of (Plain u) = u
piece_of (Routine u) = u

-- the world and the numbers of names behind what was compiled
abbrev pub run : Compilation → List (ℕ × ℕ) → Run
run before numbers = record { world = world_of before; numbers = numbers }

-- a name that is a property's, or a new one, where the names of individual properties so far have these numbers
abbrev pub number_of : PropertyName → List (ℕ × ℕ) → Option ℕ
number_of (Declared n) numbers = Some n
number_of (Individual name) numbers = number_in name numbers

-- the world refuses no property that has a number, or none yet, with a first value
abbrev pub Given : Limits → Option ℕ → Option Value → WorldOf → Type 0
Given limits (Some n) v w = given_property_fault limits n v w ≡ None
Given limits None v w = (individual_fault w ≡ None) × (given_property_fault limits (64 + w.individuals) v (with_individual w) ≡ None)

-- Definitions of values

abbrev pub IsPlain : Limits → Context → Option (List TextItem) → Compilation → Type 0
IsPlain limits context (Some items) w = variables_from items false ≡ false
IsPlain limits context None w =
    least_of_both (finding_at 0 Wanted.Constant w) (place_finding limits (name_place w.unit.outer) (looked_value w) w) ≡ None

abbrev pub IsRight : Limits → Context → ValueUnit → Type 0
IsRight limits context (Plain u) = IsPlain limits context (text_in context u.work) u.work
IsRight limits context (Routine u) =
    (found_embedded limits (place_before (bracket_in u.work.unit.tokens)) u.work.unit.headed (headless u.work)).least ≡ None

pub record IsFirst (limits : Limits) (context : Context) (p : PropertyName) (u : ValueUnit) (before : Compilation)
    (numbers : List (ℕ × ℕ)) : Type 0 where
  pub continues : Continues (piece_of u) before
  pub right : IsRight limits context u
  pub at : ℕ
  pub named : (taken limits context u).name ≡ Some at
  pub number : property_of (found_at at (taken limits context u).work) ≡ number_of p numbers
  pub untold : given_finding limits at (Some (taken limits context u).value) None (taken limits context u).work ≡ None
  pub fits : Given limits (number_of p numbers) (Some (taken limits context u).value) (world_of before)

pub record IsFurther (limits : Limits) (context : Context) (u : ValueUnit) (before : Compilation) : Type 0 where
  pub continues : Continues (piece_of u) before
  pub right : IsRight limits context u
  pub unnamed : (taken limits context u).name ≡ None
  pub untold : further_found limits (taken limits context u).value None (taken limits context u).work ≡ None
  pub fits : further_value_fault limits (taken limits context u).value (world_of before) ≡ None

abbrev pub AreFurther : Limits → Context → List ValueUnit → Compilation → Type 0
AreFurther limits context [] before = Unit {0}
AreFurther limits context (u ∷ more) before =
    IsFurther limits context u before × AreFurther limits context more (value_behind limits context u)

-- Definitions of parts

pub record IsClass (limits : Limits) (c : ℕ) (u : Piece) (before : Compilation) : Type 0 where
  pub continues : Continues u before
  pub named : class_of (found_at (last_at u.work.unit.tokens) u.work) ≡ Some c
  pub known : (c == 0) ≡ false
  pub fits : class_of_fault limits c (world_of before) ≡ None

pub record IsAttribute (a : ℕ) (given : Bool) (u : Piece) (before : Compilation) : Type 0 where
  pub continues : Continues u before
  pub named : attribute_of (found_at (last_at u.work.unit.tokens) u.work) ≡ Some a
  pub sign : is_given u.work.unit.tokens (last_at u.work.unit.tokens) ≡ given
  pub fits : set_attribute_fault a (world_of before) ≡ None

pub record IsBare (limits : Limits) (p : PropertyName) (u : Piece) (before : Compilation) (numbers : List (ℕ × ℕ)) : Type 0 where
  pub continues : Continues u before
  pub number : property_of (found_at (last_at u.work.unit.tokens) u.work) ≡ number_of p numbers
  pub untold : given_finding limits (last_at u.work.unit.tokens) None None u.work ≡ None
  pub fits : Given limits (number_of p numbers) None (world_of before)

abbrev pub IsPart : Limits → Context → PartUnits → Compilation → List (ℕ × ℕ) → Type 0
IsPart limits context (ClassNamed c u) before numbers = IsClass limits c u before
IsPart limits context (AttributeNamed a given u) before numbers = IsAttribute a given u before
IsPart limits context (PropertyNamed p u) before numbers = IsBare limits p u before numbers
IsPart limits context (Valued p u more) before numbers =
    IsFirst limits context p u before numbers × AreFurther limits context more (value_behind limits context u)

abbrev pub AreParts : Limits → Context → List PartUnits → Compilation → List (ℕ × ℕ) → Type 0
AreParts limits context [] before numbers = Unit {0}
AreParts limits context (u ∷ body) before numbers =
    IsPart limits context u before numbers
    × AreParts limits context body (part_behind limits context u) (part_done (part_of limits context u) (run before numbers)).numbers

-- Definitions of headers

pub record IsClassHeader (limits : Limits) (context : Context) (n : Name) (u : Piece) (before : Compilation) : Type 0 where
  pub continues : Continues u before
  pub untold : (plainly_known n (name_order u.work.unit.tokens) u.work).finding ≡ None
  pub fits : class_header_fault limits (class_short context n u.work) (world_of before) ≡ None

abbrev pub IsKnown : Option ℕ → Type 0
IsKnown None = Unit {0}
IsKnown (Some c) = (c == 0) ≡ false

pub record IsObjectHeader (limits : Limits) (context : Context) (u : Piece) (before : Compilation) : Type 0 where
  pub continues : Continues u before
  pub untold : (object_known context (header_of u.work) (name_of u.work) u.work).finding ≡ None
  pub fits : object_header_fault limits (parent_of u.work) (object_short context u.work) (world_of before) ≡ None
  pub known : IsKnown (class_of_word u.work)
  pub class_fits : FirstClassFits limits (class_of_word u.work)
      (with_object_header (parent_of u.work) (object_short context u.work) (world_of before))

abbrev pub IsHeader : Limits → Context → HeaderUnit → Compilation → Type 0
IsHeader limits context (ClassHeader n u) before = IsClassHeader limits context n u before
IsHeader limits context (ObjectHeader u) before = IsObjectHeader limits context u before

-- Definitions of whole declarations

pub record IsDeclaration (limits : Limits) (context : Context) (d : DeclarationUnits) (before : Compilation) (numbers : List (ℕ × ℕ))
    : Type 0 where
  pub header : IsHeader limits context d.header before
  pub body : AreParts limits context d.body (header_behind limits context d.header) numbers
  pub continues : world_of d.last ≡ world_of (parts_behind limits context d.body (header_behind limits context d.header))
  pub is_open : no_body_fault (world_of d.last) ≡ None

abbrev pub AreDeclarations : Limits → Context → List DeclarationUnits → Compilation → List (ℕ × ℕ) → Type 0
AreDeclarations limits context [] before numbers = Unit {0}
AreDeclarations limits context (d ∷ units) before numbers =
    IsDeclaration limits context d before numbers
    × AreDeclarations limits context units (body_ended d.last) (body_done (body_of limits context d) (run before numbers)).numbers

-- Behind the units of any list of declarations the objects of the tables are the things that the description makes of these.
abbrev pub DeclarationsMakeThings : Type 0
DeclarationsMakeThings =
    (limits : Limits) (context : Context) (additive : ℕ → Bool) (units : List DeclarationUnits) (before : Compilation) →
    (world_of before).objects ≡ [] → (world_of before).individuals ≡ 0 → AreKinds additive (world_of before) →
    AreDeclarations limits context units before [] →
    AreThings additive (map (body_of limits context) units) (world_of (all_behind limits context units before)).objects

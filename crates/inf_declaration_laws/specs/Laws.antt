-- Directives that are read one behind the other: behind them the names and the tables are those of the description.
use Rattle.std.specs.Prelude.{◌≡◌, ℕ, ◌-◌, ◌%◌, List, [], ◌∷◌, map, length, Bool, true, false, Option, Some, None}
use Rattle.inf_settings.specs.Bounds.{Limits}
use Rattle.inf_scanner.specs.declared.tokens.Place.{Place}
use Rattle.inf_expressions.specs.declared.units.Wanted.{Wanted}
use Rattle.inf_names.specs.{Spellings.Name, declared.meanings.Meaning.Meaning, declared.symbols.Found.Found}
use Rattle.inf_names.specs.Symbols.{declare_fault, found_in}
use Rattle.inf_code.specs.Code.{place_behind}
use Rattle.inf_output.specs.{Actions.first_seen, Actions.key_of, Output.Out}
use Rattle.inf_report.specs.declared.messages.FixedLimit.{FixedLimit}
use Rattle.inf_unit.specs.Units.{bytes_at, name_order}
use Rattle.inf_constructs.specs.Roots.{tree_in}
use Rattle.inf_compilation.specs.{Actions.Compilation, Actions.constant, Actions.constant_of, Actions.finding_at, Actions.operands_of}
use Rattle.inf_compilation.specs.{Actions.is_declared, Actions.settled_of, Actions.stub, Actions.trees_at, Context.Context}
use Rattle.inf_expressions.specs.Findings.{least_of_both}
use Rattle.inf_named_values.specs.Declarations.{alias_finding, is_additive, is_alias, last_meaning, name_known, valued}
use Rattle.inf_declarations.specs.Attributes.{attribute, has_most_attributes}
use Rattle.inf_declarations.specs.{Globals.global_variable, Globals.has_most_globals}
use Rattle.inf_directives.specs.Defaults.{default}
use Rattle.inf_declarations.specs.Properties.{has_most_properties, property, property_names, property_order}
use Rattle.inf_verb_lines.specs.Verbs.{fake_action}
use Rattle.inf_declaration_laws.specs.Declarations.{Attribute, AttributeAlias, Constant, Default, Directive, FakeAction, Global, Names}
use Rattle.inf_declaration_laws.specs.Declarations.{Other, Property, PropertyAlias, Stub, Text, count, is_attribute, is_fake, is_global}
use Rattle.inf_declaration_laws.specs.Declarations.{is_property, names_behind, with_name}

-- Definitions of the names and counts of an output

abbrev pub meaning_told : Found Place → Option Meaning
meaning_told (Found.System m) = Some m
meaning_told (Found.Declared m first) = Some m
meaning_told Found.Used = None
meaning_told Found.Unknown = None

abbrev pub names_of : Out → Names
names_of o = λ t. meaning_told (found_in t o.names)

pub record Counts : Type 0 where
  pub attributes : ℕ
  pub properties : ℕ
  pub globals : ℕ
  pub fakes : ℕ

abbrev pub counts_of : Out → Counts
counts_of o = record {
  attributes = o.tables.world.attributes;
  properties = length o.tables.world.declared;
  globals = length o.tables.globals;
  fakes = o.tables.actions.fakes;
}

-- the counts of the description
abbrev pub counted : List Directive → Counts
counted before = record {
  attributes = count is_attribute before;
  properties = count is_property before;
  globals = count is_global before;
  fakes = count is_fake before % 65536;
}

-- Definitions of directives as they are read

-- a directive whose tokens are read: its names behind its word, the place where it begins, and all that was compiled before its end
pub record Read : Type 0 where
  pub said : Directive
  pub names : List Name
  pub first : Place
  pub work : Compilation

-- the end of the directive
abbrev pub ended_as : Limits → Context → Directive → Place → List Name → Compilation → Compilation
ended_as limits context (Attribute name) first names w = attribute limits context first names w
ended_as limits context (Property name additive) first names w = property limits context first names w
ended_as limits context (Global name) first names w = global_variable limits context first names w
ended_as limits context (FakeAction name) first names w = fake_action limits context first names w
ended_as limits context (AttributeAlias name old) first names w = attribute limits context first names w
ended_as limits context (PropertyAlias name old) first names w = property limits context first names w
ended_as limits context (Constant name m) first names w = constant limits context first names w
ended_as limits context (Default name m) first names w = default limits context first names w
ended_as limits context (Stub name m) first names w = stub limits context first names w
ended_as limits context (Other name m) first names w = w

abbrev pub ended : Limits → Context → Read → Compilation
ended limits context r = ended_as limits context r.said r.first r.names r.work

abbrev pub behind : Limits → Context → Out → List Read → Out
behind limits context o [] = o
behind limits context o (r ∷ before) = (ended limits context r).output

-- Nothing is found wrong with a name: it is new among names, and there is room for it.
abbrev pub IsFree : Limits → List ℕ → Out → Type 0
IsFree limits name o = declare_fault limits name o.names ≡ None

-- the name of the last token
abbrev pub last_bytes : Compilation → Text
last_bytes w = bytes_at w.unit.tokens (length w.unit.tokens - 1)

pub record IsAttribute (limits : Limits) (n : Name) (names : List Name) (w : Compilation) (name : Text) : Type 0 where
  pub spelled : n.bytes ≡ name
  pub own : is_alias names w.unit.gathering.leaves ≡ false
  pub untold : (name_known n (name_order w.unit.tokens) (has_most_attributes w.output) w).finding ≡ None
  pub free : IsFree limits n.bytes w.output

pub record IsProperty (limits : Limits) (context : Context) (additive : Bool) (n : Name) (names : List Name) (w : Compilation) (name : Text)
    : Type 0 where
  pub spelled : n.bytes ≡ name
  pub own : is_alias names w.unit.gathering.leaves ≡ false
  pub untold : (valued n (property_order w.unit.tokens additive) (has_most_properties w.output) w).finding ≡ None
  pub free : IsFree limits n.bytes (settled_of limits context w).out

pub record IsGlobal (limits : Limits) (context : Context) (n : Name) (w : Compilation) (name : Text) : Type 0 where
  pub spelled : n.bytes ≡ name
  pub untold : (valued n (name_order w.unit.tokens) (has_most_globals w.output) w).finding ≡ None
  pub free : IsFree limits n.bytes (settled_of limits context w).out

pub record IsFake (limits : Limits) (n : Name) (w : Compilation) (name : Text) : Type 0 where
  pub spelled : n.bytes ≡ name
  pub untold : first_seen (key_of n.bytes) w.output ≡ None
  pub free : IsFree limits (key_of n.bytes) w.output

pub record IsAlias (limits : Limits) (kind : FixedLimit) (at : ℕ) (n : Name) (names : List Name) (w : Compilation) (name old : Text)
    : Type 0 where
  pub spelled : n.bytes ≡ name
  pub last : last_bytes w ≡ old
  pub alias : is_alias names w.unit.gathering.leaves ≡ true
  pub untold : least_of_both (name_known n at false w).finding (alias_finding w.unit.tokens (last_meaning kind w)) ≡ None
  pub free : IsFree limits n.bytes w.output

pub record IsConstant (limits : Limits) (n : Name) (w : Compilation) (name : Text) (m : Meaning) : Type 0 where
  pub spelled : n.bytes ≡ name
  pub means : constant_of (map tree_in (trees_at 0 Wanted.Constant (operands_of w) w)) w ≡ Some m
  pub untold : finding_at 0 Wanted.Constant w ≡ None
  pub free : IsFree limits n.bytes w.output

pub record IsStub (limits : Limits) (n : Name) (w : Compilation) (m : Meaning) : Type 0 where
  pub means : Meaning.Routine (place_behind w.output.code.finished) ≡ m
  pub free : IsFree limits n.bytes w.output

-- Nothing is asked of the rest of `Default` and `Stub` where their name has a meaning.
abbrev pub WhereNew : Name → Compilation → Type 0 → Type 0
WhereNew n w premise = is_declared (found_in n.bytes w.output.names) ≡ false → premise

-- The unit that is read says the directive, and nothing is found wrong with it.

abbrev pub WithFirst : (Name → List Name → Type 0) → List Name → Type 0
WithFirst says [] = ⊥
WithFirst says (n ∷ names) = says n names

abbrev pub SaysBy : Limits → Context → Directive → List Name → Compilation → Type 0
SaysBy limits context (Attribute name) names w = WithFirst (λ n others. IsAttribute limits n others w name) names
SaysBy limits context (Property name additive) names w =
    (is_additive names ≡ additive) × WithFirst (λ n others. IsProperty limits context additive n others w name) (property_names names)
SaysBy limits context (Global name) names w = WithFirst (λ n others. IsGlobal limits context n w name) names
SaysBy limits context (FakeAction name) names w = WithFirst (λ n others. IsFake limits n w name) names
SaysBy limits context (AttributeAlias name old) names w =
    WithFirst (λ n others. IsAlias limits FixedLimit.Attributes (name_order w.unit.tokens) n others w name old) names
SaysBy limits context (PropertyAlias name old) names w =
    WithFirst (λ n others.
    IsAlias limits FixedLimit.Properties (property_order w.unit.tokens (is_additive names)) n others w name old) (property_names names)
SaysBy limits context (Constant name m) names w = WithFirst (λ n others. IsConstant limits n w name m) names
SaysBy limits context (Default name m) names w =
    WithFirst (λ n others. (n.bytes ≡ name) × WhereNew n w (IsConstant limits n w name m)) names
SaysBy limits context (Stub name m) names w = WithFirst (λ n others. (n.bytes ≡ name) × WhereNew n w (IsStub limits n w m)) names
SaysBy limits context (Other name m) names w = Unit {0}

-- The steps between two directives add nothing of the kinds that count. They declare no name, or are another declaration of one name.
pub record Keeps (o p : Out) : Type 0 where
  pub names : (t : Text) → names_of p t ≡ names_of o t
  pub counts : counts_of p ≡ counts_of o

pub record Declares (name : Text) (m : Meaning) (o p : Out) : Type 0 where
  pub names : (t : Text) → names_of p t ≡ with_name name m (names_of o) t
  pub counts : counts_of p ≡ counts_of o

abbrev pub Comes : Directive → Out → Out → Type 0
Comes (Other name m) o p = Declares name m o p
Comes _ o p = Keeps o p

-- The directives are read one behind the other, the latest first.
abbrev pub Follow : Limits → Context → Out → List Read → Type 0
Follow limits context o [] = Unit {0}
Follow limits context o (r ∷ before) =
    Comes r.said (behind limits context o before) r.work.output × SaysBy limits context r.said r.names r.work × Follow limits context o
    before

abbrev pub directives : List Read → List Directive
directives reads = map (λ r. r.said) reads

-- Behind directives with which nothing is wrong, from an output that has none of them, each name has the meaning of the description; and
-- there are as many attributes, properties, variables and fake actions as it counts.

abbrev pub NamesAgree : Type 0
NamesAgree =
    (limits : Limits) (context : Context) (o : Out) (reads : List Read) → counts_of o ≡ counted [] → Follow limits context o reads →
    (t : Text) → names_of (behind limits context o reads) t ≡ names_behind (names_of o) (directives reads) t

abbrev pub CountsAgree : Type 0
CountsAgree =
    (limits : Limits) (context : Context) (o : Out) (reads : List Read) → counts_of o ≡ counted [] → Follow limits context o reads →
    counts_of (behind limits context o reads) ≡ counted (directives reads)

-- Names that directives declare. Designer's Manual, fourth edition, sections 2 and 3.
use Rattle.std.specs.Prelude.{ℕ, ◌-◌, List, [], ◌∷◌, length, codes, Bool, true, false, ◌||◌, if◌then◌else◌, Option, Some, None}
use Rattle.std.specs.Str.{str_eq_ignore_ascii_case}
use Rattle.inf_settings.specs.Bounds.{Limits}
use Rattle.inf_scanner.specs.declared.tokens.Place.{Place}
use Rattle.inf_expressions.specs.{declared.findings.Finding.Finding, declared.findings.UnitError.UnitError, declared.units.Wanted.Wanted}
use Rattle.inf_expressions.specs.Findings.{least_of_both, wrong_kind}
use Rattle.inf_gathering.specs.declared.gathering.Leaf.{Leaf}
use Rattle.inf_names.specs.{Spellings.Name, Symbols.found_in, declared.meanings.Meaning.Meaning, declared.symbols.DeclareFault.DeclareFault}
use Rattle.inf_names.specs.{declared.symbols.Found.Found}
use Rattle.inf_output.specs.Output.{Code, declared}
use Rattle.inf_report.specs.declared.messages.FixedLimit.{FixedLimit}
use Rattle.inf_compilation.specs.{Actions.Compilation, Actions.finding_at, Actions.unit_ended, Context.Context}
use Rattle.inf_compilation.specs.Findings.{Again, Findings, again_by, again_finding, many_finding}
use Rattle.inf_unit.specs.{Tokens.SourceToken, Units.bytes_at, Units.order}
use Rattle.inf_tables.specs.World.{WorldOf}
use Rattle.inf_named_values.specs.declared.declarations.Declared.{Declared}

-- Definitions of findings about the name

-- the reason why a name cannot be declared that is declared already, or is one of the language
abbrev pub standing_fault : Found Place → Option (DeclareFault Place)
standing_fault (Found.System m) = Some (DeclareFault.Present None)
standing_fault (Found.Declared m first) = Some (DeclareFault.Present (Some first))
standing_fault Found.Used = None
standing_fault Found.Unknown = None

-- whether a leaf of an expression is this name
abbrev pub is_name_at : List SourceToken → List ℕ → Leaf → Bool
is_name_at tokens name (Leaf.Name at) = str_eq_ignore_ascii_case (bytes_at tokens at) name
is_name_at tokens name _ = false

-- whether one of these is, or one was found before
abbrev pub names_from : List SourceToken → List ℕ → List Leaf → Bool → Bool
names_from tokens name [] found = found
names_from tokens name (l ∷ leaves) found = names_from tokens name leaves (found || is_name_at tokens name l)

abbrev pub names_itself : List SourceToken → List ℕ → List Leaf → Bool
names_itself tokens name leaves = names_from tokens name leaves false

-- Whether a declaration comes too late: its name may not be used before, and its own expression may not use it.
abbrev pub is_late : Found Place → Bool → Bool
is_late (Found.System m) names_itself = false
is_late (Found.Declared m first) names_itself = false
is_late Found.Used names_itself = true
is_late Found.Unknown names_itself = names_itself

abbrev pub late_finding : ℕ → Bool → Option Finding
late_finding order is_late = if is_late then Some (record { order = order; error = UnitError.UsedBefore }) else None

abbrev pub declared_finding : ℕ → Option Again → Bool → Bool → Option Finding
declared_finding order again is_late are_many =
    least_of_both (again_finding order again) (least_of_both (late_finding order is_late) (many_finding are_many))

abbrev pub name_known_by : Found Place → Name → ℕ → Bool → Compilation → Declared
name_known_by f name order are_many w = record {
  found = f;
  finding = declared_finding order (again_by name (standing_fault f))
      (is_late f (names_itself w.unit.tokens name.bytes w.unit.gathering.leaves)) are_many;
}

abbrev pub name_known : Name → ℕ → Bool → Compilation → Declared
name_known name order are_many w = name_known_by (found_in name.bytes w.output.names) name order are_many w

-- the declaration of a name, as far as it is known, with the finding about its expression
abbrev pub valued : Name → ℕ → Bool → Compilation → Declared
valued name order are_many w =
    let d = name_known name order are_many w in
    record { found = d.found; finding = least_of_both d.finding (finding_at 0 Wanted.Constant w) }

-- the declaration of a name that may have been used before, as far as it is known
abbrev pub plainly_known_by : Found Place → Name → ℕ → Declared
plainly_known_by f name order = record { found = f; finding = again_finding order (again_by name (standing_fault f)) }

abbrev pub plainly_known : Name → ℕ → Compilation → Declared
plainly_known name order w = plainly_known_by (found_in name.bytes w.output.names) name order

-- the findings about a declaration of a kind
abbrev pub declared_findings : Name → FixedLimit → Declared → Findings
declared_findings name kind d = record { least = d.finding; many = kind; again = again_by name (standing_fault d.found) }

-- The end of a declaration, or of the header of one, that begins at a place
abbrev pub declared_ended : Limits → Context → Place → Bool → Name → FixedLimit → Declared → Compilation → Compilation
declared_ended limits context first has_last name kind d w = unit_ended limits context first has_last (declared_findings name kind d) w

abbrev pub declaration_ended : Limits → Context → Place → Name → FixedLimit → Declared → Compilation → Compilation
declaration_ended limits context first name kind d w = declared_ended limits context first true name kind d w

-- a name is declared, where it stands, with a meaning
abbrev pub name_declared : Limits → Name → Meaning → Code
name_declared limits name m o = declared limits name.bytes name.place m o

-- Definitions of another name of an attribute or a property

abbrev pub is_alias : List Name → List Leaf → Bool
is_alias [] leaves = false
is_alias (n ∷ names) [] = true
is_alias (n ∷ names) (l ∷ leaves) = false

abbrev pub attribute_meaning : Meaning → Option Meaning
attribute_meaning (Meaning.Attribute number) = Some (Meaning.Attribute number)
attribute_meaning _ = None

abbrev pub property_meaning : Meaning → Option Meaning
property_meaning (Meaning.Property number is_additive) = Some (Meaning.Property number is_additive)
property_meaning _ = None

-- the language has no attributes, and one property
abbrev pub attribute_found : Found Place → Option Meaning
attribute_found (Found.System m) = None
attribute_found (Found.Declared m first) = attribute_meaning m
attribute_found Found.Used = None
attribute_found Found.Unknown = None

abbrev pub property_found : Found Place → Option Meaning
property_found (Found.System m) = property_meaning m
property_found (Found.Declared m first) = property_meaning m
property_found Found.Used = None
property_found Found.Unknown = None

abbrev pub alias_meaning : FixedLimit → Found Place → Option Meaning
alias_meaning FixedLimit.Attributes f = attribute_found f
alias_meaning _ f = property_found f

-- the meaning of a name of this kind whose declaration has an error
abbrev pub nothing_of : FixedLimit → Meaning
nothing_of FixedLimit.Attributes = Meaning.Attribute 0
nothing_of FixedLimit.Globals = Meaning.Variable 16
nothing_of _ = Meaning.Property 0 false

abbrev pub alias_finding : List SourceToken → Option Meaning → Option Finding
alias_finding tokens None = Some (wrong_kind (order (length tokens - 1)))
alias_finding tokens (Some m) = None

abbrev pub aliased : FixedLimit → Option Meaning → Option Finding → Meaning
aliased kind (Some m) None = m
aliased kind _ f = nothing_of kind

abbrev pub alias_with : Limits → Context → Place → Name → FixedLimit → Option Meaning → Declared → Compilation → Compilation
alias_with limits context first name kind m d w = declaration_ended limits context first name kind d
    (record w { output = name_declared limits name (aliased kind m d.finding) w.output })

abbrev pub alias_by : Limits → Option Meaning → Context → Place → Name → ℕ → FixedLimit → Compilation → Compilation
alias_by limits m context first name at kind w =
    let own = name_known name at false w in
    alias_with limits context first name kind m (record {
      found = own.found;
      finding = least_of_both own.finding (alias_finding w.unit.tokens m);
    }) w

-- the meaning of the last name of the unit, where it is one of this kind
abbrev pub last_meaning : FixedLimit → Compilation → Option Meaning
last_meaning kind w = alias_meaning kind (found_in (bytes_at w.unit.tokens (length w.unit.tokens - 1)) w.output.names)

abbrev pub alias_told : Limits → Context → Place → Name → ℕ → FixedLimit → Compilation → Compilation
alias_told limits context first name at kind w = alias_by limits (last_meaning kind w) context first name at kind w

-- the output with another world of objects
abbrev pub with_world : WorldOf → Code
with_world world o = record o { tables = record o.tables { world = world } }

-- the word `additive` before its name is no name
abbrev pub is_additive_word : Name → Bool
is_additive_word word = str_eq_ignore_ascii_case word.bytes (codes "additive")

abbrev pub is_additive : List Name → Bool
is_additive [] = false
is_additive (word ∷ names) = is_additive_word word

-- All that is wrong with a unit, and what its end tells: the least of that.
use Rattle.std.specs.Prelude.{◌≡◌, List, [], ◌∷◌, ◌++◌, map, false, Option, Some, None}
use Rattle.inf_settings.specs.Bounds.{Limits}
use Rattle.inf_scanner.specs.declared.tokens.Place.{Place}
use Rattle.inf_machine.specs.Grammar.{IsOneOf}
use Rattle.inf_expressions.specs.{Findings.is_before, Findings.no_constant, declared.findings.Finding.Finding, declared.units.Wanted.Wanted}
use Rattle.inf_names.specs.{Spellings.Name, Symbols.declare_fault, declared.meanings.Meaning.Meaning}
use Rattle.inf_statements.specs.{Effects.site_finding, declared.statements.Statement.Statement}
use Rattle.inf_constructs.specs.Roots.{tree_in}
use Rattle.inf_unit.specs.Units.{name_order, order}
use Rattle.inf_compilation.specs.{Context.Context, Findings.Findings, Findings.again_by, Findings.again_finding, Findings.told_as}
use Rattle.inf_compilation.specs.Actions.{Compilation, constant, constant_of, finding_at, operands_of, trees_at}
use Rattle.inf_parts.specs.Parts.{case_prepared, order_of, own_finding, part_ended, part_prepared, place_of, site_of, wanted_of}
use Rattle.inf_parts.specs.declared.parts.Part.{Part}
use Rattle.inf_laws.specs.Findings.{told_behind}

-- Nothing is found where nothing is wrong; else a finding that is one of all, before which none of these comes, by the order of their tokens
-- and then by the numbers of their errors.
abbrev pub IsLeastOf : Option Finding → List Finding → Type 0
IsLeastOf None all = all ≡ []
IsLeastOf (Some f) all = IsOneOf f all × ((g : Finding) → IsOneOf g all → is_before g f ≡ false)

-- The end of a unit that begins at a place tells the least of all that is wrong with it, and then the first limit that was passed.
pub record TellsTheLeast (limits : Limits) (context : Context) (first : Place) (all : List Finding) (w after : Compilation) : Type 0 where
  pub found : Findings
  pub is_least : IsLeastOf found.least all
  pub told : after.report ≡ told_behind limits context first (told_as context.names w.unit.tokens first found) w.report after

abbrev pub listed : Option Finding → List Finding
listed None = []
listed (Some f) = f ∷ []

-- Definitions of units of routines

-- All that is wrong with a unit beside its expressions. For an instruction these are two: one of operands that it does not keep, and one of
-- all else.
abbrev pub own_faults : Limits → Context → Part → Compilation → List Finding
own_faults limits context (Part.Statement Statement.Assembly) w =
    listed w.unit.passed
    ++ listed (site_finding limits (site_of context w) w.output.names
    (map tree_in (trees_at (order w.unit.begun) Wanted.Operand (operands_of w) w)))
own_faults limits context p w = listed (own_finding limits context p w)

-- All that is wrong with a unit. All that is wrong with its expressions is one finding here, which is the least of that.
abbrev pub part_faults : Limits → Context → Part → Compilation → List Finding
part_faults limits context p w =
    listed (finding_at (order_of p w) (wanted_of p) w) ++ own_faults limits context p w

-- the unit of a routine as its end finds it
abbrev pub ready : Limits → Part → Compilation → Compilation
ready limits p w = case_prepared limits p (part_prepared w)

-- Each end of a unit of a routine that is not passed over tells the least of all that is wrong with it.
abbrev pub PartsTellTheLeast : Limits → Type 0
PartsTellTheLeast limits = (context : Context) (place : Place) (p : Part) (w : Compilation) → w.is_replaced ≡ false
    → TellsTheLeast limits context (place_of p place (ready limits p w)) (part_faults limits context p (ready limits p w)) (ready limits p w)
    (part_ended limits context place p w)

-- Definitions of constants

-- all that is wrong with an expression that has to be the value of a constant: without a meaning it is no constant
abbrev pub value_faults : Option Meaning → List Finding → List Finding
value_faults None [] = no_constant 0 ∷ []
value_faults _ all = all

-- All that is wrong with the directive of a constant: its name is declared before, or its value is wrong.
abbrev pub constant_faults : Limits → Name → Compilation → List Finding
constant_faults limits name w =
    listed (again_finding (name_order w.unit.tokens) (again_by name (declare_fault limits name.bytes w.output.names)))
    ++ value_faults (constant_of (map tree_in (trees_at 0 Wanted.Constant (operands_of w) w)) w)
    (listed (finding_at 0 Wanted.Constant w))

-- Each end of such a directive tells the least of all that is wrong with it.
abbrev pub ConstantsTellTheLeast : Limits → Type 0
ConstantsTellTheLeast limits = (context : Context) (first : Place) (name : Name) (others : List Name) (w : Compilation)
    → TellsTheLeast limits context first (constant_faults limits name w) w (constant limits context first (name ∷ others) w)

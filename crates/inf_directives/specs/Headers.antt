-- The directives `Release` and `Serial`. Z-Machine Standard 1.1, section 11.1; Designer's Manual, fourth edition, sections 39 and 40.
use Rattle.std.specs.Prelude.{ℕ, ◌==◌, nat_le, List, ◌∷◌, length, map, Bool, true, ◌&&◌, if◌then◌else◌, Option, Some, None, unwrap_or}
use Rattle.std.specs.List.{list_all}
use Rattle.inf_settings.specs.Bounds.{Limits}
use Rattle.inf_scanner.specs.declared.tokens.Place.{Place}
use Rattle.inf_expressions.specs.{Findings.no_constant, Findings.out_of_range, Trees.Leaf, Trees.Tree, declared.findings.Finding.Finding}
use Rattle.inf_expressions.specs.{declared.operators.Operand.Operand, declared.units.Wanted.Wanted}
use Rattle.inf_constructs.specs.Roots.{tree_in}
use Rattle.inf_operands.specs.Operands.{leaf_added}
use Rattle.inf_unit.specs.Units.{quoted_in}
use Rattle.inf_compilation.specs.{Context.Context, Findings.found_alone}
use Rattle.inf_compilation.specs.Actions.{Compilation, finding_at, operands_of, trees_at, unit_ended}

-- Definitions of releases

-- the number of an expression, where it is known
abbrev pub known_number : List Tree → Option ℕ
known_number ((Leaf (Operand.Known number)) ∷ trees) = Some number
known_number _ = None

-- the finding about a release: that about its expression, or else that its number is not known
abbrev pub release_finding : Option ℕ → Option Finding → Option Finding
release_finding None None = Some (no_constant 0)
release_finding number found = found

-- Without an error its actions appear, and the story has this release. The latest holds.
abbrev pub release_told : Limits → Context → Option ℕ → Option Finding → Compilation → Compilation
release_told limits context number (Some f) w = w
release_told limits context number None w = record w {
  output = leaf_added limits context.set w.unit.tokens w.unit.gathering.leaves w.output;
  told = record w.told { release = unwrap_or number 0 };
}

abbrev pub release_ended : Limits → Context → Place → Option ℕ → Option Finding → Compilation → Compilation
release_ended limits context first number finding w =
    unit_ended limits context first true (found_alone finding) (release_told limits context number finding w)

abbrev pub release_with : Limits → Context → Place → Option ℕ → Option Finding → Compilation → Compilation
release_with limits context first number found w = release_ended limits context first number (release_finding number found) w

abbrev pub release : Limits → Context → Place → Compilation → Compilation
release limits context first w =
    release_with limits context first (known_number (map tree_in (trees_at 0 Wanted.Constant (operands_of w) w)))
    (finding_at 0 Wanted.Constant w) w

-- Definitions of serial numbers

abbrev pub is_digit : ℕ → Bool
is_digit byte = nat_le 48 byte && nat_le byte 57

-- six digits of a text, by its bytes in the source
abbrev pub serial_in : List ℕ → Option (List ℕ)
serial_in bytes = if (length bytes == 6) && list_all is_digit bytes then Some bytes else None

abbrev pub serial_by : Limits → Context → Place → Option (List ℕ) → Compilation → Compilation
serial_by limits context first None w = unit_ended limits context first true (found_alone (Some (out_of_range 0))) w
serial_by limits context first (Some digits) w =
    unit_ended limits context first true (found_alone None) (record w { told = record w.told { serial = Some digits } })

abbrev pub serial : Limits → Context → Place → Compilation → Compilation
serial limits context first w = serial_by limits context first (serial_in (quoted_in w.unit.tokens)) w

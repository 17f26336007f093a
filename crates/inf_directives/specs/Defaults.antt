-- The directive `Default`.
use Rattle.std.specs.Prelude.{List, true, if◌then◌else◌}
use Rattle.inf_settings.specs.Bounds.{Limits}
use Rattle.inf_scanner.specs.declared.tokens.Place.{Place}
use Rattle.inf_names.specs.Spellings.{Name}
use Rattle.inf_compilation.specs.{Context.Context, Findings.nothing_found}
use Rattle.inf_compilation.specs.Actions.{Compilation, constant, is_first_declared, unit_ended}

-- a constant, unless its name is declared
abbrev pub default : Limits → Context → Place → List Name → Compilation → Compilation
default limits context first names w =
    if is_first_declared names w.output.names then unit_ended limits context first true nothing_found w else constant limits context first
    names w

-- The directive `Switches`: letters behind those of the command (Inform Designer's Manual, fourth edition, section 39).
use Rattle.std.specs.Prelude.{ℕ, nat_lt, List, [], ◌∷◌, Bool, true, if◌then◌else◌, Option, Some, None}
use Rattle.inf_settings.specs.Bounds.{Limits}
use Rattle.inf_scanner.specs.declared.tokens.Place.{Place}
use Rattle.inf_expressions.specs.{declared.findings.Finding.Finding, declared.findings.UnitError.UnitError}
use Rattle.inf_letters.specs.{Letters.ignores, Letters.set_of, Letters.with_letters, declared.letters.Letters.Letters}
use Rattle.inf_names.specs.Spellings.{Name}
use Rattle.inf_code.specs.Code.{Routines, routine_count}
use Rattle.inf_unit.specs.Directives.{Characters}
use Rattle.inf_compilation.specs.{Context.Context, Findings.found_alone, Findings.nothing_found}
use Rattle.inf_compilation.specs.Actions.{Compilation, letters_chosen, passed, unit_ended}

-- the finding about the first token that the directive comes behind another unit, or has letters that are unknown
abbrev pub misplaced : Finding
misplaced = record { order = 0; error = UnitError.MisplacedSwitches }

-- whether code has begun: then a routine counts
abbrev pub has_code : Routines → Bool
has_code routines = nat_lt 0 (routine_count routines)

-- the choices of letters with more behind them: there are none where code has begun, or a letter is unknown
abbrev pub letters_behind : Bool → List ℕ → Letters → Option Letters
letters_behind is_late more letters = if is_late then None else with_letters more letters

-- The letters' choices hold from now on, and from the next token on all sources are read by their character set.
abbrev pub switched : Letters → Compilation → Compilation
switched letters w = record (letters_chosen letters w) { asked = Characters (set_of letters) }

-- the end of the directive, which changes nothing where it has an error
abbrev pub switches_by : Limits → Context → Place → Option Letters → Compilation → Compilation
switches_by limits context first None w = unit_ended limits context first true (found_alone (Some misplaced)) w
switches_by limits context first (Some letters) w = unit_ended limits context first true nothing_found (switched letters w)

-- Where the letters so far have the directive ignored, it is not looked at.
abbrev pub switches : Limits → Context → Place → List Name → Compilation → Compilation
switches limits context first [] w = passed true w
switches limits context first (name ∷ names) w =
    if ignores w.letters then unit_ended limits context first true nothing_found w
    else switches_by limits context first (letters_behind (has_code w.output.code) name.bytes w.letters) w

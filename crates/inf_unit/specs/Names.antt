-- The names of a source, and the routine with which its story begins.
use Rattle.std.specs.Prelude.{ℕ, List, [], ◌∷◌, codes, false, Option, Some, None}
use Rattle.inf_scanner.specs.declared.tokens.Place.{Place}
use Rattle.inf_names.specs.{declared.meanings.Meaning.Meaning, declared.symbols.Found.Found}
use Rattle.inf_names.specs.Symbols.{Table, Named, Standing, IsDeclared, IsUsed, no_names, found_in}
use Rattle.inf_report.specs.Messages.{Undeclared}
use Rattle.inf_unit.specs.Messages.{FileNames, Reported, location, with_error}

-- the table that has no names
abbrev pub no_symbols : Table Place
no_symbols = no_names false

-- Name of the routine with which a story begins.
abbrev pub main_name : List ℕ
main_name = codes "main"

abbrev pub routine_of : Meaning → Option ℕ
routine_of (Meaning.Routine place) = Some place
routine_of _ = None

abbrev pub routine_in : Found Place → Option ℕ
routine_in (Found.Declared m place) = routine_of m
routine_in _ = None

-- Place of the routine with which a story begins.
abbrev pub main_of : Table Place → Option ℕ
main_of names = routine_in (found_in main_name names)

-- Each name that was used and never declared is an error where it was first used.
abbrev pub with_undeclared : FileNames → Standing Place → Reported → Reported
with_undeclared files (IsDeclared number m place) r = r
with_undeclared files (IsUsed spelling place) r = with_error (location files place) (location files place) (Undeclared spelling) r

abbrev pub with_all_undeclared : FileNames → List (Named Place) → Reported → Reported
with_all_undeclared files [] r = r
with_all_undeclared files (n ∷ names) r = with_all_undeclared files names (with_undeclared files n.standing r)

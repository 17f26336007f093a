-- The error that is told of the header of a routine: of all that the rules find the first, by its token and then by the number of its error.
use Rattle.std.specs.Prelude.{◌≡◌, ◌+◌, ◌<◌, ◌⊎◌, ℕ, List, [], ◌∷◌, ◌++◌, find, Contains, nat_lt, if◌then◌else◌, false, Option, Some}
use Rattle.std.specs.Prelude.{None, is_some}
use Rattle.std.specs.Str.{str_eq_ignore_ascii_case}
use Rattle.inf_settings.specs.Bounds.{Limits}
use Rattle.inf_scanner.specs.declared.tokens.Place.{Place}
use Rattle.inf_syntax.specs.declared.actions.Action.{Action}
use Rattle.inf_names.specs.{Locals.no_locals, Locals.with_locals, Spellings.Name, Symbols.Table, Symbols.found_in}
use Rattle.inf_names.specs.{declared.symbols.Found.Found as FoundName}
use Rattle.inf_report.specs.{Messages.Declared, Messages.SystemName, Messages.TooMany, declared.messages.FixedLimit.FixedLimit}
use Rattle.inf_expressions.specs.{Findings.error_number, declared.findings.UnitError.UnitError}
use Rattle.inf_output.specs.Output.{full}
use Rattle.inf_unit.specs.Messages.{FileNames, Diagnostic, Reported, location, with_fault, with_full}
use Rattle.inf_unit.specs.Units.{first_place, names_in}
use Rattle.inf_compilation.specs.{Actions.Compilation, Actions.is_to_be_replaced, Context.Context}
use Rattle.inf_reader.specs.Acting.{act}

-- The finding of a rule: the token of the unit at which it is, where the unit's first token is 0; the error; and the message at its
-- place.
pub record Finding : Type 0 where
  pub token : ℕ
  pub error : UnitError
  pub blame : Diagnostic

-- one finding before another: by token, then by the number of the error
abbrev pub IsBefore : Finding → Finding → Type 0
IsBefore f g = (f.token < g.token) ⊎ ((f.token ≡ g.token) × (error_number f.error < error_number g.error))

-- The finding `f` is one of `all`, none of these comes before it, and each other one comes behind it.
pub record IsLeast (f : Finding) (all : List Finding) : Type 0 where
  pub is_there : Contains all f
  pub none_before : (g : Finding) → Contains all g → IsBefore g f → ⊥
  pub others_behind : (g : Finding) → Contains all g → (g ≡ f) ⊎ IsBefore f g

-- Nothing is told where nothing was found, and else the least finding.
abbrev pub IsTold : Option Diagnostic → List Finding → Type 0
IsTold None all = all ≡ []
IsTold (Some b) all = (f : Finding) × (f.blame ≡ b) × IsLeast f all

-- Definitions of a header

-- the finding of a local that is an earlier name of the header, too
abbrev pub repeated_local : FileNames → Name → ℕ → Name → Finding
repeated_local files first token n = record {
  token = token;
  error = UnitError.Declared;
  blame = record { place = n.place; message = Declared n.bytes (location files first.place) };
}

-- the first of some names that is this name, in any case
abbrev pub first_named : List ℕ → List Name → Option Name
first_named name names = find (λ n. str_eq_ignore_ascii_case n.bytes name) names

abbrev pub repeated_one : FileNames → Option Name → ℕ → Name → List Finding
repeated_one files None token n = []
repeated_one files (Some first) token n = repeated_local files first token n ∷ []

abbrev pub repeated_locals : FileNames → List Name → ℕ → List Name → List Finding
repeated_locals files before token [] = []
repeated_locals files before token (n ∷ names) =
    repeated_one files (first_named n.bytes before) token n ++ repeated_locals files (before ++ n ∷ []) (token + 1) names

-- the number of different names that are added to those before
abbrev pub different : List Name → List Name → ℕ
different before [] = 0
different before (n ∷ names) =
    (if is_some (first_named n.bytes before) then 0 else 1) + different (before ++ n ∷ []) names

-- the finding of more than 15 different locals, which is told at the bracket
abbrev pub too_many_locals : Place → Finding
too_many_locals unit = record { token = 0; error = UnitError.TooMany; blame = record { place = unit; message = TooMany FixedLimit.Locals } }

abbrev pub many_locals : Place → List Name → List Finding
many_locals unit locals = if nat_lt 15 (different [] locals) then too_many_locals unit ∷ [] else []

-- the finding of a routine's name, behind the bracket, that was declared before, at a place
abbrev pub declared_before : FileNames → Place → Name → Finding
declared_before files first name = record {
  token = 1;
  error = UnitError.Declared;
  blame = record { place = name.place; message = Declared name.bytes (location files first) };
}

-- the finding of a routine's name that is a system name, which the language itself declares
abbrev pub system_routine : Name → Finding
system_routine name =
    record { token = 1; error = UnitError.Declared; blame = record { place = name.place; message = SystemName name.bytes } }

-- The findings by the meaning of the name before its header. A new name that would be one too many is no finding.
abbrev pub taken_as : FileNames → FoundName Place → Name → List Finding
taken_as files (FoundName.System meaning) name = system_routine name ∷ []
taken_as files (FoundName.Declared meaning first) name = declared_before files first name ∷ []
taken_as files FoundName.Used name = []
taken_as files FoundName.Unknown name = []

abbrev pub taken_name : FileNames → Table Place → Name → List Finding
taken_name files names name = taken_as files (found_in name.bytes names) name

abbrev pub header_findings : FileNames → Place → Table Place → Name → List Name → List Finding
header_findings files unit names name locals =
    taken_name files names name ++ (repeated_locals files [] 2 locals ++ many_locals unit locals)

-- The report behind the end of a unit that begins at a place: what is told of it, and then the first limit that was passed.
abbrev pub told_behind : Limits → Context → Place → Option Diagnostic → Reported → Compilation → Reported
told_behind limits context first told before after =
    with_full context.names first (full limits after.output) (with_fault context.names first told before)

-- The end of a header, of which the least finding is told.
pub record HeaderTells (limits : Limits) (context : Context) (place : Place) (all : List Finding) (w : Compilation) : Type 0 where
  pub told : Option Diagnostic
  pub is_told : IsTold told all
  pub report : (act limits context place Action.EndLocals w).report
      ≡ told_behind limits context (first_place w.unit.tokens place) told w.report (act limits context place Action.EndLocals w)

-- Of every header with a name, whose routine is not to be replaced and for whose locals names were noted, the end tells the least finding.
abbrev pub HeadersTellTheFirst : Limits → Type 0
HeadersTellTheFirst limits = (context : Context) (place : Place) (name : Name) (others locals : List Name) (w : Compilation)
    → names_in w.unit.tokens ≡ name ∷ others → w.unit.headed ≡ with_locals locals no_locals → is_to_be_replaced name w ≡ false
    → HeaderTells limits context place (header_findings context.names (first_place w.unit.tokens place) w.output.names name locals) w

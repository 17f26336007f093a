-- The warnings about the locals of a routine, by the names in its statements. Designer's Manual, fourth edition, section 1.4.
use Rattle.std.specs.{List.list_all, List.list_any, Str.str_eq_ignore_ascii_case}
use Rattle.std.specs.Prelude.{◌≡◌, ℕ, List, [], ◌∷◌, filter, Bool, true, false, not, ◌&&◌, if◌then◌else◌, drop, Option, Some, None}
use Rattle.inf_settings.specs.Bounds.{Limits}
use Rattle.inf_scanner.specs.declared.tokens.Place.{Place}
use Rattle.inf_report.specs.Messages.{UnusedLocal}
use Rattle.inf_names.specs.{Locals.Local, Locals.no_locals, Spellings.Name}
use Rattle.inf_code.specs.Code.{fault_closed}
use Rattle.inf_output.specs.Output.{full}
use Rattle.inf_syntax.specs.declared.actions.Action.{Action}
use Rattle.inf_unit.specs.{Crowds.Crowd, Messages.Reported, Messages.location, Messages.with_full, Messages.with_warning, Roles.ends_outer}
use Rattle.inf_unit.specs.{Roles.ends_token, Roles.ends_value, Roles.role_of, Units.Unit as UnitAtHand, Units.is_full}
use Rattle.inf_unit.specs.{declared.roles.Ending.Ending, declared.roles.Note.Note, declared.roles.Role.Role}
use Rattle.inf_compilation.specs.{Context.Context, Crowds.crowd_opened, Crowds.crowd_told}
use Rattle.inf_compilation.specs.Actions.{Compilation, cases_ended, kind_ended, with_routine_fault}
use Rattle.inf_parts.specs.{Parts.case_prepared, Parts.part_prepared, Parts.statement_at, declared.parts.Part.Part}
use Rattle.inf_reader.specs.Acting.{act, is_crowded, noted_of}
use Rattle.inf_statement_laws.specs.{Happenings.Acts, Happenings.Happening, Happenings.Takes, Laid.happens, Laid.run, Readings.Seen}
use Rattle.inf_language.specs.{HeaderNames.local_events, Headers.AreNames, NamedLocals.leaves_names, NamedLocals.unit_names}
use Rattle.inf_language.specs.{Texts.happenings_before, Texts.tokens_of}

-- Definitions of the names of units

-- the names of a unit: those of its expressions, and those in which it stores
abbrev pub names_of : UnitAtHand → List Name
names_of u = unit_names u.tokens u.gathering.leaves u.items

-- the unit of a routine that ends, if one does
abbrev pub part_of : Ending → Compilation → Option Part
part_of Ending.Statement w = Some (Part.Statement (statement_at w))
part_of Ending.Condition w = Some Part.Condition
part_of Ending.Start w = Some Part.Start
part_of Ending.Step w = Some Part.Step
part_of Ending.Loop w = Some Part.Loop
part_of Ending.Switched w = Some Part.Switched
part_of Ending.Case w = Some Part.Case
part_of _ w = None

-- The names of a unit that ends. In a routine that is passed over no unit names anything.
abbrev pub part_names : Limits → Compilation → Option Part → List Name
part_names limits w None = []
part_names limits w (Some p) = if w.is_replaced then [] else names_of (case_prepared limits p (part_prepared w)).unit

-- the names of the value at hand of a unit that has too many
abbrev pub value_names_by : Option Crowd → UnitAtHand → List Name
value_names_by None u = []
value_names_by (Some c) u = leaves_names u.tokens (drop c.extent.leaves u.gathering.leaves)

abbrev pub value_names : UnitAtHand → List Name
value_names u = value_names_by u.crowd u

-- The names of operands that are not kept, since an instruction has fewer, and of a value that is judged by itself, since its unit has too
-- many.
abbrev pub noted_names : Limits → Context → Note → Compilation → List Name
noted_names limits context n w =
    if ends_outer n && is_full w.unit then leaves_names w.unit.tokens w.unit.gathering.leaves
    else if ends_value n && is_crowded limits w then value_names (crowd_told context (crowd_opened (noted_of context n w))).unit
    else []

abbrev pub played_names : Limits → Context → Role → Compilation → List Name
played_names limits context (Role.Note n) w = noted_names limits context n w
played_names limits context (Role.End e) w = part_names limits w (part_of e w)
played_names limits context _ w = []

-- the names of a happening: those of the unit that ends with it, if one does
abbrev pub happening_names : Limits → Context → Happening → Compilation → List Name
happening_names limits context (Acts at a) w = played_names limits context (role_of a) w
happening_names limits context (Takes t m) w = []

-- the names of some happenings, one by one
abbrev pub names_in : Limits → Context → List Happening → Compilation → List (List Name)
names_in limits context [] w = []
names_in limits context (h ∷ happenings) w =
    happening_names limits context h w ∷ names_in limits context happenings (happens limits context h w)

-- Tells whether an action acts within a routine: it gathers, notes something of a unit, ends a unit of a routine, or is one of a statement
-- that holds others.
abbrev pub ends_part : Ending → Bool
ends_part Ending.Statement = true
ends_part Ending.Condition = true
ends_part Ending.Start = true
ends_part Ending.Step = true
ends_part Ending.Loop = true
ends_part Ending.Switched = true
ends_part Ending.Case = true
ends_part _ = false

abbrev pub is_inner : Role → Bool
is_inner (Role.Note n) = not (ends_token n)
is_inner (Role.End e) = ends_part e
is_inner _ = true

abbrev pub AreInner : List Happening → Type 0
AreInner [] = Unit {0}
AreInner (Acts at a ∷ happenings) = (is_inner (role_of a) ≡ true) × AreInner happenings
AreInner (Takes t m ∷ happenings) = AreInner happenings

-- Definitions of locals

-- whether some local has a name, in any case
abbrev pub is_local : List ℕ → List Local → Bool
is_local name locals = list_any (λ l. str_eq_ignore_ascii_case l.name name) locals

-- no two locals have the same name, in any case
abbrev pub AreDifferent : List Local → Type 0
AreDifferent [] = Unit {0}
AreDifferent (l ∷ locals) = (is_local l.name locals ≡ false) × AreDifferent locals

abbrev pub AreUnnamed : List Local → Type 0
AreUnnamed locals = list_all (λ l. not l.is_named) locals ≡ true

-- Locals with different names, none of which was named yet.
pub record AreNew (locals : List Local) : Type 0 where
  pub different : AreDifferent locals
  pub unnamed : AreUnnamed locals

-- whether some name of a unit is this one, in any case
abbrev pub is_named_by : List ℕ → List Name → Bool
is_named_by name names = list_any (λ n. str_eq_ignore_ascii_case name n.bytes) names

abbrev pub is_named_in : List ℕ → List (List Name) → Bool
is_named_in name units = list_any (λ names. is_named_by name names) units

-- the locals that no name of some units is, in any case, in order
abbrev pub unused : List (List Name) → List Local → List Local
unused units locals = filter (λ l. not (is_named_in l.name units)) locals

-- the report with a warning for each local
abbrev pub with_warnings : Context → Place → List Local → Reported → Reported
with_warnings context place [] r = r
with_warnings context place (l ∷ locals) r =
    with_warnings context place locals (with_warning (location context.names place) (UnusedLocal l.name) r)

-- Definitions of laws

-- The report behind the end of a routine at a place, where `locals` are not used: the error of its labels and offsets, then a warning about
-- each of these locals, and then the first limit that was passed.
abbrev pub routine_told : Limits → Context → Place → List Local → Compilation → Reported
routine_told limits context place locals w =
    let ended = cases_ended limits w in
    let fault = fault_closed limits (kind_ended ended.is_embedded) ended.output.code in
    with_full context.names place (full limits (act limits context place Action.EndRoutine w).output)
    (with_warnings context place locals (with_routine_fault context place ended.labels fault ended.report))

-- Where the locals of a routine are new, and units of it are read up to its end, the warnings are those about the locals that no name of
-- any unit is.
abbrev pub UnusedAreWarned : Limits → Type 0
UnusedAreWarned limits = (context : Context) (place : Place) (happenings : List Happening) (w : Compilation) → AreNew w.locals
    → AreInner happenings → (run limits context happenings w).is_replaced ≡ false
    → (act limits context place Action.EndRoutine (run limits context happenings w)).report
    ≡ routine_told limits context place (unused (names_in limits context happenings w) w.locals) (run limits context happenings w)

-- The locals of every header of a routine are new behind it, where those before it were, as between two pieces, where there are none.
abbrev pub HeadersMakeNew : Limits → Type 0
HeadersMakeNew limits = (context : Context) (place : Place) (names : List Seen) (w : Compilation) → AreNames (tokens_of names)
    → w.unit.is_over ≡ false → w.unit.headed ≡ no_locals → AreNew w.locals
    → AreNew (act limits context place Action.EndLocals (run limits context (happenings_before place (local_events names) names) w)).locals

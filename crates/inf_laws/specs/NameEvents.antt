-- The findings of look-ups of names, by the declarations and uses of a source in their order.
use Rattle.std.specs.{List.list_any, Str.str_eq_ignore_ascii_case}
use Rattle.std.specs.Prelude.{◌≡◌, ◌≤◌, ℕ, List, [], ◌∷◌, ◌++◌, length, Bool, true, false, ◌||◌, if◌then◌else◌, Option, Some, None, is_some}
use Rattle.std.specs.Prelude.{⊤}
use Rattle.inf_settings.specs.{Bounds.Limits, declared.setting.Setting.Setting}
use Rattle.inf_scanner.specs.declared.tokens.Place.{Place}
use Rattle.inf_names.specs.{Spellings.Name, SystemNames.system_meaning, declared.meanings.Meaning.Meaning}
use Rattle.inf_names.specs.{declared.symbols.DeclareFault.DeclareFault, declared.symbols.Found.Found}
use Rattle.inf_names.specs.Symbols.{Table, declare_fault, found_in, no_names, refer_fault, with_declared, with_used}
use Rattle.inf_report.specs.Messages.{Undeclared}
use Rattle.inf_unit.specs.{Messages.FileNames, Messages.Reported, Messages.location, Messages.with_error, Names.with_all_undeclared}
use Rattle.inf_output.specs.Output.{Out, declared}
use Rattle.inf_operands.specs.Operands.{settled_by}

-- a name is declared with a meaning, or used as it is spelled, at a place
pub data Event : Type 0 where
  Declares : (name : List ℕ) (stands_for : Meaning) (place : Place) → Event
  Uses : (name : List ℕ) (place : Place) → Event

-- The names after an event, which changes nothing where the names refuse it.
abbrev pub with_event : Limits → Event → Table Place → Table Place
with_event limits (Declares name m place) t = if is_some (declare_fault limits name t) then t else with_declared name place m t
with_event limits (Uses name place) t = if is_some (refer_fault limits name t) then t else with_used name place t

abbrev pub with_events : Limits → List Event → Table Place → Table Place
with_events limits [] t = t
with_events limits (e ∷ events) t = with_events limits events (with_event limits e t)

-- whether a name is not declared for want of room
abbrev pub is_full_fault : Option (DeclareFault Place) → Bool
is_full_fault (Some DeclareFault.Full) = true
is_full_fault _ = false

-- whether the name of an event is one more than there may be, which ends a compilation
abbrev pub is_too_many : Limits → Event → Table Place → Bool
is_too_many limits (Declares name m place) t = is_full_fault (declare_fault limits name t)
is_too_many limits (Uses name place) t = is_some (refer_fault limits name t)

-- None of the events has a name too many.
abbrev pub HaveRoom : Limits → List Event → Table Place → Type 0
HaveRoom limits [] t = ⊤
HaveRoom limits (e ∷ events) t = (is_too_many limits e t ≡ false) × HaveRoom limits events (with_event limits e t)

-- There is room where there may be as many names as there are events.
abbrev pub FewHaveRoom : Limits → Type 0
FewHaveRoom limits =
    (debugging : Bool) (events : List Event) → length events ≤ limits Setting.Symbols → HaveRoom limits events (no_names debugging)

-- The declaration of a name is an event: of a routine with its place, by its header, or of a constant with its number. An operand
-- that is no local is an event, too: a use.
abbrev pub UnitsDeclare : Limits → Type 0
UnitsDeclare limits = (n : Name) (stands_for : Meaning) (o : Out)
    → (declared limits n.bytes n.place stands_for o).names ≡ with_event limits (Declares n.bytes stands_for n.place) o.names

abbrev pub OperandsUse : Limits → Type 0
OperandsUse limits =
    (n : Name) (o : Out) → (settled_by limits None n.bytes n.place o).0.names ≡ with_event limits (Uses n.bytes n.place) o.names

-- The first declaration of a name counts

-- the meaning that the first declaration of a name, in any case, gives it, and the place of this declaration
abbrev pub first_declaration : List ℕ → List Event → Option (Meaning × Place)
first_declaration name [] = None
first_declaration name (Declares other m place ∷ events) =
    if str_eq_ignore_ascii_case name other then Some (m, place) else first_declaration name events
first_declaration name (Uses other place ∷ events) = first_declaration name events

-- whether an event declares a name, in any case
abbrev pub declares : List ℕ → Event → Bool
declares name (Declares other m place) = str_eq_ignore_ascii_case name other
declares name (Uses other place) = false

-- whether an event uses a name, in any case
abbrev pub uses : List ℕ → Event → Bool
uses name (Declares other m place) = false
uses name (Uses other place) = str_eq_ignore_ascii_case name other

-- The finding for a name: first the meaning that the language gives it, then its first declaration; and else whether it was used.
abbrev pub stands_for : Option Meaning → Option (Meaning × Place) → Bool → Found Place
stands_for (Some m) first is_used = Found.System m
stands_for None (Some first) is_used = Found.Declared first.0 first.1
stands_for None None is_used = if is_used then Found.Used else Found.Unknown

abbrev pub FirstDeclarationsCount : Limits → Type 0
FirstDeclarationsCount limits = (debugging : Bool) (events : List Event) (name : List ℕ)
    → HaveRoom limits events (no_names debugging)
    → found_in name (with_events limits events (no_names debugging))
    ≡ stands_for (system_meaning debugging name) (first_declaration name events) (list_any (uses name) events)

-- Each undeclared name is told once

-- a name as it is spelled at a place
pub record Use : Type 0 where
  pub name : List ℕ
  pub place : Place

-- The use that an event is, where the language does not have its name, it is the first use of its name, and no event at all
-- declares this name.
abbrev pub undeclared_use : Bool → List Event → List Event → Event → List Use
undeclared_use debugging all before (Declares name m place) = []
undeclared_use debugging all before (Uses name place) =
    if is_some (system_meaning debugging name) then [] else
    if list_any (declares name) all || list_any (uses name) before then [] else record { name = name; place = place } ∷ []

abbrev pub undeclared_uses : Bool → List Event → List Event → List Event → List Use
undeclared_uses debugging all before [] = []
undeclared_uses debugging all before (e ∷ events) =
    undeclared_use debugging all before e ++ undeclared_uses debugging all (before ++ e ∷ []) events

-- all such uses, in order
abbrev pub undeclared : Bool → List Event → List Use
undeclared debugging events = undeclared_uses debugging events [] events

-- the messages with an error for each use
abbrev pub with_uses_told : FileNames → List Use → Reported → Reported
with_uses_told files [] r = r
with_uses_told files (u ∷ uses) r =
    with_uses_told files uses (with_error (location files u.place) (location files u.place) (Undeclared u.name) r)

abbrev pub UndeclaredAreTold : Limits → Type 0
UndeclaredAreTold limits = (files : FileNames) (debugging : Bool) (events : List Event) (r : Reported)
    → HaveRoom limits events (no_names debugging)
    → with_all_undeclared files (with_events limits events (no_names debugging)).names r ≡ with_uses_told files
    (undeclared debugging events)
    r

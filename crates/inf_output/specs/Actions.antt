-- Actions, as a source names them. Designer's Manual, fourth edition, section 6.
use Rattle.std.specs.Prelude.{ℕ, ◌+◌, ◌%◌, List, ◌++◌, codes, length, Option, Some, None}
use Rattle.inf_settings.specs.{Bounds.Limits, Bounds.unbounded, declared.setting.Setting.Setting}
use Rattle.inf_scanner.specs.declared.tokens.Place.{Place}
use Rattle.inf_names.specs.{declared.meanings.Meaning.Meaning, declared.symbols.DeclareFault.DeclareFault, declared.symbols.Found.Found}
use Rattle.inf_names.specs.Symbols.{declare_fault, found_in, with_declared}
use Rattle.inf_output.specs.Output.{Code, Out, declared, passed_table, referred, referred_as}
use Rattle.inf_verbs.specs.declared.routines.ActionFault.{ActionFault}
use Rattle.inf_verbs.specs.Routines.{AllActions, action_fault, number_of, with_action, with_fake}

-- Definitions of keys

-- Key of an action among names: two signs stand before its own name, so it is the key of no other name.
abbrev pub key_of : List ℕ → List ℕ
key_of name = codes "##" ++ name

-- Name of the routine of an action.
abbrev pub routine_name : List ℕ → List ℕ
routine_name name = name ++ codes "Sub"

-- Definitions of numbers

-- Number that a key stands for: a fake action is declared under its key among the names of the source, and any other that appeared
-- among those that did.
abbrev pub number_of_meaning : Meaning → Option ℕ
number_of_meaning (Meaning.FakeAction number) = Some number
number_of_meaning _ = None

abbrev pub number_in : Found Place → Option ℕ
number_in (Found.Declared m first) = number_of_meaning m
number_in _ = None

abbrev pub fake_number : List ℕ → Out → Option ℕ
fake_number key o = number_in (found_in key o.names)

abbrev pub number_by : Option ℕ → Option ℕ → Option ℕ
number_by (Some fake) seen = Some fake
number_by None seen = seen

abbrev pub action_number : List ℕ → Out → Option ℕ
action_number name o = number_by (fake_number (key_of name) o) (number_in (found_in (key_of name) o.seen))

-- Definitions of the places where an action appears that is no fake one

-- An action that appears for the first time is declared under its key with the number of the actions that appeared before, as a word.
abbrev pub next_seen : Out → ℕ
next_seen o = length o.seen.names % 65536

abbrev pub seen_by : Option (DeclareFault Place) → List ℕ → Place → Code
seen_by None key place o = record o { seen = with_declared key place (Meaning.FakeAction (next_seen o)) o.seen }
seen_by (Some fault) key place o = o

abbrev pub appeared : List ℕ → Place → Code
appeared key place o = seen_by (declare_fault unbounded key o.seen) key place o

-- The number of an action is that of its routine among the routines of actions; where there would be one too many the limit is passed.
abbrev pub with_actions : AllActions → Code
with_actions actions o = record o { tables = record o.tables { actions = actions } }

abbrev pub numbered_by : Limits → Option ActionFault → ℕ → Out → Out × ℕ
numbered_by limits None routine o = (with_actions (with_action routine o.tables.actions) o, number_of routine o.tables.actions.routines)
numbered_by limits (Some fault) routine o = (passed_table limits Setting.Actions o, 0)

abbrev pub numbered : Limits → ℕ → Out → Out × ℕ
numbered limits routine o = numbered_by limits (action_fault limits routine o.tables.actions) routine o

-- The routine of an action is used where the action appears; its number is that among the names.
abbrev pub routine_of : Option (Found Place × Option ℕ) → Option ℕ
routine_of None = None
routine_of (Some f) = f.1

abbrev pub numbered_as : Limits → Option ℕ → Out → Out × ℕ
numbered_as limits None o = (o, 0)
numbered_as limits (Some routine) o = numbered limits routine o

abbrev pub routine_referred : Limits → List ℕ → Place → Out → Out × Option ℕ
routine_referred limits routine place o = (referred limits routine place o, routine_of (referred_as limits routine o))

abbrev pub numbered_with : Limits → Out × Option ℕ → Out × ℕ
numbered_with limits r = numbered_as limits r.1 r.0

abbrev pub routine_used : Limits → List ℕ → Place → Out → Out × ℕ
routine_used limits routine place o = numbered_with limits (routine_referred limits routine place o)

abbrev pub action_by : Limits → Option ℕ → List ℕ → Place → Out → Out × ℕ
action_by limits (Some fake) name place o = (o, fake)
action_by limits None name place o = routine_used limits (routine_name name) place (appeared (key_of name) place o)

abbrev pub action_of : Limits → List ℕ → Place → Out → Out × ℕ
action_of limits name place o = action_by limits (fake_number (key_of name) o) name place o

-- Definitions of fake actions

-- First place of an action, as a fake one or not.
abbrev pub place_in : Found Place → Option Place
place_in (Found.Declared m first) = Some first
place_in _ = None

abbrev pub first_by : Option Place → Option Place → Option Place
first_by (Some fake) seen = Some fake
first_by None seen = seen

abbrev pub first_seen : List ℕ → Out → Option Place
first_seen key o = first_by (place_in (found_in key o.names)) (place_in (found_in key o.seen))

-- A name that is no action yet is declared as a fake action, with the next number of those.
abbrev pub next_fake : Out → ℕ
next_fake o = (4096 + o.tables.actions.fakes) % 65536

abbrev pub one_fake : Code
one_fake o = with_actions (with_fake o.tables.actions) o

abbrev pub faked_by : Limits → Option Place → List ℕ → Place → Out → Out × Option (DeclareFault Place)
faked_by limits (Some first) key place o = (o, Some (DeclareFault.Present (Some first)))
faked_by limits None key place o =
    (declared limits key place (Meaning.FakeAction (next_fake o)) (one_fake o), declare_fault limits key o.names)

abbrev pub faked : Limits → List ℕ → Place → Out → Out × Option (DeclareFault Place)
faked limits name place o = faked_by limits (first_seen (key_of name) o) (key_of name) place o

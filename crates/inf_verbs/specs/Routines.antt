-- Routines that a grammar names, in the order in which they first came; each is known by its number among the names of the source.
use Rattle.std.specs.Prelude.{ℕ, ◌+◌, ◌%◌, List, [], ◌∷◌, Option, Some, None, Bool, not, ◌&&◌, length, nat_eq, nat_le, if◌then◌else◌}
use Rattle.std.specs.List.{list_any, position_or_len}
use Rattle.indexmap.specs.IndexSet.{insert_key}
use Rattle.inf_area.specs.{declared.cells.Cell.Cell, declared.targets.Target.Target}
use Rattle.inf_settings.specs.{Bounds.Limits, declared.setting.Setting.Setting}
use Rattle.inf_verbs.specs.declared.routines.ActionFault.{ActionFault}

-- Tells whether `routine` is among `routines`.
abbrev pub is_among : ℕ → List ℕ → Bool
is_among routine routines = list_any (nat_eq routine) routines

-- the routines with `routine` behind the others, unless it is among them
abbrev pub with_routine : ℕ → List ℕ → List ℕ
with_routine routine routines = insert_key nat_eq routines routine

-- the number that `routine` has once it is added: the number of routines before it
abbrev pub number_of : ℕ → List ℕ → ℕ
number_of routine routines = position_or_len (nat_eq routine) routines % 65536

-- the number of `routine`, where it is among `routines`
abbrev pub number_in : ℕ → List ℕ → Option ℕ
number_in routine routines = if is_among routine routines then Some (number_of routine routines) else None

-- the actions with routines, and the number of those that have none
pub record AllActions : Type 0 where
  pub routines : List ℕ
  pub fakes : ℕ

abbrev pub with_action : ℕ → AllActions → AllActions
with_action routine actions = record actions { routines = with_routine routine actions.routines }

abbrev pub with_fake : AllActions → AllActions
with_fake actions = record actions { fakes = (actions.fakes + 1) % 65536 }

-- the reason why an action cannot be added: it is new, and there are as many as there may be
abbrev pub action_fault : Limits → ℕ → AllActions → Option ActionFault
action_fault limits routine actions =
    if not (is_among routine actions.routines) && nat_le (limits Setting.Actions) (length actions.routines) then Some
    ActionFault.Full else None

-- Routines as they are written: a place for the address of each.
abbrev pub routines_cells : List ℕ → List Cell
routines_cells [] = []
routines_cells (routine ∷ routines) = Cell.Later (Target.Name routine) ∷ routines_cells routines

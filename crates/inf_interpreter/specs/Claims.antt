-- Claims about the code between two places, and what a machine does with items wherever they stand.
use Rattle.std.specs.Prelude.{◌≡◌, ℕ, Bool, true, List, [], ◌∷◌, ◌++◌, Option, Some, None}
use Rattle.inf_opcode.specs.declared.instructions.Label.{Label}
use Rattle.inf_output.specs.{Output.Code, Output.Out, Output.grown, declared.items.Item.Item}
use Rattle.inf_code.specs.Code.{Routines}
use Rattle.inf_interpreter.specs.Machine.{World, Store, State, Place, Stands, run}
use Rattle.inf_interpreter.specs.Supplied.{NamesStay, Supplies}

-- Which items were laid between two moments: they stand behind those that are kept apart, or, where none are, in the open routine, as
-- long as no limit is passed.
abbrev pub kept_behind : Option (List Item) → List Item → Option (List Item)
kept_behind None items = None
kept_behind (Some before) items = Some (before ++ items)

abbrev pub all_grown : List Item → Routines → Routines
all_grown [] code = code
all_grown (item ∷ items) code = all_grown items (grown item code)

abbrev pub code_behind : Option (List Item) → List Item → Routines → Routines
code_behind None items code = all_grown items code
code_behind (Some before) items code = code

pub record Laid (before : Out) (items : List Item) (now : Out) : Type 0 where
  pub kept : now.kept ≡ kept_behind before.kept items
  pub fits : now.past ≡ None → before.past ≡ None
  pub code : now.past ≡ None → now.code ≡ code_behind before.kept items before.code

-- However far the machine gets from the second place, it gets as far from the first one.
pub record Comes (w : World) (at : Label → Place) (from : Place) (s : State) (to : Place) (now : State) : Type 0 where
  pub steps : (k : ℕ) → (j : ℕ) × (run w at j from s ≡ run w at k to now)

-- A claim about the code between two places, by the places of the labels.
abbrev pub Claim : Type 1
Claim = (Label → Place) → Place → Place → Type 0

-- In a world that supplies the routines which the code calls, the claim holds of the items that are laid.
pub record Does (w : World) (c : Code) (P : Claim) (o : Out) : Type 0 where
  pub items : List Item
  pub laid : Laid o items (c o)
  pub names : NamesStay o (c o)
  pub runs : (at : Label → Place) (rest : Place) → Supplies w (c o) → Stands at items rest → P at (items ++ rest) rest

abbrev pub state : List ℕ → ℕ → Store → State
state stack temp store = record { stack = stack; temp = temp; store = store }

-- Variable 255, behind some code, has the value that it had before where the code keeps it, and else any value.
pub record Kept (keeps : Bool) (temp left : ℕ) : Type 0 where
  pub same : keeps ≡ true → left ≡ temp

-- The value of a unit, and the characters of its texts.
use Rattle.std.specs.Prelude.{List, [], ◌∷◌, map, Option, Some, None, Bool, true, false, ◌||◌}
use Rattle.inf_settings.specs.Bounds.{Limits}
use Rattle.inf_area.specs.declared.targets.Value.{Value}
use Rattle.inf_expressions.specs.{Questions.constant_of as constant_in, Trees.Tree, declared.units.Wanted.Wanted}
use Rattle.inf_constructs.specs.Roots.{tree_in}
use Rattle.inf_compilation.specs.{Actions.Compilation, Actions.operands_of, Actions.settled_of, Actions.trees_at, Context.Context}
use Rattle.inf_characters.specs.declared.texts.TextItem.{TextItem}

-- a value, or 0 in place of none
abbrev pub value_or : Option Value → Value
value_or None = Value.Known 0
value_or (Some v) = v

-- the value of the first tree, if it is a constant
abbrev pub value_in : List Tree → Value
value_in [] = Value.Known 0
value_in (t ∷ trees) = value_or (constant_in t)

-- the value of the unit's expression, where its names are used
abbrev pub value_of : Limits → Context → Compilation → Value
value_of limits context w = value_in (map tree_in (trees_at 0 Wanted.Constant (settled_of limits context w).operands w))

-- whether an item of a text is a string variable
abbrev pub is_variable : TextItem → Bool
is_variable (TextItem.Variable n) = true
is_variable (TextItem.Character z) = false

abbrev pub variables_from : List TextItem → Bool → Bool
variables_from [] found = found
variables_from (i ∷ items) found = variables_from items (found || is_variable i)

-- the value of the unit's expression, where its names are only looked up
abbrev pub looked_value : Compilation → Value
looked_value w = value_in (map tree_in (trees_at 0 Wanted.Constant (operands_of w) w))

-- The locals of a routine that a unit names: those that have the names of its expressions, and those in which it stores,
-- whatever it gathers.
use Rattle.std.specs.Prelude.{◌≡◌, ℕ, List, [], ◌∷◌, ◌++◌, unwrap_or}
use Rattle.inf_gathering.specs.declared.gathering.Leaf.{Leaf}
use Rattle.inf_names.specs.{Locals.Local, Locals.with_all_named, Spellings.Name}
use Rattle.inf_unit.specs.{Tokens.SourceToken, Units.bytes_at, Units.place_at, declared.items.Item.Item}
use Rattle.inf_operands.specs.Operands.{leaves_named, stores_named}
use Rattle.inf_compilation.specs.{Actions.Compilation, Actions.named, Words.nowhere}

-- the name at a place among the tokens of a unit
abbrev pub name_read : List SourceToken → ℕ → Name
name_read tokens at = record { bytes = bytes_at tokens at; place = unwrap_or (place_at tokens at) nowhere }

-- The names of a leaf: one, where it is a name, also where that is an operand of an assembly line by itself; otherwise
-- none.
abbrev pub leaf_names : List SourceToken → Leaf → List Name
leaf_names tokens (Leaf.Name at) = name_read tokens at ∷ []
leaf_names tokens (Leaf.Alone at) = name_read tokens at ∷ []
leaf_names tokens _ = []

-- the names of all leaves of a unit, in their order
abbrev pub leaves_names : List SourceToken → List Leaf → List Name
leaves_names tokens [] = []
leaves_names tokens (l ∷ leaves) = leaf_names tokens l ++ leaves_names tokens leaves

-- the names in which a unit stores
abbrev pub store_names : List SourceToken → Item → List Name
store_names tokens (Item.Store at) = name_read tokens at ∷ []
store_names tokens _ = []

abbrev pub stores_names : List SourceToken → List Item → List Name
stores_names tokens [] = []
stores_names tokens (i ∷ items) = store_names tokens i ++ stores_names tokens items

-- all names of a unit with these tokens, leaves and items
abbrev pub unit_names : List SourceToken → List Leaf → List Item → List Name
unit_names tokens leaves items = leaves_names tokens leaves ++ stores_names tokens items

-- The leaves and items of a unit, one by one, name the locals that the list of their names names; a unit changes nothing
-- but the locals, which are named by its names.
pub record UnitsNameTheirLocals : Type 0 where
  pub leaves : (tokens : List SourceToken) (leaves : List Leaf) (locals : List Local)
      → leaves_named tokens leaves locals ≡ with_all_named (leaves_names tokens leaves) locals
  pub stores : (tokens : List SourceToken) (items : List Item) (locals : List Local)
      → stores_named tokens items locals ≡ with_all_named (stores_names tokens items) locals
  pub units : (w : Compilation)
      → named w ≡ record w { locals = with_all_named (unit_names w.unit.tokens w.unit.gathering.leaves w.unit.items) w.locals }

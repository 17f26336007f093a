-- The attributes of an object: for each of the 48, in their order, whether it has it (Designer's Manual, fourth edition, section 3.4).
use Rattle.std.specs.Prelude.{ℕ, ◌+◌, List, [], ◌∷◌, Bool, false, ◌||◌, Option, Some, None, replicate, slice_index_or, if◌then◌else◌}
use Rattle.inf_area.specs.declared.cells.Cell.{Cell}

-- a function of each attribute and the entry at the same place in the other list
abbrev pub merged : {A : Type 0} → (Bool → A → Bool) → List Bool → List A → List Bool
merged f [] others = []
merged f (a ∷ attributes) [] = a ∷ attributes
merged f (a ∷ attributes) (b ∷ others) = f a b ∷ merged f attributes others

-- the attributes of two classes together
abbrev pub together : List Bool → List Bool → List Bool
together attributes others = merged (λ a b. a || b) attributes others

-- tells whether an object has an attribute: as its body said, or, where it said nothing, as its classes have it
abbrev pub said_or : Option Bool → Bool → Bool
said_or None above = above
said_or (Some given) above = given

abbrev pub attributes_by : List Bool → List (Option Bool) → List Bool
attributes_by above said = merged (λ a s. said_or s a) above said

-- no attribute, and a body that said nothing of any
unfoldable pub no_attributes : List Bool
no_attributes = replicate 48 false

unfoldable pub nothing_said : List (Option Bool)
nothing_said = replicate 48 None

-- The bytes of attributes: six, with attribute 0 as the top bit of the first (Z-Machine Standard 1.1, section 12.3.2).
abbrev pub weight : List Bool → ℕ → ℕ → ℕ
weight attributes place bit = if slice_index_or attributes place false then bit else 0

unfoldable pub flag_byte : List Bool → ℕ → ℕ
flag_byte attributes first =
    weight attributes first 128 + weight attributes (first + 1) 64 + weight attributes (first + 2) 32 + weight attributes (first + 3) 16
    + weight attributes (first + 4) 8 + weight attributes (first + 5) 4 + weight attributes (first + 6) 2 + weight attributes (first + 7) 1

unfoldable pub attribute_cells : List Bool → List Cell
attribute_cells attributes = Cell.Byte (flag_byte attributes 0) ∷ Cell.Byte (flag_byte attributes 8) ∷ Cell.Byte (flag_byte attributes 16)
    ∷ Cell.Byte (flag_byte attributes 24) ∷ Cell.Byte (flag_byte attributes 32) ∷ Cell.Byte (flag_byte attributes 40) ∷ []

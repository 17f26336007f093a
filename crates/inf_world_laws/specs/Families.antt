-- The tree that a story shows, by the parents of all objects in the order of their numbers.
use Rattle.std.specs.Prelude.{ℕ, ◌==◌, nat_lt, List, [], ◌∷◌, length, map, slice_index_or, if◌then◌else◌}
use Rattle.std.specs.List.{filter, range_with_len}
use Rattle.inf_world_laws.specs.Things.{Thing}

-- the first four objects have no parent
abbrev pub parents : List Thing → List ℕ
parents all = 0 ∷ 0 ∷ 0 ∷ 0 ∷ map (λ t. t.parent) all

abbrev pub parent_at : List ℕ → ℕ → ℕ
parent_at above number = slice_index_or (0 ∷ above) number 0

-- all objects that have the parent, in order
abbrev pub children : List ℕ → ℕ → List ℕ
children above number = filter (λ n. parent_at above n == number) (range_with_len 1 (length above))

abbrev pub first_number : List ℕ → ℕ
first_number [] = 0
first_number (n ∷ numbers) = n

abbrev pub child : List ℕ → ℕ → ℕ
child above number = first_number (children above number)

-- the next object behind one that has the same parent
abbrev pub sibling : List ℕ → ℕ → ℕ
sibling above number =
    if parent_at above number == 0 then 0 else first_number (filter (nat_lt number) (children above (parent_at above number)))

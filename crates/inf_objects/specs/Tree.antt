-- The tree of objects (Z-Machine Standard 1.1, section 12.3), given by the parents of all objects in the order of their numbers,
-- which count from 1; 0 is no parent.
use Rattle.std.specs.Prelude.{ℕ, zero, suc, ◌+◌, ◌-◌, ◌≤◌, List, [], ◌∷◌, ◌==◌, length, slice_index_or, slice_set, if◌then◌else◌}
use Rattle.inf_objects.specs.declared.tree.Link.{Link}

-- the numbers of the objects with this parent, in order, where the first object of the list has the given number
abbrev pub children_from : ℕ → ℕ → List ℕ → List ℕ
children_from number parent [] = []
children_from number parent (p ∷ parents) =
    if p == parent then number ∷ children_from (number + 1) parent parents else children_from (number + 1) parent parents

abbrev pub children_of : ℕ → List ℕ → List ℕ
children_of parent parents = children_from 1 parent parents

-- the first number of a list; 0 where it is empty
abbrev pub first_of : List ℕ → ℕ
first_of [] = 0
first_of (n ∷ numbers) = n

-- the number of the first child
abbrev pub child_of : ℕ → List ℕ → ℕ
child_of number parents = first_of (children_of number parents)

-- the first of the objects that follow that has this parent; 0 where there is none
abbrev pub next_below : ℕ → ℕ → List ℕ → ℕ
next_below parent number parents = if parent == 0 then 0 else first_of (children_from number parent parents)

-- the next object behind a number that has the same parent, where the first object of the list has the number `first`
abbrev pub sibling_from : ℕ → ℕ → List ℕ → ℕ
sibling_from number first [] = 0
sibling_from number first (p ∷ parents) =
    if number == first then next_below p (first + 1) parents else sibling_from number (first + 1) parents

abbrev pub sibling_of : ℕ → List ℕ → ℕ
sibling_of number parents = sibling_from number 1 parents

-- the links that a function gives for `count` numbers, from `first` on
abbrev pub each_from : ℕ → ℕ → (ℕ → Link) → List Link
each_from first zero f = []
each_from first (suc count) f = f first ∷ each_from (first + 1) count f

abbrev pub link_of : List ℕ → ℕ → Link
link_of parents number = record { sibling = sibling_of number parents; child = child_of number parents }

abbrev pub links_of : List ℕ → List Link
links_of parents = each_from 1 (length parents) (link_of parents)

-- tells whether no parent has a number above `most`
abbrev pub AreWithin : ℕ → List ℕ → Type 0
AreWithin most [] = Unit {0}
AreWithin most (p ∷ parents) = (p ≤ most) × AreWithin most parents

-- A single link, as an object is hung in front of others.
abbrev pub no_link : Link
no_link = record { sibling = 0; child = 0 }

abbrev pub link_at : List Link → ℕ → Link
link_at links place = slice_index_or links place no_link

abbrev pub with_sibling : ℕ → ℕ → List Link → List Link
with_sibling place sibling links = slice_set links place (record (link_at links place) { sibling = sibling })

abbrev pub with_child : ℕ → ℕ → List Link → List Link
with_child place child links = slice_set links place (record (link_at links place) { child = child })

-- the links where the object at a place becomes the first one below its parent
abbrev pub linked : ℕ → ℕ → List Link → List Link
linked place parent links =
    if parent == 0 then links else with_child (parent - 1) (place + 1) (with_sibling place (link_at links (parent - 1)).child links)

-- The objects that an interpreter finds below an object: its child, the sibling of that, and so on; at most `most`.
abbrev pub walked : ℕ → List Link → ℕ → List ℕ
walked zero links number = []
walked (suc most) links zero = []
walked (suc most) links (suc place) = suc place ∷ walked most links (link_at links place).sibling

-- tells whether each number is above the one before, and the first at least `least`
abbrev pub AreRisingFrom : ℕ → List ℕ → Type 0
AreRisingFrom least [] = Unit {0}
AreRisingFrom least (n ∷ numbers) = (least ≤ n) × AreRisingFrom (n + 1) numbers

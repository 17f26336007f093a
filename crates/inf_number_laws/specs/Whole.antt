-- Whole trees: a tree whose operators of known numbers are numbers means what the tree of all operators means.
use Rattle.std.specs.Prelude.{◌≡◌, ℕ, Some}
use Rattle.inf_expressions.specs.Trees.{Tree, Leaf, One, Two}
use Rattle.inf_expressions.specs.Folding.{built, folded, folded_single, function_of, joined, joined_single, known}
use Rattle.inf_interpreter.specs.Machine.{World}
use Rattle.inf_meaning_laws.specs.Values.{sense}
use Rattle.inf_number_laws.specs.Known.{AreAlike, HasDivisor, IsProper}

-- the tree of all operators, where a call of a function of the system is an operator, too
abbrev pub plain : Tree → Tree
plain (Leaf x) = Leaf x
plain (One op a) = One op (plain a)
plain (Two op a b) = built op (function_of (plain a)) (plain a) (plain b)

-- the tree with numbers in the place of operators of known numbers, from the leaves up
abbrev pub with_numbers : Tree → Tree
with_numbers (Leaf x) = Leaf x
with_numbers (One op a) = joined_single op (with_numbers a)
with_numbers (Two op a b) = joined op (with_numbers a) (with_numbers b)

-- Wherever a number takes the place of an operator, its operands are proper, and nothing is divided by 0.
abbrev pub IsSound : Tree → Type 0
IsSound (Leaf x) = Unit {0}
IsSound (One op a) =
    IsSound a × ((n : ℕ) → folded_single op (known (with_numbers a)) ≡ Some n → IsProper (with_numbers a))
IsSound (Two op a b) =
    IsSound a × IsSound b
    × ((n : ℕ) → folded op (with_numbers a) (with_numbers b) ≡ Some n →
    IsProper (with_numbers a) × IsProper (with_numbers b) × HasDivisor op (with_numbers b))

abbrev pub TreesKeep : Type 0
TreesKeep = (w : World) (t : Tree) → IsSound t → AreAlike (sense w (plain t)) (sense w (with_numbers t))

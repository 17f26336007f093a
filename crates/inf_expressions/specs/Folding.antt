-- The tree of an operator; where its operands are known numbers, the number that it gives.
use Rattle.std.specs.Prelude.{ℕ, ◌==◌, Bool, true, false, not, ◌&&◌, ◌||◌, Option, Some, None}
use Rattle.inf_expressions.specs.declared.{operators.Binary.Binary, operators.Function.Function, operators.Operand.Operand}
use Rattle.inf_expressions.specs.declared.{operators.Relative.Relative, operators.Single.Single, operators.Test.Test, operators.Unary.Unary}
use Rattle.inf_expressions.specs.Trees.{Tree, Leaf, One, Two}
use Rattle.inf_expressions.specs.Numbers.{computed, computed_single, holds, same, truth}

-- the number that a tree is, if it is one; a leaf that has no value counts as 0
abbrev pub known : Tree → Option ℕ
known (Leaf (Operand.Known n)) = Some n
known (Leaf (Operand.Function f)) = Some 0
known (Leaf Operand.Unknown) = Some 0
known _ = None

abbrev pub function_of : Tree → Option Function
function_of (Leaf (Operand.Function f)) = Some f
function_of _ = None

abbrev pub or_known : Option Bool → Option Bool → Option Bool
or_known (Some a) (Some b) = Some (a || b)
or_known _ _ = None

abbrev pub holds_known : Test → ℕ → Option ℕ → Option Bool
holds_known t n (Some m) = holds t n m
holds_known t n None = None

-- tells whether a test holds of a number and any of a list, or was found to hold of those before
abbrev pub any_holds : Option Bool → Test → ℕ → Tree → Option Bool
any_holds found t n (Two Binary.Then a others) = any_holds (or_known found (holds_known t n (known a))) t n others
any_holds found t n a = or_known found (holds_known t n (known a))

abbrev pub any_known : Test → Option ℕ → Tree → Option Bool
any_known t (Some n) list = any_holds (Some false) t n list
any_known t None list = None

abbrev pub sensed : Bool → Option Bool → Option ℕ
sensed sense (Some found) = Some (truth (same found sense))
sensed sense None = None

abbrev pub folded_two : Binary → Option ℕ → Option ℕ → Option ℕ
folded_two (Binary.Operation operation) (Some a) (Some b) = computed operation a b
folded_two Binary.And (Some a) (Some b) = Some (truth (not (a == 0) && not (b == 0)))
folded_two Binary.Or (Some a) (Some b) = Some (truth (not (a == 0) || not (b == 0)))
folded_two _ _ _ = None

-- the number that an operator gives of two trees, if it is known
abbrev pub folded : Binary → Tree → Tree → Option ℕ
folded (Binary.Test t) a b = sensed true (any_known t (known a) b)
folded (Binary.Fails t) a b = sensed false (any_known t (known a) b)
folded op a b = folded_two op (known a) (known b)

abbrev pub folded_single : Unary → Option ℕ → Option ℕ
folded_single op (Some a) = computed_single op a
folded_single op None = None

-- the operator that a call of a function of the system is
abbrev pub operator_of : Function → Unary
operator_of Function.Child = Unary.Relative Relative.Child
operator_of Function.Sibling = Unary.Relative Relative.Sibling
operator_of Function.Parent = Unary.Single Single.Parent
operator_of Function.Random = Unary.Single Single.Random
operator_of Function.Children = Unary.Children
operator_of Function.Indirect = Unary.Indirect

abbrev pub built : Binary → Option Function → Tree → Tree → Tree
built Binary.Call (Some f) a b = One (operator_of f) b
built op _ a b = Two op a b

abbrev pub number_or : Option ℕ → Tree → Tree
number_or (Some n) t = Leaf (Operand.Known n)
number_or None t = t

abbrev pub joined : Binary → Tree → Tree → Tree
joined op a b = number_or (folded op a b) (built op (function_of a) a b)

abbrev pub joined_single : Unary → Tree → Tree
joined_single op a = number_or (folded_single op (known a)) (One op a)

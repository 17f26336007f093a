-- The values of a condition's expressions, by their numbers: a known number is `Some`, a constant that is known later `None`. Each
-- operator is judged and computed by itself.
use Rattle.std.specs.Prelude.{ℕ, ◌==◌, List, [], ◌∷◌, map, Bool, true, false, not, Option, Some, None, option_map}
use Rattle.inf_expressions.specs.{Folding.or_known, Folding.sensed, Trees.Leaf, Units.judged, Units.trees_of}
use Rattle.inf_expressions.specs.declared.{findings.Finding.Finding, operators.Binary.Binary, operators.Operand.Operand}
use Rattle.inf_expressions.specs.declared.{operators.Test.Test, operators.Unary.Unary, symbols.Symbol.Symbol, units.Wanted.Wanted}
use Rattle.inf_conditionals.specs.Condition.{number_of, tree_in}

-- the symbols of an operator of one value, and of one of two
abbrev pub single_symbols : Unary → List Symbol
single_symbols op = Symbol.Leaf 0 0 0 ∷ Symbol.Suffix op ∷ []

abbrev pub two_symbols : Binary → List Symbol
two_symbols op = Symbol.Leaf 0 0 0 ∷ Symbol.Leaf 0 0 1 ∷ Symbol.Two op ∷ []

-- a number where nothing is found to be wrong
abbrev pub number_unless : Option Finding → Option ℕ → Option ℕ
number_unless None number = number
number_unless (Some f) number = None

-- the number of an expression with these operands, where it is known and nothing is wrong
abbrev pub number_by : List Operand → List Symbol → Option ℕ
number_by operands symbols =
    number_unless (judged Wanted.Value 0 operands symbols) (number_of (map tree_in (trees_of Wanted.Value 0 operands symbols)))

abbrev pub single_number : Unary → ℕ → Option ℕ
single_number op a = number_by (Operand.Known a ∷ []) (single_symbols op)

abbrev pub two_number : Binary → ℕ → ℕ → Option ℕ
two_number op a b = number_by (Operand.Known a ∷ Operand.Known b ∷ []) (two_symbols op)

-- the value of an operator of one value, and of one of two
abbrev pub single_value : Unary → Option ℕ → Option ℕ
single_value op (Some a) = single_number op a
single_value op None = None

abbrev pub two_value : Binary → Option ℕ → Option ℕ → Option ℕ
two_value op (Some a) (Some b) = two_number op a b
two_value op _ _ = None

-- Tells whether an operator makes a list of two trees.
abbrev pub is_then : Binary → Bool
is_then Binary.Then = true
is_then op = false

abbrev pub is_not_zero : ℕ → Bool
is_not_zero n = not (n == 0)

-- Tells whether a test holds of a number and a value, where this is known.
abbrev pub holds_by : Test → ℕ → Option ℕ → Option Bool
holds_by t a b = option_map is_not_zero (two_value (Binary.Test t) (Some a) b)

-- Tells whether a test holds of a number and any of some values, or was found to hold of those before.
abbrev pub any_of : Option Bool → Test → ℕ → List (Option ℕ) → Option Bool
any_of found t a [] = found
any_of found t a (b ∷ bs) = any_of (or_known found (holds_by t a b)) t a bs

-- the value of a test, or of one that has to fail where `sense` is false
abbrev pub tested : Bool → Test → Option ℕ → List (Option ℕ) → Option ℕ
tested sense t (Some a) bs = sensed sense (any_of (Some false) t a bs)
tested sense t None bs = None

-- Expressions as they are written, the order of their symbols, and the trees and findings to which they come: a law about the symbols.
use Rattle.std.specs.Prelude.{ℕ, zero, suc, List, [], ◌∷◌, ◌++◌, Option}
use Rattle.inf_expressions.specs.{Folding.joined, Folding.joined_single, Rooted.Rooted, Rooted.seen, Units.operand_at}
use Rattle.inf_expressions.specs.{declared.findings.Finding.Finding, declared.operators.Binary.Binary, declared.operators.Operand.Operand}
use Rattle.inf_expressions.specs.{declared.operators.Unary.Unary, declared.symbols.Symbol.Symbol}
use Rattle.inf_expressions.specs.Origins.{bracketed, followed, of_leaf, prefixed}
use Rattle.inf_expressions.specs.Judging.{call_finding, leaf_finding, two_finding, unary_finding}
use Rattle.inf_expressions.specs.Trees as tree

pub data Source : Type 0 where
  -- a leaf: its first token, the token at which its errors are reported, and its place among the operands
  Leaf : ℕ → ℕ → ℕ → Source
  Brackets : ℕ → Source → Source
  Prefix : ℕ → Unary → Source → Source
  Suffix : Unary → Source → Source
  Two : Binary → Source → Source → Source
  -- an expression, and the list of those that follow it
  Then : Source → Source → Source
  -- a call with a list of arguments
  Call : Source → Source → Source
  -- a call without arguments
  Alone : Source → Source

-- The symbols of an expression. Those of the members of a list follow one another; the symbol of the list comes where it is closed.
abbrev pub closed : List Symbol → ℕ → List Symbol
closed symbols zero = symbols
closed symbols (suc n) = symbols ++ Symbol.List (suc n) ∷ []

-- the symbols without that of the list, and the number of joints of the list
abbrev pub opened : Source → List Symbol × ℕ
opened (Leaf first token leaf) = (Symbol.Leaf first token leaf ∷ [], zero)
opened (Brackets order a) = (closed (opened a).0 (opened a).1 ++ Symbol.Bracketed order ∷ [], zero)
opened (Prefix order op a) = (closed (opened a).0 (opened a).1 ++ Symbol.Prefix order op ∷ [], zero)
opened (Suffix op a) = (closed (opened a).0 (opened a).1 ++ Symbol.Suffix op ∷ [], zero)
opened (Two op a b) = (closed (opened a).0 (opened a).1 ++ (closed (opened b).0 (opened b).1 ++ Symbol.Two op ∷ []), zero)
opened (Then a b) = (closed (opened a).0 (opened a).1 ++ (opened b).0, suc (opened b).1)
opened (Call f list) = (closed (opened f).0 (opened f).1 ++ ((opened list).0 ++ Symbol.Call (suc (opened list).1) ∷ []), zero)
opened (Alone f) = (closed (opened f).0 (opened f).1 ++ Symbol.Call zero ∷ [], zero)

abbrev pub postfix : Source → List Symbol
postfix a = closed (opened a).0 (opened a).1

abbrev pub postfixes : List Source → List Symbol
postfixes [] = []
postfixes (a ∷ sources) = postfix a ++ postfixes sources

-- The tree of an expression, and the tokens with which its text begins.
abbrev pub meant : List Operand → Source → Rooted
meant operands (Leaf first token leaf) =
    record { tree = tree.Leaf (operand_at operands leaf); origin = of_leaf first token (operand_at operands leaf) }
meant operands (Brackets order a) = record { tree = (meant operands a).tree; origin = bracketed order (meant operands a).origin }
meant operands (Prefix order op a) =
    record { tree = joined_single op (meant operands a).tree; origin = prefixed order (meant operands a).origin }
meant operands (Suffix op a) = record { tree = joined_single op (meant operands a).tree; origin = followed (meant operands a).origin }
meant operands (Two op a b) =
    record { tree = joined op (meant operands a).tree (meant operands b).tree; origin = followed (meant operands a).origin }
meant operands (Then a b) =
    record { tree = joined Binary.Then (meant operands a).tree (meant operands b).tree; origin = followed (meant operands a).origin }
meant operands (Call f list) =
    record { tree = joined Binary.Call (meant operands f).tree (meant operands list).tree; origin = followed (meant operands f).origin }
meant operands (Alone f) = record { tree = joined_single Unary.Call (meant operands f).tree; origin = followed (meant operands f).origin }

-- The least of the finding so far and of the findings in an expression, in a unit that begins at the order `unit`.
abbrev pub found_in : ℕ → List Operand → Source → Option Finding → Option Finding
found_in unit operands (Leaf first token leaf) found = leaf_finding (operand_at operands leaf) token found
found_in unit operands (Brackets order a) found = found_in unit operands a found
found_in unit operands (Prefix order op a) found = unary_finding op (seen (meant operands a)) (found_in unit operands a found)
found_in unit operands (Suffix op a) found = unary_finding op (seen (meant operands a)) (found_in unit operands a found)
found_in unit operands (Two op a b) found =
    two_finding op unit (seen (meant operands a)) (seen (meant operands b)) (found_in unit operands b (found_in unit operands a found))
found_in unit operands (Then a b) found =
    two_finding Binary.Then unit (seen (meant operands a)) (seen (meant operands b))
    (found_in unit operands b (found_in unit operands a found))
found_in unit operands (Call f list) found =
    call_finding unit (suc (opened list).1) (seen (meant operands f)) (seen (meant operands list))
    (found_in unit operands list (found_in unit operands f found))
found_in unit operands (Alone f) found = unary_finding Unary.Call (seen (meant operands f)) (found_in unit operands f found)

abbrev pub found_in_all : ℕ → List Operand → List Source → Option Finding → Option Finding
found_in_all unit operands [] found = found
found_in_all unit operands (a ∷ sources) found = found_in_all unit operands sources (found_in unit operands a found)

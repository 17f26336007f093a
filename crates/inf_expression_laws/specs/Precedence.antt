-- Expressions as they are written: the levels at which operators bind, without the rows of the grammar. Tokens are given by
-- their atoms. Designer's Manual, fourth edition, section 1.6, and the table of operators in its appendix.
use Rattle.std.specs.Prelude.{◌≡◌, ℕ, suc, ◌+◌, List, [], ◌∷◌, ◌++◌, length, codes, true, Option, Some, None}
use Rattle.inf_machine.specs.Grammar.{has}
use Rattle.inf_scanner.specs.declared.tokens.Mark.{Mark}
use Rattle.inf_syntax.specs.Atoms.{char, joined, number, of_mark, of_word, text, word_literal}
use Rattle.inf_syntax.specs.Classes.{operand as operand_names}
use Rattle.inf_expressions.specs.{declared.operators.Binary.Binary, declared.operators.Direction.Direction}
use Rattle.inf_expressions.specs.{declared.operators.Operation.Operation, declared.operators.PropertyPart.PropertyPart}
use Rattle.inf_expressions.specs.{declared.operators.Single.Single, declared.operators.Test.Test, declared.operators.Unary.Unary}
use Rattle.inf_expressions.specs.Sources.{Source, Leaf, Brackets, Prefix, Suffix, Two, Then, Call, Alone}

-- The levels at which expressions are bound, from the loosest: those with commas, assignments, `&&` and `||`, `~~`, tests,
-- sums, products, `~`, entries of arrays, signs, steps in front, steps behind, addresses and lengths of properties,
-- properties and calls, and those with no operator outside of their brackets.
abbrev pub commas : ℕ
commas = 0

abbrev pub assignments : ℕ
assignments = 1

abbrev pub connections : ℕ
connections = 2

abbrev pub denials : ℕ
denials = 3

abbrev pub tests : ℕ
tests = 4

abbrev pub sums : ℕ
sums = 5

abbrev pub products : ℕ
products = 6

abbrev pub complements : ℕ
complements = 7

abbrev pub entries : ℕ
entries = 8

abbrev pub negations : ℕ
negations = 9

abbrev pub steps_in_front : ℕ
steps_in_front = 10

abbrev pub steps_behind : ℕ
steps_behind = 11

abbrev pub addresses : ℕ
addresses = 12

abbrev pub members : ℕ
members = 13

abbrev pub primaries : ℕ
primaries = 14

-- Operators between two expressions that join from the left: the level at which each binds, and its sign.
abbrev pub sign_between : Binary → Option (ℕ × ℕ)
sign_between Binary.Comma = Some (commas, of_mark Mark.Comma)
sign_between Binary.And = Some (connections, of_mark Mark.LogicalAnd)
sign_between Binary.Or = Some (connections, of_mark Mark.LogicalOr)
sign_between (Binary.Operation Operation.Add) = Some (sums, of_mark Mark.Plus)
sign_between (Binary.Operation Operation.Subtract) = Some (sums, of_mark Mark.Minus)
sign_between (Binary.Operation Operation.Multiply) = Some (products, of_mark Mark.Times)
sign_between (Binary.Operation Operation.Divide) = Some (products, of_mark Mark.Divide)
sign_between (Binary.Operation Operation.Remainder) = Some (products, of_mark Mark.Remainder)
sign_between (Binary.Operation Operation.BitAnd) = Some (products, of_mark Mark.BitAnd)
sign_between (Binary.Operation Operation.BitOr) = Some (products, of_mark Mark.BitOr)
sign_between (Binary.Operation Operation.Byte) = Some (entries, of_mark Mark.Arrow)
sign_between (Binary.Operation Operation.Word) = Some (entries, of_mark Mark.LongArrow)
sign_between (Binary.Property PropertyPart.Address) = Some (addresses, of_mark Mark.DotAnd)
sign_between (Binary.Property PropertyPart.Length) = Some (addresses, of_mark Mark.DotHash)
sign_between (Binary.Property PropertyPart.Value) = Some (members, of_mark Mark.Dot)
sign_between _ = None

-- operators in front of one expression
abbrev pub sign_in_front : Unary → Option (ℕ × ℕ)
sign_in_front Unary.Not = Some (denials, of_mark Mark.LogicalNot)
sign_in_front (Unary.Single Single.Complement) = Some (complements, of_mark Mark.BitNot)
sign_in_front Unary.Negate = Some (negations, of_mark Mark.Minus)
sign_in_front (Unary.Before Direction.Up) = Some (steps_in_front, of_mark Mark.Increment)
sign_in_front (Unary.Before Direction.Down) = Some (steps_in_front, of_mark Mark.Decrement)
sign_in_front _ = None

-- operators behind one expression
abbrev pub sign_behind : Unary → Option (ℕ × ℕ)
sign_behind (Unary.Behind Direction.Up) = Some (steps_behind, of_mark Mark.Increment)
sign_behind (Unary.Behind Direction.Down) = Some (steps_behind, of_mark Mark.Decrement)
sign_behind _ = None

-- Tests, which are between two sums, or between a sum and several with `or` between them, and are not joined.
abbrev pub sign_of_test : Binary → Option ℕ
sign_of_test (Binary.Test Test.Equal) = Some (of_mark Mark.Equal)
sign_of_test (Binary.Fails Test.Equal) = Some (of_mark Mark.NotEqual)
sign_of_test (Binary.Test Test.Less) = Some (of_mark Mark.Less)
sign_of_test (Binary.Test Test.Greater) = Some (of_mark Mark.Greater)
sign_of_test (Binary.Test Test.AtMost) = Some (of_mark Mark.LessOrEqual)
sign_of_test (Binary.Test Test.AtLeast) = Some (of_mark Mark.GreaterOrEqual)
sign_of_test (Binary.Test Test.Has) = Some (of_word (codes "has"))
sign_of_test (Binary.Fails Test.Has) = Some (of_word (codes "hasnt"))
sign_of_test (Binary.Test Test.In) = Some (of_word (codes "in"))
sign_of_test (Binary.Fails Test.In) = Some (of_word (codes "notin"))
sign_of_test (Binary.Test Test.OfClass) = Some (of_word (codes "ofclass"))
sign_of_test (Binary.Test Test.Provides) = Some (of_word (codes "provides"))
sign_of_test _ = None

-- the tokens that are operands by themselves
abbrev pub operands : ℕ
operands = joined (operand_names ∷ number ∷ char ∷ word_literal ∷ text ∷ [])

abbrev pub or_sign : ℕ
or_sign = of_word (codes "or")

abbrev pub comma_sign : ℕ
comma_sign = of_mark Mark.Comma

abbrev pub opening_sign : ℕ
opening_sign = of_mark Mark.OpenParenthesis

abbrev pub closing_sign : ℕ
closing_sign = of_mark Mark.CloseParenthesis

-- Number of leaves of an expression or a list
abbrev pub leaf_count : Source → ℕ
leaf_count (Leaf first token leaf) = 1
leaf_count (Brackets order a) = leaf_count a
leaf_count (Prefix order op a) = leaf_count a
leaf_count (Suffix op a) = leaf_count a
leaf_count (Two op a b) = leaf_count a + leaf_count b
leaf_count (Then a b) = leaf_count a + leaf_count b
leaf_count (Call f list) = leaf_count f + leaf_count list
leaf_count (Alone f) = leaf_count f

abbrev pub leaf_count_of_all : List Source → ℕ
leaf_count_of_all [] = 0
leaf_count_of_all (a ∷ sources) = leaf_count a + leaf_count_of_all sources

-- an expression, and those that follow it, as a list
abbrev pub list_of : Source → List Source → Source
list_of a [] = a
list_of a (b ∷ sources) = Then a (list_of b sources)

-- Atoms are an expression that binds at `level` at least. Its first token has order `order`, and its first leaf is at
-- `place` among the leaves of its unit.
mutual
  pub data Written : ℕ → ℕ → ℕ → List ℕ → Source → Type 0 where
    operand : {order place atom : ℕ} → has operands atom ≡ true → Written primaries order place (atom ∷ []) (Leaf order order place)
    action : {order place sign atom : ℕ} → has (of_mark Mark.DoubleHash) sign ≡ true → has operand_names atom ≡ true →
        Written primaries order place (sign ∷ atom ∷ []) (Leaf order (suc order) place)
    system : {order place sign atom : ℕ} → has (of_mark Mark.Hash) sign ≡ true → has operand_names atom ≡ true →
        Written primaries order place (sign ∷ atom ∷ []) (Leaf order (suc order) place)
    brackets : {order place left : ℕ} (right : ℕ) (atoms : List ℕ) {a : Source} → has opening_sign left ≡ true →
        Written commas (suc order) place atoms a → has closing_sign right ≡ true →
        Written primaries order place (left ∷ (atoms ++ right ∷ [])) (Brackets order a)
    tighter : {level order place : ℕ} {atoms : List ℕ} {a : Source} → Written (suc level) order place atoms a →
        Written level order place atoms a
    in_front : {level order place sign : ℕ} (signs : ℕ) {atoms : List ℕ} {op : Unary} {a : Source} →
        sign_in_front op ≡ Some (level, signs) →
        has signs sign ≡ true → Written level (suc order) place atoms a →
        Written level order place (sign ∷ atoms) (Prefix order op a)
    behind : {level order place : ℕ} (signs sign : ℕ) (atoms : List ℕ) {op : Unary} {a : Source} → sign_behind op ≡ Some (level, signs) →
        Written level order place atoms a → has signs sign ≡ true →
        Written level order place (atoms ++ sign ∷ []) (Suffix op a)
    between : {level order place : ℕ} (signs sign : ℕ) (left right : List ℕ) {op : Binary} {a b : Source} →
        sign_between op ≡ Some (level, signs) →
        Written level order place left a → has signs sign ≡ true →
        Written (suc level) (suc (order + length left)) (place + leaf_count a) right b →
        Written level order place (left ++ sign ∷ right) (Two op a b)
    assigned : {order place : ℕ} (sign : ℕ) (left right : List ℕ) {a b : Source} → Written connections order place left a →
        has (of_mark Mark.Assign) sign ≡ true → Written assignments (suc (order + length left)) (place + leaf_count a) right b →
        Written assignments order place (left ++ sign ∷ right) (Two Binary.Assign a b)
    tested : {order place : ℕ} (signs sign : ℕ) (left right : List ℕ) {op : Binary} {a : Source} (b : Source) (sources : List Source) →
        sign_of_test op ≡ Some signs → Written sums order place left a → has signs sign ≡ true →
        Listed sums or_sign (suc (order + length left)) (place + leaf_count a) right (b ∷ sources) →
        Written tests order place (left ++ sign ∷ right) (Two op a (list_of b sources))
    called : {order place : ℕ} (left right : ℕ) (atoms given : List ℕ) {f : Source} (b : Source) (sources : List Source) →
        Written members order place atoms f → has opening_sign left ≡ true →
        Listed assignments comma_sign (suc (order + length atoms)) (place + leaf_count f) given (b ∷ sources) → has closing_sign right ≡
        true →
        Written members order place (((atoms ++ left ∷ []) ++ given) ++ right ∷ []) (Call f (list_of b sources))
    alone : {order place : ℕ} (left right : ℕ) (atoms : List ℕ) {f : Source} → Written members order place atoms f →
        has opening_sign left ≡ true →
        has closing_sign right ≡ true →
        Written members order place ((atoms ++ left ∷ []) ++ right ∷ []) (Alone f)

  -- several expressions that bind at a level, with one of some signs between two of them
  pub data Listed : ℕ → ℕ → ℕ → ℕ → List ℕ → List Source → Type 0 where
    one : {level signs order place : ℕ} {atoms : List ℕ} {a : Source} → Written level order place atoms a →
        Listed level signs order place atoms (a ∷ [])
    more : {level signs order place : ℕ} (sign : ℕ) (left right : List ℕ) (sources : List Source) (a : Source) →
        Listed level signs order place left sources → has signs sign ≡ true →
        Written level (suc (order + length left)) (place + leaf_count_of_all sources) right a →
        Listed level signs order place (left ++ sign ∷ right) (sources ++ a ∷ [])

-- Operators of known numbers: the number that takes the place of one is its meaning on a machine.
use Rattle.std.specs.Prelude.{◌≡◌, ℕ, ◌==◌, not, Some}
use Rattle.inf_expressions.specs.{declared.operators.Binary.Binary, declared.operators.Operand.Operand}
use Rattle.inf_expressions.specs.{declared.operators.Operation.Operation, declared.operators.Unary.Unary}
use Rattle.inf_expressions.specs.Trees.{Tree, Leaf, One, Two}
use Rattle.inf_expressions.specs.Folding.{built, folded, folded_single, function_of, joined, joined_single, known}
use Rattle.inf_interpreter.specs.Machine.{World, Store}
use Rattle.inf_meaning_laws.specs.Values.{Sense, Taker, answer, sense}

-- An operand is proper where it is no function and no wrong name, and so is each member of a list. An improper one counts as 0, and an
-- error is told of it.
abbrev pub IsProper : Tree → Type 0
IsProper (Leaf (Operand.Function f)) = ⊥
IsProper (Leaf Operand.Unknown) = ⊥
IsProper (Two Binary.Then a b) = IsProper a × IsProper b
IsProper t = Unit {0}

-- Nothing is divided by a known 0. Where something is, an error is told.
abbrev pub HasDivisor : Binary → Tree → Type 0
HasDivisor (Binary.Operation Operation.Divide) b = known b ≡ Some 0 → ⊥
HasDivisor (Binary.Operation Operation.Remainder) b = known b ≡ Some 0 → ⊥
HasDivisor op b = Unit {0}

-- a meaning that is a number and changes nothing: with each taker of its value, as a statement, and as a condition, in each store
pub record IsNumber (n : ℕ) (a : Sense) : Type 0 where
  pub value : (take : Taker) (s : Store) → a.value take s ≡ answer take n s
  pub alone : (s : Store) → a.alone s ≡ Some s
  pub truth : (s : Store) → a.truth s ≡ Some (not (n == 0), s)

abbrev pub TwoAreComputed : Type 0
TwoAreComputed =
    (w : World) (op : Binary) (a b : Tree) (n : ℕ) → IsProper a → IsProper b → HasDivisor op b → folded op a b ≡ Some n →
    IsNumber n (sense w (built op (function_of a) a b))

abbrev pub OneIsComputed : Type 0
OneIsComputed =
    (w : World) (op : Unary) (a : Tree) (n : ℕ) → IsProper a → folded_single op (known a) ≡ Some n → IsNumber n (sense w (One op a))

-- Two meanings are alike where they have one value, one effect and one truth, in each store.
pub record AreAlike (a b : Sense) : Type 0 where
  pub value : (take : Taker) (s : Store) → a.value take s ≡ b.value take s
  pub alone : (s : Store) → a.alone s ≡ b.alone s
  pub truth : (s : Store) → a.truth s ≡ b.truth s

abbrev pub FoldingKeeps : Type 0
FoldingKeeps =
    (w : World) (op : Binary) (a b : Tree) → IsProper a → IsProper b → HasDivisor op b →
    AreAlike (sense w (joined op a b)) (sense w (built op (function_of a) a b))

abbrev pub FoldingOneKeeps : Type 0
FoldingOneKeeps = (w : World) (op : Unary) (a : Tree) → IsProper a → AreAlike (sense w (joined_single op a)) (sense w (One op a))

-- Expressions as they are written: the tree that the compiler makes of one means what the operators of its text mean.
use Rattle.std.specs.Prelude.{◌≡◌, ℕ, List, None}
use Rattle.inf_expressions.specs.{Units.operand_at, declared.operators.Binary.Binary, declared.operators.Operand.Operand}
use Rattle.inf_expressions.specs.{declared.operators.Unary.Unary}
use Rattle.inf_expressions.specs.Sources.{Alone, Brackets, Call, Leaf, Prefix, Source, Suffix, Then, Two, found_in, meant}
use Rattle.inf_expressions.specs.Trees as tree
use Rattle.inf_interpreter.specs.Machine.{World}
use Rattle.inf_meaning_laws.specs.Values.{sense}
use Rattle.inf_number_laws.specs.{Known.AreAlike, Whole.IsSound, Whole.plain}

-- the tree of all operators of a text
abbrev pub written : List Operand → Source → tree.Tree
written operands (Leaf first token leaf) = tree.Leaf (operand_at operands leaf)
written operands (Brackets order a) = written operands a
written operands (Prefix order op a) = tree.One op (written operands a)
written operands (Suffix op a) = tree.One op (written operands a)
written operands (Two op a b) = tree.Two op (written operands a) (written operands b)
written operands (Then a b) = tree.Two Binary.Then (written operands a) (written operands b)
written operands (Call f list) = tree.Two Binary.Call (written operands f) (written operands list)
written operands (Alone f) = tree.One Unary.Call (written operands f)

-- Where nothing is found wrong in an expression of a unit, it is sound.
abbrev pub UntoldIsSound : Type 0
UntoldIsSound =
    (unit : ℕ) (operands : List Operand) (a : Source) → found_in unit operands a None ≡ None → IsSound (written operands a)

-- An expression in which nothing is found wrong means what its operators mean.
abbrev pub SourcesKeep : Type 0
SourcesKeep =
    (w : World) (unit : ℕ) (operands : List Operand) (a : Source) → found_in unit operands a None ≡ None →
    AreAlike (sense w (plain (written operands a))) (sense w (meant operands a).tree)

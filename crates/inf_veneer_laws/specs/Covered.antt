-- The laws of the code of expressions and of statements speak of the expressions of these routines.
use Rattle.std.specs.Prelude.{ℕ, false, List}
use Rattle.inf_expressions.specs.declared.operators.Operand.{Operand}
use Rattle.inf_meaning_laws.specs.Covered.{Covered}
use Rattle.inf_veneer_laws.specs.Routines.{compare, count_children, find_own, of_class, property_address, property_length}
use Rattle.inf_veneer_laws.specs.Routines.{provides_property, read_property, region, step_byte, step_property, step_word, write_byte}
use Rattle.inf_veneer_laws.specs.Routines.{write_property, write_word}
use Rattle.inf_veneer_laws.specs.Running.{Numbers, operand_in, tree_of}
use Rattle.inf_veneer_laws.specs.Sources.{Ask, Evaluate, For, If, PrintString, Return, ReturnFalse, ReturnTrue, Routine, Statement}
use Rattle.inf_veneer_laws.specs.Sources.{Then, While}

-- The expressions of a statement are covered.
abbrev pub AreCovered : (List ℕ → Operand) → Statement → Type 0
AreCovered known (Evaluate e) = Covered false (tree_of known e)
AreCovered known (Return e) = Covered false (tree_of known e)
AreCovered known ReturnTrue = Unit {0}
AreCovered known ReturnFalse = Unit {0}
AreCovered known (If e body) = Covered false (tree_of known e) × AreCovered known body
AreCovered known (While e body) = Covered false (tree_of known e) × AreCovered known body
AreCovered known (For start e step body) =
    Covered false (tree_of known start) × Covered false (tree_of known e) × Covered false (tree_of known step) × AreCovered known body
AreCovered known (Ask q operands variable) = Unit {0}
AreCovered known (PrintString e) = Covered false (tree_of known e)
AreCovered known (Then first second) = AreCovered known first × AreCovered known second

abbrev pub IsCovered : Numbers → Routine → Type 0
IsCovered numbers r = AreCovered (operand_in numbers r) r.body

abbrev pub RoutinesAreCovered : Type 0
RoutinesAreCovered =
    (numbers : Numbers) →
    IsCovered numbers write_byte × IsCovered numbers write_word × IsCovered numbers step_byte × IsCovered numbers step_word
    × IsCovered numbers count_children × IsCovered numbers write_property × IsCovered numbers step_property
    × IsCovered numbers provides_property × IsCovered numbers property_address × IsCovered numbers property_length
    × IsCovered numbers read_property × IsCovered numbers find_own × IsCovered numbers compare × IsCovered numbers region
    × IsCovered numbers of_class

-- The arguments of an instruction as operands.
use Rattle.std.proofs.Common.{◌≡◌, ℕ, zero, suc, ◌≤◌, List, [], ◌∷◌, ◌++◌, length, take, drop, arith, append-nil, refl, ap, sym, ◌∙◌}
use Rattle.std.proofs.lemmas.List.{map-append, take_all, drop_all}
use Rattle.inf_settings.specs.Bounds.{Limits}
use Rattle.inf_expressions.specs.Trees.{Tree}
use Rattle.inf_output.specs.{Output.Out, declared.operands.Simple.Simple}
use Rattle.inf_templates.specs.{Tasks.part_of, Tasks.parts_of, declared.tasks.Argument.Argument}
use Rattle.inf_templates.specs.Parts.{Part, evaluated, operand_of, operands, worked_out}

-- the last part is worked out first
last_first : (ps : List Part) (p : Part) (o : Out) → evaluated (ps ++ p ∷ []) o ≡ evaluated ps (worked_out p o)
last_first [] p o = refl
last_first (q ∷ ps) p o = ap (worked_out q) (last_first ps p o)

pub evaluated_last : (limits : Limits) (trees : List Tree) (all others : List Argument) (last : Argument) (o : Out) →
    all ≡ others ++ last ∷ []
    → evaluated (parts_of limits trees all) o ≡ evaluated (parts_of limits trees others) (worked_out (part_of limits trees last) o)
evaluated_last limits trees all others last o is = ap (λ gs. evaluated (parts_of limits trees gs) o) is
    ∙ ap (λ ps. evaluated ps o) (map-append (part_of limits trees) others (last ∷ []))
    ∙ last_first (parts_of limits trees others) (part_of limits trees last) o

-- the operands of the first parts are the first operands
pub operands_front : (limits : Limits) (trees : List Tree) (n : ℕ) (arguments : List Argument) →
    operands (parts_of limits trees (take n arguments)) ≡ take n (operands (parts_of limits trees arguments))
operands_front limits trees zero arguments = refl
operands_front limits trees (suc n) [] = refl
operands_front limits trees (suc n) (a ∷ arguments) =
    ap (λ os. operand_of (part_of limits trees a) ∷ os) (operands_front limits trees n arguments)

-- all operands were found where no argument is left
pub all_found : (limits : Limits) (trees : List Tree) (found : List Simple) (arguments : List Argument) (i : ℕ) →
    found ++ operands (parts_of limits trees (drop i arguments)) ≡ operands (parts_of limits trees arguments) → length arguments ≤ i
    → found ≡ operands (parts_of limits trees arguments)
all_found limits trees found arguments i is past =
    sym (append-nil found) ∙ ap (λ gs. found ++ operands (parts_of limits trees gs)) (sym (drop_all i arguments past)) ∙ is

-- no operand is cut off where the opcode takes as many
pub operands_all : (limits : Limits) (trees : List Tree) (most : ℕ) (arguments : List Argument) (given : List Simple) →
    given ≡ take most (operands (parts_of limits trees arguments)) → length arguments ≤ most
    → given ≡ operands (parts_of limits trees arguments)
operands_all limits trees most arguments given is few =
    is ∙ sym (operands_front limits trees most arguments) ∙ ap (λ gs. operands (parts_of limits trees gs)) (take_all most arguments few)

pub operands_len : (limits : Limits) (trees : List Tree) (arguments : List Argument) →
    length (operands (parts_of limits trees arguments)) ≡ length arguments
operands_len limits trees [] = refl
operands_len limits trees (a ∷ arguments) = omega (arith, operands_len limits trees arguments)

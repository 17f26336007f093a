-- The tests of a case. Designer's Manual, fourth edition, section 1.8.
use Rattle.std.specs.Prelude.{ℕ, nat_lt, Bool, true, false, List, [], ◌∷◌, ◌++◌, length, Option, Some, None, if◌then◌else◌}
use Rattle.inf_settings.specs.Bounds.{Limits}
use Rattle.inf_opcode.specs.{declared.instructions.Label.Label, declared.opcodes.Opcode.Opcode}
use Rattle.inf_expressions.specs.{Questions.range_of, Trees.Tree}
use Rattle.inf_output.specs.declared.operands.Simple.{Simple}
use Rattle.inf_output.specs.Output.{Code, instruction, marked, nothing, to, with_label, ◌▸◌}
use Rattle.inf_templates.specs.{Meaning.meaning, Parts.operand_by}

-- the variable that holds the value of a `switch`
abbrev pub SWITCHED : ℕ
SWITCHED = 251

-- the operand of a tree
abbrev pub operand_in : Limits → Tree → Simple
operand_in limits t = operand_by (meaning limits t).operand

-- a test of a group of up to three values, as a branch to `label` where its truth is `sense`
unfoldable pub group_tested : Limits → List Simple → Bool → Label → Code
group_tested limits [] sense label = nothing
group_tested limits (a ∷ others) sense label = instruction limits Opcode.Je (Simple.Variable SWITCHED ∷ a ∷ others) None (to sense label)

-- A range: the last value of a case branches to the next case where it fails, and another value to the body of the case where it holds.
abbrev pub beside : Limits → Simple → Simple → Label → Code
beside limits a b next = instruction limits Opcode.Jl (Simple.Variable SWITCHED ∷ a ∷ []) None (to true next)
    ▸ instruction limits Opcode.Jg (Simple.Variable SWITCHED ∷ b ∷ []) None (to true next)

abbrev pub within : Limits → Simple → Simple → Label → Code
within limits a b here = with_label (λ beyond. instruction limits Opcode.Jl (Simple.Variable SWITCHED ∷ a ∷ []) None (to true beyond)
    ▸ instruction limits Opcode.Jg (Simple.Variable SWITCHED ∷ b ∷ []) None (to false here) ▸ marked limits beyond)

unfoldable pub range_tested : Limits → Bool → Simple → Simple → Label → Label → Code
range_tested limits is_last a b here next = if is_last then beside limits a b next else within limits a b here

abbrev pub is_empty : List Tree → Bool
is_empty [] = true
is_empty (v ∷ values) = false

-- One value more behind an open group: the group that is open then, and the tests that are laid.
abbrev pub is_open : List Simple → Bool
is_open group = nat_lt (length group) 3

abbrev pub group_behind : Option (Tree × Tree) → Simple → List Simple → List Simple
group_behind (Some ends) a group = []
group_behind None a group = if is_open group then group ++ a ∷ [] else a ∷ []

abbrev pub laid_before : Limits → Option (Tree × Tree) → Bool → List Simple → Label → Label → Code
laid_before limits (Some ends) is_last group here next =
    group_tested limits group true here ▸ range_tested limits is_last (operand_in limits ends.0) (operand_in limits ends.1) here next
laid_before limits None is_last group here next = if is_open group then nothing else group_tested limits group true here

unfoldable pub value_laid : Limits → Tree → Bool → List Simple → Label → Label → Code
value_laid limits v is_last group here next = laid_before limits (range_of v) is_last group here next

unfoldable pub value_grouped : Limits → Tree → List Simple → List Simple
value_grouped limits v group = group_behind (range_of v) (operand_in limits v) group

-- the tests of all values behind an open group: the last one branches to the next case where it fails
abbrev pub grouped : Limits → List Simple → List Tree → Label → Label → Code
grouped limits group [] here next = group_tested limits group false next
grouped limits group (v ∷ values) here next =
    value_laid limits v (is_empty values) group here next ▸ grouped limits (value_grouped limits v group) values here next

-- the tests of a case, behind which its body begins
abbrev pub case_tested : Limits → List Tree → Label → Code
case_tested limits values next = with_label (λ here. grouped limits [] values here next ▸ marked limits here)

-- the tests of a case, of which a default has none
unfoldable pub case_code : Limits → Option Label → List Tree → Code
case_code limits None values = nothing
case_code limits (Some next) values = case_tested limits values next

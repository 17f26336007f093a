-- The tasks that are left to be laid.
use Rattle.std.specs.Prelude.{◌≡◌, ℕ, true, List, [], ◌∷◌, map, take, Some, None}
use Rattle.inf_settings.specs.Bounds.{Limits}
use Rattle.inf_opcode.specs.declared.opcodes.Opcode.{Opcode}
use Rattle.inf_expressions.specs.{Nodes.tree_at, Trees.Tree, declared.operators.Test.Test}
use Rattle.inf_output.specs.{declared.operands.Simple.Simple, declared.veneer.Veneer.Veneer}
use Rattle.inf_output.specs.Output.{Code, Out, instruction, marked, nothing, to, ◌▸◌}
use Rattle.inf_templates.specs.declared.{reading.Goal.Goal, tasks.Argument.Argument, tasks.Few.Few, tasks.Task.Task, tasks.Worked.Worked}
use Rattle.inf_templates.specs.Parts.{Part, calling, calling_routine, is, jump_zero, load, operand_of, operands}
use Rattle.inf_templates.specs.Meaning.{Meaning, Target, Nowhere, InVariable, InMemory, by, compared, leaves_new, meaning, most_compared}
use Rattle.inf_templates.specs.Meaning.{operation_opcode, part, parts, related_opcode, single_opcode, single_tests, stepper, stored}
use Rattle.inf_templates.specs.Meaning.{triple_tests, truth_behind}

-- the meaning of the tree at a place
abbrev pub at : Limits → List Tree → ℕ → Meaning
at limits trees place = meaning limits (tree_at trees place)

-- an argument of an instruction, as a part
abbrev pub part_of : Limits → List Tree → Argument → Part
part_of limits trees (Argument.Of place) = part (at limits trees place)
part_of limits trees (Argument.Is operand) = is operand

abbrev pub few_parts : Limits → List Tree → Few → List Part
few_parts limits trees (Few.One a) = part (at limits trees a) ∷ []
few_parts limits trees (Few.Two a b) = part (at limits trees a) ∷ part (at limits trees b) ∷ []
few_parts limits trees (Few.Three a b c) = part (at limits trees a) ∷ part (at limits trees b) ∷ part (at limits trees c) ∷ []

-- an instruction whose parts are worked out
abbrev pub worked_code : Limits → List Tree → Worked → Code
worked_code limits trees (Worked.Compute o a b d) =
    instruction limits (operation_opcode o) (operands (part (at limits trees a) ∷ part (at limits trees b) ∷ [])) (Some d) None
worked_code limits trees (Worked.Negate a d) =
    instruction limits Opcode.Sub (operands (is (Simple.Known 0) ∷ part (at limits trees a) ∷ [])) (Some d) None
worked_code limits trees (Worked.Single s a d) =
    instruction limits (single_opcode s) (operands (part (at limits trees a) ∷ [])) (Some d) None
worked_code limits trees (Worked.Find r a d label) =
    instruction limits (related_opcode r) (operands (part (at limits trees a) ∷ [])) (Some d) (to true label)
worked_code limits trees (Worked.Three x b c d label) =
    compared limits Test.Equal (operands (is x ∷ part (at limits trees b) ∷ part (at limits trees c) ∷ part (at limits trees d) ∷ [])) true
    label
worked_code limits trees (Worked.Compare t x b sense label) =
    compared limits t (operands (is x ∷ part (at limits trees b) ∷ [])) sense label
worked_code limits trees (Worked.Any t a list sense label) =
    compared limits t (take (most_compared t) (operands (part_of limits trees a ∷ parts (at limits trees list)))) sense label
worked_code limits trees (Worked.Store m a b c) =
    stored limits m (operands (part (at limits trees a) ∷ part (at limits trees b) ∷ part (at limits trees c) ∷ []))
worked_code limits trees (Worked.Routine v few store) = calling_routine limits v (operands (few_parts limits trees few)) store
worked_code limits trees (Worked.StepInMemory before s m a b store) =
    calling_routine limits (stepper m) (operands (part (at limits trees a) ∷ part (at limits trees b) ∷ is (by s) ∷ is (leaves_new before) ∷
    [])) store
worked_code limits trees (Worked.BareCall f store) = calling limits (operand_of (part (at limits trees f))) [] store
worked_code limits trees (Worked.Call f list store) =
    calling limits (operand_of (part (at limits trees f))) (operands (parts (at limits trees list))) store
worked_code limits trees (Worked.Message a b list store) =
    calling_routine limits Veneer.CallProperty (operands (part (at limits trees a) ∷ part (at limits trees b) ∷ parts
    (at limits trees list))) store
worked_code limits trees (Worked.Indirect list store) =
    calling limits (operand_of (at limits trees list).first) (operands (at limits trees list).others) store

abbrev pub task_code : Limits → List Tree → Task → Code
task_code limits trees (Task.Value place d) = (at limits trees place).value d
task_code limits trees (Task.Alone place) = (at limits trees place).alone
task_code limits trees (Task.Branch place sense label) = (at limits trees place).branch sense label
task_code limits trees (Task.Triples x list sense label there) = triple_tests limits x (parts (at limits trees list)) sense label there
task_code limits trees (Task.Singles t x list sense label there) = single_tests limits t x (parts (at limits trees list)) sense label there
task_code limits trees (Task.Truth d fails last) = truth_behind limits fails last d
task_code limits trees (Task.Mark label) = marked limits label
task_code limits trees (Task.Load v d) = load limits v d
task_code limits trees (Task.JumpZero operand sense label) = jump_zero limits operand sense label
task_code limits trees (Task.Instruct w) = worked_code limits trees w

-- the goal of an assignment, by that of the code
abbrev pub target_of : Limits → List Tree → Goal → Target
target_of limits trees Goal.Nowhere = Nowhere
target_of limits trees (Goal.Variable v) = InVariable v
target_of limits trees (Goal.Memory m a b) = InMemory m (part (at limits trees a) ∷ part (at limits trees b) ∷ [])

abbrev pub tasks_code : Limits → List Tree → List Task → Code
tasks_code limits trees [] = nothing
tasks_code limits trees (t ∷ tasks) = task_code limits trees t ▸ tasks_code limits trees tasks

-- Tells whether the tasks `new`, from the output `now`, lay `code` and then the tasks `old`, from the output `before`.
abbrev pub Leads : Limits → List Tree → Code → List Task → List Task → Out → Out → Type 0
Leads limits trees code old new before now = tasks_code limits trees new now ≡ tasks_code limits trees old (code before)

-- Tells whether the tasks `new` lay `code` and then the tasks `old`, where nothing was laid meanwhile.
abbrev pub Puts : Limits → List Tree → Code → List Task → List Task → Type 0
Puts limits trees code old new = (o : Out) → Leads limits trees code old new o o

-- the arguments of an instruction, as parts
abbrev pub parts_of : Limits → List Tree → List Argument → List Part
parts_of limits trees arguments = map (part_of limits trees) arguments

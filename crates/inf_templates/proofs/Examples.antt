-- The definitions at examples, by evaluation: the bytes of whole routines.
use Rattle.std.proofs.Common.{◌≡◌, ℕ, false, List, [], ◌∷◌, None, Some, get_or, refl, flat_map}
use Rattle.inf_area.specs.{Words.word, declared.cells.Cell.Cell, declared.scale.Scale.Scale, declared.targets.Target.Target}
use Rattle.inf_opcode.specs.declared.opcodes.Opcode.{Opcode}
use Rattle.inf_assembler.specs.declared.routines.RoutineKind.{RoutineKind}
use Rattle.inf_code.specs.Code.{no_routines, with_closed, with_opened}
use Rattle.inf_names.specs.{Symbols.no_names, SystemNames.system_names}
use Rattle.inf_expressions.specs.declared.{operators.Binary.Binary, operators.Direction.Direction, operators.Operand.Operand}
use Rattle.inf_expressions.specs.declared.{operators.Operation.Operation, operators.PropertyPart.PropertyPart, operators.Relative.Relative}
use Rattle.inf_expressions.specs.declared.{operators.Test.Test, operators.Unary.Unary}
use Rattle.inf_expressions.specs.Trees.{Tree, Leaf, One, Two}
use Rattle.inf_output.specs.{Strings.no_strings, Texts.no_texts}
use Rattle.inf_output.specs.Output.{Code, Out, behind, full, instruction, jumped, laid, marked, naming, routine, used, with_label, ◌▸◌}
use Rattle.inf_settings.specs.{Bounds.Limits, Bounds.limits_of, Settings.defaults, declared.setting.Setting.Setting}
use Rattle.inf_tables.specs.Tables.{more, no_tables}
use Rattle.inf_templates.specs.Parts.{calling, calling_routine}
use Rattle.inf_templates.specs.Meaning.{and_branch, assign_alone, assign_value, call_of, meaning, related, single_tests, step_alone}
use Rattle.inf_templates.specs.Meaning.{step_value, test_branch, tests, triple_tests}

abbrev limits : Limits
limits = limits_of defaults

-- the output where a routine with `locals` local variables is open
abbrev begun : ℕ → Out
begun locals = record {
  code = with_opened locals false (no_routines Scale.Four);
  strings = no_strings Scale.Four;
  tables = no_tables;
  names = no_names false;
  texts = no_texts;
  seen = no_names false;
  first = record { file = 0; line = 1 };
  next = 0;
  past = None;
  kept = None;
}

-- the bytes of a cell, where `numbers` are those of names
abbrev cell_bytes : List ℕ → Cell → List ℕ
cell_bytes numbers (Cell.Byte byte) = byte ∷ []
cell_bytes numbers (Cell.Later (Target.Name name)) = word (get_or numbers name 0)
cell_bytes numbers (Cell.Later other) = word 0

abbrev bytes_with : List ℕ → ℕ → Code → List ℕ
bytes_with numbers locals code = flat_map (cell_bytes numbers) (with_closed RoutineKind.Plain (code (begun locals)).code).finished

abbrev bytes : ℕ → Code → List ℕ
bytes locals code = bytes_with [] locals code

abbrev x : Tree
x = Leaf (Operand.Variable 1)

abbrev y : Tree
y = Leaf (Operand.Variable 2)

abbrev number : ℕ → Tree
number n = Leaf (Operand.Known n)

abbrev minus : Tree → Tree → Tree
minus a b = Two (Binary.Operation Operation.Subtract) a b

abbrev plus : Tree → Tree → Tree
plus a b = Two (Binary.Operation Operation.Add) a b

abbrev then : Tree → Tree → Tree
then a others = Two Binary.Then a others

-- a routine whose name is the first
abbrev f : Tree
f = Leaf (Operand.Later (Target.Name 0))

abbrev new_line : Limits → Code
new_line limits = instruction limits Opcode.NewLine [] None None

-- x = y - 1 - 6;
pub left_leaning : bytes 2 (meaning limits (Two Binary.Assign x (minus (minus y (number 1)) (number 6)))).alone
    ≡ 0x02 ∷ 0x55 ∷ 0x02 ∷ 0x01 ∷ 0x00 ∷ 0x55 ∷ 0x00 ∷ 0x06 ∷ 0x01 ∷ 0xB0 ∷ 0 ∷ 0 ∷ []
unfolding laid instruction assign_alone
left_leaning = refl

-- x = F(y + 1, y * 2); where F is 247: the last argument is worked out first
pub stack_arguments : bytes_with (247 ∷ []) 2 (meaning limits (Two Binary.Assign x (Two Binary.Call f
    (then (plus y (number 1)) (Two (Binary.Operation Operation.Multiply) y (number 2)))))).alone
    ≡ 0x02 ∷ 0x56 ∷ 0x02 ∷ 0x02 ∷ 0x00 ∷ 0x54 ∷ 0x02 ∷ 0x01 ∷ 0x00 ∷ 0xE0 ∷ 0x2B ∷ 0x00 ∷ 0xF7 ∷ 0x00 ∷ 0x00 ∷ 0x01 ∷ 0xB0 ∷ 0 ∷ 0 ∷ 0 ∷ []
unfolding laid instruction assign_alone call_of calling
stack_arguments = refl

-- x = (y->1 = 2); where SB__Va is 245
pub array_assignment : bytes_with (245 ∷ []) 2 (meaning limits (Two Binary.Assign x (Two Binary.Assign
    (Two (Binary.Operation Operation.Byte) y (number 1)) (number 2)))).alone
    ≡ 0x02 ∷ 0xE0 ∷ 0x25 ∷ 0x00 ∷ 0xF5 ∷ 0x02 ∷ 0x01 ∷ 0x02 ∷ 0x01 ∷ 0xB0 ∷ 0 ∷ 0 ∷ []
unfolding laid instruction assign_alone assign_value calling calling_routine routine used system_names
array_assignment = refl

-- if (x == 1 or 2 or 3 or 4) new_line;
pub alternatives : bytes 1 (with_label (λ over. (meaning limits (Two (Binary.Test Test.Equal) x
    (then (number 1) (then (number 2) (then (number 3) (number 4)))))).branch false over ▸ new_line limits ▸ marked limits over))
    ≡ 0x01 ∷ 0xC1 ∷ 0x95 ∷ 0x01 ∷ 0x01 ∷ 0x02 ∷ 0x03 ∷ 0xC6 ∷ 0x41 ∷ 0x01 ∷ 0x04 ∷ 0x43 ∷ 0xBB ∷ 0xB0 ∷ 0 ∷ 0 ∷ []
unfolding laid instruction marked behind test_branch tests triple_tests
alternatives = refl

-- F(); F(1); F(1,2,3); F(1,2,3,4); F(1,2,3,4,5,6,7); where F is 4660
abbrev call_with : Tree → Code
call_with list = (meaning limits (Two Binary.Call f list)).alone

pub argument_counts : bytes_with (0x1234 ∷ []) 0 (
    (meaning limits (One Unary.Call f)).alone ▸ call_with (number 1) ▸ call_with (then (number 1) (then (number 2) (number 3)))
    ▸ call_with (then (number 1) (then (number 2) (then (number 3) (number 4))))
    ▸ call_with (then (number 1) (then (number 2) (then (number 3) (then (number 4) (then (number 5) (then (number 6) (number 7)))))))
    ) ≡ 0x00 ∷ 0x8F ∷ 0x12 ∷ 0x34 ∷ 0xDA ∷ 0x1F ∷ 0x12 ∷ 0x34 ∷ 0x01 ∷ 0xF9 ∷ 0x15 ∷ 0x12 ∷ 0x34 ∷ 0x01 ∷ 0x02 ∷ 0x03
    ∷ 0xFA ∷ 0x15 ∷ 0x7F ∷ 0x12 ∷ 0x34 ∷ 0x01 ∷ 0x02 ∷ 0x03 ∷ 0x04 ∷ 0xFA ∷ 0x15 ∷ 0x55 ∷ 0x12 ∷ 0x34 ∷ 0x01 ∷ 0x02 ∷ 0x03 ∷ 0x04 ∷ 0x05 ∷
    0x06 ∷ 0x07 ∷ 0xB0 ∷ 0 ∷ 0 ∷ []
unfolding laid instruction call_of calling
argument_counts = refl

-- while (x) --x;
pub while_loop : bytes 1 (with_label (λ top. with_label (λ end. marked limits top ▸ (meaning limits x).branch false end ▸
    (meaning limits (One (Unary.Before Direction.Down) x)).alone ▸ jumped limits top ▸ marked limits end)))
    ≡ 0x01 ∷ 0xA0 ∷ 0x01 ∷ 0xC7 ∷ 0x96 ∷ 0x01 ∷ 0x8C ∷ 0xFF ∷ 0xFA ∷ 0xB0 ∷ 0 ∷ 0 ∷ []
unfolding laid instruction naming marked jumped behind step_alone
while_loop = refl

-- if (x + 1 == 1 or 2 or 3 or 4) new_line; keeps the sum in a variable of its own
pub kept_value : bytes 1 (with_label (λ over. (meaning limits (Two (Binary.Test Test.Equal) (plus x (number 1))
    (then (number 1) (then (number 2) (then (number 3) (number 4)))))).branch false over ▸ new_line limits ▸ marked limits over))
    ≡ 0x01 ∷ 0x54 ∷ 0x01 ∷ 0x01 ∷ 0xFF ∷ 0xC1 ∷ 0x95 ∷ 0xFF ∷ 0x01 ∷ 0x02 ∷ 0x03 ∷ 0xC6 ∷ 0x41 ∷ 0xFF ∷ 0x04 ∷ 0x43 ∷ 0xBB ∷ 0xB0 ∷ 0 ∷ 0 ∷
    []
unfolding laid instruction marked behind test_branch tests triple_tests
kept_value = refl

-- the code of `x = x > y && ~~y;`, by which x is 1 or 0
pub condition_as_value : bytes 2 (meaning limits (Two Binary.Assign x (Two Binary.And (Two (Binary.Test Test.Greater) x y)
    (One Unary.Not y)))).alone
    ≡ 0x02 ∷ 0x63 ∷ 0x01 ∷ 0x02 ∷ 0x4B ∷ 0xA0 ∷ 0x02 ∷ 0x48 ∷ 0x0D ∷ 0x01 ∷ 0x01 ∷ 0x8C ∷ 0x00 ∷ 0x05 ∷ 0x0D ∷ 0x01 ∷ 0x00 ∷ 0xB0 ∷ 0 ∷ 0 ∷
    []
unfolding laid instruction naming marked jumped behind assign_alone and_branch test_branch tests single_tests
condition_as_value = refl

-- x.8++; and y = x.8++; where AP__Va is 256
abbrev step_of : Tree
step_of = One (Unary.Behind Direction.Up) (Two (Binary.Property PropertyPart.Value) x (number 8))

pub property_steps : bytes_with (256 ∷ []) 2 ((meaning limits step_of).alone ▸ (meaning limits (Two Binary.Assign y step_of)).alone)
    ≡ 0x02 ∷ 0xFA ∷ 0x25 ∷ 0x7F ∷ 0x01 ∷ 0x00 ∷ 0x01 ∷ 0x08 ∷ 0x01 ∷ 0x00 ∷ 0xEC ∷ 0x25 ∷ 0x7F ∷ 0x01 ∷ 0x00 ∷ 0x01 ∷ 0x08 ∷ 0x01 ∷ 0x00 ∷
    0x02 ∷ 0xB0 ∷ 0 ∷ 0 ∷ 0 ∷ []
unfolding laid instruction assign_alone step_alone step_value calling calling_routine routine used system_names
property_steps = refl

-- x.8(3, child(y)); where CA__Pr is 256
pub message : bytes_with (256 ∷ []) 2 (meaning limits (Two Binary.Call (Two (Binary.Property PropertyPart.Value) x (number 8))
    (then (number 3) (One (Unary.Relative Relative.Child) y)))).alone
    ≡ 0x02 ∷ 0xA2 ∷ 0x02 ∷ 0x00 ∷ 0xC2 ∷ 0xFA ∷ 0x25 ∷ 0xBF ∷ 0x01 ∷ 0x00 ∷ 0x01 ∷ 0x08 ∷ 0x03 ∷ 0x00 ∷ 0xB0 ∷ 0 ∷ []
unfolding laid instruction marked behind related call_of calling calling_routine routine used system_names
message = refl

-- if (x ofclass 7 or 8) new_line; where OC__Cl is 256
pub class_test : bytes_with (256 ∷ []) 1 (with_label (λ over. (meaning limits (Two (Binary.Test Test.OfClass) x
    (then (number 7) (number 8)))).branch false over ▸ new_line limits ▸ marked limits over))
    ≡ 0x01 ∷ 0xE0 ∷ 0x27 ∷ 0x01 ∷ 0x00 ∷ 0x01 ∷ 0x07 ∷ 0x00 ∷ 0xA0 ∷ 0x00 ∷ 0x4C ∷ 0xE0 ∷ 0x27 ∷ 0x01 ∷ 0x00 ∷ 0x01 ∷ 0x08 ∷ 0x00 ∷ 0xA0 ∷
    0x00 ∷ 0xC3 ∷ 0xBB ∷ 0xB0 ∷ 0 ∷ []
unfolding laid instruction marked behind test_branch tests single_tests calling calling_routine routine used system_names
class_test = refl

-- Where code has room for one byte more, and a routine for no label, the limit of labels is told first; where only the
-- bytes are too many, theirs.
abbrev few : Limits
few Setting.Labels = 0
few Setting.Code = 10
few Setting.References = 50
few s = 0

abbrev short : Out
short = record (begun 0) { code = with_opened 0 false (no_routines Scale.Four) }

pub bytes_passed : full few (new_line few (new_line few short)) ≡ Some Setting.Code
unfolding laid instruction more
bytes_passed = refl

pub labels_passed : full few ((new_line few ▸ new_line few ▸ marked few (record { number = 0 }) ▸ new_line few) short) ≡ Some Setting.Labels
unfolding laid instruction marked more
labels_passed = refl

pub nothing_passed : full few (new_line few short) ≡ None
unfolding laid instruction more
nothing_passed = refl

-- The parts of an instruction as the code keeps it.
use Rattle.inf_opcode.specs.{Instructions.Parts, declared.instructions.Instruction.Instruction}

abbrev pub parts_of : Instruction → Parts
parts_of instruction = record {
  opcode = instruction.opcode;
  operands = instruction.operands.now;
  store = instruction.store;
  branch = instruction.branch;
  text = instruction.text.now;
}

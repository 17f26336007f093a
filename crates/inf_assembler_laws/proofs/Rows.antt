-- The rows and the names of the instruction set, by evaluation.
use Rattle.std.proofs.Common.{◌≡◌, true, Some, refl}
use Rattle.inf_opcode.specs.{Opcodes.is_encodable, Opcodes.row_of, declared.opcodes.Opcode.Opcode}
use Rattle.inf_opcode.specs.Names.{opcodes, name_of, opcode_named}
use Rattle.inf_assembler_laws.specs.Decoding.{opcode_at}

-- Each row is found by its count and its number.
pub opcode_at-row : (opcode : Opcode) → opcode_at (row_of opcode).count (row_of opcode).number ≡ Some opcode
unfolding opcode_at opcodes
opcode_at-row Opcode.Je = refl
opcode_at-row other = refl

-- Each row can be said.
pub row_fits : (opcode : Opcode) → is_encodable (row_of opcode) ≡ true
row_fits Opcode.Je = refl
row_fits other = refl

-- Each opcode is found by its name.
pub named : (opcode : Opcode) → opcode_named (name_of opcode) ≡ Some opcode
unfolding opcodes
named Opcode.Je = refl
named other = refl

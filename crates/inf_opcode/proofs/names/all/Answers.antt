-- The code's list is that of the definition.
use Rattle.std.proofs.Common.{refl}
use Rattle.inf_opcode.specs.Names.{opcodes}
use Rattle.inf_opcode.proofs.names.all.Goals as goal

pub returns : goal.returns
unfolding opcodes
returns c = refl

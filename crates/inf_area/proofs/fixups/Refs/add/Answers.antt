use Rattle.std.proofs.Common.{rules}
use Rattle.inf_area.proofs.fixups.Refs.add.Goals as goal

pub returns-in_err-push-clause-memory : goal.returns-in_err-push-clause-memory
returns-in_err-push-clause-memory c = search rules

pub invariant_of-self-2 : goal.invariant_of-self-2
invariant_of-self-2 c = search rules

pub returns-clause-room : goal.returns-clause-room
returns-clause-room c = search rules

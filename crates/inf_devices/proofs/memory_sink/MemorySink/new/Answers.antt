use Rattle.std.proofs.Common.{rules}
use Rattle.inf_devices.proofs.memory_sink.MemorySink.new.Goals as goal

pub returns : goal.returns
returns c = search rules

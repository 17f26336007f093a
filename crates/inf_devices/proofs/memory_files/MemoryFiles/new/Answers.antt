use Rattle.inf_devices.proofs.OpeningLemmas.{sources_of-kept_in}
use Rattle.inf_devices.proofs.memory_files.MemoryFiles.new.Goals as goal

pub returns-clause-sources : goal.returns-clause-sources
returns-clause-sources c = λ name. sources_of-kept_in c.args.sources name

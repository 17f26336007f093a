use Rattle.std.proofs.Common.{ℕ, List, None, Result, Ok, Err, refl}
use Rattle.inf_devices.specs.{Sinks.Writes, declared.sinks.SinkFault.SinkFault}
use Rattle.inf_disk.proofs.disk.OutputSinkSink.TheImpl.Goals as goal

-- an output states none of the bytes that it took
states_none : (bytes : List ℕ) (answer : Result ℕ SinkFault) → Writes None None bytes answer
states_none bytes (Ok count) = refl
states_none bytes (Err fault) = refl

pub write-tells : goal.write-tells
write-tells g c = record {
  writes = states_none c.args.bytes.now c.result;
  count = c.ensures.count;
  failed = c.ensures.trouble.failed;
  nothing = c.ensures.trouble.nothing;
  quiet = c.ensures.trouble.calm;
  failures = c.ensures.trouble.later;
}

use Rattle.std.proofs.Common.{IsTrue, false, refl}
use Rattle.inf_disk.proofs.disk.DiskFilesFiles.TheImpl.Goals as goal

-- Files of the system are not honest, and statements about an honest reader are not made of them.
not_honest : {A : Type 0} → IsTrue false → A
not_honest honest = cc

pub open-tells : goal.open-tells
open-tells g c = record {
  opens = not_honest;
  depth = c.ensures.depth;
  opened = c.ensures.opened;
  cause = c.ensures.cause;
  faults = c.ensures.faults;
  counts = c.ensures.counts;
  kept = (refl, refl);
}

pub read-tells : goal.read-tells
read-tells g c = record {
  reads = not_honest;
  count = c.ensures.count;
  counts = c.ensures.counts;
  depth = c.ensures.depth;
  opened = c.ensures.opened;
  cause = c.ensures.trouble.failed;
  faults = (c.ensures.trouble.later, c.ensures.trouble.calm);
  kept = (refl, refl);
}

pub close-tells : goal.close-tells
close-tells g c = record {
  closes = not_honest;
  depth = c.ensures.depth;
  opened = c.ensures.opened;
  faults = c.ensures.faults;
  counts = c.ensures.counts;
  kept = (refl, refl);
}

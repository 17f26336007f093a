-- One more item is behind those before.
use Rattle.inf_row_tests.proofs.Behind.{were_same, were_then}
use Rattle.inf_row_tests.proofs.routines.write_all.Goals as goal

pub loop-item-init : goal.loop-item-init
loop-item-init g c = record { open_still = c.requires; behind = were_same _ }

pub loop-item-preserved : goal.loop-item-preserved
loop-item-preserved g c = record {
  open_still = c.write_one.ensures.open_still;
  behind = were_then _ _ _ _ _ c.loop-item.invariant.behind c.write_one.ensures.behind;
}

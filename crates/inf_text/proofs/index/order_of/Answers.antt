use Rattle.inf_text.proofs.Ranging.{IsOrder-insert, IsOrder-none}
use Rattle.inf_text.proofs.index.order_of.Goals as goal

pub loop-number-init : goal.loop-number-init
loop-number-init c = rw c.new-order.ensures IsOrder-none

pub loop-number-preserved : goal.loop-number-preserved
loop-number-preserved c =
    let fits = rw c.as_slice.ensures.value at c.turn_of-turn.ensures in
    rw c.insert.ensures.items (IsOrder-insert c.loop-number.number c.turn_of-turn.result c.loop-number.order.items fits
    c.loop-number.invariant)

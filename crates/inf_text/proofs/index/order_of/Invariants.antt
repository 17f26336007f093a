use Rattle.inf_text.specs.Searching.{IsOrder}
use Rattle.inf_text.proofs.index.order_of.Given as goal

abbrev pub invariant-loop-number : goal.invariant-loop-number
invariant-loop-number l = IsOrder l.number l.order.items

use Rattle.std.proofs.Common.{◌≡◌, ◌++◌, [], drop, length}
use Rattle.inf_text.specs.Searching.{linked_from}
use Rattle.inf_text.proofs.index.linked.Given as goal

abbrev pub invariant-loop-number : goal.invariant-loop-number
invariant-loop-number l = (l.links.items ++ linked_from l.texts l.before (drop l.number-index l.order) ≡ linked_from l.texts [] l.order) ×
    (length l.links.items ≡ l.number-index)

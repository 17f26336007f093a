use Rattle.std.proofs.Common.{◌≡◌, drop}
use Rattle.inf_output.specs.Output.{laid_all}
use Rattle.inf_output.proofs.output.Output.append.Given as goal

-- what is left leads from here to where all leads
abbrev pub invariant-loop-item : goal.invariant-loop-item
invariant-loop-item g l =
    laid_all g.B.Bounds.most (drop l.item-index l.item-items) l.self ≡ laid_all g.B.Bounds.most l.fn.items l.initial.self

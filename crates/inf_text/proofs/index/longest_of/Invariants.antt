use Rattle.std.proofs.Common.{◌≡◌, None, drop}
use Rattle.inf_text.specs.Searching.{best_of, first_code}
use Rattle.inf_text.proofs.Linking.{Searches}
use Rattle.inf_text.proofs.index.longest_of.Given as goal

abbrev pub invariant-loop-link : goal.invariant-loop-link
invariant-loop-link l = (l.code ≡ first_code (drop l.matched l.items)) × Searches l.texts l.items l.matched l.best
    (drop l.link-index l.others) (best_of l.texts l.items None l.links)

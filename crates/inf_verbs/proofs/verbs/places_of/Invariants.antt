use Rattle.std.proofs.Common.{◌≡◌, ◌++◌, ◌+◌, ◌≤◌, drop}
use Rattle.inf_verbs.specs.Verbs.{places_from, places_of}
use Rattle.inf_verbs.proofs.Sizes.{parts_size}
use Rattle.inf_verbs.proofs.verbs.places_of.Given as goal

abbrev pub invariant-loop-verb : goal.invariant-loop-verb
invariant-loop-verb l = (l.places.items ++ places_from l.at (drop l.verb-index l.verbs) ≡ places_of l.verbs)
    × (l.at + parts_size (drop l.verb-index l.verbs) ≤ l.size)

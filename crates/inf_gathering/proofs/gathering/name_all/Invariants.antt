use Rattle.std.proofs.Common.{◌≡◌, ◌++◌, drop, map, take}
use Rattle.inf_gathering.specs.Gatherings.{action_leaf}
use Rattle.inf_gathering.proofs.gathering.name_all.Given as goal

-- the names among the leaves before this one are those of actions, and the other leaves are as they were
abbrev pub invariant-loop-at : goal.invariant-loop-at
invariant-loop-at l = l.leaves ≡ map action_leaf (take l.at l.initial.leaves) ++ drop l.at l.initial.leaves

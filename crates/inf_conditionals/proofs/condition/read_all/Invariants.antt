use Rattle.std.proofs.Common.{◌≡◌, length, true}
use Rattle.inf_unit.specs.AtHand.{unit as unit_of}
use Rattle.inf_conditionals.specs.{Condition.condition_begun, ReadAgain.all_fit, ReadAgain.all_taken, ReadAgain.condition_at}
use Rattle.inf_conditionals.proofs.condition.read_all.Given as goal

-- the tokens that are left lead from here to where all of them lead
abbrev pub invariant-loop-token : goal.invariant-loop-token
invariant-loop-token l = record {
  fits : all_fit l.left (condition_at l.rest (unit_of l.unit)) ≡ true;
  left : all_taken l.left (condition_at l.rest (unit_of l.unit)) ≡ all_taken l.tokens condition_begun;
}

abbrev pub decreases-loop-token : goal.decreases-loop-token
decreases-loop-token l = length l.left

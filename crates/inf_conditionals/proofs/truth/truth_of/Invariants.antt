use Rattle.std.proofs.Common.{◌≡◌, length, option_map}
use Rattle.inf_unit.specs.Spelled.{spelled}
use Rattle.inf_conditionals.specs.Truths.{all_read, reading_begun}
use Rattle.inf_conditionals.proofs.truth.truth_of.Given as goal

-- the tokens that are left lead from here to where all of them lead
abbrev pub invariant-loop-token : goal.invariant-loop-token
invariant-loop-token g l = all_read l.declared l.out l.left (record { stack = l.rest; last = option_map spelled l.last; truth = l.truth })
    ≡ all_read l.declared l.out l.tokens reading_begun

abbrev pub decreases-loop-token : goal.decreases-loop-token
decreases-loop-token g l = length l.left

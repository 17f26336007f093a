use Rattle.std.proofs.Common.{◌≡◌, drop, true}
use Rattle.inf_conditionals.specs.ReadAgain.{all_fit, all_taken}
use Rattle.inf_conditionals.proofs.condition.Condition.take_from.Given as goal

-- the tokens that are left lead from here to where all of them lead
abbrev pub invariant-loop-at : goal.invariant-loop-at
invariant-loop-at l = record {
  fits : all_fit (drop l.at l.tokens) l.self ≡ true;
  left : all_taken (drop l.at l.tokens) l.self ≡ all_taken (drop l.fn.first l.tokens) l.fn.self;
}

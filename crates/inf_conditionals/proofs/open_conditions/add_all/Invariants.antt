use Rattle.std.proofs.Common.{◌≡◌, ◌≤◌, ◌++◌, length, take}
use Rattle.inf_conditionals.proofs.open_conditions.add_all.Given as goal

-- the tokens so far begin with those before; they, and then those that are left, are all
abbrev pub invariant-loop-token : goal.invariant-loop-token
invariant-loop-token l = record {
  all : l.tokens ++ l.left ≡ l.fn.tokens ++ l.others;
  long : length l.fn.tokens ≤ length l.tokens;
  front : take (length l.fn.tokens) l.tokens ≡ l.fn.tokens;
}

abbrev pub decreases-loop-token : goal.decreases-loop-token
decreases-loop-token l = length l.left

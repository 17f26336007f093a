use Rattle.std.proofs.Common.{◌≡◌, drop}
use Rattle.inf_bodies.specs.Values.{bracket_from, bracket_in}
use Rattle.inf_bodies.proofs.values.bracket_in.Given as goal

-- the last bracket so far, with the tokens that are left, is the last of all
abbrev pub invariant-loop-at : goal.invariant-loop-at
invariant-loop-at l = bracket_from l.at (drop l.at l.tokens) l.bracket ≡ bracket_in l.tokens

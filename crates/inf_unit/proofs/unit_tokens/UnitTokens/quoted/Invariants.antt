use Rattle.std.proofs.Common.{◌≡◌, drop}
use Rattle.inf_unit.specs.Units.{quoted_in}
use Rattle.inf_unit.proofs.unit_tokens.UnitTokens.quoted.Given as goal

-- the first text of the tokens that are left is that of all
abbrev pub invariant-loop-at : goal.invariant-loop-at
invariant-loop-at l = quoted_in (drop l.at l.self) ≡ quoted_in l.self

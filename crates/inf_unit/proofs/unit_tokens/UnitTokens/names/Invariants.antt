use Rattle.std.proofs.Common.{◌≡◌, drop, map}
use Rattle.inf_names.specs.Spellings.{as_name}
use Rattle.inf_unit.specs.Units.{names_from, names_in}
use Rattle.inf_unit.proofs.unit_tokens.UnitTokens.names.Given as goal

-- the names so far, and then those of the tokens that are left, are those of all
abbrev pub invariant-loop-at : goal.invariant-loop-at
invariant-loop-at l = names_from (drop l.at l.self) (map as_name l.names.items) ≡ names_in l.self

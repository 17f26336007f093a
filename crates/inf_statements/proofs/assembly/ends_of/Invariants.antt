use Rattle.std.proofs.Common.{◌≡◌, drop}
use Rattle.inf_statements.specs.Assembly.{ends_from, no_ends}
use Rattle.inf_statements.proofs.assembly.ends_of.Given as goal

-- the items that are left lead from the ends so far to those of all items
abbrev pub invariant-loop-item : goal.invariant-loop-item
invariant-loop-item l = ends_from (drop l.item-index l.items) l.ends ≡ ends_from l.items no_ends

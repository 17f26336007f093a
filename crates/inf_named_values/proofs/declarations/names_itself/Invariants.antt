use Rattle.std.proofs.Common.{◌≡◌, false, drop}
use Rattle.inf_named_values.specs.Declarations.{names_from}
use Rattle.inf_named_values.proofs.declarations.names_itself.Given as goal

-- the answer so far, with that for the leaves that are left, is the answer for all
abbrev pub invariant-loop-leaf : goal.invariant-loop-leaf
invariant-loop-leaf l = names_from l.tokens l.name (drop l.leaf-index l.leaves) l.found ≡ names_from l.tokens l.name l.leaves false

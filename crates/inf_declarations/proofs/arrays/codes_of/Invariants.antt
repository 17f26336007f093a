use Rattle.std.proofs.Common.{◌≡◌, ◌++◌, drop}
use Rattle.inf_declarations.specs.Arrays.{codes_of}
use Rattle.inf_declarations.proofs.arrays.codes_of.Given as goal

-- the codes so far, and those of the items that are left, are those of all
abbrev pub invariant-loop-item : goal.invariant-loop-item
invariant-loop-item l = l.codes.items ++ codes_of (drop l.item-index l.items) ≡ codes_of l.items

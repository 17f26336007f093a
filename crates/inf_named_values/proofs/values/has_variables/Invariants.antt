use Rattle.std.proofs.Common.{◌≡◌, false, drop}
use Rattle.inf_named_values.specs.Values.{variables_from}
use Rattle.inf_named_values.proofs.values.has_variables.Given as goal

-- whether one was found, with the items that are left, is whether one is among all
abbrev pub invariant-loop-item : goal.invariant-loop-item
invariant-loop-item l = variables_from (drop l.item-index l.items) l.found ≡ variables_from l.items false

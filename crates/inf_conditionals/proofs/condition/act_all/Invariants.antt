use Rattle.std.proofs.Common.{◌≡◌, drop}
use Rattle.inf_unit.specs.AtHand.{unit}
use Rattle.inf_conditionals.specs.Condition.{all_acted}
use Rattle.inf_conditionals.proofs.condition.act_all.Given as goal

-- the actions that are left lead from the unit so far to that of all actions
abbrev pub invariant-loop-action : goal.invariant-loop-action
invariant-loop-action l = all_acted (drop l.action-index l.actions) (unit l.unit) ≡ all_acted l.actions (unit l.fn.unit)

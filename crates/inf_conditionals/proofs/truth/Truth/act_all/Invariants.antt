use Rattle.std.proofs.Common.{◌≡◌, drop, option_copied, option_map}
use Rattle.inf_unit.specs.Spelled.{spelled}
use Rattle.inf_conditionals.specs.Truths.{all_acted}
use Rattle.inf_conditionals.proofs.truth.Truth.act_all.Given as goal

-- the actions that are left lead from the truth so far to that of all actions
abbrev pub invariant-loop-action : goal.invariant-loop-action
invariant-loop-action g l = all_acted l.declared l.out (option_map spelled (option_copied l.last)) (drop l.action-index l.actions) l.self
    ≡ all_acted l.declared l.out (option_map spelled (option_copied l.fn.last)) l.actions l.fn.self

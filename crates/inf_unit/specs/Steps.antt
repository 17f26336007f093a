-- Steps by which the actions of the grammar gather expressions.
use Rattle.std.specs.Prelude.{Option, Some, None}
use Rattle.inf_syntax.specs.declared.actions.Action.{Action}
use Rattle.inf_unit.specs.{Roles.role_of, declared.roles.Role.Role, declared.steps.GatherStep.GatherStep}

-- GatherStep of an action, by which an expression is gathered; none where it has to do with no expression.
abbrev pub step_in : Role → Option GatherStep
step_in (Role.Gather s) = Some s
step_in _ = None

abbrev pub step_of : Action → Option GatherStep
step_of a = step_in (role_of a)

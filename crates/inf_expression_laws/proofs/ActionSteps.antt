-- An action that gathers a step of an expression does nothing else to the unit.
use Rattle.std.proofs.Common.{◌≡◌, Bool, true, false, Option, Some, refl, ap, unwrap_or}
use Rattle.inf_syntax.specs.declared.actions.Action.{Action}
use Rattle.inf_unit.specs.{Roles.role_of, Steps.step_in, Steps.step_of, declared.roles.Role.Role, declared.steps.GatherStep.GatherStep}
use Rattle.inf_unit.specs.Units.{Unit, acted, played, stepped}

played_step : (r : Role) (s : GatherStep) (u : Unit) → step_in r ≡ Some s → played r u ≡ stepped s u
played_step (Role.Gather t) s u e = ap (λ (o : Option GatherStep). stepped (unwrap_or o s) u) e
played_step _ s u e = cc

pub acted_step : (a : Action) (s : GatherStep) (u : Unit) → step_of a ≡ Some s → acted a u ≡ stepped s u
acted_step a s u e = played_step (role_of a) s u e

-- the action that only notes that an expression surely is one
abbrev pub is_sure : Action → Bool
is_sure Action.OuterSure = true
is_sure _ = false

pub only_sure : (a : Action) → is_sure a ≡ true → a ≡ Action.OuterSure
only_sure Action.OuterSure e = refl
only_sure _ e = cc

-- The changes that tokens, and steps of an expression, make in a compilation.
use Rattle.std.proofs.Common.{◌≡◌, ℕ, Bool, true, false, Option, Some, None, refl, ◌∙◌, ap, ◌&&◌, is_some}
use Rattle.inf_scanner.specs.declared.tokens.Place.{Place}
use Rattle.inf_settings.specs.Bounds.{Limits}
use Rattle.inf_syntax.specs.declared.actions.Action.{Action}
use Rattle.inf_unit.specs.{Roles.role_of, Steps.step_in, Tokens.SourceToken, declared.roles.Role.Role}
use Rattle.inf_unit.specs.{declared.steps.GatherStep.GatherStep}
use Rattle.inf_unit.specs.Units.{Unit, acted, played as unit_played, stepped}
use Rattle.inf_constructs.specs.Constructs.{depth as open_depth}
use Rattle.inf_compilation.specs.{Actions.Compilation, Actions.nested, Actions.opens, Context.Context}
use Rattle.inf_reader.specs.Acting.{act, played}
use Rattle.inf_language.specs.{Constants.is_too_deep, Constants.length_told, Constants.token_told, Units.is_step}

-- The report of a token leaves what waits for a report.

nested_opening : (context : Context) (place : Place) (is_deep : Bool) (w : Compilation)
    → (nested context place is_deep w).opening ≡ w.opening
nested_opening context place true w = refl
nested_opening context place false w = refl

pub told_opening : (context : Context) (t : SourceToken) (brackets : ℕ) (too_many : Option Place) (count : ℕ) (w : Compilation)
    → (token_told context t brackets too_many count w).opening ≡ w.opening
told_opening context t brackets None count w =
    let v = length_told context None count w in
    nested_opening context t.place (opens t.kind && is_too_deep brackets (open_depth v.constructs) 0) v
told_opening context t brackets (Some place) count w =
    let v = length_told context (Some place) count w in
    nested_opening context t.place (opens t.kind && is_too_deep brackets (open_depth v.constructs) 0) v

-- A step changes nothing but what is gathered.

pub stepped_gathers : (s : GatherStep) (u : Unit) → stepped s u ≡ record u { gathering = (stepped s u).gathering }
stepped_gathers GatherStep.Leaf u = refl
stepped_gathers GatherStep.Action u = refl
stepped_gathers GatherStep.System u = refl
stepped_gathers _ u = refl

played_gathers : (r : Role) (u : Unit) → is_some (step_in r) ≡ true → unit_played r u ≡ record u { gathering = (unit_played r u).gathering }
played_gathers (Role.Gather s) u is = stepped_gathers s u
played_gathers _ u is = cc

pub acted_gathers : (a : Action) (u : Unit) → is_step a ≡ true → acted a u ≡ record u { gathering = (acted a u).gathering }
acted_gathers a u is = played_gathers (role_of a) u is

played_alone : (limits : Limits) (context : Context) (place : Place) (r : Role) (w : Compilation) → is_some (step_in r) ≡ true
    → played limits context place r w ≡ record w { unit = unit_played r w.unit }
played_alone limits context place (Role.Gather s) w is = refl
played_alone limits context place _ w is = cc

pub step_acts : (limits : Limits) (context : Context) (place : Place) (a : Action) (w : Compilation) (u : Unit) → is_step a ≡ true
    → act limits context place a (record w { unit = u }) ≡ record w { unit = record u { gathering = (acted a u).gathering } }
step_acts limits context place a w u is = played_alone limits context place (role_of a) (record w { unit = u }) is
    ∙ ap (λ (x : Unit). record w { unit = x }) (acted_gathers a u is)

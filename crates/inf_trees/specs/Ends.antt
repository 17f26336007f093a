-- The ends of units: which end comes first among the events of a text, that of a case or that of a statement.
use Rattle.std.specs.Prelude.{List, [], ◌∷◌, Bool, true, false, Option, Some, None}
use Rattle.inf_machine.specs.Grammar.{Did, Event, Took}
use Rattle.inf_syntax.specs.declared.actions.Action.{Action}
use Rattle.inf_unit.specs.{Roles.role_of, declared.roles.Ending.Ending, declared.roles.Role.Role}

-- whether an action ends a case, if it does so or ends a statement
abbrev pub end_in : Role → Option Bool
end_in (Role.End Ending.Case) = Some true
end_in (Role.End Ending.Statement) = Some false
end_in _ = None

abbrev pub end_kind : Action → Option Bool
end_kind a = end_in (role_of a)

abbrev pub by_end : Option Bool → Bool → Bool
by_end None others = others
by_end (Some is) others = is

-- whether the first end among some events is that of a case
abbrev pub case_first : List (Event Action) → Bool
case_first [] = false
case_first (Took atom ∷ events) = case_first events
case_first (Did a ∷ events) = by_end (end_kind a) (case_first events)

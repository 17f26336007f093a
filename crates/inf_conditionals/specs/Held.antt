-- The parts of a condition that are up to date: the unit and the tokens, or the tokens alone, or the unit alone.
use Rattle.std.specs.Prelude.{◌≡◌, List, Bool, true, false}
use Rattle.inf_machine.specs.declared.symbols.Symbol.{Symbol}
use Rattle.inf_syntax.specs.declared.actions.Action.{Action}
use Rattle.inf_unit.specs.{Tokens.SourceToken, Units.Unit as Gathered}
use Rattle.inf_conditionals.specs.{Condition.Condition, Condition.condition_begun, declared.condition.Held.Held}
use Rattle.inf_conditionals.specs.ReadAgain.{IsReadBy, all_fit, all_taken, condition_at}

abbrev pub condition_by : Held → List (Symbol Action) → Gathered → List SourceToken → Condition
condition_by Held.Tokens stack unit tokens = all_taken tokens condition_begun
condition_by _ stack unit tokens = condition_at stack unit

abbrev pub IsHeld : Held → List (Symbol Action) → Gathered → List SourceToken → Type 0
IsHeld Held.Both stack unit tokens = IsReadBy tokens (condition_at stack unit)
IsHeld Held.Tokens stack unit tokens = (all_fit tokens condition_begun ≡ true) × (stack ≡ (all_taken tokens condition_begun).stack)
IsHeld Held.Unit stack unit tokens = Unit {0}

abbrev pub unfolded : Held → Held
unfolded Held.Unit = Held.Unit
unfolded _ = Held.Both

-- Tells whether the tokens are up to date.
abbrev pub has_tokens : Held → Bool
has_tokens Held.Unit = false
has_tokens _ = true

-- Conditions by the tokens that they have taken.
use Rattle.std.specs.Prelude.{◌≡◌, List, [], ◌∷◌, Bool, true, ◌&&◌}
use Rattle.inf_machine.specs.{Machine.fits, declared.symbols.Symbol.Symbol}
use Rattle.inf_syntax.specs.declared.actions.Action.{Action}
use Rattle.inf_grammar.specs.Language.{grammar, known}
use Rattle.inf_unit.specs.{Tokens.SourceToken, Tokens.atom_of, Units.Unit}
use Rattle.inf_conditionals.specs.Condition.{Condition, condition_begun, condition_took}

-- the condition with this rest and this unit
abbrev pub condition_at : List (Symbol Action) → Unit → Condition
condition_at stack unit = record { stack = stack; unit = unit }

-- a condition that takes these tokens
abbrev pub all_taken : List SourceToken → Condition → Condition
all_taken [] k = k
all_taken (t ∷ tokens) k = all_taken tokens (condition_took t k)

-- Tells whether each of these tokens fits the condition behind those before it.
abbrev pub all_fit : List SourceToken → Condition → Bool
all_fit [] k = true
all_fit (t ∷ tokens) k = fits grammar known (atom_of t) k.stack && all_fit tokens (condition_took t k)

-- the condition has taken just these tokens
abbrev pub IsReadBy : List SourceToken → Condition → Type 0
IsReadBy tokens k = (all_fit tokens condition_begun ≡ true) × (k ≡ all_taken tokens condition_begun)

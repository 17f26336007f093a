-- Rules by themselves are spaced.
use Rattle.std.proofs.Common.{ℕ, [], ◌∷◌}
use Rattle.inf_machine.specs.{Laws.IsSpaced, declared.symbols.Symbol.Symbol}
use Rattle.inf_grammar.specs.Language.{grammar, known}

-- a rule alone is followed by nothing that could begin as it does
pub rule_is_spaced : (rule : ℕ) → IsSpaced grammar known (Symbol.Rule rule ∷ [])
rule_is_spaced rule = ((λ atom f. cc), tt)

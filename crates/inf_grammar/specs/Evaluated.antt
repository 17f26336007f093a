-- One token decides each rule of the language: by evaluation.
use Rattle.std.proofs.{lemmas.Bool.agree_below, lemmas.Bool.agree_below_at, lemmas.Bool.cases_lt, lemmas.List.get_or_past}
use Rattle.std.proofs.Common.{◌≡◌, ℕ, ◌≤◌, true, false, [], length, refl, arith, inl, inr, lit≤}
use Rattle.inf_machine.specs.{Decided.is_decided, Grammar.Grammar, Laws.IsDecided, Machine.Known}
use Rattle.inf_syntax.specs.declared.actions.Action.{Action}
use Rattle.inf_grammar.specs.{Facts.beginnings, Facts.empties, Language.grammar, Language.known, Language.rules}

pub all_decided : agree_below (λ rule. is_decided grammar known rule) (λ rule. true) 256 ≡ true
unfolding grammar known
all_decided = refl

-- a rule without rows is decided
no_rows : (g : Grammar Action) (k : Known) (rule : ℕ) → g.rows_of rule ≡ [] → k.begins rule ≡ 0 → k.is_empty rule ≡ false →
    is_decided g k rule ≡ true
no_rows g k rule r b e = rw (r, b, e) refl

rules_length : length rules ≤ 256
rules_length = lit≤ tt

beginnings_length : length beginnings ≤ 256
beginnings_length = lit≤ tt

empties_length : length empties ≤ 256
empties_length = lit≤ tt

pub rows_past : (rule : ℕ) → 256 ≤ rule → grammar.rows_of rule ≡ []
unfolding grammar
rows_past rule l = get_or_past rules rule [] (omega (arith, rules_length))

pub begins_past : (rule : ℕ) → 256 ≤ rule → known.begins rule ≡ 0
unfolding known
begins_past rule l = get_or_past beginnings rule 0 (omega (arith, beginnings_length))

pub empty_past : (rule : ℕ) → 256 ≤ rule → known.is_empty rule ≡ false
unfolding known
empty_past rule l = get_or_past empties rule false (omega (arith, empties_length))

pub language_is_decided : IsDecided grammar known
language_is_decided rule = elim (cases_lt rule 256) [
  | inl l ↦ agree_below_at (λ r. is_decided grammar known r) (λ r. true) 256 rule all_decided l
  | inr l ↦ no_rows grammar known rule (rows_past rule l) (begins_past rule l) (empty_past rule l)
]

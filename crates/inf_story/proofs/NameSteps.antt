-- The values of names, one by one.
use Rattle.std.proofs.Common.{◌≡◌, ◌<◌, ◌+◌, ℕ, suc, zero, List, [], ◌∷◌, ◌++◌, Option, Some, None, drop, length, append_assoc, refl, sym}
use Rattle.std.proofs.Common.{ap, ◌∙◌, arith}
use Rattle.inf_area.specs.declared.targets.Value.{Value}
use Rattle.inf_names.specs.Symbols.{Named, meaning_in, standing_at}
use Rattle.inf_scanner.specs.declared.tokens.Place.{Place}
use Rattle.inf_story.specs.Names.{value_by, values_of, with_value}

-- the values of `done` and those behind them, if there are any
abbrev pub behind : List Value → Option (List Value) → Option (List Value)
behind done None = None
behind done (Some values) = Some (done ++ values)

pub behind_one : (done : List Value) (value : Value) (values : Option (List Value)) →
    behind done (with_value (Some value) values) ≡ behind (done ++ value ∷ []) values
behind_one done value None = refl
behind_one done value (Some values) = ap Some (sym (append_assoc done (value ∷ []) values))

next : (names : List (Named Place)) (number : ℕ) → number < length names
    → values_of (drop number names) ≡ with_value (value_by (meaning_in (standing_at number names))) (values_of (drop (suc number) names))
next [] number lt = absurd (omega arith)
next (n ∷ names) zero lt = refl
next (n ∷ names) (suc number) lt = next names number (omega arith)

pub value_step : (names : List (Named Place)) (number : ℕ) → number < length names
    → values_of (drop number names) ≡ with_value (value_by (meaning_in (standing_at number names))) (values_of (drop (number + 1) names))
value_step names number lt =
    let one : suc number ≡ number + 1 = omega arith in
    next names number lt ∙ ap (λ n. with_value (value_by (meaning_in (standing_at number names))) (values_of (drop n names))) one

-- The steps of rules with atoms, as they are kept.
use Rattle.std.specs.Prelude.{◌≡◌, ℕ, List, [], Bool, true, false, Some, slice_get, unwrap_or}
use Rattle.inf_machine.specs.{Grammar.Grammar, Grammar.has, Machine.Known, Machine.passed_row, declared.steps.Step.Step}

-- Tells whether a step is kept, as a refusal is not.
abbrev pub is_kept : Step → Bool
is_kept Step.Refused = false
is_kept Step.Silent = true
is_kept Step.Passed = true
is_kept (Step.Opened place) = true

abbrev pub step_at : List Step → ℕ → Step
step_at steps atom = unwrap_or (slice_get steps atom) Step.Refused

abbrev pub step_of : List (List Step) → ℕ → ℕ → Step
step_of rows rule atom = step_at (unwrap_or (slice_get rows rule) []) atom

-- The step is what the rule does with the atom, where these openings were made, each by its rule and its atom.
abbrev pub Means : {A : Type 0} → Grammar A → Known → List (ℕ × ℕ) → ℕ → ℕ → Step → Type 0
Means g k made rule atom Step.Silent =
    (has (k.begins rule) atom ≡ false) × (k.is_empty rule ≡ true) × (passed_row g k (g.rows_of rule) ≡ [])
Means g k made rule atom Step.Passed = (has (k.begins rule) atom ≡ false) × (k.is_empty rule ≡ true)
Means g k made rule atom Step.Refused = (has (k.begins rule) atom ≡ false) × (k.is_empty rule ≡ false)
Means g k made rule atom (Step.Opened place) = (has (k.begins rule) atom ≡ true) × (slice_get made place ≡ Some (rule, atom))

-- All steps that are kept are what the rules do.
abbrev pub AllMean : {A : Type 0} → Grammar A → Known → List (ℕ × ℕ) → List (List Step) → Type 0
AllMean g k made rows = (rule atom : ℕ) → is_kept (step_of rows rule atom) ≡ true → Means g k made rule atom (step_of rows rule atom)

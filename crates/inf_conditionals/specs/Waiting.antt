-- Conditions that wait for others inside of them: those of few tokens are kept by these, and are read again.
use Rattle.std.specs.Prelude.{◌≡◌, ◌≤◌, ◌-◌, ◌++◌, ℕ, List, [], ◌∷◌, true, length, drop, take, Option, Some, None, box_value}
use Rattle.inf_unit.specs.Tokens.{SourceToken}
use Rattle.inf_conditionals.specs.{Condition.Condition, Condition.condition_begun, declared.open_conditions.Waiting.Waiting}
use Rattle.inf_conditionals.specs.ReadAgain.{IsReadBy, all_fit, all_taken}

-- Behind the tokens `before` the tokens that the condition has taken were added, `count` of them.
pub record IsAdded (count : ℕ) (k : Condition) (before now : List SourceToken) : Type 0 where
  pub few : List SourceToken
  pub count_is : count ≡ length few
  pub behind : now ≡ before ++ few
  pub reads : IsReadBy few k

-- Conditions that wait, inner ones first, of which the short ones have the last tokens.
abbrev pub waiting_in : List Waiting → List SourceToken → List Condition
waiting_in [] tokens = []
waiting_in ((Waiting.Short n) ∷ others) tokens =
    all_taken (drop (length tokens - n) tokens) condition_begun ∷ waiting_in others (take (length tokens - n) tokens)
waiting_in ((Waiting.Long k) ∷ others) tokens = box_value k ∷ waiting_in others tokens

-- the tokens of each short one are there, and fit
abbrev pub CanWait : List Waiting → List SourceToken → Type 0
CanWait [] tokens = Unit {0}
CanWait ((Waiting.Short n) ∷ others) tokens = (n ≤ length tokens) × ((all_fit (drop (length tokens - n) tokens) condition_begun ≡ true)
    × CanWait others (take (length tokens - n) tokens))
CanWait ((Waiting.Long k) ∷ others) tokens = CanWait others tokens

-- the innermost condition, where it is at hand, and those that wait
abbrev pub with_innermost : Option Condition → List Condition → List Condition
with_innermost None others = others
with_innermost (Some k) others = k ∷ others

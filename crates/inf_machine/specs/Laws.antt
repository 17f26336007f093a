-- Laws about the machine and texts, for each grammar in which one token decides, whatever its actions are.
use Rattle.std.specs.Prelude.{◌≡◌, ℕ, List, [], ◌∷◌, ◌++◌, true, ◌↔◌, Some, is_some}
use Rattle.inf_machine.specs.{Decided.is_decided, Grammar.Begins, Grammar.Event, Grammar.Grammar, Grammar.IsText, Grammar.has}
use Rattle.inf_machine.specs.{Machine.Known, Machine.Read, Machine.can_end, Machine.fits, Machine.read, declared.symbols.Symbol.Symbol}

-- one token decides in every rule
abbrev pub IsDecided : {A : Type 0} → Grammar A → Known → Type 0
IsDecided g k = (rule : ℕ) → is_decided g k rule ≡ true

-- Each atom that may come behind a rule in the stack is known to follow the rule. This holds where the stack began with one rule.
abbrev pub IsSpaced : {A : Type 0} → Grammar A → Known → List (Symbol A) → Type 0
IsSpaced g k [] = Unit {0}
IsSpaced g k (Symbol.Token class ∷ symbols) = IsSpaced g k symbols
IsSpaced g k (Symbol.Act a ∷ symbols) = IsSpaced g k symbols
IsSpaced g k (Symbol.Rule rule ∷ symbols) =
    ((atom : ℕ) → fits g k atom symbols ≡ true → has (k.follows rule) atom ≡ true) × IsSpaced g k symbols

-- Tokens are all taken exactly where they begin a text. Thus the bad token is the first with which they begin none.
abbrev pub BadTokensBeginNothing : Type 0 → Type 0
BadTokensBeginNothing A = (g : Grammar A) (k : Known) (rule : ℕ) (atoms : List ℕ) → IsDecided g k →
    (is_some (read g k (Symbol.Rule rule ∷ []) atoms) ≡ true) ↔ Begins g (Symbol.Rule rule ∷ []) atoms

-- The tokens are a text with these events exactly where they are taken, and the events are those of reading, followed by those of
-- the stack that is left, without a token.
abbrev pub TextsAreTaken : Type 0 → Type 0
TextsAreTaken A = (g : Grammar A) (k : Known) (rule : ℕ) (atoms : List ℕ) (events : List (Event A)) → IsDecided g k →
    IsText g (Symbol.Rule rule ∷ []) atoms events
    ↔ ((r : Read A) × (rest : List (Event A)) × (read g k (Symbol.Rule rule ∷ []) atoms ≡ Some r) × (events ≡ r.events ++ rest) ×
    IsText g r.left [] rest)

-- The tokens are a text exactly where they are taken and the symbols that are left can be empty.
abbrev pub SourcesEnd : Type 0 → Type 0
SourcesEnd A = (g : Grammar A) (k : Known) (rule : ℕ) (atoms : List ℕ) → IsDecided g k →
    ((events : List (Event A)) × IsText g (Symbol.Rule rule ∷ []) atoms events)
    ↔ ((r : Read A) × (read g k (Symbol.Rule rule ∷ []) atoms ≡ Some r) × (can_end k r.left ≡ true))

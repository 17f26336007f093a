-- The machine as functions on lists: whether a token fits, and the symbols and actions that taking it gives. The stack is a list
-- of symbols, the one at hand first. For each rule the machine knows which atoms begin the rule and whether the rule can be
-- empty, by which one atom decides the row.
use Rattle.std.specs.Prelude.{ℕ, ◌+◌, List, [], ◌∷◌, ◌++◌, Bool, true, false, ◌&&◌, ◌||◌, if◌then◌else◌, zero, suc, Option, Some, None}
use Rattle.inf_machine.specs.declared.symbols.Symbol.{Symbol}
use Rattle.inf_machine.specs.Grammar.{Grammar, Row, has, Event, Took, Did}

-- The facts that the machine knows of each rule: the atoms that begin it, those that may follow it where it can be empty, whether
-- it can be empty, and a bound on the steps from it to a token.
pub record Known : Type 0 where
  pub begins : ℕ → ℕ
  pub follows : ℕ → ℕ
  pub is_empty : ℕ → Bool
  pub steps : ℕ → ℕ

-- tells whether an atom fits the symbols: the first, or one behind symbols that can be empty
abbrev pub fits : {A : Type 0} → Grammar A → Known → ℕ → List (Symbol A) → Bool
fits g k atom [] = false
fits g k atom (Symbol.Token class ∷ symbols) = has (g.atoms_of class) atom
fits g k atom (Symbol.Act a ∷ symbols) = fits g k atom symbols
fits g k atom (Symbol.Rule rule ∷ symbols) = has (k.begins rule) atom || (k.is_empty rule && fits g k atom symbols)

-- tells whether the symbols can be empty
abbrev pub can_end : {A : Type 0} → Known → List (Symbol A) → Bool
can_end k [] = true
can_end k (Symbol.Token class ∷ symbols) = false
can_end k (Symbol.Act a ∷ symbols) = can_end k symbols
can_end k (Symbol.Rule rule ∷ symbols) = k.is_empty rule && can_end k symbols

-- the row that can be empty
abbrev pub empty_row : {A : Type 0} → Known → List (Row A) → List (Symbol A)
empty_row k [] = []
empty_row k (row ∷ rows) = if can_end k row.parts then row.parts else empty_row k rows

-- the row that an atom begins, or `other` where it begins none
abbrev pub row_for : {A : Type 0} → Grammar A → Known → ℕ → List (Symbol A) → List (Row A) → List (Symbol A)
row_for g k atom other [] = other
row_for g k atom other (row ∷ rows) = if fits g k atom row.parts then row.parts else row_for g k atom other rows

-- the row of a rule that an atom chooses: the one that it begins, or else the one that can be empty
abbrev pub chosen : {A : Type 0} → Grammar A → Known → ℕ → ℕ → List (Symbol A)
chosen g k atom rule = row_for g k atom (empty_row k (g.rows_of rule)) (g.rows_of rule)

-- tells whether symbols that can be empty have no action on the way through them, as far as `n` rules deep shows it
abbrev pub is_silent : {A : Type 0} → Grammar A → Known → ℕ → List (Symbol A) → Bool
is_silent g k n [] = true
is_silent g k n (Symbol.Token class ∷ symbols) = false
is_silent g k n (Symbol.Act a ∷ symbols) = false
is_silent g k zero (Symbol.Rule rule ∷ symbols) = false
is_silent g k (suc n) (Symbol.Rule rule ∷ symbols) = is_silent g k n (empty_row k (g.rows_of rule)) && is_silent g k (suc n) symbols

-- the depth to which rules are searched for actions
abbrev pub depth : ℕ
depth = 4

-- the symbols in place of a rule that is passed over: its empty row, or nothing where that has no action
abbrev pub passed_row : {A : Type 0} → Grammar A → Known → List (Row A) → List (Symbol A)
passed_row g k rows = if is_silent g k depth (empty_row k rows) then [] else empty_row k rows

-- tells whether symbols are actions alone
abbrev pub are_acts : {A : Type 0} → List (Symbol A) → Bool
are_acts [] = true
are_acts (Symbol.Token class ∷ symbols) = false
are_acts (Symbol.Rule rule ∷ symbols) = false
are_acts (Symbol.Act a ∷ symbols) = are_acts symbols

-- the actions among symbols
abbrev pub acts_of : {A : Type 0} → List (Symbol A) → List A
acts_of [] = []
acts_of (Symbol.Token class ∷ symbols) = acts_of symbols
acts_of (Symbol.Rule rule ∷ symbols) = acts_of symbols
acts_of (Symbol.Act a ∷ symbols) = a ∷ acts_of symbols

-- the symbols that the machine puts in place of a rule before an atom: the row that the atom begins, else those of the rule passed over
abbrev pub way : {A : Type 0} → Grammar A → Known → ℕ → ℕ → List (Symbol A)
way g k atom rule = row_for g k atom (passed_row g k (g.rows_of rule)) (g.rows_of rule)

-- the result of taking a token: the actions on the way to it, and the symbols behind it
pub record Taken (A : Type 0) : Type 0 where
  pub actions : List A
  pub left : List (Symbol A)

abbrev pub after : {A : Type 0} → A → Taken A → Taken A
after a t = record { actions = a ∷ t.actions; left = t.left }

-- the result of going to a token in `n` steps at most
abbrev pub stepped : {A : Type 0} → Grammar A → Known → ℕ → ℕ → List (Symbol A) → Taken A
stepped g k atom zero symbols = record { actions = []; left = symbols }
stepped g k atom (suc n) [] = record { actions = []; left = [] }
stepped g k atom (suc n) (Symbol.Token class ∷ symbols) = record { actions = []; left = symbols }
stepped g k atom (suc n) (Symbol.Act a ∷ symbols) = after a (stepped g k atom n symbols)
stepped g k atom (suc n) (Symbol.Rule rule ∷ symbols) = stepped g k atom n (chosen g k atom rule ++ symbols)

-- a number of steps that is enough
abbrev pub work : {A : Type 0} → Known → ℕ → List (Symbol A) → ℕ
work k atom [] = 0
work k atom (Symbol.Token class ∷ symbols) = 1
work k atom (Symbol.Act a ∷ symbols) = suc (work k atom symbols)
work k atom (Symbol.Rule rule ∷ symbols) = k.steps rule + (if has (k.begins rule) atom then 0 else work k atom symbols)

-- the result of taking an atom that fits
abbrev pub taken : {A : Type 0} → Grammar A → Known → ℕ → List (Symbol A) → Taken A
taken g k atom symbols = stepped g k atom (work k atom symbols) symbols

-- the result of taking an atom where a rule that it begins is at hand, whatever comes behind the rule
abbrev pub opened : {A : Type 0} → Grammar A → Known → ℕ → ℕ → Taken A
opened g k rule atom = taken g k atom (Symbol.Rule rule ∷ [])

-- the events of actions and of a token behind them
abbrev pub events_of : {A : Type 0} → List A → ℕ → List (Event A)
events_of [] atom = Took atom ∷ []
events_of (a ∷ actions) atom = Did a ∷ events_of actions atom

-- The result of reading tokens: the events, and the symbols that are left.
pub record Read (A : Type 0) : Type 0 where
  pub events : List (Event A)
  pub left : List (Symbol A)

abbrev pub behind : {A : Type 0} → List (Event A) → Option (Read A) → Option (Read A)
behind events None = None
behind events (Some r) = Some (record { events = events ++ r.events; left = r.left })

-- the tokens are taken one after another, each if it fits; the result is `None` where one is bad
abbrev pub read : {A : Type 0} → Grammar A → Known → List (Symbol A) → List ℕ → Option (Read A)
read g k symbols [] = Some (record { events = []; left = symbols })
read g k symbols (atom ∷ atoms) =
    if fits g k atom symbols then (let t = taken g k atom symbols in behind (events_of t.actions atom) (read g k t.left atoms)) else None

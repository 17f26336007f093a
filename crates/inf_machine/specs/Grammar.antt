-- A grammar as a table of rows, over any type of actions, and its texts.
use Rattle.std.specs.Prelude.{◌≡◌, ℕ, List, [], ◌∷◌, ◌++◌, Bool, true, false, ◌==◌}
use Rattle.std.specs.Int.{bit_at}
use Rattle.inf_machine.specs.declared.symbols.Symbol.{Symbol}

-- A set of atoms is a number: its bit `atom` says whether the atom is in it.
abbrev pub has : ℕ → ℕ → Bool
has set atom = bit_at set atom == 1

-- A way to write a rule: its parts in order, and the atoms before which the row is not taken.
pub record Row (A : Type 0) : Type 0 where
  pub parts : List (Symbol A)
  pub unless : ℕ

-- A grammar: for each class of tokens its atoms, and for each rule its rows.
pub record Grammar (A : Type 0) : Type 0 where
  pub atoms_of : ℕ → ℕ
  pub rows_of : ℕ → List (Row A)

-- a thing is one of a list
pub data IsOneOf {X : Type 0} (x : X) : List X → Type 0 where
  first : {xs : List X} → IsOneOf x (x ∷ xs)
  later : {y : X} {xs : List X} → IsOneOf x xs → IsOneOf x (y ∷ xs)

-- The next token, if any, is not in a set.
abbrev pub IsNext_not : ℕ → List ℕ → Type 0
IsNext_not set [] = Unit {0}
IsNext_not set (atom ∷ atoms) = has set atom ≡ false

-- an event of reading a text: a token is taken, or an action is carried out
pub data Event (A : Type 0) : Type 0 where
  Took : (atom : ℕ) → Event A
  Did : (action : A) → Event A

-- The tokens lead from the symbols, one behind the other, with these events to the symbols that are left.
pub data Leads {A : Type 0} (g : Grammar A) : List (Symbol A) → List ℕ → List (Event A) → List (Symbol A) → Type 0 where
  here : {symbols : List (Symbol A)} → Leads g symbols [] [] symbols
  token : {class atom : ℕ} {symbols left : List (Symbol A)} {atoms : List ℕ} {events : List (Event A)} →
      has (g.atoms_of class) atom ≡ true → Leads g symbols atoms events left →
      Leads g (Symbol.Token class ∷ symbols) (atom ∷ atoms) (Took atom ∷ events) left
  action : {a : A} {symbols left : List (Symbol A)} {atoms : List ℕ} {events : List (Event A)} → Leads g symbols atoms events left →
      Leads g (Symbol.Act a ∷ symbols) atoms (Did a ∷ events) left
  row : {rule : ℕ} {r : Row A} {symbols left : List (Symbol A)} {atoms : List ℕ} {events : List (Event A)} → IsOneOf r (g.rows_of rule) →
      IsNext_not r.unless atoms → Leads g (r.parts ++ symbols) atoms events left → Leads g (Symbol.Rule rule ∷ symbols) atoms events left

-- The tokens are a text of the symbols, with these events: no symbol is left.
abbrev pub IsText : {A : Type 0} → Grammar A → List (Symbol A) → List ℕ → List (Event A) → Type 0
IsText g symbols atoms events = Leads g symbols atoms events []

-- The tokens begin a text of the symbols, as far as they go.
abbrev pub Begins : {A : Type 0} → Grammar A → List (Symbol A) → List ℕ → Type 0
Begins {A} g symbols atoms = (events : List (Event A)) × (left : List (Symbol A)) × Leads g symbols atoms events left

-- A source as pieces: texts of a rule, one behind the other, and bad pieces.
use Rattle.std.specs.Prelude.{◌≡◌, ℕ, zero, suc, List, [], ◌∷◌, ◌++◌, Bool, true, false, ◌&&◌, Option, Some, None, take, drop}
use Rattle.inf_machine.specs.{Laws.IsDecided, Machine.Known, declared.symbols.Symbol.Symbol}
use Rattle.inf_machine.specs.Grammar.{Grammar, Row, Event, IsText, Begins}

-- A piece of a source: a whole one; tokens with a bad one behind them and those behind it that are skipped; or tokens that the
-- end of the source cuts off.
pub data Piece : Type 0 where
  Whole : (atoms : List ℕ) → Piece
  Bad : (front : List ℕ) (bad : ℕ) (skipped : List ℕ) → Piece
  Cut : (front : List ℕ) → Piece

-- the tokens are a text of the rule
abbrev pub IsPiece : {A : Type 0} → Grammar A → ℕ → List ℕ → Type 0
IsPiece {A} g rule atoms = (events : List (Event A)) × IsText g (Symbol.Rule rule ∷ []) atoms events

-- the tokens begin a text of the rule, and are not one yet
abbrev pub IsOpen : {A : Type 0} → Grammar A → ℕ → List ℕ → Type 0
IsOpen g rule front = Begins g (Symbol.Rule rule ∷ []) front × (IsPiece g rule front → ⊥)

-- The pieces of tokens. A piece ends with the first token that makes it a text. The bad token is the first with which the tokens
-- begin no text; behind it as many tokens are skipped as `further` gives for the tokens before it, it, and the tokens behind it.
pub data ArePieces {A : Type 0} (g : Grammar A) (rule : ℕ) (further : List ℕ → ℕ → List ℕ → ℕ) : List Piece → List ℕ → Type 0 where
  ended : ArePieces g rule further [] []
  whole : (front : List ℕ) (last : ℕ) (rest : List ℕ) {pieces : List Piece} → IsOpen g rule front → IsPiece g rule (front ++ last ∷ []) →
      ArePieces g rule further pieces rest → ArePieces g rule further (Whole (front ++ last ∷ []) ∷ pieces) (front ++ last ∷ rest)
  bad : (front : List ℕ) (token : ℕ) (rest : List ℕ) {pieces : List Piece} → IsOpen g rule front →
      (Begins g (Symbol.Rule rule ∷ []) (front ++ token ∷ []) → ⊥) → ArePieces g rule further pieces
      (drop (further front token rest) rest) →
      ArePieces g rule further (Bad front token (take (further front token rest) rest) ∷ pieces) (front ++ token ∷ rest)
  cut : {first : ℕ} {front : List ℕ} → IsOpen g rule (first ∷ front) → ArePieces g rule further (Cut (first ∷ front) ∷ []) (first ∷ front)

-- The property of a table by which all texts of a rule end with a token; it is computed.

abbrev pub last_symbol : {A : Type 0} → List (Symbol A) → Option (Symbol A)
last_symbol [] = None
last_symbol (symbol ∷ []) = Some symbol
last_symbol (symbol ∷ next ∷ symbols) = last_symbol (next ∷ symbols)

abbrev pub all_rows : {A : Type 0} → (List (Symbol A) → Bool) → List (Row A) → Bool
all_rows test [] = true
all_rows test (row ∷ rows) = test row.parts && all_rows test rows

-- tells whether a symbol is a token, or a rule whose rows all end with one, as far as `n` rules deep shows it
abbrev pub closes : {A : Type 0} → Grammar A → Option (Symbol A) → ℕ → Bool
closes g None n = false
closes g (Some (Symbol.Token class)) n = true
closes g (Some (Symbol.Act a)) n = false
closes g (Some (Symbol.Rule rule)) zero = false
closes g (Some (Symbol.Rule rule)) (suc n) = all_rows (λ parts. closes g (last_symbol parts) n) (g.rows_of rule)

-- Every source has its pieces, whatever is skipped.
abbrev pub SourcesArePieces : Type 0 → Type 0
SourcesArePieces A =
    (g : Grammar A) (k : Known) (rule deep : ℕ) (further : List ℕ → ℕ → List ℕ → ℕ) (atoms : List ℕ) → IsDecided g k → closes g
    (Some (Symbol.Rule rule)) deep ≡ true → (pieces : List Piece) × ArePieces g rule further pieces atoms

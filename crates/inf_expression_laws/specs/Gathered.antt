-- The parts of an expression that a unit has gathered once its tokens were taken.
use Rattle.std.specs.Prelude.{◌≡◌, ℕ, suc, ◌==◌, List, [], ◌∷◌, ◌++◌, Bool, true, false, ◌&&◌, if◌then◌else◌, Option, Some, None, ⊤}
use Rattle.inf_machine.specs.Grammar.{Event, Took, Did}
use Rattle.inf_scanner.specs.{declared.tokens.Mark.Mark, declared.tokens.TokenKind.TokenKind}
use Rattle.inf_syntax.specs.{Atoms.mark_atom, declared.actions.Action.Action}
use Rattle.inf_expressions.specs.{declared.operators.Binary.Binary, declared.symbols.Symbol.Symbol}
use Rattle.inf_expressions.specs.Sources.{Source, Leaf, Brackets, Prefix, Suffix, Two, Then, Call, Alone}
use Rattle.inf_gathering.specs.{Gatherings.Gathering, declared.gathering.Leaf.Leaf as Gathered}
use Rattle.inf_unit.specs.Tokens.{SourceToken}
use Rattle.inf_unit.specs.Units.{Unit, acted, is_first, is_some_mark, kind_at, leaf_of, taken, told_leaf}

-- The unit once tokens were taken and actions carried out, one behind the other.
abbrev pub read_by : List (Event Action) → List SourceToken → Unit → Unit
read_by [] tokens u = u
read_by (Did action ∷ events) tokens u = read_by events tokens (acted action u)
read_by (Took atom ∷ events) [] u = u
read_by (Took atom ∷ events) (t ∷ tokens) u = read_by events tokens (taken t u)

-- Tells whether a token whose atom is a mark's is that mark.
abbrev pub IsSeen : ℕ → SourceToken → Type 0
IsSeen atom t = (m : Mark) → atom ≡ mark_atom m → t.kind ≡ TokenKind.Mark m

-- Tells whether tokens have these atoms.
abbrev pub AreSeen : List ℕ → List SourceToken → Type 0
AreSeen [] [] = ⊤
AreSeen (atom ∷ atoms) (t ∷ tokens) = IsSeen atom t × AreSeen atoms tokens
AreSeen [] (t ∷ tokens) = false ≡ true
AreSeen (atom ∷ atoms) [] = false ≡ true

-- Number of joints of a list
abbrev pub joints : Source → ℕ
joints (Then a b) = suc (joints b)
joints _ = 0

-- The symbols behind those of two expressions. A test is against a list, and a comma in no brackets has a symbol of its
-- own.
abbrev pub symbols_behind : Bool → Binary → Source → List Symbol
symbols_behind in_brackets (Binary.Test t) list = Symbol.List (joints list) ∷ Symbol.Two (Binary.Test t) ∷ []
symbols_behind in_brackets (Binary.Fails t) list = Symbol.List (joints list) ∷ Symbol.Two (Binary.Fails t) ∷ []
symbols_behind in_brackets Binary.Comma b = (if in_brackets then Symbol.Two Binary.Comma else Symbol.Comma) ∷ []
symbols_behind in_brackets op b = Symbol.Two op ∷ []

-- The symbols of an expression, each operator behind its parts, and those of a list one behind the other, where brackets
-- are open around it or not.
abbrev pub symbols_of : Bool → Source → List Symbol
symbols_of in_brackets (Leaf first token place) = Symbol.Leaf first token place ∷ []
symbols_of in_brackets (Brackets order a) = symbols_of true a ++ Symbol.Bracketed order ∷ []
symbols_of in_brackets (Prefix order op a) = symbols_of in_brackets a ++ Symbol.Prefix order op ∷ []
symbols_of in_brackets (Suffix op a) = symbols_of in_brackets a ++ Symbol.Suffix op ∷ []
symbols_of in_brackets (Two op a b) = (symbols_of in_brackets a ++ symbols_of in_brackets b) ++ symbols_behind in_brackets op b
symbols_of in_brackets (Then a b) = symbols_of in_brackets a ++ symbols_of in_brackets b
symbols_of in_brackets (Call f list) = (symbols_of in_brackets f ++ symbols_of in_brackets list) ++ Symbol.Call (suc (joints list)) ∷ []
symbols_of in_brackets (Alone f) = symbols_of in_brackets f ++ Symbol.Call 0 ∷ []

-- The order of the first token of an expression
abbrev pub first_of : Source → ℕ
first_of (Leaf first token place) = first
first_of (Brackets order a) = order
first_of (Prefix order op a) = order
first_of (Suffix op a) = first_of a
first_of (Two op a b) = first_of a
first_of (Then a b) = first_of a
first_of (Call f list) = first_of f
first_of (Alone f) = first_of f

-- The kind of a leaf, by the tokens of its unit: the name of an action or of a system constant behind its sign, otherwise
-- that of its own token. An operand of an assembly line that is a name by itself has a kind of its own.
abbrev pub kind_in : Option TokenKind → TokenKind
kind_in None = TokenKind.Name
kind_in (Some k) = k

abbrev pub leaf_behind : Option TokenKind → ℕ → Gathered
leaf_behind (Some (TokenKind.Mark Mark.Hash)) at = Gathered.System at
leaf_behind _ at = Gathered.Action at

abbrev pub leaf_read : Option ℕ → ℕ → List SourceToken → ℕ → ℕ → Gathered
leaf_read outer begun tokens first at =
    if first == at then told_leaf (is_first at outer && is_some_mark Mark.At (kind_at tokens begun))
    (leaf_of at (kind_in (kind_at tokens at))) else leaf_behind (kind_at tokens first) at

-- The leaves of an expression or a list, in the order of their tokens
abbrev pub leaves_of : Option ℕ → ℕ → List SourceToken → Source → List Gathered
leaves_of outer begun tokens (Leaf first token place) = leaf_read outer begun tokens first token ∷ []
leaves_of outer begun tokens (Brackets order a) = leaves_of outer begun tokens a
leaves_of outer begun tokens (Prefix order op a) = leaves_of outer begun tokens a
leaves_of outer begun tokens (Suffix op a) = leaves_of outer begun tokens a
leaves_of outer begun tokens (Two op a b) = leaves_of outer begun tokens a ++ leaves_of outer begun tokens b
leaves_of outer begun tokens (Then a b) = leaves_of outer begun tokens a ++ leaves_of outer begun tokens b
leaves_of outer begun tokens (Call f list) = leaves_of outer begun tokens f ++ leaves_of outer begun tokens list
leaves_of outer begun tokens (Alone f) = leaves_of outer begun tokens f

-- whether brackets are open
abbrev pub is_open : List ℕ → Bool
is_open [] = false
is_open (bracket ∷ brackets) = true

-- An expression more is gathered.
abbrev pub with_source : Option ℕ → ℕ → List SourceToken → Source → Gathering → Gathering
with_source outer begun tokens a g = record g {
  leaves = g.leaves ++ leaves_of outer begun tokens a;
  symbols = g.symbols ++ symbols_of (is_open g.brackets) a;
  firsts = first_of a ∷ g.firsts;
}

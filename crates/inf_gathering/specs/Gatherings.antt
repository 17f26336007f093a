-- The parts of its expressions that a unit gathers while it is read.
use Rattle.std.specs.Prelude.{ℕ, zero, suc, ◌+◌, ◌-◌, ◌==◌, List, [], ◌∷◌, ◌++◌, length, map, drop, take, Bool, if◌then◌else◌}
use Rattle.inf_expressions.specs.{declared.operators.Binary.Binary, declared.operators.Unary.Unary, declared.symbols.Symbol.Symbol}
use Rattle.inf_gathering.specs.{declared.gathering.Extent.Extent, declared.gathering.Leaf.Leaf}

-- The leaves of the unit's expressions; their symbols, each operator behind its parts; the order of the first token of each whole
-- expression, the latest first; the number of parts of each open list; and the order of each opening bracket that is open, the
-- latest first.
pub record Gathering : Type 0 where
  pub leaves : List Leaf
  pub symbols : List Symbol
  pub firsts : List ℕ
  pub counts : List ℕ
  pub brackets : List ℕ

abbrev pub nothing_gathered : Gathering
nothing_gathered = record { leaves = []; symbols = []; firsts = []; counts = []; brackets = [] }

-- a leaf whose first token has the order `first`, and which the token of the order `token` tells, another one or the same
abbrev pub with_leaf : ℕ → ℕ → Leaf → Gathering → Gathering
with_leaf first token leaf g = record g {
  leaves = g.leaves ++ leaf ∷ [];
  symbols = g.symbols ++ Symbol.Leaf first token (length g.leaves) ∷ [];
  firsts = first ∷ g.firsts;
}

-- the gathering of `n` numbers
abbrev pub numbers : ℕ → Gathering
numbers zero = nothing_gathered
numbers (suc n) = with_leaf n n (Leaf.Number 0) (numbers n)

-- the leaf of a name as that of an action
abbrev pub action_leaf : Leaf → Leaf
action_leaf (Leaf.Name at) = Leaf.Action at
action_leaf l = l

abbrev pub with_actions : Gathering → Gathering
with_actions g = record g { leaves = map action_leaf g.leaves }

-- the order of the first token of the latest expression
abbrev pub latest : List ℕ → ℕ
latest [] = 0
latest (first ∷ firsts) = first

-- the latest expression begins with another token
abbrev pub beginning : ℕ → List ℕ → List ℕ
beginning order [] = []
beginning order (first ∷ firsts) = order ∷ firsts

-- an operator in front of the latest expression; its token is the one before
abbrev pub with_prefix : Unary → Gathering → Gathering
with_prefix op g =
    let order = latest g.firsts - 1 in
    record g { symbols = g.symbols ++ Symbol.Prefix order op ∷ []; firsts = beginning order g.firsts }

-- an operator behind the latest expression
abbrev pub with_suffix : Unary → Gathering → Gathering
with_suffix op g = record g { symbols = g.symbols ++ Symbol.Suffix op ∷ [] }

-- an operator between the latest two expressions
abbrev pub with_two : Binary → Gathering → Gathering
with_two op g = record g { symbols = g.symbols ++ Symbol.Two op ∷ []; firsts = drop 1 g.firsts }

-- The symbol of a comma: in brackets it is the operator.
abbrev pub comma : List ℕ → Symbol
comma [] = Symbol.Comma
comma (bracket ∷ brackets) = Symbol.Two Binary.Comma

abbrev pub with_comma : Gathering → Gathering
with_comma g = record g { symbols = g.symbols ++ comma g.brackets ∷ []; firsts = drop 1 g.firsts }

-- An open list, and the list with one part more. No list of a source has as many parts as 4,294,967,295, where the count stays.
abbrev pub with_list : Gathering → Gathering
with_list g = record g { counts = 0 ∷ g.counts }

abbrev pub counted : ℕ → ℕ
counted count = if count == 4294967295 then count else count + 1

abbrev pub one_more : List ℕ → List ℕ
one_more [] = []
one_more (count ∷ counts) = counted count ∷ counts

abbrev pub with_part : Gathering → Gathering
with_part g = record g { counts = one_more g.counts }

-- a call with the parts of the open list as arguments
abbrev pub with_call : Gathering → Gathering
with_call g =
    let given = latest g.counts in
    record g { symbols = g.symbols ++ Symbol.Call given ∷ []; firsts = drop given g.firsts; counts = drop 1 g.counts }

-- a test of an expression against the parts of the open list
abbrev pub with_test : Binary → Gathering → Gathering
with_test op g =
    let parts = latest g.counts in
    record g { symbols = g.symbols ++ Symbol.List (parts - 1) ∷ Symbol.Two op ∷ []; firsts = drop parts g.firsts; counts = drop 1 g.counts }

-- a bracket is opened by a token with an order, and closed
abbrev pub with_bracket : ℕ → Gathering → Gathering
with_bracket order g = record g { brackets = order ∷ g.brackets }

abbrev pub closed_by : List ℕ → Gathering → Gathering
closed_by [] g = g
closed_by (order ∷ brackets) g =
    record g { symbols = g.symbols ++ Symbol.Bracketed order ∷ []; firsts = beginning order g.firsts; brackets = brackets }

abbrev pub with_closed_bracket : Gathering → Gathering
with_closed_bracket g = closed_by g.brackets g

-- The bracket that was opened last, with the latest leaf in it, as a print rule. A rule of the language is no expression.
abbrev pub without_leaf : Gathering → Gathering
without_leaf g =
    record g { leaves = take (length g.leaves - 1) g.leaves; symbols = take (length g.symbols - 1) g.symbols; firsts = drop 1 g.firsts }

abbrev pub with_rule : Bool → Gathering → Gathering
with_rule is_own g =
    let closed = record g { brackets = drop 1 g.brackets } in
    if is_own then without_leaf closed else closed

-- the numbers of what was gathered
abbrev pub extent : Gathering → Extent
extent g = record { leaves = length g.leaves; symbols = length g.symbols; wholes = length g.firsts }

-- the parts that were gathered before the numbers of an extent were reached
abbrev pub cut : Extent → Gathering → Gathering
cut e g = record g {
  leaves = take e.leaves g.leaves;
  symbols = take e.symbols g.symbols;
  firsts = drop (length g.firsts - e.wholes) g.firsts;
}

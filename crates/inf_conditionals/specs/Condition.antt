-- The condition of a conditional directive. The grammar reads the directive as it reads any other, from its word to its semicolon,
-- by a machine of its own; at its end the condition is judged as a constant that has to be known.
use Rattle.std.specs.Prelude.{ℕ, ◌==◌, List, [], ◌∷◌, map, Bool, true, false, not, Option, Some, None}
use Rattle.inf_machine.specs.{Machine.taken as read, declared.symbols.Symbol.Symbol}
use Rattle.inf_syntax.specs.declared.actions.Action.{Action}
use Rattle.inf_grammar.specs.Language.{grammar, known}
use Rattle.inf_expressions.specs.{Findings.no_constant, Rooted.Rooted, Trees.Leaf, Trees.Tree, Units.judged, Units.trees_of}
use Rattle.inf_expressions.specs.{declared.findings.Finding.Finding, declared.operators.Operand.Operand, declared.units.Wanted.Wanted}
use Rattle.inf_output.specs.Output.{Out}
use Rattle.inf_unit.specs.{Tokens.SourceToken, Tokens.atom_of, Units.Unit, Units.acted, Units.long_at, Units.no_unit, Units.outer_tokens}
use Rattle.inf_unit.specs.{Units.taken}
use Rattle.inf_conditionals.specs.{Operands.operands_of, declared.condition.Extent.Extent, declared.condition.Verdict.Verdict}

-- A condition: the rest of its directive that is still to be read, and the unit that was read.
pub record Condition : Type 0 where
  pub stack : List (Symbol Action)
  pub unit : Unit

-- Definitions of the tokens of a condition

-- the rule of the pieces
abbrev pub piece_rule : ℕ
piece_rule = 1

abbrev pub condition_begun : Condition
condition_begun = record { stack = Symbol.Rule piece_rule ∷ []; unit = no_unit }

abbrev pub all_acted : List Action → Unit → Unit
all_acted [] u = u
all_acted (a ∷ actions) u = all_acted actions (acted a u)

-- a condition that takes a token which fits: first the actions on the way to it gather
abbrev pub condition_took : SourceToken → Condition → Condition
condition_took t k =
    let n = read grammar known (atom_of t) k.stack in
    record { stack = n.left; unit = taken t (all_acted n.actions k.unit) }

-- Tells whether the directive is whole.
abbrev pub is_none_left : List (Symbol Action) → Bool
is_none_left [] = true
is_none_left (symbol ∷ symbols) = false

abbrev pub is_whole : Condition → Bool
is_whole k = is_none_left k.stack

-- the extent of a condition's expression so far, where `longest` tokens are allowed
abbrev pub extent_of : ℕ → Unit → Extent
extent_of longest u = record { tokens = outer_tokens u; long = long_at longest u; depth = u.depth }

-- Definitions of the value of a condition

abbrev pub tree_in : Rooted → Tree
tree_in r = r.tree

-- the known number that the first of some trees is, if it is one
abbrev pub number_of : List Tree → Option ℕ
number_of ((Leaf (Operand.Known number)) ∷ trees) = Some number
number_of _ = None

-- the finding about a condition, which is also that its number is not known
abbrev pub finding_by : Option ℕ → Option Finding → Option Finding
finding_by None None = Some (no_constant 0)
finding_by number found = found

-- Tells whether a condition is true, which it is not with an error.
abbrev pub is_true_by : Option ℕ → Option Finding → Bool
is_true_by (Some number) None = not (number == 0)
is_true_by number found = false

-- the verdict on a condition, by its number and the finding about it
abbrev pub verdict_by : Option ℕ → Option Finding → Verdict
verdict_by number found = record { is_true = is_true_by number found; finding = finding_by number found }

abbrev pub verdict_with : List Operand → Condition → Verdict
verdict_with operands k = verdict_by (number_of (map tree_in (trees_of Wanted.Constant 0 operands k.unit.gathering.symbols)))
    (judged Wanted.Constant 0 operands k.unit.gathering.symbols)

-- the verdict on a condition, where `declared` names were declared by the directives before
abbrev pub verdict_of : ℕ → Out → Condition → Verdict
verdict_of declared o k = verdict_with (operands_of declared o k.unit.tokens k.unit.gathering.leaves) k

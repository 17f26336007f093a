-- The trees and the finding to which the symbols of a unit come. Each operator comes behind its parts.
use Rattle.std.specs.Prelude.{ℕ, zero, suc, ◌-◌, ◌==◌, List, [], ◌∷◌, reverse, Option, Some, None, refl, slice_index_or, if◌then◌else◌}
use Rattle.std.specs.Coded.{Coded, code_by, coded×, coded_list, coded_option}
use Rattle.inf_expressions.specs.{Judging.call_finding, Judging.leaf_finding, Judging.root_finding, Judging.two_finding}
use Rattle.inf_expressions.specs.{Judging.unary_finding, Origins.of_leaf, Rooted.Rooted, Rooted.bracketed_latest, Rooted.rooted_code}
use Rattle.inf_expressions.specs.{Rooted.seen, Rooted.seen_latest, Rooted.seen_two, Rooted.with_leaf, Rooted.with_two, Rooted.with_unary}
use Rattle.inf_expressions.specs.declared.{findings.Finding.Finding, operators.Binary.Binary, operators.Operand.Operand}
use Rattle.inf_expressions.specs.declared.{operators.Unary.Unary, origins.Origin.Origin, symbols.Symbol.Symbol, units.Wanted.Wanted}

-- the trees so far, the latest first, and the least finding
pub record Gathered : Type 0 where
  pub trees : List Rooted
  pub finding : Option Finding

abbrev pub nothing_gathered : Gathered
nothing_gathered = record { trees = []; finding = None }

abbrev pub with_operand : ℕ → ℕ → Operand → Gathered → Gathered
with_operand first token operand g = record {
  trees = with_leaf operand (of_leaf first token operand) g.trees;
  finding = leaf_finding operand token g.finding;
}

abbrev pub with_brackets : ℕ → Gathered → Gathered
with_brackets order g = record { trees = bracketed_latest order g.trees; finding = g.finding }

abbrev pub with_unary_of : Unary → Option ℕ → Gathered → Gathered
with_unary_of op front g = record { trees = with_unary op front g.trees; finding = unary_finding op (seen_latest g.trees) g.finding }

-- the state where the latest two trees are joined, in a unit that begins at the order `unit`
abbrev pub with_two_of : ℕ → Binary → Gathered → Gathered
with_two_of unit op g =
    record { trees = with_two op g.trees; finding = two_finding op unit (seen_two g.trees).0 (seen_two g.trees).1 g.finding }

-- the state where the latest trees are joined to a list, joint by joint, from the last one on
abbrev pub listed : ℕ → ℕ → Gathered → Gathered
listed unit zero g = g
listed unit (suc n) g = with_two_of unit Binary.Then (listed unit n g)

-- the state where a call is joined to its list of `given` arguments
abbrev pub call_joined : ℕ → ℕ → Gathered → Gathered
call_joined unit given g = record {
  trees = with_two Binary.Call g.trees;
  finding = call_finding unit given (seen_two g.trees).0 (seen_two g.trees).1 g.finding;
}

abbrev pub called : ℕ → ℕ → Gathered → Gathered
called unit given g = if given == 0 then with_unary_of Unary.Call None g else call_joined unit given (listed unit (given - 1) g)

-- the state behind a comma outside of brackets
abbrev pub parted : Wanted → ℕ → Gathered → Gathered
parted Wanted.Case unit g = g
parted _ unit g = with_two_of unit Binary.Comma g

abbrev pub operand_at : List Operand → ℕ → Operand
operand_at operands leaf = slice_index_or operands leaf (Operand.Known 0)

abbrev pub acted : Wanted → ℕ → List Operand → Symbol → Gathered → Gathered
acted w unit operands (Symbol.Leaf first token leaf) g = with_operand first token (operand_at operands leaf) g
acted w unit operands (Symbol.Bracketed order) g = with_brackets order g
acted w unit operands (Symbol.Prefix order op) g = with_unary_of op (Some order) g
acted w unit operands (Symbol.Suffix op) g = with_unary_of op None g
acted w unit operands (Symbol.Two op) g = with_two_of unit op g
acted w unit operands Symbol.Comma g = parted w unit g
acted w unit operands (Symbol.List joints) g = listed unit joints g
acted w unit operands (Symbol.Call given) g = called unit given g

abbrev pub gathered : Wanted → ℕ → List Operand → List Symbol → Gathered → Gathered
gathered w unit operands [] g = g
gathered w unit operands (s ∷ symbols) g = gathered w unit operands symbols (acted w unit operands s g)

-- the least of the finding so far and of the errors of whole expressions, in order
abbrev pub roots_finding : Wanted → ℕ → List Rooted → Option Finding → Option Finding
roots_finding w unit [] found = found
roots_finding w unit (r ∷ trees) found = roots_finding w unit trees (root_finding w unit (seen r) found)

-- the trees of a unit, in the order of their texts
abbrev pub trees_of : Wanted → ℕ → List Operand → List Symbol → List Rooted
trees_of w unit operands symbols = reverse (gathered w unit operands symbols nothing_gathered).trees

-- the least finding of a unit
abbrev pub judged : Wanted → ℕ → List Operand → List Symbol → Option Finding
judged w unit operands symbols =
    roots_finding w unit (trees_of w unit operands symbols) (gathered w unit operands symbols nothing_gathered).finding

-- the way in which the trees and the finding are stored
abbrev pub gathered_code : Coded Operand → Coded Unary → Coded Binary → Coded Origin → Coded Finding → Coded Gathered
gathered_code operand unary binary origin finding =
    code_by (List Rooted × Option Finding) (coded× (coded_list (rooted_code operand unary binary origin)) (coded_option finding))
    (λ g. (g.trees, g.finding)) (λ p. record { trees = p.0; finding = p.1 }) (λ _. refl)

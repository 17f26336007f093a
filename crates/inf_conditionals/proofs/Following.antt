-- The truth of a condition so far follows its unit, action by action and token by token.
use Rattle.std.proofs.Common.{◌≡◌, ◌+◌, ◌-◌, ◌==◌, ℕ, zero, suc, List, [], ◌∷◌, ◌++◌, length, reverse, drop, take, map, Bool, true, false}
use Rattle.std.proofs.Common.{◌||◌, not, ◌⊎◌, inl, inr, Option, Some, None, is_some, refl, sym, ap, subst, ◌∙◌, arith, if◌then◌else◌}
use Rattle.std.proofs.Common.{append_assoc}
use Rattle.std.proofs.Common.{slice_get, option_map, unwrap_or}
use Rattle.std.proofs.lemmas.List.{append-nil, length-append}
use Rattle.inf_scanner.specs.declared.{tokens.Place.Place, tokens.TokenKind.TokenKind}
use Rattle.inf_machine.specs.{Machine.taken as read, declared.symbols.Symbol.Symbol as Rule}
use Rattle.inf_syntax.specs.declared.actions.Action.{Action}
use Rattle.inf_grammar.specs.Language.{grammar, known}
use Rattle.inf_expressions.specs.Judging.{constant_finding, value_finding_of}
use Rattle.inf_expressions.specs.Rooted.{Rooted, bracketed_latest, kind_of}
use Rattle.inf_expressions.specs.Findings.{wrong_kind}
use Rattle.std.specs.Prelude.{is_none}
use Rattle.inf_expressions.specs.Units.{Gathered, acted as judged_by, gathered, nothing_gathered, roots_finding, with_brackets}
use Rattle.inf_expressions.specs.Units.{with_operand, with_two_of, with_unary_of}
use Rattle.inf_expressions.specs.declared.{findings.Finding.Finding, operators.Binary.Binary, operators.Operand.Operand}
use Rattle.inf_expressions.specs.declared.{operators.Test.Test}
use Rattle.inf_expressions.specs.declared.{operators.Unary.Unary, symbols.Symbol.Symbol, units.Wanted.Wanted}
use Rattle.inf_gathering.specs.declared.gathering.{Leaf.Leaf as Read}
use Rattle.inf_gathering.specs.Gatherings.{Gathering, beginning, closed_by, comma, latest, one_more, with_leaf as leaf_gathered}
use Rattle.inf_names.specs.Symbols.{Table}
use Rattle.inf_output.specs.Output.{Out}
use Rattle.inf_operands.specs.Operands.{looked_action, system_operand}
use Rattle.inf_unit.specs.{Roles.role_of, Tokens.SourceToken, Tokens.atom_of, Tokens.name_of, Units.Unit as Spoken}
use Rattle.inf_unit.specs.{Units.acted as unit_acted}
use Rattle.inf_unit.specs.Units.{bytes_of, depth_behind, is_alone, kind_at, last_leaf, leaf_of, marked_from, no_unit, noted as unit_noted}
use Rattle.inf_unit.specs.Units.{order, played as unit_played}
use Rattle.inf_unit.specs.Units.{stepped as unit_stepped, taken, told_leaf, with_last}
use Rattle.inf_unit.specs.declared.{roles.Note.Note, roles.Role.Role, steps.GatherStep.GatherStep}
use Rattle.inf_conditionals.specs.Condition.{Condition, all_acted as unit_all_acted, condition_begun, condition_took, is_true_by}
use Rattle.inf_conditionals.specs.Condition.{number_of, tree_in, verdict_of, verdict_with}
use Rattle.inf_conditionals.specs.{Operands.operand_behind, Operands.operands_of, ReadAgain.all_taken}
use Rattle.inf_conditionals.specs.Values.{is_then, single_value, tested, two_value}
use Rattle.inf_conditionals.specs.Truths.{Reading, Truth, acted, all_acted, all_read, called_behind, is_never, no_truth, noted, number_in}
use Rattle.inf_conditionals.specs.Truths.{odd}
use Rattle.inf_conditionals.specs.Truths.{played, reading_begun, reading_took, single_taken, stepped, stepped_behind, test_of, test_taken}
use Rattle.inf_conditionals.specs.Truths.{tested_behind, token_operand, truth_by, truth_in, truth_of, two_taken, with_leaf, with_value}
use Rattle.inf_conditionals.specs.Truths.{without_list}
use Rattle.inf_conditionals.proofs.Doomed.{least_some, wrong_brackets, wrong_found, wrong_leaf}
use Rattle.inf_conditionals.proofs.Alive.{AreValues, Stands, as_many, test_op}
use Rattle.inf_conditionals.proofs.Standing.{call_stands, single_stands, test_stands, two_stands}
use Rattle.inf_conditionals.proofs.Gatherings.{AreIn, action_is, ahead_more, ahead_of, all_in_more, gathered_append, gathered_same}
use Rattle.inf_conditionals.proofs.Gatherings.{in_append}
use Rattle.inf_conditionals.proofs.Gatherings.{last_operand, leaf_is, operands_count, operands_more, system_is}

-- the trees and the finding of a condition so far, which has these tokens as a whole
abbrev pub now_of : ℕ → Out → List SourceToken → Gathering → Gathered
now_of declared o tokens g = gathered Wanted.Constant 0 (operands_of declared o tokens g.leaves) g.symbols nothing_gathered

-- the last token that was taken, if there is one
abbrev pub LastIs : Option SourceToken → List SourceToken → List SourceToken → Type 0
LastIs None tokens so_far = Unit {0}
LastIs (Some t) tokens so_far = (slice_get tokens (length so_far - 1) ≡ Some t) × (kind_at so_far (length so_far - 1) ≡ Some t.kind)

-- The truth follows a unit, of whose tokens as a whole some are left.
pub record Follows (declared : ℕ) (o : Out) (tokens left : List SourceToken) (last : Option SourceToken) (u : Spoken)
    (t : Truth) : Type 0 where
  pub whole : tokens ≡ u.tokens ++ left
  pub ends : LastIs last tokens u.tokens
  pub goes_on : u.is_over ≡ false
  pub counts : u.gathering.counts ≡ t.counts
  pub ahead : ahead_of declared o tokens u.gathering.leaves ≡ t.ahead
  pub inside : AreIn (length u.gathering.leaves) u.gathering.symbols
  pub stands : Stands t.is_false t.values (now_of declared o tokens u.gathering)

abbrev pub Goes : ℕ → Out → List SourceToken → List SourceToken → Option SourceToken → Spoken → Truth → Type 0
Goes declared o tokens left last u t = (t.is_odd ≡ true) ⊎ Follows declared o tokens left last u t

bool_cases : (b : Bool) → (b ≡ true) ⊎ (b ≡ false)
bool_cases true = inl refl
bool_cases false = inr refl

-- Steps that gather symbols or nothing

-- Some symbols more, of which none is a leaf
grown : (declared : ℕ) (o : Out) (tokens left : List SourceToken) (last : Option SourceToken) (u : Spoken) (t new : Truth)
    (symbols : List Symbol) (firsts counts brackets : List ℕ) → Follows declared o tokens left last u t →
    AreIn (length u.gathering.leaves) symbols → counts ≡ new.counts → new.ahead ≡ t.ahead → Stands new.is_false new.values
    (gathered Wanted.Constant 0 (operands_of declared o tokens u.gathering.leaves) symbols (now_of declared o tokens u.gathering)) →
    Follows declared o tokens left last (record u {
      gathering = record {
        leaves = u.gathering.leaves;
        symbols = u.gathering.symbols ++ symbols;
        firsts = firsts;
        counts = counts;
        brackets = brackets;
      };
    }) new
grown declared o tokens left last u t new symbols firsts counts brackets f are same ahead stands = record {
  whole = f.whole;
  ends = f.ends;
  goes_on = f.goes_on;
  counts = same;
  ahead = f.ahead ∙ sym ahead;
  inside = in_append (length u.gathering.leaves) u.gathering.symbols symbols f.inside are;
  stands = subst (λ (x : Gathered). Stands new.is_false new.values x)
      (sym (gathered_append u.gathering.symbols symbols (operands_of declared o tokens u.gathering.leaves) nothing_gathered)) stands;
}

-- no symbol more
kept : (declared : ℕ) (o : Out) (tokens left : List SourceToken) (last : Option SourceToken) (u : Spoken) (t : Truth)
    (firsts counts brackets now : List ℕ) → Follows declared o tokens left last u t → counts ≡ now →
    Follows declared o tokens left last (record u {
      gathering = record {
        leaves = u.gathering.leaves;
        symbols = u.gathering.symbols;
        firsts = firsts;
        counts = counts;
        brackets = brackets;
      };
    }) (record t { counts = now })
kept declared o tokens left last u t firsts counts brackets now f same = record {
  whole = f.whole;
  ends = f.ends;
  goes_on = f.goes_on;
  counts = same;
  ahead = f.ahead;
  inside = f.inside;
  stands = f.stands;
}

-- An operator of one value

single_goes : (declared : ℕ) (o : Out) (tokens left : List SourceToken) (last : Option SourceToken) (u : Spoken) (t : Truth)
    (op : Unary) (front : Option ℕ) (s : Symbol) (firsts : List ℕ) (values : List (Option ℕ)) →
    Follows declared o tokens left last u t → t.values ≡ values → AreIn (length u.gathering.leaves) (s ∷ []) →
    ((g : Gathered) → judged_by Wanted.Constant 0 (operands_of declared o tokens u.gathering.leaves) s g ≡ with_unary_of op front g) →
    Goes declared o tokens left last (record u {
      gathering = record {
        leaves = u.gathering.leaves;
        symbols = u.gathering.symbols ++ s ∷ [];
        firsts = firsts;
        counts = u.gathering.counts;
        brackets = u.gathering.brackets;
      };
    }) (single_taken op values t)
single_goes declared o tokens left last u t op front s firsts [] f is are means = inl refl
single_goes declared o tokens left last u t op front s firsts (a ∷ values) f is are means =
    let v = single_value op a in
    inr (grown declared o tokens left last u t (with_value v values t)
    (s ∷ []) firsts u.gathering.counts u.gathering.brackets f are f.counts refl
    (subst (λ (x : Gathered). Stands (t.is_false || is_none v) (v ∷ values) x) (sym (means (now_of declared o tokens u.gathering)))
    (single_stands t.is_false op front a values (now_of declared o tokens u.gathering) v
    (subst (λ (l : List (Option ℕ)). Stands t.is_false l (now_of declared o tokens u.gathering)) is f.stands) refl)))

-- An operator of two values

two_goes : (declared : ℕ) (o : Out) (tokens left : List SourceToken) (last : Option SourceToken) (u : Spoken) (t : Truth)
    (op : Binary) (s : Symbol) (firsts : List ℕ) (values : List (Option ℕ)) →
    Follows declared o tokens left last u t → t.values ≡ values → AreIn (length u.gathering.leaves) (s ∷ []) →
    ((g : Gathered) → judged_by Wanted.Constant 0 (operands_of declared o tokens u.gathering.leaves) s g ≡ with_two_of 0 op g) →
    Goes declared o tokens left last (record u {
      gathering = record {
        leaves = u.gathering.leaves;
        symbols = u.gathering.symbols ++ s ∷ [];
        firsts = firsts;
        counts = u.gathering.counts;
        brackets = u.gathering.brackets;
      };
    }) (two_taken op values t)
two_goes declared o tokens left last u t op s firsts [] f is are means = inl refl
two_goes declared o tokens left last u t op s firsts (b ∷ []) f is are means = inl refl
two_goes declared o tokens left last u t op s firsts (b ∷ a ∷ values) f is are means =
    let v = two_value op a b in let new = with_value v values t in
    elim (bool_cases (is_then op)) [
      | inl lists ↦ inl (ap (λ x. (if x then odd t else new).is_odd) lists)
      | inr single ↦ inr (subst (λ x. Follows declared o tokens left last (record u {
        gathering = record {
          leaves = u.gathering.leaves;
          symbols = u.gathering.symbols ++ s ∷ [];
          firsts = firsts;
          counts = u.gathering.counts;
          brackets = u.gathering.brackets;
        };
      }) (if x then odd t else new)) (sym single)
          (grown declared o tokens left last u t new (s ∷ []) firsts u.gathering.counts u.gathering.brackets f are f.counts refl
          (subst (λ (x : Gathered). Stands (t.is_false || is_none v) (v ∷ values) x) (sym (means (now_of declared o tokens u.gathering)))
          (two_stands t.is_false op a b values (now_of declared o tokens u.gathering) v single
          (subst (λ (l : List (Option ℕ)). Stands t.is_false l (now_of declared o tokens u.gathering)) is f.stands) refl))))
    ]

-- Brackets

bracket_count : (order : ℕ) (trees : List Rooted) → length (bracketed_latest order trees) ≡ length trees
bracket_count order [] = refl
bracket_count order (r ∷ trees) = refl

bracket_values : (values : List (Option ℕ)) (order : ℕ) (trees : List Rooted) → AreValues values trees →
    AreValues values (bracketed_latest order trees)
bracket_values values order [] are = are
bracket_values [] order (r ∷ trees) are = are
bracket_values (v ∷ values) order (r ∷ trees) are = are

brackets_stand : (f : Bool) (values : List (Option ℕ)) (order : ℕ) (g : Gathered) → Stands f values g →
    Stands f values (with_brackets order g)
brackets_stand true values order g stands = (stands.0 ∙ sym (bracket_count order g.trees), wrong_brackets order g stands.1)
brackets_stand false values order g stands = (bracket_values values order g.trees stands.0, stands.1)

closed_goes : (declared : ℕ) (o : Out) (tokens left : List SourceToken) (last : Option SourceToken) (u : Spoken) (t : Truth)
    (brackets : List ℕ) → Follows declared o tokens left last u t →
    Follows declared o tokens left last (record u { gathering = closed_by brackets u.gathering }) t
closed_goes declared o tokens left last u t [] f = kept declared o tokens left last u t u.gathering.firsts u.gathering.counts
    u.gathering.brackets t.counts f f.counts
closed_goes declared o tokens left last u t (order ∷ brackets) f =
    grown declared o tokens left last u t t (Symbol.Bracketed order ∷ []) (beginning order u.gathering.firsts) u.gathering.counts brackets f
    (tt, tt) f.counts refl (brackets_stand t.is_false t.values order (now_of declared o tokens u.gathering) f.stands)

-- A comma

comma_in : (n : ℕ) (brackets : List ℕ) → AreIn n (comma brackets ∷ [])
comma_in n [] = (tt, tt)
comma_in n (b ∷ brackets) = (tt, tt)

comma_means : (ops : List Operand) (brackets : List ℕ) (g : Gathered) →
    judged_by Wanted.Constant 0 ops (comma brackets) g ≡ with_two_of 0 Binary.Comma g
comma_means ops [] g = refl
comma_means ops (b ∷ brackets) g = refl

-- A call

call_goes : (declared : ℕ) (o : Out) (tokens left : List SourceToken) (last : Option SourceToken) (u : Spoken) (t : Truth)
    (given : ℕ) (firsts : List ℕ) (values : List (Option ℕ)) → Follows declared o tokens left last u t → drop given t.values ≡ values →
    Goes declared o tokens left last (record u {
      gathering = record {
        leaves = u.gathering.leaves;
        symbols = u.gathering.symbols ++ Symbol.Call given ∷ [];
        firsts = firsts;
        counts = drop 1 u.gathering.counts;
        brackets = u.gathering.brackets;
      };
    }) (without_list (called_behind values t))
call_goes declared o tokens left last u t given firsts [] f is = inl refl
call_goes declared o tokens left last u t given firsts (a ∷ values) f is =
    inr (grown declared o tokens left last u t (without_list (with_value None values t)) (Symbol.Call given ∷ []) firsts
    (drop 1 u.gathering.counts) u.gathering.brackets f (tt, tt) (ap (λ (l : List ℕ). drop 1 l) f.counts) refl
    (call_stands t.is_false given a t.values values (now_of declared o tokens u.gathering) f.stands is))

-- A test

nonzero : (n : ℕ) → (n == 0) ≡ false → suc (n - 1) ≡ n
nonzero zero e = absurd (cc e)
nonzero (suc n) e = omega arith

tested_goes : (declared : ℕ) (o : Out) (tokens left : List SourceToken) (last : Option SourceToken) (u : Spoken) (t : Truth)
    (sense : Bool) (test : Test) (count : ℕ) (firsts : List ℕ) (values : List (Option ℕ)) → Follows declared o tokens left last u t →
    (count == 0) ≡ false → drop count t.values ≡ values → Goes declared o tokens left last (record u {
      gathering = record {
        leaves = u.gathering.leaves;
        symbols = u.gathering.symbols ++ Symbol.List (count - 1) ∷ Symbol.Two (test_op sense test) ∷ [];
        firsts = firsts;
        counts = drop 1 u.gathering.counts;
        brackets = u.gathering.brackets;
      };
    }) (without_list (tested_behind sense test values (reverse (take count t.values)) t))
tested_goes declared o tokens left last u t sense test count firsts [] f some is = inl refl
tested_goes declared o tokens left last u t sense test count firsts (a ∷ values) f some is =
    let v = tested sense test a (reverse (take count t.values)) in let n = nonzero count some in
    inr (grown declared o tokens left last u t (without_list (with_value v values t))
    (Symbol.List (count - 1) ∷ Symbol.Two (test_op sense test) ∷ []) firsts (drop 1 u.gathering.counts) u.gathering.brackets f
    (tt, (tt, tt)) (ap (λ (l : List ℕ). drop 1 l) f.counts) refl
    (test_stands t.is_false sense test (count - 1) a t.values values (now_of declared o tokens u.gathering) v f.stands
    (ap (λ i. drop i t.values) n ∙ is) (ap (λ i. tested sense test a (reverse (take i t.values))) n)))

test_goes : (declared : ℕ) (o : Out) (tokens left : List SourceToken) (last : Option SourceToken) (u : Spoken) (t : Truth)
    (sense : Bool) (test : Test) (count : ℕ) (firsts : List ℕ) → Follows declared o tokens left last u t →
    Goes declared o tokens left last (record u {
      gathering = record {
        leaves = u.gathering.leaves;
        symbols = u.gathering.symbols ++ Symbol.List (count - 1) ∷ Symbol.Two (test_op sense test) ∷ [];
        firsts = firsts;
        counts = drop 1 u.gathering.counts;
        brackets = u.gathering.brackets;
      };
    }) (without_list (test_of sense test count t))
test_goes declared o tokens left last u t sense test count firsts f =
    let new = tested_behind sense test (drop count t.values) (reverse (take count t.values)) t in
    elim (bool_cases (count == 0)) [
      | inl none ↦ inl (ap (λ x. (if x then odd t else new).is_odd) none)
      | inr some ↦ subst (λ x. Goes declared o tokens left last (record u {
        gathering = record {
          leaves = u.gathering.leaves;
          symbols = u.gathering.symbols ++ Symbol.List (count - 1) ∷ Symbol.Two (test_op sense test) ∷ [];
          firsts = firsts;
          counts = drop 1 u.gathering.counts;
          brackets = u.gathering.brackets;
        };
      }) (without_list (if x then odd t else new))) (sym some)
          (tested_goes declared o tokens left last u t sense test count firsts (drop count t.values) f some refl)
    ]

test_by_op : (declared : ℕ) (o : Out) (tokens left : List SourceToken) (last : Option SourceToken) (u : Spoken) (t : Truth)
    (op : Binary) (count : ℕ) (firsts : List ℕ) → Follows declared o tokens left last u t → Goes declared o tokens left last (record u {
      gathering = record {
        leaves = u.gathering.leaves;
        symbols = u.gathering.symbols ++ Symbol.List (count - 1) ∷ Symbol.Two op ∷ [];
        firsts = firsts;
        counts = drop 1 u.gathering.counts;
        brackets = u.gathering.brackets;
      };
    }) (without_list (test_taken op count t))
test_by_op declared o tokens left last u t (Binary.Test test) count firsts f = test_goes declared o tokens left last u t true test count
    firsts f
test_by_op declared o tokens left last u t (Binary.Fails test) count firsts f = test_goes declared o tokens left last u t false test
    count firsts f
test_by_op declared o tokens left last u t op count firsts f = inl refl

-- Leaves

leaf_stands : (f : Bool) (values : List (Option ℕ)) (first token : ℕ) (x : Operand) (g : Gathered) → Stands f values g →
    Stands (f || is_never x) (number_in x ∷ values) (with_operand first token x g)
leaf_stands true values first token x g stands = (ap suc stands.0, wrong_leaf first token x g stands.1)
leaf_stands false values first token (Operand.Known n) g stands = ((refl, stands.0), stands.1)
leaf_stands false values first token (Operand.Later target) g stands = (((target, refl), stands.0), stands.1)
leaf_stands false values first token (Operand.Variable v) g stands = (ap suc (as_many values g.trees stands.0), inr (inl refl))
leaf_stands false values first token (Operand.Function f) g stands = (ap suc (as_many values g.trees stands.0), inr (inl refl))
leaf_stands false values first token Operand.Unknown g stands =
    (ap suc (as_many values g.trees stands.0), inl (least_some g.finding (wrong_kind token)))

leaf_grown : (declared : ℕ) (o : Out) (tokens left : List SourceToken) (last : Option SourceToken) (u : Spoken) (t : Truth)
    (first token : ℕ) (l : Read) (s : Table Place × Operand) → Follows declared o tokens left last u t →
    operand_behind declared o tokens l t.ahead ≡ s →
    Follows declared o tokens left last (record u { gathering = leaf_gathered first token l u.gathering })
    (with_leaf s.1 (record t { ahead = s.0 }))
leaf_grown declared o tokens left last u t first token l s f is =
    let leaves = u.gathering.leaves in let symbols = u.gathering.symbols in
    let ops = operands_of declared o tokens leaves in let count = operands_count declared o tokens leaves in
    let found : operand_behind declared o tokens l (ahead_of declared o tokens leaves) ≡ s =
    ap (λ (a : Table Place). operand_behind declared o tokens l a) f.ahead ∙ is in
    let more : operands_of declared o tokens (leaves ++ l ∷ []) ≡ ops ++ s.1 ∷ [] =
    operands_more declared o tokens leaves l ∙ ap (λ (p : Table Place × Operand). ops ++ p.1 ∷ []) found in
    let new = Symbol.Leaf first token (length leaves) in
    let are = subst (λ i. AreIn i symbols) (sym count) f.inside in
    record {
      whole = f.whole;
      ends = f.ends;
      goes_on = f.goes_on;
      counts = f.counts;
      ahead = ahead_more declared o tokens leaves l ∙ ap (λ (p : Table Place × Operand). p.0) found;
      inside = subst (λ i. AreIn i (symbols ++ new ∷ [])) (sym (length-append leaves (l ∷ [])))
          (in_append (length leaves + 1) symbols (new ∷ []) (all_in_more (length leaves) symbols f.inside) (omega arith, tt));
      stands = subst (λ (x : Gathered). Stands (t.is_false || is_never s.1) (number_in s.1 ∷ t.values) x)
          (sym (ap (λ (q : List Operand). gathered Wanted.Constant 0 q (symbols ++ new ∷ []) nothing_gathered) more
          ∙ gathered_append symbols (new ∷ []) (ops ++ s.1 ∷ []) nothing_gathered
          ∙ ap (λ (x : Operand). with_operand first token x (gathered Wanted.Constant 0 (ops ++ s.1 ∷ []) symbols nothing_gathered))
          (last_operand ops s.1 (length leaves) count)
          ∙ ap (λ (x : Gathered). with_operand first token s.1 x) (gathered_same symbols ops (s.1 ∷ []) nothing_gathered are)))
          (leaf_stands t.is_false t.values first token s.1 (now_of declared o tokens u.gathering) f.stands);
    }

-- the leaf that the last token is
last_goes : (declared : ℕ) (o : Out) (tokens left : List SourceToken) (token : SourceToken) (u : Spoken) (t : Truth) →
    Follows declared o tokens left (Some token) u t →
    Follows declared o tokens left (Some token) (unit_stepped GatherStep.Leaf u) (with_leaf (token_operand declared o token) t)
last_goes declared o tokens left token u t f =
    let at = last_leaf u in let alone = is_alone at u in
    subst (λ (k : Option TokenKind). Follows declared o tokens left (Some token) (record u { gathering = with_last at alone k u.gathering })
    (with_leaf (token_operand declared o token) t)) (sym f.ends.1)
    (leaf_grown declared o tokens left (Some token) u t (order at) (order at) (told_leaf alone (leaf_of at token.kind))
    (t.ahead, token_operand declared o token) f (leaf_is declared o tokens at token alone t.ahead f.ends.0))

-- Steps

step_goes : (declared : ℕ) (o : Out) (tokens left : List SourceToken) (token : SourceToken) (s : GatherStep) (u : Spoken) (t : Truth) →
    Follows declared o tokens left (Some token) u t →
    Goes declared o tokens left (Some token) (unit_stepped s u) (stepped_behind declared o token s t)
step_goes declared o tokens left token GatherStep.Leaf u t f = inr (last_goes declared o tokens left token u t f)
step_goes declared o tokens left token GatherStep.Action u t f =
    let at = last_leaf u in
    inr (leaf_grown declared o tokens left (Some token) u t (order (marked_from u.tokens at)) (order at) (Read.Action at)
    (looked_action (name_of token) o t.ahead) f (action_is declared o tokens at token t.ahead f.ends.0))
step_goes declared o tokens left token GatherStep.System u t f =
    let at = last_leaf u in
    inr (leaf_grown declared o tokens left (Some token) u t (order (marked_from u.tokens at)) (order at) (Read.System at)
    (t.ahead, system_operand (bytes_of (name_of token)) o.code.scale) f (system_is declared o tokens at token t.ahead f.ends.0))
step_goes declared o tokens left token (GatherStep.Prefix op) u t f =
    let order = latest u.gathering.firsts - 1 in
    single_goes declared o tokens left (Some token) u t op (Some order) (Symbol.Prefix order op)
    (beginning order u.gathering.firsts) t.values f refl (tt, tt) (λ g. refl)
step_goes declared o tokens left token (GatherStep.Suffix op) u t f =
    single_goes declared o tokens left (Some token) u t op None (Symbol.Suffix op) u.gathering.firsts t.values f refl (tt, tt) (λ g. refl)
step_goes declared o tokens left token (GatherStep.Two op) u t f =
    two_goes declared o tokens left (Some token) u t op (Symbol.Two op) (drop 1 u.gathering.firsts) t.values f refl (tt, tt) (λ g. refl)
step_goes declared o tokens left token GatherStep.Comma u t f =
    two_goes declared o tokens left (Some token) u t Binary.Comma (comma u.gathering.brackets) (drop 1 u.gathering.firsts) t.values f refl
    (comma_in (length u.gathering.leaves) u.gathering.brackets)
    (comma_means (operands_of declared o tokens u.gathering.leaves) u.gathering.brackets)
step_goes declared o tokens left token GatherStep.List u t f =
    inr (kept declared o tokens left (Some token) u t u.gathering.firsts (0 ∷ u.gathering.counts) u.gathering.brackets (0 ∷ t.counts) f
    (ap (λ (l : List ℕ). 0 ∷ l) f.counts))
step_goes declared o tokens left token GatherStep.Part u t f =
    inr (kept declared o tokens left (Some token) u t u.gathering.firsts (one_more u.gathering.counts) u.gathering.brackets
    (one_more t.counts) f (ap one_more f.counts))
step_goes declared o tokens left token GatherStep.Call u t f =
    let given = latest u.gathering.counts in
    call_goes declared o tokens left (Some token) u t given (drop given u.gathering.firsts) (drop (latest t.counts) t.values) f
    (ap (λ (l : List ℕ). drop (latest l) t.values) f.counts)
step_goes declared o tokens left token (GatherStep.Test op) u t f =
    let parts = latest u.gathering.counts in
    subst (λ i. Goes declared o tokens left (Some token) (unit_stepped (GatherStep.Test op) u) (without_list (test_taken op i t)))
    (ap latest f.counts) (test_by_op declared o tokens left (Some token) u t op parts (drop parts u.gathering.firsts) f)
step_goes declared o tokens left token GatherStep.Bracket u t f =
    inr (kept declared o tokens left (Some token) u t u.gathering.firsts u.gathering.counts
    (order (length u.tokens - 1) ∷ u.gathering.brackets) t.counts f f.counts)
step_goes declared o tokens left token GatherStep.Bracketed u t f =
    inr (closed_goes declared o tokens left (Some token) u t u.gathering.brackets f)

stepped_goes : (declared : ℕ) (o : Out) (tokens left : List SourceToken) (last : Option SourceToken) (s : GatherStep) (u : Spoken)
    (t : Truth) → Follows declared o tokens left last u t →
    Goes declared o tokens left last (unit_stepped s u) (stepped declared o last s t)
stepped_goes declared o tokens left None s u t f = inl refl
stepped_goes declared o tokens left (Some token) s u t f = step_goes declared o tokens left token s u t f

-- Notes

outer_goes : (declared : ℕ) (o : Out) (tokens left : List SourceToken) (last : Option SourceToken) (outer : Option ℕ) (sure : Bool)
    (u : Spoken) (t : Truth) → Follows declared o tokens left last u t →
    Follows declared o tokens left last (record u { outer = outer; is_sure = sure }) t
outer_goes declared o tokens left last outer sure u t f = record {
  whole = f.whole;
  ends = f.ends;
  goes_on = f.goes_on;
  counts = f.counts;
  ahead = f.ahead;
  inside = f.inside;
  stands = f.stands;
}

note_goes : (declared : ℕ) (o : Out) (tokens left : List SourceToken) (last : Option SourceToken) (n : Note) (u : Spoken) (t : Truth) →
    Follows declared o tokens left last u t → Goes declared o tokens left last (unit_noted n u) (noted n t)
note_goes declared o tokens left last (Note.Outer sure) u t f = inr
    (outer_goes declared o tokens left last (Some (length u.tokens)) sure u t f)
note_goes declared o tokens left last Note.OuterWord u t f = inr (outer_goes declared o tokens left last (Some (last_leaf u)) true u t f)
note_goes declared o tokens left last Note.OuterSure u t f = inr (outer_goes declared o tokens left last u.outer true u t f)
note_goes declared o tokens left last Note.OuterEnd u t f = inr (outer_goes declared o tokens left last None u.is_sure u t f)
note_goes declared o tokens left last n u t f = inl refl

-- Actions

role_goes : (declared : ℕ) (o : Out) (tokens left : List SourceToken) (last : Option SourceToken) (r : Role) (u : Spoken) (t : Truth) →
    Follows declared o tokens left last u t → Goes declared o tokens left last (unit_played r u) (played declared o last r t)
role_goes declared o tokens left last (Role.Gather s) u t f = stepped_goes declared o tokens left last s u t f
role_goes declared o tokens left last (Role.Note n) u t f = note_goes declared o tokens left last n u t f
role_goes declared o tokens left last r u t f = inr f

stays_odd : (declared : ℕ) (o : Out) (last : Option SourceToken) (a : Action) (t : Truth) → t.is_odd ≡ true →
    (acted declared o last a t).is_odd ≡ true
stays_odd declared o last a t is = ap (λ x. (if x then t else played declared o last (role_of a) t).is_odd) is ∙ is

act_goes : (declared : ℕ) (o : Out) (tokens left : List SourceToken) (last : Option SourceToken) (a : Action) (u : Spoken) (t : Truth) →
    Goes declared o tokens left last u t → Goes declared o tokens left last (unit_acted a u) (acted declared o last a t)
act_goes declared o tokens left last a u t goes = elim goes [
  | inl is ↦ inl (stays_odd declared o last a t is)
  | inr f ↦ elim (bool_cases t.is_odd) [
    | inl is ↦ inl (stays_odd declared o last a t is)
    | inr even ↦
        subst (λ x. Goes declared o tokens left last (unit_acted a u) (if x then t else played declared o last (role_of a) t)) (sym even)
        (role_goes declared o tokens left last (role_of a) u t f)
  ]
]

acts_go : (declared : ℕ) (o : Out) (tokens left : List SourceToken) (last : Option SourceToken) (actions : List Action) (u : Spoken)
    (t : Truth) → Goes declared o tokens left last u t →
    Goes declared o tokens left last (unit_all_acted actions u) (all_acted declared o last actions t)
acts_go declared o tokens left last [] u t goes = goes
acts_go declared o tokens left last (a ∷ actions) u t goes =
    acts_go declared o tokens left last actions (unit_acted a u) (acted declared o last a t)
    (act_goes declared o tokens left last a u t goes)

-- Tokens

got_last : (so_far left : List SourceToken) (token : SourceToken) → slice_get (so_far ++ token ∷ left) (length so_far) ≡ Some token
got_last [] left token = refl
got_last (x ∷ so_far) left token = got_last so_far left token

took_follows : (declared : ℕ) (o : Out) (tokens left : List SourceToken) (last : Option SourceToken) (token : SourceToken) (u : Spoken)
    (t : Truth) → Follows declared o tokens (token ∷ left) last u t → Follows declared o tokens left (Some token) (taken token u) t
took_follows declared o tokens left last token u t f =
    let new = u.tokens ++ token ∷ [] in
    let place : length new - 1 ≡ length u.tokens = omega (arith, length-append u.tokens (token ∷ [])) in
    subst (λ x. Follows declared o tokens left (Some token)
    (if x then record u { is_over = false } else record u { tokens = new; depth = depth_behind token.kind u.depth }) t) (sym f.goes_on)
    (record {
      whole = f.whole ∙ sym (append_assoc u.tokens (token ∷ []) left);
      ends = (
        ap (λ i. slice_get tokens i) place ∙ ap (λ (l : List SourceToken). slice_get l (length u.tokens)) f.whole
            ∙ got_last u.tokens left token,
        ap (λ i. kind_at new i) place ∙ ap (option_map (λ (x : SourceToken). x.kind)) (got_last u.tokens [] token),
      );
      goes_on = f.goes_on;
      counts = f.counts;
      ahead = f.ahead;
      inside = f.inside;
      stands = f.stands;
    })

took_goes : (declared : ℕ) (o : Out) (tokens left : List SourceToken) (token : SourceToken) (k : Condition) (r : Reading) →
    r.stack ≡ k.stack → Goes declared o tokens (token ∷ left) r.last k.unit r.truth →
    Goes declared o tokens left (Some token) (condition_took token k).unit (reading_took declared o token r).truth
took_goes declared o tokens left token k r same goes =
    let actions = (read grammar known (atom_of token) k.stack).actions in
    subst (λ (s : List (Rule Action)). Goes declared o tokens left (Some token) (condition_took token k).unit
    (all_acted declared o r.last (read grammar known (atom_of token) s).actions r.truth)) (sym same)
    (elim (acts_go declared o tokens (token ∷ left) r.last actions k.unit r.truth goes) [
      | inl is ↦ inl is
      | inr f ↦ inr (took_follows declared o tokens left r.last token (unit_all_acted actions k.unit)
          (all_acted declared o r.last actions r.truth) f)
    ])

all_go : (declared : ℕ) (o : Out) (tokens left : List SourceToken) (k : Condition) (r : Reading) →
    r.stack ≡ k.stack → Goes declared o tokens left r.last k.unit r.truth →
    Goes declared o tokens [] (all_read declared o left r).last (all_taken left k).unit (all_read declared o left r).truth
all_go declared o tokens [] k r same goes = goes
all_go declared o tokens (token ∷ left) k r same goes =
    all_go declared o tokens left (condition_took token k) (reading_took declared o token r)
    (ap (λ (s : List (Rule Action)). (read grammar known (atom_of token) s).left) same)
    (took_goes declared o tokens left token k r same goes)

begins : (declared : ℕ) (o : Out) (tokens : List SourceToken) → Follows declared o tokens tokens None no_unit no_truth
begins declared o tokens = record { whole = refl; ends = tt; goes_on = refl; counts = refl; ahead = refl; inside = tt; stands = (tt, refl) }

-- The end

never_true : (n : Option ℕ) (f : Option Finding) → is_some f ≡ true → is_true_by n f ≡ false
never_true None None is = absurd (cc is)
never_true (Some n) None is = absurd (cc is)
never_true None (Some f) is = refl
never_true (Some n) (Some f) is = refl

same_bool : (a b : Bool) → Some a ≡ Some b → a ≡ b
same_bool a b e = ap (λ (x : Option Bool). unwrap_or x a) e

verdict_alive : (values : List (Option ℕ)) (trees : List Rooted) (f : Option Finding) (b : Bool) → AreValues values trees → f ≡ None →
    truth_by values ≡ Some b → b ≡ is_true_by (number_of (map tree_in (reverse trees))) (roots_finding Wanted.Constant 0 (reverse trees) f)
verdict_alive [] trees f b are none e = absurd (cc e)
verdict_alive (None ∷ w ∷ values) trees f b are none e = absurd (cc e)
verdict_alive ((Some n) ∷ w ∷ values) trees f b are none e = absurd (cc e)
verdict_alive (v ∷ []) [] f b are none e = absurd are
verdict_alive (v ∷ []) (r ∷ q ∷ trees) f b are none e = absurd are.1
verdict_alive ((Some n) ∷ []) (r ∷ []) f b are none e = sym (same_bool (not (n == 0)) b e)
    ∙ sym (ap (λ x. is_true_by (number_of (x ∷ [])) (constant_finding 0 (kind_of x) (value_finding_of (kind_of x) r.origin.token None)))
    are.0) ∙ sym (ap (λ x. is_true_by (number_of (r.tree ∷ [])) (constant_finding 0 (kind_of r.tree)
    (value_finding_of (kind_of r.tree) r.origin.token x))) none)
verdict_alive (None ∷ []) (r ∷ []) f b are none e = sym (same_bool false b e)
    ∙ sym (ap (λ x. is_true_by (number_of (x ∷ [])) (constant_finding 0 (kind_of x) (value_finding_of (kind_of x) r.origin.token f)))
    are.0.1)

verdict_is : (f : Bool) (values : List (Option ℕ)) (g : Gathered) (b : Bool) → Stands f values g →
    (if f then Some false else truth_by values) ≡ Some b →
    b ≡ is_true_by (number_of (map tree_in (reverse g.trees))) (roots_finding Wanted.Constant 0 (reverse g.trees) g.finding)
verdict_is true values g b stands e = sym (same_bool false b e)
    ∙ sym (never_true (number_of (map tree_in (reverse g.trees))) (roots_finding Wanted.Constant 0 (reverse g.trees) g.finding)
    (wrong_found g stands.1))
verdict_is false values g b stands e = verdict_alive values g.trees g.finding b stands.0 stands.1 e

truth_found : (declared : ℕ) (o : Out) (tokens : List SourceToken) (last : Option SourceToken) (k : Condition) (t : Truth) (b : Bool) →
    Goes declared o tokens [] last k.unit t → truth_in t ≡ Some b → b ≡ (verdict_of declared o k).is_true
truth_found declared o tokens last k t b goes e = elim (bool_cases t.is_odd) [
  | inl is ↦
      (let never : None ≡ Some b = sym (ap (λ x. if x then None else if t.is_false then Some false else truth_by t.values) is) ∙ e in cc)
  | inr even ↦ elim goes [
    | inl is ↦ (let never : true ≡ false = sym is ∙ even in cc)
    | inr f ↦
        let leaves = k.unit.gathering.leaves in let symbols = k.unit.gathering.symbols in
        verdict_is t.is_false t.values (now_of declared o tokens k.unit.gathering) b f.stands
        (sym (ap (λ x. if x then None else if t.is_false then Some false else truth_by t.values) even) ∙ e)
        ∙ ap (λ (l : List SourceToken). (verdict_with (operands_of declared o l leaves) k).is_true) (f.whole ∙ append-nil k.unit.tokens)
  ]
]

-- The truth that is found is that of the verdict.
pub truth_is : (declared : ℕ) (o : Out) (tokens : List SourceToken) (b : Bool) → truth_of declared o tokens ≡ Some b →
    b ≡ (verdict_of declared o (all_taken tokens condition_begun)).is_true
truth_is declared o tokens b e =
    truth_found declared o tokens (all_read declared o tokens reading_begun).last (all_taken tokens condition_begun)
    (all_read declared o tokens reading_begun).truth b
    (all_go declared o tokens tokens condition_begun reading_begun refl (inr (begins declared o tokens))) e

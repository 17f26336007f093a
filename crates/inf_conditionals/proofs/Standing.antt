-- The values of a condition stand for its trees behind each operator.
use Rattle.std.proofs.Common.{◌≡◌, ◌≤◌, ◌<◌, ◌-◌, ℕ, zero, suc, List, [], ◌∷◌, length, reverse, drop, take, Bool, true, false, ◌||◌}
use Rattle.std.proofs.Common.{inl, inr, Option, Some, None, refl, sym, ap, subst, ◌∙◌, arith, if◌then◌else◌}
use Rattle.std.proofs.Math.Dec.{eqb-suc-zero}
use Rattle.std.proofs.lemmas.List.{append-nil, length-drop}
use Rattle.std.specs.Prelude.{is_none}
use Rattle.inf_expressions.specs.Folding.{built, function_of, joined, number_or}
use Rattle.inf_expressions.specs.Judging.{value_finding_of}
use Rattle.inf_expressions.specs.Rooted.{Rooted, kind_of, with_unary}
use Rattle.inf_expressions.specs.Units.{Gathered, call_joined, called, listed, with_two_of, with_unary_of}
use Rattle.inf_expressions.specs.declared.{findings.Finding.Finding, operators.Binary.Binary, operators.Test.Test, operators.Unary.Unary}
use Rattle.inf_conditionals.specs.Values.{is_then, single_value, tested, two_value}
use Rattle.inf_conditionals.proofs.Doomed.{Wrong, fewer, joined_call, listed_length, called_alone, unfolded_stuck}
use Rattle.inf_conditionals.proofs.Doomed.{wrong_listed, wrong_two, wrong_unary}
use Rattle.inf_conditionals.proofs.Alive.{AreValues, Chain, IsValue, Stands, alive_single, alive_two, as_many, chain_one, dead_single}
use Rattle.inf_conditionals.proofs.Alive.{dead_two, doomed_by}
use Rattle.inf_conditionals.proofs.Alive.{lists, onto, onto_is, test_found, test_op, test_single, tested_is, value_quiet}

-- as many values as trees
pub counted_by : (f : Bool) (vs : List (Option ℕ)) (g : Gathered) → Stands f vs g → length vs ≡ length g.trees
counted_by true vs g stands = stands.0
counted_by false vs g stands = as_many vs g.trees stands.0

-- An operator of two values

two_there : (op : Binary) (va vb : Option ℕ) (vs : List (Option ℕ)) (trees : List Rooted) (f : Option Finding) (n : ℕ) →
    AreValues (vb ∷ va ∷ vs) trees → f ≡ None → two_value op va vb ≡ Some n → Stands false (Some n ∷ vs)
    (with_two_of 0 op (record { trees = trees; finding = f }))
two_there op (Some a) (Some b) vs trees f n are none e = alive_two op a b n vs trees f are none e
two_there op None vb vs trees f n are none e = absurd (cc e)
two_there op (Some a) None vs trees f n are none e = absurd (cc e)

pub two_stands : (f : Bool) (op : Binary) (va vb : Option ℕ) (vs : List (Option ℕ)) (g : Gathered) (v : Option ℕ) → is_then op ≡ false →
    Stands f (vb ∷ va ∷ vs) g → two_value op va vb ≡ v → Stands (f || is_none v) (v ∷ vs) (with_two_of 0 op g)
two_stands true op va vb vs g v single stands e =
    let two : 2 ≤ length g.trees = omega (arith, stands.0) in
    (omega (arith, stands.0, fewer op g.trees two), wrong_two 0 op g two stands.1)
two_stands false op va vb vs g (Some n) single stands e = two_there op va vb vs g.trees g.finding n stands.0 stands.1 e
two_stands false op va vb vs g None single stands e =
    let many = as_many (vb ∷ va ∷ vs) g.trees stands.0 in let two : 2 ≤ length g.trees = omega (arith, many) in
    (omega (arith, many, fewer op g.trees two), dead_two op va vb vs g.trees g.finding single stands.0 stands.1 e)

-- An operator of one value

same_many : (op : Unary) (front : Option ℕ) (trees : List Rooted) → length (with_unary op front trees) ≡ length trees
same_many op front [] = refl
same_many op front (r ∷ trees) = refl

single_there : (op : Unary) (front va : Option ℕ) (vs : List (Option ℕ)) (trees : List Rooted) (f : Option Finding) (n : ℕ) →
    AreValues (va ∷ vs) trees → f ≡ None → single_value op va ≡ Some n → Stands false (Some n ∷ vs)
    (with_unary_of op front (record { trees = trees; finding = f }))
single_there op front (Some a) vs trees f n are none e = alive_single op front a n vs trees f are none e
single_there op front None vs trees f n are none e = absurd (cc e)

pub single_stands : (f : Bool) (op : Unary) (front va : Option ℕ) (vs : List (Option ℕ)) (g : Gathered) (v : Option ℕ) →
    Stands f (va ∷ vs) g → single_value op va ≡ v → Stands (f || is_none v) (v ∷ vs) (with_unary_of op front g)
single_stands true op front va vs g v stands e = (omega (arith, stands.0, same_many op front g.trees), wrong_unary op front g stands.1)
single_stands false op front va vs g (Some n) stands e = single_there op front va vs g.trees g.finding n stands.0 stands.1 e
single_stands false op front va vs g None stands e =
    let many = as_many (va ∷ vs) g.trees stands.0 in
    (omega (arith, many, same_many op front g.trees), dead_single op front va vs g.trees g.finding stands.0 stands.1 e)

-- A test against a list

-- a test of two trees, of which the latest is one value or a list
test_ends : (sense : Bool) (t : Test) (va : Option ℕ) (a c : Rooted) (vs bs : List (Option ℕ)) (trees : List Rooted) (v : Option ℕ) →
    IsValue va a.tree → Chain c.tree bs → AreValues vs trees → tested sense t va bs ≡ v →
    Stands (is_none v) (v ∷ vs) (with_two_of 0 (test_op sense t) (record { trees = c ∷ a ∷ trees; finding = None }))
test_ends sense t va a c vs bs trees (Some n) is chain are e =
    let op = test_op sense t in (
      (ap (λ m. number_or m (built op (function_of a.tree) a.tree c.tree)) (tested_is sense t va a.tree c.tree bs is chain ∙ e), are),
      test_found sense t a c ∙ chain.quiet c.origin.token (value_finding_of (kind_of a.tree) a.origin.token None)
          ∙ value_quiet va a.tree a.origin.token None is,
    )
test_ends sense t va a c vs bs trees None is chain are e =
    let op = test_op sense t in (
      ap suc (as_many vs trees are),
      inr (inl (doomed_by (joined op a.tree c.tree)
          (unfolded_stuck op a.tree c.tree (test_single sense t) (tested_is sense t va a.tree c.tree bs is chain ∙ e)))),
    )

-- the trees that are left stand for the values that are left
dropped : (n : ℕ) (vs : List (Option ℕ)) (trees : List Rooted) → AreValues vs trees → AreValues (drop n vs) (drop n trees)
dropped zero vs trees are = are
dropped (suc n) [] [] are = tt
dropped (suc n) [] (r ∷ trees) are = absurd are
dropped (suc n) (v ∷ vs) [] are = absurd are
dropped (suc n) (v ∷ vs) (r ∷ trees) are = dropped n vs trees are.1

-- a test of the latest of these trees but the list in front of them
test_of_first : (sense : Bool) (t : Test) (va : Option ℕ) (c : Rooted) (vs bs : List (Option ℕ)) (trees : List Rooted) (v : Option ℕ) →
    Chain c.tree bs → AreValues (va ∷ vs) trees → tested sense t va bs ≡ v →
    Stands (is_none v) (v ∷ vs) (with_two_of 0 (test_op sense t) (record { trees = c ∷ trees; finding = None }))
test_of_first sense t va c vs bs [] v chain are e = absurd are
test_of_first sense t va c vs bs (a ∷ trees) v chain are e = test_ends sense t va a c vs bs trees v are.0 chain are.1 e

test_alive : (sense : Bool) (t : Test) (n : ℕ) (va : Option ℕ) (ws vs : List (Option ℕ)) (trees : List Rooted) (f : Option Finding)
    (v : Option ℕ) → AreValues ws trees → f ≡ None → drop (suc n) ws ≡ va ∷ vs → tested sense t va (reverse (take (suc n) ws)) ≡ v →
    Stands (is_none v) (v ∷ vs) (with_two_of 0 (test_op sense t) (listed 0 n (record { trees = trees; finding = f })))
test_alive sense t n va [] vs trees f v are none left e = absurd (cc left)
test_alive sense t n va (w ∷ ws) vs [] f v are none left e = absurd are
test_alive sense t n va (w ∷ ws) vs (r ∷ trees) f v are none left e =
    let many : n ≤ length ws = omega (arith, length-drop n ws, ap (λ (l : List (Option ℕ)). length l) left) in
    let list = lists n r (w ∷ []) ws trees (chain_one w r.tree are.0) are.1 many in
    let parts : onto n ws (w ∷ []) ≡ reverse (take (suc n) (w ∷ ws)) =
    onto_is (suc n) (w ∷ ws) [] ∙ append-nil (reverse (take (suc n) (w ∷ ws))) in
    let values = subst (λ (l : List (Option ℕ)). AreValues l (drop n trees)) left (dropped n ws trees are.1) in
    subst (λ (x : Gathered). Stands (is_none v) (v ∷ vs) (with_two_of 0 (test_op sense t) x))
    (sym (ap (λ (y : Option Finding). listed 0 n (record { trees = r ∷ trees; finding = y })) none ∙ list.is))
    (test_of_first sense t va list.list vs (onto n ws (w ∷ [])) (drop n trees) v list.chain values
    (ap (λ (l : List (Option ℕ)). tested sense t va l) parts ∙ e))

pub test_stands : (f sense : Bool) (t : Test) (n : ℕ) (va : Option ℕ) (ws vs : List (Option ℕ)) (g : Gathered) (v : Option ℕ) →
    Stands f ws g → drop (suc n) ws ≡ va ∷ vs → tested sense t va (reverse (take (suc n) ws)) ≡ v →
    Stands (f || is_none v) (v ∷ vs) (with_two_of 0 (test_op sense t) (listed 0 n g))
test_stands true sense t n va ws vs g v stands left e =
    let op = test_op sense t in
    let count : suc (length vs) ≡ length ws - suc n = sym (ap (λ (l : List (Option ℕ)). length l) left) ∙ length-drop (suc n) ws in
    let more : n < length g.trees = omega (arith, count, stands.0) in let many = listed_length 0 n g more in
    let two : 2 ≤ length (listed 0 n g).trees = omega (arith, many, count, stands.0) in (
      omega (arith, fewer op (listed 0 n g).trees two, many, count, stands.0),
      wrong_two 0 op (listed 0 n g) two (wrong_listed 0 n g more stands.1),
    )
test_stands false sense t n va ws vs g v stands left e = test_alive sense t n va ws vs g.trees g.finding v stands.0 stands.1 left e

-- A call

one_less : (n : ℕ) → suc n - 1 ≡ n
one_less n = omega arith

called_is : (n : ℕ) (g : Gathered) → called 0 (suc n) g ≡ call_joined 0 (suc n) (listed 0 n g)
called_is n g = ap (λ b. if b then with_unary_of Unary.Call None g else call_joined 0 (suc n) (listed 0 (suc n - 1) g)) (eqb-suc-zero n)
    ∙ ap (λ i. call_joined 0 (suc n) (listed 0 i g)) (one_less n)

call_wrong : (given : ℕ) (g : Gathered) → given < length g.trees → Wrong (called 0 given g)
call_wrong zero g more = called_alone g.trees g.finding (omega (arith, more))
call_wrong (suc n) g more =
    let many = listed_length 0 n g (omega (arith, more)) in
    subst Wrong (sym (called_is n g)) (joined_call 0 (suc n) (listed 0 n g).trees (listed 0 n g).finding (omega (arith, many, more)))

call_length : (given : ℕ) (g : Gathered) → given < length g.trees → length (called 0 given g).trees ≡ length g.trees - given
call_length zero g more = omega (arith, same_many Unary.Call None g.trees)
call_length (suc n) g more =
    let many = listed_length 0 n g (omega (arith, more)) in
    let two : 2 ≤ length (listed 0 n g).trees = omega (arith, many, more) in
    ap (λ (x : Gathered). length x.trees) (called_is n g) ∙ omega (arith, fewer Binary.Call (listed 0 n g).trees two, many, more)

always : (f : Bool) (vs : List (Option ℕ)) (g : Gathered) → length vs ≡ length g.trees → Wrong g → Stands (f || true) vs g
always true vs g many wrong = (many, wrong)
always false vs g many wrong = (many, wrong)

pub call_stands : (f : Bool) (given : ℕ) (va : Option ℕ) (ws vs : List (Option ℕ)) (g : Gathered) → Stands f ws g →
    drop given ws ≡ va ∷ vs → Stands (f || true) (None ∷ vs) (called 0 given g)
call_stands f given va ws vs g stands left =
    let count : suc (length vs) ≡ length ws - given = sym (ap (λ (l : List (Option ℕ)). length l) left) ∙ length-drop given ws in
    let many = counted_by f ws g stands in let more : given < length g.trees = omega (arith, count, many) in
    always f (None ∷ vs) (called 0 given g) (omega (arith, call_length given g more, count, many)) (call_wrong given g more)

-- The values of a condition stand for its trees: each known number for a leaf, and each other value for one that is known later.
use Rattle.std.proofs.Common.{◌≡◌, ◌≤◌, ◌+◌, ◌-◌, ℕ, zero, suc, List, [], ◌∷◌, ◌++◌, length, reverse, drop, take, Bool, true, false}
use Rattle.std.proofs.Common.{◌⊎◌, inl, inr, Option, Some, None, is_some, unwrap_or, refl, sym, ap, ◌∙◌, arith, option_map, append_assoc}
use Rattle.std.proofs.lemmas.List.{reverse-append}
use Rattle.inf_area.specs.declared.targets.Target.{Target}
use Rattle.inf_expressions.specs.Folding.{any_holds, any_known, built, folded, folded_single, function_of, holds_known, joined}
use Rattle.inf_expressions.specs.Folding.{joined_single, known, number_or, or_known, sensed}
use Rattle.inf_expressions.specs.Judging.{two_finding, unary_finding, value_finding_of}
use Rattle.inf_expressions.specs.Numbers.{holds}
use Rattle.inf_expressions.specs.Origins.{followed, of_leaf}
use Rattle.inf_expressions.specs.Rooted.{Rooted, kind_of, seen, seen_latest, seen_two, with_two, with_unary}
use Rattle.inf_expressions.specs.Trees.{Leaf, One, Tree, Two}
use Rattle.inf_expressions.specs.Units.{Gathered, listed, with_two_of, with_unary_of}
use Rattle.inf_expressions.specs.declared.{findings.Finding.Finding, operators.Binary.Binary, operators.Operand.Operand}
use Rattle.inf_expressions.specs.declared.{operators.Operation.Operation, operators.Test.Test, operators.Unary.Unary}
use Rattle.inf_conditionals.specs.Condition.{number_of}
use Rattle.inf_conditionals.specs.Values.{any_of, holds_by, is_not_zero, is_then, number_unless, single_number, single_value, tested}
use Rattle.inf_conditionals.specs.Values.{two_number, two_value}
use Rattle.inf_conditionals.proofs.Doomed.{Wrong, is_doomed, is_function, is_stuck, or_right, two_none_right, unfolded_stuck, unknown_left}

-- Values

abbrev pub IsValue : Option ℕ → Tree → Type 0
IsValue (Some n) t = t ≡ Leaf (Operand.Known n)
IsValue None t = (target : Target) × (t ≡ Leaf (Operand.Later target))

abbrev pub AreValues : List (Option ℕ) → List Rooted → Type 0
AreValues [] [] = Unit {0}
AreValues [] (r ∷ trees) = ⊥
AreValues (v ∷ vs) [] = ⊥
AreValues (v ∷ vs) (r ∷ trees) = IsValue v r.tree × AreValues vs trees

pub as_many : (vs : List (Option ℕ)) (trees : List Rooted) → AreValues vs trees → length vs ≡ length trees
as_many [] [] are = refl
as_many [] (r ∷ trees) are = absurd are
as_many (v ∷ vs) [] are = absurd are
as_many (v ∷ vs) (r ∷ trees) are = ap suc (as_many vs trees are.1)

value_known : (v : Option ℕ) (t : Tree) → IsValue v t → known t ≡ v
value_known (Some n) t is = ap known is
value_known None t is = ap known is.1

pub value_quiet : (v : Option ℕ) (t : Tree) (token : ℕ) (f : Option Finding) → IsValue v t → value_finding_of (kind_of t) token f ≡ f
value_quiet (Some n) t token f is = ap (λ x. value_finding_of (kind_of x) token f) is
value_quiet None t token f is = ap (λ x. value_finding_of (kind_of x) token f) is.1

-- Numbers of small expressions

unless_some : (x : Option Finding) (m : Option ℕ) (n : ℕ) → number_unless x m ≡ Some n → (x ≡ None) × (m ≡ Some n)
unless_some None m n e = (refl, e)
unless_some (Some f) m n e = absurd (cc e)

unless_none : (x : Option Finding) (n : ℕ) → number_unless x (Some n) ≡ None → is_some x ≡ true
unless_none None n e = absurd (cc e)
unless_none (Some f) n e = refl

number_is : (t : Tree) (n : ℕ) → number_of (t ∷ []) ≡ Some n → t ≡ Leaf (Operand.Known n)
number_is (Leaf (Operand.Known m)) n e = ap (λ o. Leaf (Operand.Known (unwrap_or o m))) e
number_is (Leaf (Operand.Variable v)) n e = absurd (cc e)
number_is (Leaf (Operand.Later target)) n e = absurd (cc e)
number_is (Leaf (Operand.Function f)) n e = absurd (cc e)
number_is (Leaf Operand.Unknown) n e = absurd (cc e)
number_is (One op a) n e = absurd (cc e)
number_is (Two op a b) n e = absurd (cc e)

option_cases : (m : Option ℕ) → (m ≡ None) ⊎ ((n : ℕ) × (m ≡ Some n))
option_cases None = inl refl
option_cases (Some n) = inr (n, refl)

-- a leaf of a known number
abbrev pub leaf : ℕ → Tree
leaf n = Leaf (Operand.Known n)

-- the leaf as it is judged by itself
abbrev pub alone : ℕ → Rooted
alone n = record { tree = leaf n; origin = of_leaf 0 0 (Operand.Known n) }

-- Operators of two values

two_some : (op : Binary) (a b n : ℕ) → two_number op a b ≡ Some n →
    (joined op (leaf a) (leaf b) ≡ leaf n) × (two_finding op 0 (seen (alone a)) (seen (alone b)) None ≡ None)
two_some op a b n e =
    let j = joined op (leaf a) (leaf b) in let f = two_finding op 0 (seen (alone a)) (seen (alone b)) None in
    let parts = unless_some (value_finding_of (kind_of j) 0 f) (number_of (j ∷ [])) n e in
    let is = number_is j n parts.1 in (is, sym (ap (λ t. value_finding_of (kind_of t) 0 f) is) ∙ parts.0)

two_moved : (op : Binary) (a b : ℕ) (r q : Rooted) → two_finding op 0 (seen (alone a)) (seen (alone b)) None ≡ None →
    two_finding op 0 (seen (record { tree = leaf a; origin = r.origin })) (seen (record { tree = leaf b; origin = q.origin })) None ≡ None
two_moved Binary.Assign a b r q e = absurd (cc e)
two_moved (Binary.Operation Operation.Divide) a b r q e = e
two_moved (Binary.Operation Operation.Remainder) a b r q e = e
two_moved (Binary.Operation o) a b r q e = e
two_moved Binary.To a b r q e = e
two_moved op a b r q e = e

-- what is found does not depend on the places of the parts
two_free : (op : Binary) (a b : ℕ) (r q : Rooted) → r.tree ≡ leaf a → q.tree ≡ leaf b →
    two_finding op 0 (seen (alone a)) (seen (alone b)) None ≡ None → two_finding op 0 (seen r) (seen q) None ≡ None
two_free op a b r q is it e = ap (λ t. two_finding op 0 (seen (record { tree = t; origin = r.origin })) (seen q) None) is
    ∙ ap (λ t. two_finding op 0 (seen (record { tree = leaf a; origin = r.origin }))
    (seen (record { tree = t; origin = q.origin })) None) it ∙ two_moved op a b r q e

some_moved : (op : Binary) (a b : ℕ) (r q : Rooted) → is_some (two_finding op 0 (seen (alone a)) (seen (alone b)) None) ≡ true →
    is_some (two_finding op 0 (seen (record { tree = leaf a; origin = r.origin }))
    (seen (record { tree = leaf b; origin = q.origin })) None) ≡ true
some_moved Binary.Assign a b r q e = refl
some_moved (Binary.Operation Operation.Divide) a b r q e = e
some_moved (Binary.Operation Operation.Remainder) a b r q e = e
some_moved (Binary.Operation o) a b r q e = e
some_moved Binary.To a b r q e = e
some_moved op a b r q e = e

some_free : (op : Binary) (a b : ℕ) (r q : Rooted) → r.tree ≡ leaf a → q.tree ≡ leaf b →
    is_some (two_finding op 0 (seen (alone a)) (seen (alone b)) None) ≡ true → is_some (two_finding op 0 (seen r) (seen q) None) ≡ true
some_free op a b r q is it e = ap (λ t. is_some (two_finding op 0 (seen (record { tree = t; origin = r.origin })) (seen q) None)) is
    ∙ ap (λ t. is_some (two_finding op 0 (seen (record { tree = leaf a; origin = r.origin }))
    (seen (record { tree = t; origin = q.origin })) None)) it ∙ some_moved op a b r q e

two_none : (op : Binary) (a b : ℕ) → is_then op ≡ false → two_number op a b ≡ None →
    (is_some (two_finding op 0 (seen (alone a)) (seen (alone b)) None) ≡ true) ⊎ (is_stuck (joined op (leaf a) (leaf b)) ≡ true)
two_none op a b single e = elim (option_cases (folded op (leaf a) (leaf b))) [
  | inl unknown ↦ inr (unfolded_stuck op (leaf a) (leaf b) single unknown)
  | inr some ↦
      let j = joined op (leaf a) (leaf b) in let f = two_finding op 0 (seen (alone a)) (seen (alone b)) None in
      let is : j ≡ leaf some.0 = ap (λ m. number_or m (built op (function_of (leaf a)) (leaf a) (leaf b))) some.1 in
      let found = unless_none (value_finding_of (kind_of j) 0 f) some.0
      (ap (λ t. number_unless (value_finding_of (kind_of j) 0 f) (number_of (t ∷ []))) (sym is) ∙ e) in
      inl (ap (λ t. is_some (value_finding_of (kind_of t) 0 f)) (sym is) ∙ found)
]

-- an operator of a value that is known later
later_any : (t : Test) (n : Option ℕ) (target : Target) → any_known t n (Leaf (Operand.Later target)) ≡ None
later_any t None target = refl
later_any t (Some n) target = refl

later_right : (op : Binary) (a : Tree) (target : Target) → folded op a (Leaf (Operand.Later target)) ≡ None
later_right (Binary.Test t) a target = ap (λ k. sensed true k) (later_any t (known a) target)
later_right (Binary.Fails t) a target = ap (λ k. sensed false k) (later_any t (known a) target)
later_right op a target = two_none_right op (known a)

pub alive_two : (op : Binary) (a b n : ℕ) (vs : List (Option ℕ)) (trees : List Rooted) (f : Option Finding) →
    AreValues (Some b ∷ Some a ∷ vs) trees → f ≡ None → two_number op a b ≡ Some n →
    AreValues (Some n ∷ vs) (with_two op trees) × (two_finding op 0 (seen_two trees).0 (seen_two trees).1 f ≡ None)
alive_two op a b n vs [] f are none e = absurd are
alive_two op a b n vs (q ∷ []) f are none e = absurd are.1
alive_two op a b n vs (q ∷ r ∷ trees) f are none e =
    let both = two_some op a b n e in (
      (ap (λ t. joined op t q.tree) are.1.0 ∙ ap (λ t. joined op (leaf a) t) are.0 ∙ both.0, are.1.1),
      ap (λ x. two_finding op 0 (seen r) (seen q) x) none ∙ two_free op a b r q are.1.0 are.0 both.1,
    )

pub doomed_by : (t : Tree) → is_stuck t ≡ true → is_doomed t ≡ true
doomed_by t stuck = or_right (is_function t) (is_stuck t) stuck

pub dead_two : (op : Binary) (va vb : Option ℕ) (vs : List (Option ℕ)) (trees : List Rooted) (f : Option Finding) → is_then op ≡ false →
    AreValues (vb ∷ va ∷ vs) trees → f ≡ None → two_value op va vb ≡ None → Wrong (with_two_of 0 op (record { trees = trees; finding = f }))
dead_two op va vb vs [] f single are none e = absurd are
dead_two op va vb vs (q ∷ []) f single are none e = absurd are.1
dead_two op (Some a) (Some b) vs (q ∷ r ∷ trees) f single are none e = elim (two_none op a b single e) [
  | inl found ↦ inl (ap (λ x. is_some (two_finding op 0 (seen r) (seen q) x)) none ∙ some_free op a b r q are.1.0 are.0 found)
  | inr stuck ↦ inr (inl (doomed_by (joined op r.tree q.tree)
      (ap (λ t. is_stuck (joined op t q.tree)) are.1.0 ∙ ap (λ t. is_stuck (joined op (leaf a) t)) are.0 ∙ stuck)))
]
dead_two op None vb vs (q ∷ r ∷ trees) f single are none e = inr (inl (doomed_by (joined op r.tree q.tree)
    (unfolded_stuck op r.tree q.tree single (unknown_left op r.tree q.tree (value_known None r.tree are.1.0)))))
dead_two op (Some a) None vs (q ∷ r ∷ trees) f single are none e = inr (inl (doomed_by (joined op r.tree q.tree)
    (unfolded_stuck op r.tree q.tree single (ap (λ t. folded op r.tree t) are.0.1 ∙ later_right op r.tree are.0.0))))

-- Operators of one value

single_some : (op : Unary) (a n : ℕ) → single_number op a ≡ Some n →
    (joined_single op (leaf a) ≡ leaf n) × (unary_finding op (seen (alone a)) None ≡ None)
single_some op a n e =
    let j = joined_single op (leaf a) in let f = unary_finding op (seen (alone a)) None in
    let parts = unless_some (value_finding_of (kind_of j) 0 f) (number_of (j ∷ [])) n e in
    let is = number_is j n parts.1 in (is, sym (ap (λ t. value_finding_of (kind_of t) 0 f) is) ∙ parts.0)

unary_moved : (op : Unary) (a : ℕ) (r : Rooted) → unary_finding op (seen (alone a)) None ≡ None →
    unary_finding op (seen (record { tree = leaf a; origin = r.origin })) None ≡ None
unary_moved (Unary.Before step) a r e = absurd (cc e)
unary_moved (Unary.Behind step) a r e = absurd (cc e)
unary_moved op a r e = e

unary_some_moved : (op : Unary) (a : ℕ) (r : Rooted) → is_some (unary_finding op (seen (alone a)) None) ≡ true →
    is_some (unary_finding op (seen (record { tree = leaf a; origin = r.origin })) None) ≡ true
unary_some_moved (Unary.Before step) a r e = refl
unary_some_moved (Unary.Behind step) a r e = refl
unary_some_moved op a r e = e

single_none : (op : Unary) (a : ℕ) → single_number op a ≡ None →
    (is_some (unary_finding op (seen (alone a)) None) ≡ true) ⊎ (is_stuck (joined_single op (leaf a)) ≡ true)
single_none op a e = elim (option_cases (folded_single op (Some a))) [
  | inl unknown ↦ inr (ap (λ m. is_stuck (number_or m (One op (leaf a)))) unknown)
  | inr some ↦
      let j = joined_single op (leaf a) in let f = unary_finding op (seen (alone a)) None in
      let is : j ≡ leaf some.0 = ap (λ m. number_or m (One op (leaf a))) some.1 in
      let found = unless_none (value_finding_of (kind_of j) 0 f) some.0
      (ap (λ t. number_unless (value_finding_of (kind_of j) 0 f) (number_of (t ∷ []))) (sym is) ∙ e) in
      inl (ap (λ t. is_some (value_finding_of (kind_of t) 0 f)) (sym is) ∙ found)
]

pub alive_single : (op : Unary) (front : Option ℕ) (a n : ℕ) (vs : List (Option ℕ)) (trees : List Rooted) (f : Option Finding) →
    AreValues (Some a ∷ vs) trees → f ≡ None → single_number op a ≡ Some n →
    AreValues (Some n ∷ vs) (with_unary op front trees) × (unary_finding op (seen_latest trees) f ≡ None)
alive_single op front a n vs [] f are none e = absurd are
alive_single op front a n vs (r ∷ trees) f are none e =
    let both = single_some op a n e in (
      (ap (λ t. joined_single op t) are.0 ∙ both.0, are.1),
      ap (λ x. unary_finding op (seen r) x) none
          ∙ ap (λ t. unary_finding op (seen (record { tree = t; origin = r.origin })) None) are.0 ∙ unary_moved op a r both.1,
    )

pub dead_single : (op : Unary) (front va : Option ℕ) (vs : List (Option ℕ)) (trees : List Rooted) (f : Option Finding) →
    AreValues (va ∷ vs) trees → f ≡ None → single_value op va ≡ None →
    Wrong (with_unary_of op front (record { trees = trees; finding = f }))
dead_single op front va vs [] f are none e = absurd are
dead_single op front (Some a) vs (r ∷ trees) f are none e = elim (single_none op a e) [
  | inl found ↦ inl (ap (λ x. is_some (unary_finding op (seen r) x)) none
      ∙ ap (λ t. is_some (unary_finding op (seen (record { tree = t; origin = r.origin })) None)) are.0 ∙ unary_some_moved op a r found)
  | inr stuck ↦ inr (inl (doomed_by (joined_single op r.tree) (ap (λ t. is_stuck (joined_single op t)) are.0 ∙ stuck)))
]
dead_single op front None vs (r ∷ trees) f are none e = inr (inl (doomed_by (joined_single op r.tree)
    (ap (λ n. is_stuck (number_or (folded_single op n) (One op r.tree))) (value_known None r.tree are.0))))

-- Tests against lists

-- a test by itself
test_alone : (t : Test) (n m : ℕ) (h : Option Bool) →
    let j = number_or (sensed true (or_known (Some false) h)) (Two (Binary.Test t) (leaf n) (leaf m)) in
    option_map is_not_zero (number_unless (value_finding_of (kind_of j) 0 None) (number_of (j ∷ []))) ≡ h
test_alone t n m None = refl
test_alone t n m (Some true) = refl
test_alone t n m (Some false) = refl

test_is : (t : Test) (n : ℕ) (v : Option ℕ) → holds_known t n v ≡ holds_by t n v
test_is t n None = refl
test_is t n (Some m) = sym (test_alone t n m (holds t n m))

-- A tree that is one value, or a list of these values.
pub record Chain (t : Tree) (bs : List (Option ℕ)) : Type 0 where
  pub holds_of : (found : Option Bool) (test : Test) (a : ℕ) → any_holds found test a t ≡ any_of found test a bs
  pub quiet : (token : ℕ) (f : Option Finding) → value_finding_of (kind_of t) token f ≡ f

pub chain_one : (v : Option ℕ) (t : Tree) → IsValue v t → Chain t (v ∷ [])
chain_one (Some n) t is = record {
  holds_of = λ found test a. ap (λ x. any_holds found test a x) is ∙ ap (λ h. or_known found h) (test_is test a (Some n));
  quiet = λ token f. value_quiet (Some n) t token f is;
}
chain_one None t is = record {
  holds_of = λ found test a. ap (λ x. any_holds found test a x) is.1 ∙ ap (λ h. or_known found h) (test_is test a None);
  quiet = λ token f. value_quiet None t token f is;
}

chain_more : (v : Option ℕ) (t c : Tree) (bs : List (Option ℕ)) → IsValue v t → Chain c bs → Chain (joined Binary.Then t c) (v ∷ bs)
chain_more v t c bs is chain = record {
  holds_of = λ found test a. ap (λ k. any_holds (or_known found (holds_known test a k)) test a c) (value_known v t is)
      ∙ ap (λ h. any_holds (or_known found h) test a c) (test_is test a v) ∙ chain.holds_of (or_known found (holds_by test a v)) test a;
  quiet = λ token f. refl;
}

-- the latest values, put before others in the order of the source
abbrev pub onto : ℕ → List (Option ℕ) → List (Option ℕ) → List (Option ℕ)
onto zero vs bs = bs
onto (suc n) [] bs = bs
onto (suc n) (v ∷ vs) bs = onto n vs (v ∷ bs)

pub onto_is : (n : ℕ) (vs bs : List (Option ℕ)) → onto n vs bs ≡ reverse (take n vs) ++ bs
onto_is zero vs bs = refl
onto_is (suc n) [] bs = refl
onto_is (suc n) (v ∷ vs) bs = onto_is n vs (v ∷ bs) ∙ sym (append_assoc (reverse (take n vs)) (v ∷ []) bs)
    ∙ ap (λ (l : List (Option ℕ)). l ++ bs) (sym (reverse-append (v ∷ []) (take n vs)))

-- joints may be made from the latest trees on
listed_first : (unit n : ℕ) (g : Gathered) → listed unit (suc n) g ≡ listed unit n (with_two_of unit Binary.Then g)
listed_first unit zero g = refl
listed_first unit (suc n) g = ap (λ (x : Gathered). with_two_of unit Binary.Then x) (listed_first unit n g)

-- The latest trees, as a list of these values, are in front of others.
pub record Listed (g : Gathered) (bs : List (Option ℕ)) (others : List Rooted) : Type 0 where
  pub list : Rooted
  pub is : g ≡ record { trees = list ∷ others; finding = None }
  pub chain : Chain list.tree bs

pub lists : (n : ℕ) (c : Rooted) (bs vs : List (Option ℕ)) (trees : List Rooted) → Chain c.tree bs → AreValues vs trees → n ≤ length vs →
    Listed (listed 0 n (record { trees = c ∷ trees; finding = None })) (onto n vs bs) (drop n trees)
lists zero c bs vs trees chain are few = record { list = c; is = refl; chain = chain }
lists (suc n) c bs [] trees chain are few = absurd (omega (arith, few))
lists (suc n) c bs (v ∷ vs) [] chain are few = absurd are
lists (suc n) c bs (v ∷ vs) (r ∷ trees) chain are few =
    let new : Rooted = record { tree = joined Binary.Then r.tree c.tree; origin = followed r.origin } in
    let before = lists n new (v ∷ bs) vs trees (chain_more v r.tree c.tree bs are.0 chain) are.1 (omega (arith, few)) in
    let quiet : value_finding_of (kind_of c.tree) c.origin.token (value_finding_of (kind_of r.tree) r.origin.token None) ≡ None =
    chain.quiet c.origin.token (value_finding_of (kind_of r.tree) r.origin.token None) ∙ value_quiet v r.tree r.origin.token None are.0 in
    record {
      list = before.list;
      is = listed_first 0 n (record { trees = c ∷ r ∷ trees; finding = None })
          ∙ ap (λ f. listed 0 n (record { trees = new ∷ trees; finding = f })) quiet ∙ before.is;
      chain = before.chain;
    }

abbrev pub test_op : Bool → Test → Binary
test_op true t = Binary.Test t
test_op false t = Binary.Fails t

test_folded : (sense : Bool) (t : Test) (a b : Tree) → folded (test_op sense t) a b ≡ sensed sense (any_known t (known a) b)
test_folded true t a b = refl
test_folded false t a b = refl

pub test_found : (sense : Bool) (t : Test) (a b : Rooted) → two_finding (test_op sense t) 0 (seen a) (seen b) None
    ≡ value_finding_of (kind_of b.tree) b.origin.token (value_finding_of (kind_of a.tree) a.origin.token None)
test_found true t a b = refl
test_found false t a b = refl

pub test_single : (sense : Bool) (t : Test) → is_then (test_op sense t) ≡ false
test_single true t = refl
test_single false t = refl

tested_known : (sense : Bool) (t : Test) (v : Option ℕ) (c : Tree) (bs : List (Option ℕ)) → Chain c bs →
    sensed sense (any_known t v c) ≡ tested sense t v bs
tested_known sense t None c bs chain = refl
tested_known sense t (Some n) c bs chain = ap (sensed sense) (chain.holds_of (Some false) t n)

pub tested_is : (sense : Bool) (t : Test) (v : Option ℕ) (a c : Tree) (bs : List (Option ℕ)) → IsValue v a → Chain c bs →
    folded (test_op sense t) a c ≡ tested sense t v bs
tested_is sense t v a c bs is chain =
    test_folded sense t a c ∙ ap (λ k. sensed sense (any_known t k c)) (value_known v a is) ∙ tested_known sense t v c bs chain

-- Gatherings

-- The values stand for the trees of a gathering: one by one, where nothing is wrong, and else in number.
abbrev pub Stands : Bool → List (Option ℕ) → Gathered → Type 0
Stands false vs g = AreValues vs g.trees × (g.finding ≡ None)
Stands true vs g = (length vs ≡ length g.trees) × Wrong g

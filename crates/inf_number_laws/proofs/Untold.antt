-- Where nothing is found wrong in an expression, it is sound: whatever a number takes the place of has proper operands and a divisor.
use Rattle.std.proofs.Common.{◌≡◌, ℕ, List, Option, Some, None, Bool, true, false, refl, ◌∙◌, ap, sym, subst}
use Rattle.std.specs.Prelude.{◌==◌, ◌&&◌, cond, if◌then◌else◌, nat_lt, suc}
use Rattle.inf_expressions.specs.{Rooted.Rooted, Rooted.kind_of, Rooted.seen, Sources.found_in, Sources.meant, Sources.opened, Trees.Leaf}
use Rattle.inf_expressions.specs.{Trees.One, Trees.Tree, Trees.Two, Units.operand_at, declared.findings.Finding.Finding}
use Rattle.inf_expressions.specs.{declared.operators.Binary.Binary, declared.operators.Function.Function}
use Rattle.inf_expressions.specs.{declared.operators.Operand.Operand, declared.operators.Operation.Operation}
use Rattle.inf_expressions.specs.{declared.operators.PropertyPart.PropertyPart, declared.operators.Unary.Unary}
use Rattle.inf_expressions.specs.Findings.{is_before, least, no_constant, out_of_range, too_many_arguments, wrong_kind}
use Rattle.inf_expressions.specs.Folding.{built, folded, folded_single, folded_two, function_of, joined, joined_single, known, number_or}
use Rattle.inf_expressions.specs.Judging.{constant_finding, division_finding, is_known, is_zero, leaf_finding, most_arguments}
use Rattle.inf_expressions.specs.Judging.{target_finding_of, two_finding, unary_finding, value_finding_of, values_finding}
use Rattle.inf_expressions.specs.Sources as source
use Rattle.inf_meaning_laws.specs.Values.{sense}
use Rattle.inf_number_laws.specs.{Known.AreAlike, Known.HasDivisor, Known.IsProper, Whole.IsSound, Whole.plain, Whole.with_numbers}
use Rattle.inf_number_laws.specs.{Written.SourcesKeep, Written.UntoldIsSound, Written.written}
use Rattle.inf_number_laws.proofs.Whole.{numbers_written, trees_keep}

-- A finding is not forgotten.

abbrev Tells : (Option Finding → Option Finding) → Type 0
Tells f = (found : Option Finding) → f found ≡ None → found ≡ None

least_by : (b : Bool) (x y : Finding) → cond b (Some x) (Some y) ≡ None → ⊥
least_by true x y e = cc
least_by false x y e = cc

least_tells : (found : Option Finding) (f : Finding) → least found f ≡ None → ⊥
least_tells None f e = cc
least_tells (Some old) f e = least_by (is_before f old) f old e

same : Tells (λ found. found)
same found e = e

less : (f : Finding) → Tells (λ found. least found f)
less f found e = elim (least_tells found f e) [ ]

-- Lemmas about what is found wrong with a tree, by its kind

abbrev IsValue : Tree → Type 0
IsValue (Leaf (Operand.Function f)) = ⊥
IsValue t = Unit {0}

record Facts (t : Tree) : Type 0 where
  value : (x : ℕ) → Tells (λ found. value_finding_of (kind_of t) x found)
  is_value : (x : ℕ) (found : Option Finding) → value_finding_of (kind_of t) x found ≡ None → IsValue t
  target : (x : ℕ) → Tells (λ found. target_finding_of (kind_of t) x found)
  constant : (x : ℕ) → Tells (λ found. constant_finding x (kind_of t) found)

wrong : (x : ℕ) → Tells (λ found. least found (wrong_kind x))
wrong x = less (wrong_kind x)

unfit : (x : ℕ) → Tells (λ found. least found (no_constant x))
unfit x = less (no_constant x)

facts : (t : Tree) → Facts t
facts (Leaf (Operand.Known n)) = record { value = λ x. same; is_value = λ x f e. tt; target = wrong; constant = λ x. same }
facts (Leaf (Operand.Variable v)) = record { value = λ x. same; is_value = λ x f e. tt; target = λ x. same; constant = unfit }
facts (Leaf (Operand.Later t)) = record { value = λ x. same; is_value = λ x f e. tt; target = wrong; constant = λ x. same }
facts (Leaf (Operand.Function g)) =
    record { value = wrong; is_value = λ x f e. least_tells f (wrong_kind x) e; target = wrong; constant = λ x. same }
facts (Leaf Operand.Unknown) = record { value = λ x. same; is_value = λ x f e. tt; target = wrong; constant = λ x. same }
facts (Two (Binary.Operation Operation.Byte) a b) =
    record { value = λ x. same; is_value = λ x f e. tt; target = λ x. same; constant = unfit }
facts (Two (Binary.Operation Operation.Word) a b) =
    record { value = λ x. same; is_value = λ x f e. tt; target = λ x. same; constant = unfit }
facts (Two (Binary.Operation Operation.Subtract) a b) =
    record { value = λ x. same; is_value = λ x f e. tt; target = wrong; constant = unfit }
facts (Two (Binary.Operation Operation.Multiply) a b) =
    record { value = λ x. same; is_value = λ x f e. tt; target = wrong; constant = unfit }
facts (Two (Binary.Operation Operation.Divide) a b) =
    record { value = λ x. same; is_value = λ x f e. tt; target = wrong; constant = unfit }
facts (Two (Binary.Operation Operation.Remainder) a b) =
    record { value = λ x. same; is_value = λ x f e. tt; target = wrong; constant = unfit }
facts (Two (Binary.Operation Operation.BitAnd) a b) =
    record { value = λ x. same; is_value = λ x f e. tt; target = wrong; constant = unfit }
facts (Two (Binary.Operation Operation.BitOr) a b) =
    record { value = λ x. same; is_value = λ x f e. tt; target = wrong; constant = unfit }
facts (Two (Binary.Property PropertyPart.Value) a b) =
    record { value = λ x. same; is_value = λ x f e. tt; target = λ x. same; constant = unfit }
facts (Two (Binary.Property PropertyPart.Address) a b) =
    record { value = λ x. same; is_value = λ x f e. tt; target = wrong; constant = unfit }
facts (Two (Binary.Property PropertyPart.Length) a b) =
    record { value = λ x. same; is_value = λ x f e. tt; target = wrong; constant = unfit }
facts other = record { value = λ x. same; is_value = λ x f e. tt; target = wrong; constant = unfit }

some_same : {A : Type 0} {x y : A} → Some x ≡ Some y → x ≡ y
some_same e = cc

known_kind : (t : Tree) (n : ℕ) → known t ≡ Some n → is_known (kind_of t) ≡ true
known_kind (Leaf (Operand.Known m)) n e = refl
known_kind (Leaf (Operand.Function f)) n e = refl
known_kind (Leaf Operand.Unknown) n e = refl
known_kind other n e = cc

zero_kind : (t : Tree) → known t ≡ Some 0 → is_zero (kind_of t) ≡ true
zero_kind (Leaf (Operand.Known m)) e = ap (λ n. n == 0) (some_same e)
zero_kind (Leaf (Operand.Function f)) e = refl
zero_kind (Leaf Operand.Unknown) e = refl
zero_kind other e = cc

-- Lemmas about operators of one part

record OneIsFine (t : Tree) (found : Option Finding) : Type 0 where
  nothing : found ≡ None
  value : IsValue t

one_fine : (r : Rooted) (found : Option Finding) → value_finding_of (kind_of r.tree) r.origin.token found ≡ None → OneIsFine r.tree found
one_fine r found e =
    let f = facts r.tree in record { nothing = f.value r.origin.token found e; value = f.is_value r.origin.token found e }

unary_fine : (op : Unary) (r : Rooted) (found : Option Finding) → unary_finding op (seen r) found ≡ None → OneIsFine r.tree found
unary_fine (Unary.Before how) r found e = one_fine r found ((facts r.tree).target r.origin.first _ e)
unary_fine (Unary.Behind how) r found e = one_fine r found ((facts r.tree).target r.origin.first _ e)
unary_fine other r found e = one_fine r found e

-- Lemmas about operators of two parts

record TwoAreFine (op : Binary) (a b : Tree) (found : Option Finding) : Type 0 where
  nothing : found ≡ None
  first : IsValue a
  second : IsValue b
  divisor : (n : ℕ) → folded op a b ≡ Some n → HasDivisor op b

record ValuesAreFine (a b : Tree) (found : Option Finding) : Type 0 where
  nothing : found ≡ None
  first : IsValue a
  second : IsValue b

values_fine : (r q : Rooted) (found : Option Finding) → values_finding (seen r) (seen q) found ≡ None → ValuesAreFine r.tree q.tree found
values_fine r q found e =
    let g = one_fine q (value_finding_of (kind_of r.tree) r.origin.token found) e in
    let f = one_fine r found g.nothing in record { nothing = f.nothing; first = f.value; second = g.value }

with_divisor : (op : Binary) (a b : Tree) (found : Option Finding) → ValuesAreFine a b found
    → ((n : ℕ) → folded op a b ≡ Some n → HasDivisor op b) → TwoAreFine op a b found
with_divisor op a b found v d = record { nothing = v.nothing; first = v.first; second = v.second; divisor = d }

division_tells : (p q : Bool) (f : Finding) → Tells (λ found. if p && q then least found f else found)
division_tells true true f found e = less f found e
division_tells true false f found e = e
division_tells false q f found e = e

no_zero : (p q : Bool) (f : Finding) (found : Option Finding) → (if p && q then least found f else found) ≡ None → p ≡ true → q ≡ true → ⊥
no_zero true true f found e h g = least_tells found f e
no_zero true false f found e h g = cc
no_zero false q f found e h g = cc

divided_by : (o : Operation) (unit : ℕ) (a b : Tree) (found : Option Finding) (n : ℕ)
    → division_finding unit (kind_of a) (kind_of b) found ≡ None
    → (k : Option ℕ) → known a ≡ k → folded_two (Binary.Operation o) k (known b) ≡ Some n → known b ≡ Some 0 → ⊥
divided_by o unit a b found n e None h g z = cc
divided_by o unit a b found n e (Some x) h g z =
    no_zero (is_known (kind_of a)) (is_zero (kind_of b)) (out_of_range unit) found e (known_kind a x h) (zero_kind b z)

two_fine : (op : Binary) (unit : ℕ) (r q : Rooted) (found : Option Finding) → two_finding op unit (seen r) (seen q) found ≡ None
    → TwoAreFine op r.tree q.tree found
two_fine (Binary.Operation Operation.Divide) unit r q found e =
    let tells = division_tells (is_known (kind_of r.tree)) (is_zero (kind_of q.tree)) (out_of_range unit) in
    with_divisor (Binary.Operation Operation.Divide) r.tree q.tree found (values_fine r q found (tells _ e))
    (λ n g. divided_by Operation.Divide unit r.tree q.tree _ n e (known r.tree) refl g)
two_fine (Binary.Operation Operation.Remainder) unit r q found e =
    let tells = division_tells (is_known (kind_of r.tree)) (is_zero (kind_of q.tree)) (out_of_range unit) in
    with_divisor (Binary.Operation Operation.Remainder) r.tree q.tree found (values_fine r q found (tells _ e))
    (λ n g. divided_by Operation.Remainder unit r.tree q.tree _ n e (known r.tree) refl g)
two_fine Binary.Assign unit r q found e =
    with_divisor _ _ _ found (values_fine r q found ((facts r.tree).target r.origin.first _ e)) (λ n g. tt)
two_fine Binary.To unit r q found e =
    with_divisor _ _ _ found (values_fine r q found ((facts r.tree).constant unit _ ((facts q.tree).constant unit _ e))) (λ n g. tt)
two_fine other unit r q found e = with_divisor _ _ _ found (values_fine r q found e) (λ n g. tt)

call_by : (b : Bool) (f : Finding) (r : Rooted) (found : Option Finding)
    → cond b (least (value_finding_of (kind_of r.tree) r.origin.token found) f) (value_finding_of (kind_of r.tree) r.origin.token found)
    ≡ None
    → OneIsFine r.tree found
call_by true f r found e = elim (least_tells (value_finding_of (kind_of r.tree) r.origin.token found) f e) [ ]
call_by false f r found e = one_fine r found e

-- Lemmas about expressions

abbrev IsFit : Tree → Type 0
IsFit t = IsValue t → IsProper t

fit_leaf : (x : Operand) (token : ℕ) → leaf_finding x token None ≡ None → IsFit (Leaf x)
fit_leaf (Operand.Function f) token e v = v
fit_leaf Operand.Unknown token e v = cc
fit_leaf other token e v = tt

leaf_tells : (x : Operand) (token : ℕ) → Tells (λ found. leaf_finding x token found)
leaf_tells Operand.Unknown token = wrong token
leaf_tells other token = same

proper_number : (k : Option ℕ) (t : Tree) → IsProper t → IsProper (number_or k t)
proper_number None t p = p
proper_number (Some n) t p = tt

proper_built : (op : Binary) (f : Option Function) (a b : Tree) → IsProper a → IsProper b → IsProper (built op f a b)
proper_built (Binary.Operation o) f a b p q = tt
proper_built (Binary.Property g) f a b p q = tt
proper_built (Binary.Test t) f a b p q = tt
proper_built (Binary.Fails t) f a b p q = tt
proper_built Binary.Assign f a b p q = tt
proper_built Binary.Comma f a b p q = tt
proper_built Binary.And f a b p q = tt
proper_built Binary.Or f a b p q = tt
proper_built Binary.Call None a b p q = tt
proper_built Binary.Call (Some g) a b p q = tt
proper_built Binary.Then f a b p q = (p, q)
proper_built Binary.To f a b p q = tt

proper_call : (f : Option Function) (a b : Tree) → IsProper (built Binary.Call f a b)
proper_call None a b = tt
proper_call (Some g) a b = tt

module _ (unit : ℕ) (operands : List Operand) where
  abbrev tree_of : source.Source → Tree
  tree_of a = (meant operands a).tree

  abbrev too_many : source.Source → source.Source → Bool
  too_many f list = nat_lt (most_arguments (kind_of (tree_of f))) (suc (opened list).1)

  tells : (a : source.Source) → Tells (λ found. found_in unit operands a found)
  tells (source.Leaf first token leaf) found e = leaf_tells (operand_at operands leaf) token found e
  tells (source.Brackets order a) found e = tells a found e
  tells (source.Prefix order op a) found e = tells a found (unary_fine op (meant operands a) (found_in unit operands a found) e).nothing
  tells (source.Suffix op a) found e = tells a found (unary_fine op (meant operands a) (found_in unit operands a found) e).nothing
  tells (source.Two op a b) found e =
      let f = two_fine op unit (meant operands a) (meant operands b) (found_in unit operands b (found_in unit operands a found)) e in
      tells a found (tells b (found_in unit operands a found) f.nothing)
  tells (source.Then a b) found e =
      let f =
      two_fine Binary.Then unit (meant operands a) (meant operands b) (found_in unit operands b (found_in unit operands a found)) e in
      tells a found (tells b (found_in unit operands a found) f.nothing)
  tells (source.Call f list) found e =
      let g = call_by (too_many f list) (too_many_arguments unit) (meant operands list)
      (found_in unit operands list (found_in unit operands f found)) e in
      tells f found (tells list (found_in unit operands f found) g.nothing)
  tells (source.Alone f) found e = tells f found (unary_fine Unary.Call (meant operands f) (found_in unit operands f found) e).nothing

  abbrev IsGood : source.Source → Type 0
  IsGood a = IsSound (written operands a) × IsFit (tree_of a)

  -- soundness of an operator, by the trees that the text of its parts comes to
  one_sound : (op : Unary) (a : source.Source) → IsSound (written operands a) → IsProper (tree_of a) → IsSound (One op (written operands a))
  one_sound op a s p = (s, λ n e. subst IsProper (sym (numbers_written operands a)) p)

  two_sound : (op : Binary) (a b : source.Source) → IsSound (written operands a) → IsSound (written operands b)
      → ((n : ℕ) → folded op (tree_of a) (tree_of b) ≡ Some n → IsProper (tree_of a) × IsProper (tree_of b) × HasDivisor op (tree_of b))
      → IsSound (Two op (written operands a) (written operands b))
  two_sound op a b s t h = (
    s,
    t,
    subst (λ x. (n : ℕ) → folded op x (with_numbers (written operands b)) ≡ Some n
        → IsProper x × IsProper (with_numbers (written operands b)) × HasDivisor op (with_numbers (written operands b)))
        (sym (numbers_written operands a))
        (subst (λ y. (n : ℕ) → folded op (tree_of a) y ≡ Some n → IsProper (tree_of a) × IsProper y × HasDivisor op y)
        (sym (numbers_written operands b)) h),
  )

  one_good : (op : Unary) (a : source.Source) → IsGood a → IsValue (tree_of a)
      → IsSound (One op (written operands a)) × IsFit (joined_single op (tree_of a))
  one_good op a g v = (one_sound op a g.0 (g.1 v), λ u. proper_number (folded_single op (known (tree_of a))) (One op (tree_of a)) tt)

  two_good : (op : Binary) (a b : source.Source) → IsGood a → IsGood b → IsValue (tree_of a) → IsValue (tree_of b)
      → ((n : ℕ) → folded op (tree_of a) (tree_of b) ≡ Some n → HasDivisor op (tree_of b))
      → IsSound (Two op (written operands a) (written operands b)) × IsFit (joined op (tree_of a) (tree_of b))
  two_good op a b g h v u d = (
    two_sound op a b g.0 h.0 (λ n e. (g.1 v, h.1 u, d n e)),
    λ t. proper_number (folded op (tree_of a) (tree_of b)) (built op (function_of (tree_of a)) (tree_of a) (tree_of b))
        (proper_built op (function_of (tree_of a)) (tree_of a) (tree_of b) (g.1 v) (h.1 u)),
  )

  pair_good : (op : Binary) (a b : source.Source)
      → two_finding op unit (seen (meant operands a)) (seen (meant operands b)) (found_in unit operands b (found_in unit operands a None))
      ≡ None
      → (found_in unit operands a None ≡ None → IsGood a) → (found_in unit operands b None ≡ None → IsGood b)
      → IsSound (Two op (written operands a) (written operands b)) × IsFit (joined op (tree_of a) (tree_of b))
  pair_good op a b e g h =
      let f = two_fine op unit (meant operands a) (meant operands b) (found_in unit operands b (found_in unit operands a None)) e in
      let first : found_in unit operands a None ≡ None = tells b (found_in unit operands a None) f.nothing in
      let second : found_in unit operands b None ≡ None = ap (found_in unit operands b) (sym first) ∙ f.nothing in
      two_good op a b (g first) (h second) f.first f.second f.divisor

  good : (a : source.Source) → found_in unit operands a None ≡ None → IsGood a
  good (source.Leaf first token leaf) e = (tt, fit_leaf (operand_at operands leaf) token e)
  good (source.Brackets order a) e = good a e
  good (source.Prefix order op a) e =
      let f = unary_fine op (meant operands a) (found_in unit operands a None) e in one_good op a (good a f.nothing) f.value
  good (source.Suffix op a) e =
      let f = unary_fine op (meant operands a) (found_in unit operands a None) e in one_good op a (good a f.nothing) f.value
  good (source.Two op a b) e = pair_good op a b e (good a) (good b)
  good (source.Then a b) e = pair_good Binary.Then a b e (good a) (good b)
  good (source.Call f list) e =
      let g = call_by (too_many f list) (too_many_arguments unit) (meant operands list)
      (found_in unit operands list (found_in unit operands f None)) e in
      let first : found_in unit operands f None ≡ None = tells list (found_in unit operands f None) g.nothing in
      let second : found_in unit operands list None ≡ None = ap (found_in unit operands list) (sym first) ∙ g.nothing in (
        two_sound Binary.Call f list (good f first).0 (good list second).0 (λ n e. cc),
        λ u. proper_number (folded Binary.Call (tree_of f) (tree_of list))
            (built Binary.Call (function_of (tree_of f)) (tree_of f) (tree_of list))
            (proper_call (function_of (tree_of f)) (tree_of f) (tree_of list)),
      )
  good (source.Alone f) e =
      let g = unary_fine Unary.Call (meant operands f) (found_in unit operands f None) e in one_good Unary.Call f (good f g.nothing) g.value

pub untold_is_sound : UntoldIsSound
untold_is_sound unit operands a e = (good unit operands a e).0

pub sources_keep : SourcesKeep
sources_keep w unit operands a e = subst (λ t. AreAlike (sense w (plain (written operands a))) (sense w t)) (numbers_written operands a)
    (trees_keep w (written operands a) (untold_is_sound unit operands a e))

-- Conditions that cannot be true any more: something in them is wrong, or a tree is no constant, and it is part of every tree to come.
use Rattle.std.proofs.Common.{◌≡◌, ◌≤◌, ◌<◌, ◌+◌, ◌-◌, ℕ, zero, suc, List, [], ◌∷◌, ◌++◌, length, reverse, Bool, true, false, ◌||◌, ◌&&◌}
use Rattle.std.proofs.Common.{◌⊎◌, inl, inr, Option, Some, None, is_some, refl, sym, ap, ◌∙◌, if◌then◌else◌, arith, subst}
use Rattle.std.proofs.lemmas.List.{reverse-append}
use Rattle.inf_expressions.specs.Folding.{any_holds, any_known, built, folded, folded_single, folded_two, function_of, holds_known}
use Rattle.inf_expressions.specs.Folding.{joined, joined_single, known, number_or, or_known, sensed}
use Rattle.inf_expressions.specs.Judging.{constant_finding, is_known, is_zero, leaf_finding, root_finding, target_finding_of, two_finding}
use Rattle.inf_expressions.specs.Judging.{unary_finding, value_finding, value_finding_of, values_finding}
use Rattle.inf_expressions.specs.Findings.{is_before, least, no_constant, out_of_range, wrong_kind}
use Rattle.inf_expressions.specs.Rooted.{Rooted, bracketed_latest, kind_of, nobody, seen, with_two}
use Rattle.inf_expressions.specs.Trees.{Leaf, One, Tree, Two}
use Rattle.inf_expressions.specs.Units.{Gathered, call_joined, listed, roots_finding, with_brackets, with_operand, with_two_of}
use Rattle.inf_expressions.specs.Units.{with_unary_of}
use Rattle.inf_expressions.specs.declared.{findings.Finding.Finding, operators.Binary.Binary}
use Rattle.inf_conditionals.specs.Values.{is_then}
use Rattle.inf_expressions.specs.declared.{operators.Function.Function, operators.Operand.Operand, operators.Operation.Operation}
use Rattle.inf_expressions.specs.declared.{operators.PropertyPart.PropertyPart, operators.Test.Test, operators.Unary.Unary}
use Rattle.inf_expressions.specs.declared.{units.Wanted.Wanted}

-- Findings stay

either_some : (b : Bool) (x y : Finding) → is_some (if b then Some x else Some y) ≡ true
either_some true x y = refl
either_some false x y = refl

pub least_some : (f : Option Finding) (x : Finding) → is_some (least f x) ≡ true
least_some None x = refl
least_some (Some y) x = either_some (is_before x y) x y

least_if : (b : Bool) (f : Option Finding) (x : Finding) → is_some f ≡ true → is_some (if b then least f x else f) ≡ true
least_if true f x is = least_some f x
least_if false f x is = is

value_stays : (t : Tree) (token : ℕ) (f : Option Finding) → is_some f ≡ true → is_some (value_finding_of (kind_of t) token f) ≡ true
value_stays (Leaf (Operand.Function g)) token f is = least_some f (wrong_kind token)
value_stays (Leaf o) token f is = is
value_stays (One op a) token f is = is
value_stays (Two (Binary.Operation Operation.Byte) a b) token f is = is
value_stays (Two (Binary.Operation Operation.Word) a b) token f is = is
value_stays (Two (Binary.Operation o) a b) token f is = is
value_stays (Two (Binary.Property PropertyPart.Value) a b) token f is = is
value_stays (Two (Binary.Property p) a b) token f is = is
value_stays (Two Binary.To a b) token f is = is
value_stays (Two op a b) token f is = is

target_stays : (t : Tree) (first : ℕ) (f : Option Finding) → is_some f ≡ true → is_some (target_finding_of (kind_of t) first f) ≡ true
target_stays (Leaf (Operand.Variable v)) first f is = is
target_stays (Leaf o) first f is = least_some f (wrong_kind first)
target_stays (One op a) first f is = least_some f (wrong_kind first)
target_stays (Two (Binary.Operation Operation.Byte) a b) first f is = is
target_stays (Two (Binary.Operation Operation.Word) a b) first f is = is
target_stays (Two (Binary.Operation o) a b) first f is = least_some f (wrong_kind first)
target_stays (Two (Binary.Property PropertyPart.Value) a b) first f is = is
target_stays (Two (Binary.Property p) a b) first f is = least_some f (wrong_kind first)
target_stays (Two Binary.To a b) first f is = least_some f (wrong_kind first)
target_stays (Two op a b) first f is = least_some f (wrong_kind first)

constant_stays : (unit : ℕ) (t : Tree) (f : Option Finding) → is_some f ≡ true → is_some (constant_finding unit (kind_of t) f) ≡ true
constant_stays unit (Leaf (Operand.Variable v)) f is = least_some f (no_constant unit)
constant_stays unit (Leaf o) f is = is
constant_stays unit (One op a) f is = least_some f (no_constant unit)
constant_stays unit (Two (Binary.Operation Operation.Byte) a b) f is = least_some f (no_constant unit)
constant_stays unit (Two (Binary.Operation Operation.Word) a b) f is = least_some f (no_constant unit)
constant_stays unit (Two (Binary.Operation o) a b) f is = least_some f (no_constant unit)
constant_stays unit (Two (Binary.Property PropertyPart.Value) a b) f is = least_some f (no_constant unit)
constant_stays unit (Two (Binary.Property p) a b) f is = least_some f (no_constant unit)
constant_stays unit (Two Binary.To a b) f is = least_some f (no_constant unit)
constant_stays unit (Two op a b) f is = least_some f (no_constant unit)

values_stay : (a b : Rooted) (f : Option Finding) → is_some f ≡ true → is_some (values_finding (seen a) (seen b) f) ≡ true
values_stay a b f is = value_stays b.tree b.origin.token (value_finding (seen a) f) (value_stays a.tree a.origin.token f is)

leaf_stays : (o : Operand) (token : ℕ) (f : Option Finding) → is_some f ≡ true → is_some (leaf_finding o token f) ≡ true
leaf_stays Operand.Unknown token f is = least_some f (wrong_kind token)
leaf_stays (Operand.Known n) token f is = is
leaf_stays (Operand.Variable v) token f is = is
leaf_stays (Operand.Later t) token f is = is
leaf_stays (Operand.Function g) token f is = is

-- the errors of an operator, where a function of the system is wrong or something was

unary_nobody : (op : Unary) (f : Option Finding) → is_some f ≡ true → is_some (unary_finding op nobody f) ≡ true
unary_nobody (Unary.Before step) f is = least_some f (wrong_kind 0)
unary_nobody (Unary.Behind step) f is = least_some f (wrong_kind 0)
unary_nobody op f is = is

unary_from : (op : Unary) (a : Rooted) (f : Option Finding) → is_some (value_finding (seen a) f) ≡ true →
    is_some (unary_finding op (seen a) f) ≡ true
unary_from (Unary.Before step) a f is = target_stays a.tree a.origin.first (value_finding (seen a) f) is
unary_from (Unary.Behind step) a f is = target_stays a.tree a.origin.first (value_finding (seen a) f) is
unary_from op a f is = is

two_from : (op : Binary) (unit : ℕ) (a b : Rooted) (f : Option Finding) → is_some (values_finding (seen a) (seen b) f) ≡ true →
    is_some (two_finding op unit (seen a) (seen b) f) ≡ true
two_from Binary.Assign unit a b f is = target_stays a.tree a.origin.first (values_finding (seen a) (seen b) f) is
two_from (Binary.Operation Operation.Divide) unit a b f is =
    least_if (is_known (kind_of a.tree) && is_zero (kind_of b.tree)) (values_finding (seen a) (seen b) f) (out_of_range unit) is
two_from (Binary.Operation Operation.Remainder) unit a b f is =
    least_if (is_known (kind_of a.tree) && is_zero (kind_of b.tree)) (values_finding (seen a) (seen b) f) (out_of_range unit) is
two_from (Binary.Operation o) unit a b f is = is
two_from Binary.To unit a b f is = constant_stays unit b.tree (constant_finding unit (kind_of a.tree) (values_finding (seen a) (seen b) f))
    (constant_stays unit a.tree (values_finding (seen a) (seen b) f) is)
two_from op unit a b f is = is

root_from : (r : Rooted) (f : Option Finding) → is_some (value_finding (seen r) f) ≡ true →
    is_some (root_finding Wanted.Constant 0 (seen r) f) ≡ true
root_from r f is = constant_stays 0 r.tree (value_finding (seen r) f) is

root_stays : (r : Rooted) (f : Option Finding) → is_some f ≡ true → is_some (root_finding Wanted.Constant 0 (seen r) f) ≡ true
root_stays r f is = root_from r f (value_stays r.tree r.origin.token f is)

roots_stay : (trees : List Rooted) (f : Option Finding) → is_some f ≡ true → is_some (roots_finding Wanted.Constant 0 trees f) ≡ true
roots_stay [] f is = is
roots_stay (r ∷ trees) f is = roots_stay trees (root_finding Wanted.Constant 0 (seen r) f) (root_stays r f is)

-- Trees that are no constants

-- Tells whether a tree is a function of the system by itself.
abbrev pub is_function : Tree → Bool
is_function (Leaf (Operand.Function f)) = true
is_function t = false

-- Tells whether a tree has no known number, whatever is declared, and is no function of the system.
abbrev pub is_stuck : Tree → Bool
is_stuck (Leaf (Operand.Variable v)) = true
is_stuck (Leaf o) = false
is_stuck (One op a) = true
is_stuck (Two Binary.Then a b) = is_stuck a || is_stuck b
is_stuck (Two op a b) = true

abbrev pub is_doomed : Tree → Bool
is_doomed t = is_function t || is_stuck t

pub or_left : (a b : Bool) → a ≡ true → (a || b) ≡ true
or_left true b is = refl
or_left false b is = absurd (cc is)

pub or_right : (a b : Bool) → b ≡ true → (a || b) ≡ true
or_right true b is = refl
or_right false b is = is

or_parts : (a b : Bool) → (a || b) ≡ true → (a ≡ true) ⊎ (b ≡ true)
or_parts true b is = inl refl
or_parts false b is = inr is

-- a tree that is stuck has no number
pub stuck_unknown : (t : Tree) → is_stuck t ≡ true → known t ≡ None
stuck_unknown (Leaf (Operand.Known n)) is = absurd (cc is)
stuck_unknown (Leaf (Operand.Variable v)) is = refl
stuck_unknown (Leaf (Operand.Later target)) is = absurd (cc is)
stuck_unknown (Leaf (Operand.Function f)) is = absurd (cc is)
stuck_unknown (Leaf Operand.Unknown) is = absurd (cc is)
stuck_unknown (One op a) is = refl
stuck_unknown (Two op a b) is = refl

or_none : (found : Option Bool) → or_known found None ≡ None
or_none None = refl
or_none (Some a) = refl

-- behind a value that is not known nothing is known
none_holds : (t : Test) (n : ℕ) (list : Tree) → any_holds None t n list ≡ None
none_holds t n (Leaf o) = refl
none_holds t n (One op a) = refl
none_holds t n (Two Binary.Then a b) = none_holds t n b
none_holds t n (Two op a b) = refl

stuck_holds : (found : Option Bool) (t : Test) (n : ℕ) (list : Tree) → is_stuck list ≡ true → any_holds found t n list ≡ None
stuck_holds found t n (Leaf o) is = ap (λ k. or_known found (holds_known t n k)) (stuck_unknown (Leaf o) is) ∙ or_none found
stuck_holds found t n (One op a) is = or_none found
stuck_holds found t n (Two Binary.Then a b) is = elim (or_parts (is_stuck a) (is_stuck b) is) [
  | inl one ↦
      ap (λ k. any_holds (or_known found (holds_known t n k)) t n b) (stuck_unknown a one)
      ∙ ap (λ f. any_holds f t n b) (or_none found) ∙ none_holds t n b
  | inr other ↦ stuck_holds (or_known found (holds_known t n (known a))) t n b other
]
stuck_holds found t n (Two op a b) is = or_none found

any_none : (t : Test) (n : Option ℕ) (list : Tree) → is_stuck list ≡ true → any_known t n list ≡ None
any_none t None list is = refl
any_none t (Some n) list is = stuck_holds (Some false) t n list is

-- an operator of two numbers of which one is not known
two_none_left : (op : Binary) (b : Option ℕ) → folded_two op None b ≡ None
two_none_left (Binary.Operation o) b = refl
two_none_left Binary.And b = refl
two_none_left Binary.Or b = refl
two_none_left op b = refl

pub two_none_right : (op : Binary) (a : Option ℕ) → folded_two op a None ≡ None
two_none_right (Binary.Operation o) None = refl
two_none_right (Binary.Operation o) (Some a) = refl
two_none_right Binary.And None = refl
two_none_right Binary.And (Some a) = refl
two_none_right Binary.Or None = refl
two_none_right Binary.Or (Some a) = refl
two_none_right op a = refl

pub unknown_left : (op : Binary) (a b : Tree) → known a ≡ None → folded op a b ≡ None
unknown_left (Binary.Test t) a b is = ap (λ k. sensed true (any_known t k b)) is
unknown_left (Binary.Fails t) a b is = ap (λ k. sensed false (any_known t k b)) is
unknown_left op a b is = ap (λ k. folded_two op k (known b)) is ∙ two_none_left op (known b)

stuck_right : (op : Binary) (a b : Tree) → is_stuck b ≡ true → folded op a b ≡ None
stuck_right (Binary.Test t) a b is = ap (λ k. sensed true k) (any_none t (known a) b is)
stuck_right (Binary.Fails t) a b is = ap (λ k. sensed false k) (any_none t (known a) b is)
stuck_right op a b is = ap (λ k. folded_two op (known a) k) (stuck_unknown b is) ∙ two_none_right op (known a)

-- what is built where nothing is computed is stuck, but for a list
built_stuck : (op : Binary) (f : Option Function) (a b : Tree) → is_then op ≡ false → is_stuck (built op f a b) ≡ true
built_stuck Binary.Then f a b single = absurd (cc single)
built_stuck Binary.Call (Some f) a b single = refl
built_stuck Binary.Call None a b single = refl
built_stuck op f a b single = refl

pub unfolded_stuck : (op : Binary) (a b : Tree) → is_then op ≡ false → folded op a b ≡ None → is_stuck (joined op a b) ≡ true
unfolded_stuck op a b single none =
    ap (λ n. is_stuck (number_or n (built op (function_of a) a b))) none ∙ built_stuck op (function_of a) a b single

-- a tree of which one part is stuck
list_stuck : (op : Binary) (a b : Tree) → is_then op ≡ true → (is_stuck a || is_stuck b) ≡ true → is_stuck (joined op a b) ≡ true
list_stuck Binary.Then a b lists is = is
list_stuck op a b lists is = absurd (cc lists)

bool_cases : (b : Bool) → (b ≡ true) ⊎ (b ≡ false)
bool_cases true = inl refl
bool_cases false = inr refl

joined_stuck : (op : Binary) (a b : Tree) → (is_stuck a || is_stuck b) ≡ true → is_stuck (joined op a b) ≡ true
joined_stuck op a b is = elim (bool_cases (is_then op)) [
  | inl lists ↦ list_stuck op a b lists is
  | inr single ↦ elim (or_parts (is_stuck a) (is_stuck b) is) [
    | inl one ↦ unfolded_stuck op a b single (unknown_left op a b (stuck_unknown a one))
    | inr other ↦ unfolded_stuck op a b single (stuck_right op a b other)
  ]
]

-- A gathering that cannot come to a constant: something was found to be wrong, or one of its trees is doomed.

abbrev pub AnyDoomed : List Rooted → Type 0
AnyDoomed [] = ⊥
AnyDoomed (r ∷ trees) = (is_doomed r.tree ≡ true) ⊎ AnyDoomed trees

abbrev pub Wrong : Gathered → Type 0
Wrong g = (is_some g.finding ≡ true) ⊎ AnyDoomed g.trees

function_found : (t : Tree) (token : ℕ) (f : Option Finding) → is_function t ≡ true → is_some (value_finding_of (kind_of t) token f) ≡ true
function_found (Leaf (Operand.Function g)) token f is = least_some f (wrong_kind token)
function_found (Leaf (Operand.Known n)) token f is = absurd (cc is)
function_found (Leaf (Operand.Variable v)) token f is = absurd (cc is)
function_found (Leaf (Operand.Later target)) token f is = absurd (cc is)
function_found (Leaf Operand.Unknown) token f is = absurd (cc is)
function_found (One op a) token f is = absurd (cc is)
function_found (Two op a b) token f is = absurd (cc is)

function_wrong : (r : Rooted) (f : Option Finding) → is_function r.tree ≡ true → is_some (value_finding (seen r) f) ≡ true
function_wrong r f is = function_found r.tree r.origin.token f is

-- One more leaf

pub wrong_leaf : (first token : ℕ) (o : Operand) (g : Gathered) → Wrong g → Wrong (with_operand first token o g)
wrong_leaf first token o g wrong = elim wrong [
  | inl is ↦ inl (leaf_stays o token g.finding is)
  | inr any ↦ inr (inr any)
]

-- Brackets

doomed_brackets : (order : ℕ) (trees : List Rooted) → AnyDoomed trees → AnyDoomed (bracketed_latest order trees)
doomed_brackets order [] any = any
doomed_brackets order (r ∷ trees) any = any

pub wrong_brackets : (order : ℕ) (g : Gathered) → Wrong g → Wrong (with_brackets order g)
wrong_brackets order g wrong = elim wrong [
  | inl is ↦ inl is
  | inr any ↦ inr (doomed_brackets order g.trees any)
]

-- An operator of one value

single_stuck : (op : Unary) (t : Tree) → known t ≡ None → is_stuck (joined_single op t) ≡ true
single_stuck op t none = ap (λ n. is_stuck (number_or (folded_single op n) (One op t))) none

wrong_unary_of : (op : Unary) (front : Option ℕ) (trees : List Rooted) (f : Option Finding) →
    (is_some f ≡ true) ⊎ AnyDoomed trees → Wrong (with_unary_of op front (record { trees = trees; finding = f }))
wrong_unary_of op front [] f wrong = elim wrong [
  | inl is ↦ inl (unary_nobody op f is)
  | inr any ↦ absurd any
]
wrong_unary_of op front (r ∷ trees) f wrong = elim wrong [
  | inl is ↦ inl (unary_from op r f (value_stays r.tree r.origin.token f is))
  | inr any ↦ elim any [
    | inl doomed ↦ elim (or_parts (is_function r.tree) (is_stuck r.tree) doomed) [
      | inl is ↦ inl (unary_from op r f (function_wrong r f is))
      | inr stuck ↦ inr (inl (or_right (is_function (joined_single op r.tree)) (is_stuck (joined_single op r.tree))
          (single_stuck op r.tree (stuck_unknown r.tree stuck))))
    ]
    | inr others ↦ inr (inr others)
  ]
]

pub wrong_unary : (op : Unary) (front : Option ℕ) (g : Gathered) → Wrong g → Wrong (with_unary_of op front g)
wrong_unary op front g wrong = wrong_unary_of op front g.trees g.finding wrong

-- An operator of two values

two_wrong : (op : Binary) (unit : ℕ) (a b : Rooted) (f : Option Finding) → (is_doomed a.tree || is_doomed b.tree) ≡ true →
    (is_some (two_finding op unit (seen a) (seen b) f) ≡ true) ⊎ (is_doomed (joined op a.tree b.tree) ≡ true)
two_wrong op unit a b f doomed = elim (or_parts (is_doomed a.tree) (is_doomed b.tree) doomed) [
  | inl one ↦ elim (or_parts (is_function a.tree) (is_stuck a.tree) one) [
    | inl is ↦ inl (two_from op unit a b f (value_stays b.tree b.origin.token (value_finding (seen a) f) (function_wrong a f is)))
    | inr stuck ↦ inr (or_right (is_function (joined op a.tree b.tree)) (is_stuck (joined op a.tree b.tree))
        (joined_stuck op a.tree b.tree (or_left (is_stuck a.tree) (is_stuck b.tree) stuck)))
  ]
  | inr other ↦ elim (or_parts (is_function b.tree) (is_stuck b.tree) other) [
    | inl is ↦ inl (two_from op unit a b f (function_wrong b (value_finding (seen a) f) is))
    | inr stuck ↦ inr (or_right (is_function (joined op a.tree b.tree)) (is_stuck (joined op a.tree b.tree))
        (joined_stuck op a.tree b.tree (or_right (is_stuck a.tree) (is_stuck b.tree) stuck)))
  ]
]

wrong_two_of : (unit : ℕ) (op : Binary) (trees : List Rooted) (f : Option Finding) → 2 ≤ length trees →
    (is_some f ≡ true) ⊎ AnyDoomed trees → Wrong (with_two_of unit op (record { trees = trees; finding = f }))
wrong_two_of unit op [] f two wrong = absurd (omega (arith, two))
wrong_two_of unit op (b ∷ []) f two wrong = absurd (omega (arith, two))
wrong_two_of unit op (b ∷ a ∷ trees) f two wrong = elim wrong [
  | inl is ↦ inl (two_from op unit a b f (values_stay a b f is))
  | inr any ↦ elim any [
    | inl other ↦ elim (two_wrong op unit a b f (or_right (is_doomed a.tree) (is_doomed b.tree) other)) [
      | inl is ↦ inl is
      | inr doomed ↦ inr (inl doomed)
    ]
    | inr more ↦ elim more [
      | inl one ↦ elim (two_wrong op unit a b f (or_left (is_doomed a.tree) (is_doomed b.tree) one)) [
        | inl is ↦ inl is
        | inr doomed ↦ inr (inl doomed)
      ]
      | inr others ↦ inr (inr others)
    ]
  ]
]

pub wrong_two : (unit : ℕ) (op : Binary) (g : Gathered) → 2 ≤ length g.trees → Wrong g → Wrong (with_two_of unit op g)
wrong_two unit op g two wrong = wrong_two_of unit op g.trees g.finding two wrong

-- Lists

pub fewer : (op : Binary) (trees : List Rooted) → 2 ≤ length trees → length (with_two op trees) ≡ length trees - 1
fewer op [] two = absurd (omega (arith, two))
fewer op (b ∷ []) two = absurd (omega (arith, two))
fewer op (b ∷ a ∷ trees) two = omega arith

pub listed_length : (unit n : ℕ) (g : Gathered) → n < length g.trees → length (listed unit n g).trees ≡ length g.trees - n
listed_length unit zero g more = omega arith
listed_length unit (suc n) g more =
    let before = listed_length unit n g (omega (arith, more)) in
    omega (arith, before, fewer Binary.Then (listed unit n g).trees (omega (arith, before, more)))

pub wrong_listed : (unit n : ℕ) (g : Gathered) → n < length g.trees → Wrong g → Wrong (listed unit n g)
wrong_listed unit zero g more wrong = wrong
wrong_listed unit (suc n) g more wrong =
    let before = listed_length unit n g (omega (arith, more)) in
    wrong_two unit Binary.Then (listed unit n g) (omega (arith, before, more)) (wrong_listed unit n g (omega (arith, more)) wrong)

-- Calls: whatever is called, the result is no constant.

call_stuck : (a b : Tree) → is_stuck (joined Binary.Call a b) ≡ true
call_stuck a b = built_stuck Binary.Call (function_of a) a b refl

pub joined_call : (unit given : ℕ) (trees : List Rooted) (f : Option Finding) → 2 ≤ length trees →
    Wrong (call_joined unit given (record { trees = trees; finding = f }))
joined_call unit given [] f two = absurd (omega (arith, two))
joined_call unit given (b ∷ []) f two = absurd (omega (arith, two))
joined_call unit given (b ∷ a ∷ trees) f two =
    inr (inl (or_right (is_function (joined Binary.Call a.tree b.tree)) (is_stuck (joined Binary.Call a.tree b.tree))
    (call_stuck a.tree b.tree)))

call_known : (n : Option ℕ) (t : Tree) → is_stuck (number_or (folded_single Unary.Call n) (One Unary.Call t)) ≡ true
call_known None t = refl
call_known (Some n) t = refl

single_call : (t : Tree) → is_stuck (joined_single Unary.Call t) ≡ true
single_call t = call_known (known t) t

pub called_alone : (trees : List Rooted) (f : Option Finding) → 1 ≤ length trees →
    Wrong (with_unary_of Unary.Call None (record { trees = trees; finding = f }))
called_alone [] f one = absurd (omega (arith, one))
called_alone (r ∷ trees) f one =
    inr (inl (or_right (is_function (joined_single Unary.Call r.tree)) (is_stuck (joined_single Unary.Call r.tree)) (single_call r.tree)))

-- The end

stuck_found : (t : Tree) (f : Option Finding) → is_stuck t ≡ true → is_some (constant_finding 0 (kind_of t) f) ≡ true
stuck_found (Leaf (Operand.Variable v)) f stuck = least_some f (no_constant 0)
stuck_found (Leaf (Operand.Known n)) f stuck = absurd (cc stuck)
stuck_found (Leaf (Operand.Later target)) f stuck = absurd (cc stuck)
stuck_found (Leaf (Operand.Function g)) f stuck = absurd (cc stuck)
stuck_found (Leaf Operand.Unknown) f stuck = absurd (cc stuck)
stuck_found (One op a) f stuck = least_some f (no_constant 0)
stuck_found (Two (Binary.Operation Operation.Byte) a b) f stuck = least_some f (no_constant 0)
stuck_found (Two (Binary.Operation Operation.Word) a b) f stuck = least_some f (no_constant 0)
stuck_found (Two (Binary.Operation o) a b) f stuck = least_some f (no_constant 0)
stuck_found (Two (Binary.Property PropertyPart.Value) a b) f stuck = least_some f (no_constant 0)
stuck_found (Two (Binary.Property p) a b) f stuck = least_some f (no_constant 0)
stuck_found (Two Binary.To a b) f stuck = least_some f (no_constant 0)
stuck_found (Two op a b) f stuck = least_some f (no_constant 0)

root_doomed : (r : Rooted) (f : Option Finding) → is_doomed r.tree ≡ true → is_some (root_finding Wanted.Constant 0 (seen r) f) ≡ true
root_doomed r f doomed = elim (or_parts (is_function r.tree) (is_stuck r.tree) doomed) [
  | inl is ↦ root_from r f (function_wrong r f is)
  | inr stuck ↦ stuck_found r.tree (value_finding (seen r) f) stuck
]

roots_doomed : (trees : List Rooted) (f : Option Finding) → (is_some f ≡ true) ⊎ AnyDoomed trees →
    is_some (roots_finding Wanted.Constant 0 trees f) ≡ true
roots_doomed [] f wrong = elim wrong [ inl is ↦ is | inr any ↦ absurd any ]
roots_doomed (r ∷ trees) f wrong = elim wrong [
  | inl is ↦ roots_stay (r ∷ trees) f is
  | inr any ↦ elim any [
    | inl doomed ↦ roots_stay trees (root_finding Wanted.Constant 0 (seen r) f) (root_doomed r f doomed)
    | inr others ↦ roots_doomed trees (root_finding Wanted.Constant 0 (seen r) f) (inr others)
  ]
]

doomed_append : (xs ys : List Rooted) → AnyDoomed xs ⊎ AnyDoomed ys → AnyDoomed (xs ++ ys)
doomed_append [] ys any = elim any [ inl none ↦ absurd none | inr some ↦ some ]
doomed_append (x ∷ xs) ys any = elim any [
  | inl some ↦ elim some [ inl doomed ↦ inl doomed | inr others ↦ inr (doomed_append xs ys (inl others)) ]
  | inr some ↦ inr (doomed_append xs ys (inr some))
]

doomed_reverse : (trees : List Rooted) → AnyDoomed trees → AnyDoomed (reverse trees)
doomed_reverse [] any = any
doomed_reverse (r ∷ trees) any = elim any [
  | inl doomed ↦ subst AnyDoomed (sym (reverse-append (r ∷ []) trees)) (doomed_append (reverse trees) (r ∷ []) (inr (inl doomed)))
  | inr others ↦ subst AnyDoomed (sym (reverse-append (r ∷ []) trees))
      (doomed_append (reverse trees) (r ∷ []) (inl (doomed_reverse trees others)))
]

pub wrong_found : (g : Gathered) → Wrong g → is_some (roots_finding Wanted.Constant 0 (reverse g.trees) g.finding) ≡ true
wrong_found g wrong = elim wrong [
  | inl is ↦ roots_stay (reverse g.trees) g.finding is
  | inr any ↦ roots_doomed (reverse g.trees) g.finding (inr (doomed_reverse g.trees any))
]

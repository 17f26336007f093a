-- A tree with numbers in the place of operators of known numbers means what the tree of all operators means.
use Rattle.std.proofs.Common.{◌≡◌, ℕ, List, [], Option, Some, None, refl, ◌∙◌, ap, sym, subst}
use Rattle.inf_expressions.specs.{Numbers.computed, Numbers.computed_single, Sources.meant, Trees.Leaf, Trees.One, Trees.Tree, Trees.Two}
use Rattle.inf_expressions.specs.declared.{operators.Binary.Binary, operators.Function.Function, operators.Operand.Operand}
use Rattle.inf_expressions.specs.declared.{operators.Operation.Operation, operators.Single.Single, operators.Unary.Unary}
use Rattle.inf_expressions.specs.Folding.{built, folded, folded_single, folded_two, function_of, joined, joined_single, known, number_or}
use Rattle.inf_expressions.specs.Folding.{operator_of}
use Rattle.inf_expressions.specs.Sources as source
use Rattle.inf_interpreter.specs.Machine.{World, Store}
use Rattle.inf_meaning_laws.specs.Values.{Nowhere, Sense, leaf, nobody, sense}
use Rattle.inf_number_laws.specs.{Known.IsNumber, Whole.IsSound, Whole.TreesKeep, Whole.plain, Whole.with_numbers, Written.written}
use Rattle.inf_number_laws.proofs.{Known.known_is, Known.known_one, Parts.ArgsLike, Parts.LeavesLike}
use Rattle.inf_number_laws.proofs.Senses.{AimsLike, Like, like_same, one_like, two_like}

-- Lemmas about a meaning that is worked out, and is no list

record IsMade (a : Sense) : Type 0 where
  no_leaf : a.leaf ≡ None
  no_aim : a.aim ≡ Nowhere
  alone_first : a.first.leaf ≡ None
  value : (s : Store) → a.first.value s ≡ a.value nobody s
  no_others : a.others ≡ []

made_by : (a : Sense) → a.leaf ≡ None → a.aim ≡ Nowhere → a.first.leaf ≡ None → ((s : Store) → a.first.value s ≡ a.value nobody s)
    → a.others ≡ [] → IsMade a
made_by a l m f v o = record { no_leaf = l; no_aim = m; alone_first = f; value = v; no_others = o }

-- Where a number takes the place of an operator, its meaning is such a one.

no_number : (o : Operation) (n : ℕ) → ((x y : ℕ) → computed o x y ≡ None) → (j k : Option ℕ)
    → folded_two (Binary.Operation o) j k ≡ Some n → ⊥
no_number o n h None k e = cc
no_number o n h (Some x) None e = cc
no_number o n h (Some x) (Some y) e = let g : computed o x y ≡ None = h x y in cc

two_made : (w : World) (op : Binary) (f : Option Function) (a b : Tree) (n : ℕ) → folded op a b ≡ Some n → IsMade (sense w (built op f a b))
two_made w (Binary.Operation Operation.Byte) f a b n e = elim (no_number Operation.Byte n (λ x y. refl) (known a) (known b) e) [ ]
two_made w (Binary.Operation Operation.Word) f a b n e = elim (no_number Operation.Word n (λ x y. refl) (known a) (known b) e) [ ]
two_made w (Binary.Property p) f a b n e = cc
two_made w Binary.Assign f a b n e = cc
two_made w Binary.Comma f a b n e = cc
two_made w Binary.Call f a b n e = cc
two_made w Binary.Then f a b n e = cc
two_made w Binary.To f a b n e = cc
two_made w other f a b n e = made_by _ refl refl refl (λ s. refl) refl

no_single : (op : Unary) (n : ℕ) → ((x : ℕ) → computed_single op x ≡ None) → (k : Option ℕ) → folded_single op k ≡ Some n → ⊥
no_single op n h None e = cc
no_single op n h (Some x) e = let g : computed_single op x ≡ None = h x in cc

one_made : (w : World) (op : Unary) (a : Tree) (n : ℕ) → folded_single op (known a) ≡ Some n → IsMade (sense w (One op a))
one_made w (Unary.Single Single.Parent) a n e = elim (no_single (Unary.Single Single.Parent) n (λ x. refl) (known a) e) [ ]
one_made w (Unary.Single Single.Random) a n e = elim (no_single (Unary.Single Single.Random) n (λ x. refl) (known a) e) [ ]
one_made w (Unary.Before how) a n e = elim (no_single (Unary.Before how) n (λ x. refl) (known a) e) [ ]
one_made w (Unary.Behind how) a n e = elim (no_single (Unary.Behind how) n (λ x. refl) (known a) e) [ ]
one_made w (Unary.Relative how) a n e = elim (no_single (Unary.Relative how) n (λ x. refl) (known a) e) [ ]
one_made w Unary.Children a n e = elim (no_single Unary.Children n (λ x. refl) (known a) e) [ ]
one_made w Unary.Call a n e = elim (no_single Unary.Call n (λ x. refl) (known a) e) [ ]
one_made w Unary.Indirect a n e = elim (no_single Unary.Indirect n (λ x. refl) (known a) e) [ ]
one_made w other a n e = made_by _ refl refl refl (λ s. refl) refl

-- A number stands for a meaning that it is.

number_leaf : (n : ℕ) (j k : Option Operand) (f : Store → Option (ℕ × Store)) → LeavesLike j f k → k ≡ None
    → ((s : Store) → f s ≡ Some (n, s)) → LeavesLike j f (Some (Operand.Known n))
number_leaf n (Some x) k f l e h = let g : Some x ≡ None = l ∙ e in cc
number_leaf n None k f l e h = (n, refl, h)

number_like : (w : World) (n : ℕ) (a b : Sense) → Like a b → IsMade b → IsNumber n b → Like a (leaf w (Operand.Known n))
number_like w n a b l m i = record {
  leaves = number_leaf n a.leaf b.leaf (a.value nobody) l.leaves m.no_leaf (λ s. l.value nobody s ∙ i.value nobody s);
  aims = subst (λ x. AimsLike a.aim x) m.no_aim l.aims;
  first = record {
    leaves = number_leaf n a.first.leaf b.first.leaf a.first.value l.first.leaves m.alone_first
        (λ s. l.first.values s ∙ m.value s ∙ i.value nobody s);
    values = λ s. l.first.values s ∙ m.value s ∙ i.value nobody s;
  };
  others = subst (λ x. ArgsLike a.others x) m.no_others l.others;
  value = λ take s. l.value take s ∙ i.value take s;
  alone = λ s. l.alone s ∙ i.alone s;
  truth = λ s. l.truth s ∙ i.truth s;
}

-- Functions of the system are called in both trees.

no_function_built : (op : Binary) (f : Option Function) (a b : Tree) → function_of (built op f a b) ≡ None
no_function_built (Binary.Operation o) f a b = refl
no_function_built (Binary.Property p) f a b = refl
no_function_built (Binary.Test t) f a b = refl
no_function_built (Binary.Fails t) f a b = refl
no_function_built Binary.Assign f a b = refl
no_function_built Binary.Comma f a b = refl
no_function_built Binary.And f a b = refl
no_function_built Binary.Or f a b = refl
no_function_built Binary.Call None a b = refl
no_function_built Binary.Call (Some f) a b = refl
no_function_built Binary.Then f a b = refl
no_function_built Binary.To f a b = refl

no_function : (k : Option ℕ) (t : Tree) → function_of t ≡ None → function_of (number_or k t) ≡ None
no_function None t e = e
no_function (Some n) t e = refl

same_function : (t : Tree) → function_of (plain t) ≡ function_of (with_numbers t)
same_function (Leaf x) = refl
same_function (One op a) = sym (no_function (folded_single op (known (with_numbers a))) (One op (with_numbers a)) refl)
same_function (Two op a b) =
    let c = with_numbers a in
    let d = with_numbers b in
    no_function_built op (function_of (plain a)) (plain a) (plain b)
    ∙ sym (no_function (folded op c d) (built op (function_of c) c d) (no_function_built op (function_of c) c d))

built_like : (w : World) (op : Binary) (f : Option Function) (a b c d : Tree) → Like (sense w a) (sense w b) → Like (sense w c) (sense w d)
    → Like (sense w (built op f a c)) (sense w (built op f b d))
built_like w (Binary.Operation o) f a b c d l m = two_like w (Binary.Operation o) (sense w a) (sense w b) (sense w c) (sense w d) l m
built_like w (Binary.Property p) f a b c d l m = two_like w (Binary.Property p) (sense w a) (sense w b) (sense w c) (sense w d) l m
built_like w (Binary.Test t) f a b c d l m = two_like w (Binary.Test t) (sense w a) (sense w b) (sense w c) (sense w d) l m
built_like w (Binary.Fails t) f a b c d l m = two_like w (Binary.Fails t) (sense w a) (sense w b) (sense w c) (sense w d) l m
built_like w Binary.Assign f a b c d l m = two_like w Binary.Assign (sense w a) (sense w b) (sense w c) (sense w d) l m
built_like w Binary.Comma f a b c d l m = two_like w Binary.Comma (sense w a) (sense w b) (sense w c) (sense w d) l m
built_like w Binary.And f a b c d l m = two_like w Binary.And (sense w a) (sense w b) (sense w c) (sense w d) l m
built_like w Binary.Or f a b c d l m = two_like w Binary.Or (sense w a) (sense w b) (sense w c) (sense w d) l m
built_like w Binary.Call None a b c d l m = two_like w Binary.Call (sense w a) (sense w b) (sense w c) (sense w d) l m
built_like w Binary.Call (Some f) a b c d l m = one_like w (operator_of f) (sense w c) (sense w d) m
built_like w Binary.Then f a b c d l m = two_like w Binary.Then (sense w a) (sense w b) (sense w c) (sense w d) l m
built_like w Binary.To f a b c d l m = two_like w Binary.To (sense w a) (sense w b) (sense w c) (sense w d) l m

-- Lemmas about trees

numbered : (w : World) (k : Option ℕ) (a : Sense) (t : Tree) → Like a (sense w t)
    → ((n : ℕ) → k ≡ Some n → IsMade (sense w t) × IsNumber n (sense w t)) → Like a (sense w (number_or k t))
numbered w None a t l h = l
numbered w (Some n) a t l h = let m = h n refl in number_like w n a (sense w t) l m.0 m.1

trees_like : (w : World) (t : Tree) → IsSound t → Like (sense w (plain t)) (sense w (with_numbers t))
trees_like w (Leaf x) h = like_same (sense w (Leaf x))
trees_like w (One op a) h =
    let c = with_numbers a in
    numbered w (folded_single op (known c)) (sense w (One op (plain a))) (One op c)
    (one_like w op (sense w (plain a)) (sense w c) (trees_like w a h.0))
    (λ n e. (one_made w op c n e, known_one w op c n (h.1 n e) e))
trees_like w (Two op a b) h =
    let c = with_numbers a in
    let d = with_numbers b in
    numbered w (folded op c d) (sense w (plain (Two op a b))) (built op (function_of c) c d)
    (subst (λ f. Like (sense w (plain (Two op a b))) (sense w (built op f c d))) (same_function a)
    (built_like w op (function_of (plain a)) (plain a) c (plain b) d (trees_like w a h.0) (trees_like w b h.1)))
    (λ n e. let r = h.2 n e in (two_made w op (function_of c) c d n e, known_is w op c d n r.0 r.1 r.2 e))

pub trees_keep : TreesKeep
trees_keep w t h =
    let l = trees_like w t h in record { value = l.value; alone = l.alone; truth = l.truth }

-- The tree of a text has numbers in the place of its operators of known numbers.
pub numbers_written : (operands : List Operand) (a : source.Source) → with_numbers (written operands a) ≡ (meant operands a).tree
numbers_written operands (source.Leaf first token leaf) = refl
numbers_written operands (source.Brackets order a) = numbers_written operands a
numbers_written operands (source.Prefix order op a) = ap (joined_single op) (numbers_written operands a)
numbers_written operands (source.Suffix op a) = ap (joined_single op) (numbers_written operands a)
numbers_written operands (source.Two op a b) = ap (λ t. joined op t (with_numbers (written operands b))) (numbers_written operands a)
    ∙ ap (joined op (meant operands a).tree) (numbers_written operands b)
numbers_written operands (source.Then a b) = ap (λ t. joined Binary.Then t (with_numbers (written operands b))) (numbers_written operands a)
    ∙ ap (joined Binary.Then (meant operands a).tree) (numbers_written operands b)
numbers_written operands (source.Call f list) =
    ap (λ t. joined Binary.Call t (with_numbers (written operands list))) (numbers_written operands f)
    ∙ ap (joined Binary.Call (meant operands f).tree) (numbers_written operands list)
numbers_written operands (source.Alone f) = ap (joined_single Unary.Call) (numbers_written operands f)

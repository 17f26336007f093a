-- Parts of one tree stand for those of another: each is the same leaf, or is worked out alike, or is worked out to the number that the
-- other one is. Values of lists of such parts are the same.
use Rattle.std.proofs.Common.{◌≡◌, ℕ, List, [], ◌∷◌, ◌++◌, Option, Some, None, Bool, true, false, refl, ◌∙◌, ap, sym, subst}
use Rattle.std.specs.Prelude.{map, if◌then◌else◌}
use Rattle.inf_expressions.specs.{declared.operators.Operand.Operand, declared.operators.Test.Test}
use Rattle.inf_interpreter.specs.Machine.{World, Store, ◌then◌}
use Rattle.inf_meaning_laws.specs.Values.{Arg, Worked, Is, Reads, by_threes, either, in_groups, one_by_one, read, settled, settled_all}
use Rattle.inf_meaning_laws.specs.Values.{test_of, tested, values, worked_all, worked_by}

abbrev pub LeavesLike : Option Operand → (Store → Option (ℕ × Store)) → Option Operand → Type 0
LeavesLike (Some x) f k = Some x ≡ k
LeavesLike None f None = Unit {0}
LeavesLike None f (Some y) = (n : ℕ) × (y ≡ Operand.Known n) × ((s : Store) → f s ≡ Some (n, s))

pub record ArgLike (a b : Arg) : Type 0 where
  pub leaves : LeavesLike a.leaf a.value b.leaf
  pub values : (s : Store) → a.value s ≡ b.value s

-- a part of each tree
pub record Pair : Type 0 where
  pub left : Arg
  pub right : Arg
  pub like : ArgLike left right

abbrev pub lefts : List Pair → List Arg
lefts ps = map (λ p. p.left) ps

abbrev pub rights : List Pair → List Arg
rights ps = map (λ p. p.right) ps

abbrev pub ArgsLike : List Arg → List Arg → Type 0
ArgsLike xs ys = (ps : List Pair) × (xs ≡ lefts ps) × (ys ≡ rights ps)

abbrev pub pair : (a b : Arg) → ArgLike a b → Pair
pair a b l = record { left = a; right = b; like = l }

pub leaf_same : (k : Option Operand) (f : Store → Option (ℕ × Store)) → LeavesLike k f k
leaf_same None f = tt
leaf_same (Some x) f = refl

pub arg_same : (a : Arg) → ArgLike a a
arg_same a = record { leaves = leaf_same a.leaf a.value; values = λ s. refl }

pub args_same : (xs : List Arg) → ArgsLike xs xs
args_same [] = ([], refl, refl)
args_same (a ∷ xs) =
    let l = args_same xs in (pair a a (arg_same a) ∷ l.0, ap (λ l. a ∷ l) l.1, ap (λ l. a ∷ l) l.2)

pub args_with : (a b : Arg) (xs ys : List Arg) → ArgLike a b → ArgsLike xs ys → ArgsLike (a ∷ xs) (b ∷ ys)
args_with a b xs ys l m = (pair a b l ∷ m.0, ap (λ l. a ∷ l) m.1, ap (λ l. b ∷ l) m.2)

lefts_both : (ps qs : List Pair) → lefts (ps ++ qs) ≡ lefts ps ++ lefts qs
lefts_both [] qs = refl
lefts_both (p ∷ ps) qs = ap (λ l. p.left ∷ l) (lefts_both ps qs)

rights_both : (ps qs : List Pair) → rights (ps ++ qs) ≡ rights ps ++ rights qs
rights_both [] qs = refl
rights_both (p ∷ ps) qs = ap (λ l. p.right ∷ l) (rights_both ps qs)

pub args_both : (xs ys cs ds : List Arg) → ArgsLike xs ys → ArgsLike cs ds → ArgsLike (xs ++ cs) (ys ++ ds)
args_both xs ys cs ds l m = (
  l.0 ++ m.0,
  ap (λ x. x ++ cs) l.1 ∙ ap (λ x. lefts l.0 ++ x) m.1 ∙ sym (lefts_both l.0 m.0),
  ap (λ x. x ++ ds) l.2 ∙ ap (λ x. rights l.0 ++ x) m.2 ∙ sym (rights_both l.0 m.0),
)

-- Lemmas about one step behind another, where both have the same outcome

under : {A B : Type 0} (o : Option A) (f g : A → Option B) → ((x : A) → f x ≡ g x) → (o then f) ≡ (o then g)
under None f g h = refl
under (Some x) f g h = h x

pub steps : {A B : Type 0} (o r : Option A) (f g : A → Option B) → o ≡ r → ((x : A) → f x ≡ g x) → (o then f) ≡ (r then g)
steps o r f g e h = ap (λ o. o then f) e ∙ under r f g h

-- Lemmas about parts that are worked out, and settled behind that

module _ (w : World) where
  abbrev OneLike : Option (Worked × Store) → Option (Worked × Store) → Type 0
  OneLike None None = Unit {0}
  OneLike (Some p) (Some q) = ((s : Store) → settled w p.0 s ≡ settled w q.0 s) × (p.1 ≡ q.1)
  OneLike o r = ⊥

  abbrev AllLike : Option (List Worked × Store) → Option (List Worked × Store) → Type 0
  AllLike None None = Unit {0}
  AllLike (Some p) (Some q) = ((s : Store) → settled_all w p.0 s ≡ settled_all w q.0 s) × (p.1 ≡ q.1)
  AllLike o r = ⊥

  abbrev is_worked : Option (ℕ × Store) → Option (Worked × Store)
  is_worked o = o then λ p. Some (Is p.0, p.1)

  one_same : (o : Option (ℕ × Store)) → OneLike (is_worked o) (is_worked o)
  one_same None = tt
  one_same (Some p) = (λ s. refl, refl)

  one_worked : (j k : Option Operand) (f g : Store → Option (ℕ × Store)) → LeavesLike j f k → ((s : Store) → f s ≡ g s)
      → (s : Store) → OneLike (worked_by j f s) (worked_by k g s)
  one_worked (Some x) k f g l v s = subst (λ k. OneLike (Some (Reads x, s)) (worked_by k g s)) l (λ t. refl, refl)
  one_worked None None f g l v s = subst (λ o. OneLike (is_worked (f s)) (is_worked o)) (v s) (one_same (f s))
  one_worked None (Some y) f g l v s =
      subst (λ o. OneLike (is_worked o) (Some (Reads y, s))) (sym (l.2 s)) (λ t. ap (λ y. read w y t) (sym l.1), refl)

  abbrev put : List Worked → Option (Worked × Store) → Option (List Worked × Store)
  put ps o = o then λ q. Some (q.0 ∷ ps, q.1)

  put_like : (ps qs : List Worked) → ((s : Store) → settled_all w ps s ≡ settled_all w qs s)
      → (o r : Option (Worked × Store)) → OneLike o r → AllLike (put ps o) (put qs r)
  put_like ps qs e None None l = tt
  put_like ps qs e (Some p) (Some q) l = (
    λ s. ap (λ o. o then λ n. settled_all w ps s then λ ns. Some (n ∷ ns)) (l.0 s)
        ∙ ap (λ o. settled w q.0 s then λ n. o then λ ns. Some (n ∷ ns)) (e s),
    l.1,
  )
  put_like ps qs e None (Some q) l = elim l [ ]
  put_like ps qs e (Some p) None l = elim l [ ]

  abbrev next : Arg → Option (List Worked × Store) → Option (List Worked × Store)
  next a o = o then λ p. put p.0 (worked_by a.leaf a.value p.1)

  next_like : (a b : Arg) → ArgLike a b → (o r : Option (List Worked × Store)) → AllLike o r → AllLike (next a o) (next b r)
  next_like a b l None None m = tt
  next_like a b l (Some p) (Some q) m = put_like p.0 q.0 m.0 (worked_by a.leaf a.value p.1) (worked_by b.leaf b.value q.1)
      (subst (λ t. OneLike (worked_by a.leaf a.value p.1) (worked_by b.leaf b.value t)) m.1
      (one_worked a.leaf b.leaf a.value b.value l.leaves l.values p.1))
  next_like a b l None (Some q) m = elim m [ ]
  next_like a b l (Some p) None m = elim m [ ]

  all_worked : (ps : List Pair) (s : Store) → AllLike (worked_all (lefts ps) s) (worked_all (rights ps) s)
  all_worked [] s = (λ t. refl, refl)
  all_worked (p ∷ ps) s = next_like p.left p.right p.like (worked_all (lefts ps) s) (worked_all (rights ps) s) (all_worked ps s)

  abbrev at_last : Option (List Worked × Store) → Option (List ℕ × Store)
  at_last o = o then λ p. settled_all w p.0 p.1 then λ ns. Some (ns, p.1)

  last_like : (o r : Option (List Worked × Store)) → AllLike o r → at_last o ≡ at_last r
  last_like None None l = refl
  last_like (Some p) (Some q) l =
      ap (λ o. o then λ ns. Some (ns, p.1)) (l.0 p.1) ∙ ap (λ t. settled_all w q.0 t then λ ns. Some (ns, t)) l.1
  last_like None (Some q) l = elim l [ ]
  last_like (Some p) None l = elim l [ ]

  pairs_like : (ps : List Pair) (s : Store) → values w (lefts ps) s ≡ values w (rights ps) s
  pairs_like ps s = last_like (worked_all (lefts ps) s) (worked_all (rights ps) s) (all_worked ps s)

  pub values_like : (xs ys : List Arg) → ArgsLike xs ys → (s : Store) → values w xs s ≡ values w ys s
  values_like xs ys l s = ap (λ x. values w x s) l.1 ∙ pairs_like l.0 s ∙ ap (λ x. values w x s) (sym l.2)

  -- Lemmas about tests of one part against others

  pub tested_like : (t : Test) (ps : List Pair) (s : Store) → tested w t (lefts ps) s ≡ tested w t (rights ps) s
  tested_like t ps s = ap (λ o. o then λ p. test_of w t p.1 p.0 then λ b. Some (b, p.1)) (pairs_like ps s)

  either_like : (f g h k : Store → Option (Bool × Store)) → ((s : Store) → f s ≡ g s) → ((s : Store) → h s ≡ k s)
      → (s : Store) → either f h s ≡ either g k s
  either_like f g h k e d s =
      steps (f s) (g s) (λ p. if p.0 then Some (true, p.1) else h p.1) (λ p. if p.0 then Some (true, p.1) else k p.1) (e s)
      (λ p. ap (λ o. if p.0 then Some (true, p.1) else o) (d p.1))

  threes_like : (a : Pair) (ps : List Pair) (s : Store) → by_threes w a.left (lefts ps) s ≡ by_threes w a.right (rights ps) s
  threes_like a [] s = refl
  threes_like a (b ∷ []) s = tested_like Test.Equal (a ∷ b ∷ []) s
  threes_like a (b ∷ c ∷ []) s = tested_like Test.Equal (a ∷ b ∷ c ∷ []) s
  threes_like a (b ∷ c ∷ d ∷ []) s = tested_like Test.Equal (a ∷ b ∷ c ∷ d ∷ []) s
  threes_like a (b ∷ c ∷ d ∷ e ∷ ps) s = either_like _ _ (by_threes w a.left (lefts (e ∷ ps))) (by_threes w a.right (rights (e ∷ ps)))
      (tested_like Test.Equal (a ∷ b ∷ c ∷ d ∷ [])) (threes_like a (e ∷ ps)) s

  ones_like : (t : Test) (a : Pair) (ps : List Pair) (s : Store) → one_by_one w t a.left (lefts ps) s ≡ one_by_one w t a.right (rights ps) s
  ones_like t a [] s = refl
  ones_like t a (b ∷ []) s = tested_like t (a ∷ b ∷ []) s
  ones_like t a (b ∷ c ∷ ps) s = either_like _ _ (one_by_one w t a.left (lefts (c ∷ ps))) (one_by_one w t a.right (rights (c ∷ ps)))
      (tested_like t (a ∷ b ∷ [])) (ones_like t a (c ∷ ps)) s

  pub groups_like : (q : Bool) (t : Test) (a : Pair) (ps : List Pair) (s : Store)
      → in_groups q w t a.left (lefts ps) s ≡ in_groups q w t a.right (rights ps) s
  groups_like true t a ps s = threes_like a ps s
  groups_like false t a ps s = ones_like t a ps s

-- Meanings that stand for each other in every use: each operator keeps that.
use Rattle.std.proofs.Common.{◌≡◌, ℕ, List, [], ◌∷◌, ◌++◌, Option, Some, None, Bool, true, false, refl, ◌∙◌, ap, sym, subst, arith}
use Rattle.std.specs.Prelude.{if◌then◌else◌, length, nat_lt, not}
use Rattle.inf_expressions.specs.{Numbers.truth, declared.operators.Binary.Binary, declared.operators.Direction.Direction}
use Rattle.inf_expressions.specs.{declared.operators.Operand.Operand, declared.operators.Operation.Operation}
use Rattle.inf_expressions.specs.{declared.operators.PropertyPart.PropertyPart, declared.operators.Single.Single}
use Rattle.inf_expressions.specs.{declared.operators.Test.Test, declared.operators.Unary.Unary}
use Rattle.inf_interpreter.specs.Machine.{World, Store, ◌then◌, called, drawn, with_variable}
use Rattle.inf_interpreter.specs.Supplied.{supplied}
use Rattle.inf_output.specs.declared.veneer.Veneer.{Veneer}
use Rattle.inf_meaning_laws.specs.Values.{Aim, Arg, Bytes, Element, Named, Nowhere, Properties, Sense, Taker, Width, Words, answer, arg}
use Rattle.inf_meaning_laws.specs.Values.{args, asked, assigned, called_as, calls, compared, compares_three, computed, condition, drawn_of}
use Rattle.inf_meaning_laws.specs.Values.{both, either, element_assigned, element_of, in_groups, in_order, is_not_zero, made, no_value}
use Rattle.inf_meaning_laws.specs.Values.{nobody, number, one, operation_of, opposite, property_aim, relative_of, setter, single_of}
use Rattle.inf_meaning_laws.specs.Values.{step_by, stepped_before, stepped_behind, stepper, supplied_by, tested, together, two, valued}
use Rattle.inf_meaning_laws.specs.Values.{with_element, worked_first}
use Rattle.inf_number_laws.proofs.Parts.{ArgLike, ArgsLike, LeavesLike, Pair, arg_same, args_both, args_same, args_with, groups_like}
use Rattle.inf_number_laws.proofs.Parts.{leaf_same, lefts, pair, rights, steps, tested_like, values_like}

abbrev pub AimsLike : Aim → Aim → Type 0
AimsLike Nowhere Nowhere = Unit {0}
AimsLike (Named v) (Named u) = v ≡ u
AimsLike (Element x xs) (Element y ys) = (x ≡ y) × ArgsLike xs ys
AimsLike x y = ⊥

pub record Like (a b : Sense) : Type 0 where
  pub leaves : LeavesLike a.leaf (a.value nobody) b.leaf
  pub aims : AimsLike a.aim b.aim
  pub first : ArgLike a.first b.first
  pub others : ArgsLike a.others b.others
  pub value : (take : Taker) (s : Store) → a.value take s ≡ b.value take s
  pub alone : (s : Store) → a.alone s ≡ b.alone s
  pub truth : (s : Store) → a.truth s ≡ b.truth s

aim_same : (x : Aim) → AimsLike x x
aim_same Nowhere = tt
aim_same (Named v) = refl
aim_same (Element x xs) = (refl, args_same xs)

pub like_same : (a : Sense) → Like a a
like_same a = record {
  leaves = leaf_same a.leaf (a.value nobody);
  aims = aim_same a.aim;
  first = arg_same a.first;
  others = args_same a.others;
  value = λ take s. refl;
  alone = λ s. refl;
  truth = λ s. refl;
}

arg_like : (a b : Sense) → Like a b → ArgLike (arg a) (arg b)
arg_like a b l = record { leaves = l.leaves; values = l.value nobody }

args_like : (a b : Sense) → Like a b → ArgsLike (args a) (args b)
args_like a b l = args_with a.first b.first a.others b.others l.first l.others

one_part : (a b : Sense) → Like a b → ArgsLike (arg a ∷ []) (arg b ∷ [])
one_part a b l = args_with (arg a) (arg b) [] [] (arg_like a b l) (args_same [])

two_parts : (a b c d : Sense) → Like a b → Like c d → ArgsLike (arg a ∷ arg c ∷ []) (arg b ∷ arg d ∷ [])
two_parts a b c d l m = args_with (arg a) (arg b) (arg c ∷ []) (arg d ∷ []) (arg_like a b l) (one_part c d m)

-- Lemmas about meanings by a value, and by a truth

made_like : (f g : Taker → Store → Option (ℕ × Store)) (h k : Store → Option (Bool × Store))
    → ((take : Taker) (s : Store) → f take s ≡ g take s) → ((s : Store) → h s ≡ k s) → Like (made f h) (made g k)
made_like f g h k e t = record {
  leaves = tt;
  aims = tt;
  first = record { leaves = tt; values = e nobody };
  others = args_same [];
  value = e;
  alone = λ s. ap (λ o. o then λ p. Some p.1) (e nobody s);
  truth = t;
}

valued_like : (f g : Taker → Store → Option (ℕ × Store)) → ((take : Taker) (s : Store) → f take s ≡ g take s) → Like (valued f) (valued g)
valued_like f g e = made_like f g (λ s. is_not_zero (f nobody s)) (λ s. is_not_zero (g nobody s)) e (λ s. ap is_not_zero (e nobody s))

condition_like : (h k : Store → Option (Bool × Store)) → ((s : Store) → h s ≡ k s) → Like (condition h) (condition k)
condition_like h k e =
    made_like (λ take s. h s then λ p. answer take (truth p.0) p.1) (λ take s. k s then λ p. answer take (truth p.0) p.1) h k
    (λ take s. ap (λ o. o then λ p. answer take (truth p.0) p.1) (e s)) e

opposite_like : (h k : Store → Option (Bool × Store)) → ((s : Store) → h s ≡ k s) → (s : Store) → opposite h s ≡ opposite k s
opposite_like h k e s = ap (λ o. o then λ p. Some (not p.0, p.1)) (e s)

aimed : (a b : Sense) (x y : Aim) → Like a b → AimsLike x y → Like (record a { aim = x }) (record b { aim = y })
aimed a b x y l m = record {
  leaves = l.leaves;
  aims = m;
  first = l.first;
  others = l.others;
  value = l.value;
  alone = l.alone;
  truth = l.truth;
}

alone_as : (a b : Sense) (f g : Store → Option Store) → Like a b → ((s : Store) → f s ≡ g s)
    → Like (record a { alone = f }) (record b { alone = g })
alone_as a b f g l e = record {
  leaves = l.leaves;
  aims = l.aims;
  first = l.first;
  others = l.others;
  value = l.value;
  alone = e;
  truth = l.truth;
}

module _ (w : World) where
  computed_like : (f : Store → List ℕ → Option ℕ) (xs ys : List Arg) → ArgsLike xs ys → Like (computed w f xs) (computed w f ys)
  computed_like f xs ys l =
      valued_like _ _ (λ take s. ap (λ o. o then λ p. f p.1 p.0 then λ n. answer take n p.1) (values_like w xs ys l s))

  drawn_like : (xs ys : List Arg) → ArgsLike xs ys → Like (drawn_of w xs) (drawn_of w ys)
  drawn_like xs ys l =
      valued_like _ _ (λ take s. ap (λ o. o then λ p. drawn w p.0 p.1 then λ r. answer take r.0 r.1) (values_like w xs ys l s))

  supplied_like : (v : Veneer) (xs ys : List Arg) → ArgsLike xs ys → Like (supplied_by w v xs) (supplied_by w v ys)
  supplied_like v xs ys l =
      valued_like _ _ (λ take s. ap (λ o. o then λ p. supplied w v p.0 p.1 then λ r. answer take r.0 r.1) (values_like w xs ys l s))

  calls_like : (xs ys : List Arg) → ArgsLike xs ys → Like (calls w xs) (calls w ys)
  calls_like xs ys l =
      valued_like _ _ (λ take s. ap (λ o. o then λ p. called w p.0 p.1 then λ r. answer take r.0 r.2) (values_like w xs ys l s))

  -- Lemmas about assignments, steps and calls, by the aim

  element_like : (x : Width) (xs ys : List Arg) → ArgsLike xs ys → (s : Store) → element_assigned w x xs s ≡ element_assigned w x ys s
  element_like x xs ys l s = ap (λ o. o then λ p. with_element w x p.0 p.1) (values_like w xs ys l s)

  assigned_like : (x y : Aim) (a b : Sense) → AimsLike x y → Like a b → Like (assigned w x a) (assigned w y b)
  assigned_like Nowhere Nowhere a b m l = like_same no_value
  assigned_like (Named v) (Named u) a b m l = subst (λ u. Like (assigned w (Named v) a) (assigned w (Named u) b)) m
      (valued_like _ _ (λ take s. ap (λ o. o then λ p. answer take (p.1.variables v) p.1) (l.value (with_variable v) s)))
  assigned_like (Element x xs) (Element y ys) a b m l =
      let parts = args_both xs ys (arg a ∷ []) (arg b ∷ []) m.1 (one_part a b l) in
      subst (λ y. Like (assigned w (Element x xs) a) (assigned w (Element y ys) b)) m.0
      (alone_as (supplied_by w (setter x) (xs ++ arg a ∷ [])) (supplied_by w (setter x) (ys ++ arg b ∷ []))
      (element_assigned w x (xs ++ arg a ∷ [])) (element_assigned w x (ys ++ arg b ∷ []))
      (supplied_like (setter x) (xs ++ arg a ∷ []) (ys ++ arg b ∷ []) parts)
      (element_like x (xs ++ arg a ∷ []) (ys ++ arg b ∷ []) parts))
  assigned_like Nowhere (Named u) a b m l = elim m [ ]
  assigned_like Nowhere (Element y ys) a b m l = elim m [ ]
  assigned_like (Named v) Nowhere a b m l = elim m [ ]
  assigned_like (Named v) (Element y ys) a b m l = elim m [ ]
  assigned_like (Element x xs) Nowhere a b m l = elim m [ ]
  assigned_like (Element x xs) (Named u) a b m l = elim m [ ]

  stepped_like : (new : ℕ) (how : Direction) (x : Width) (xs ys : List Arg) → ArgsLike xs ys
      → Like (supplied_by w (stepper x) (xs ++ number (step_by how) ∷ number new ∷ []))
      (supplied_by w (stepper x) (ys ++ number (step_by how) ∷ number new ∷ []))
  stepped_like new how x xs ys l =
      let end = number (step_by how) ∷ number new ∷ [] in
      supplied_like (stepper x) (xs ++ end) (ys ++ end) (args_both xs ys end end l (args_same end))

  before_like : (how : Direction) (x y : Aim) → AimsLike x y → Like (stepped_before w how x) (stepped_before w how y)
  before_like how Nowhere Nowhere m = like_same no_value
  before_like how (Named v) (Named u) m =
      subst (λ u. Like (stepped_before w how (Named v)) (stepped_before w how (Named u))) m (like_same (stepped_before w how (Named v)))
  before_like how (Element x xs) (Element y ys) m =
      subst (λ y. Like (stepped_before w how (Element x xs)) (stepped_before w how (Element y ys))) m.0 (stepped_like 1 how x xs ys m.1)
  before_like how Nowhere (Named u) m = elim m [ ]
  before_like how Nowhere (Element y ys) m = elim m [ ]
  before_like how (Named v) Nowhere m = elim m [ ]
  before_like how (Named v) (Element y ys) m = elim m [ ]
  before_like how (Element x xs) Nowhere m = elim m [ ]
  before_like how (Element x xs) (Named u) m = elim m [ ]

  behind_like : (how : Direction) (x y : Aim) → AimsLike x y → Like (stepped_behind w how x) (stepped_behind w how y)
  behind_like how Nowhere Nowhere m = like_same no_value
  behind_like how (Named v) (Named u) m =
      subst (λ u. Like (stepped_behind w how (Named v)) (stepped_behind w how (Named u))) m (like_same (stepped_behind w how (Named v)))
  behind_like how (Element x xs) (Element y ys) m =
      subst (λ y. Like (stepped_behind w how (Element x xs)) (stepped_behind w how (Element y ys))) m.0 (stepped_like 0 how x xs ys m.1)
  behind_like how Nowhere (Named u) m = elim m [ ]
  behind_like how Nowhere (Element y ys) m = elim m [ ]
  behind_like how (Named v) Nowhere m = elim m [ ]
  behind_like how (Named v) (Element y ys) m = elim m [ ]
  behind_like how (Element x xs) Nowhere m = elim m [ ]
  behind_like how (Element x xs) (Named u) m = elim m [ ]

  element_called : (x : Width) (xs ys : List Arg) (a b : Sense) (cs ds : List Arg) → ArgsLike xs ys → Like a b → ArgsLike cs ds
      → Like (called_as w (Element x xs) a cs) (called_as w (Element x ys) b ds)
  element_called Bytes xs ys a b cs ds m l n = calls_like (arg a ∷ cs) (arg b ∷ ds) (args_with (arg a) (arg b) cs ds (arg_like a b l) n)
  element_called Words xs ys a b cs ds m l n = calls_like (arg a ∷ cs) (arg b ∷ ds) (args_with (arg a) (arg b) cs ds (arg_like a b l) n)
  element_called Properties xs ys a b cs ds m l n = supplied_like Veneer.CallProperty (xs ++ cs) (ys ++ ds) (args_both xs ys cs ds m n)

  called_like : (x y : Aim) (a b : Sense) (cs ds : List Arg) → AimsLike x y → Like a b → ArgsLike cs ds
      → Like (called_as w x a cs) (called_as w y b ds)
  called_like Nowhere Nowhere a b cs ds m l n = calls_like (arg a ∷ cs) (arg b ∷ ds) (args_with (arg a) (arg b) cs ds (arg_like a b l) n)
  called_like (Named v) (Named u) a b cs ds m l n =
      calls_like (arg a ∷ cs) (arg b ∷ ds) (args_with (arg a) (arg b) cs ds (arg_like a b l) n)
  called_like (Element x xs) (Element y ys) a b cs ds m l n =
      subst (λ y. Like (called_as w (Element x xs) a cs) (called_as w (Element y ys) b ds)) m.0
      (element_called x xs ys a b cs ds m.1 l n)
  called_like Nowhere (Named u) a b cs ds m l n = elim m [ ]
  called_like Nowhere (Element y ys) a b cs ds m l n = elim m [ ]
  called_like (Named v) Nowhere a b cs ds m l n = elim m [ ]
  called_like (Named v) (Element y ys) a b cs ds m l n = elim m [ ]
  called_like (Element x xs) Nowhere a b cs ds m l n = elim m [ ]
  called_like (Element x xs) (Named u) a b cs ds m l n = elim m [ ]

  -- Lemmas about tests

  few_threes : (a : Arg) (b : Arg) (ys : List Arg) (s : Store) → nat_lt 3 (length (b ∷ ys)) ≡ false
      → tested w Test.Equal (a ∷ b ∷ ys) s ≡ in_groups true w Test.Equal a (b ∷ ys) s
  few_threes a b (c ∷ d ∷ e ∷ ys) s h = let n : ⊥ = grind arith in elim n [ ]
  few_threes a b other s h = refl

  few_ones : (t : Test) (a : Arg) (b : Arg) (ys : List Arg) (s : Store) → nat_lt 1 (length (b ∷ ys)) ≡ false
      → tested w t (a ∷ b ∷ ys) s ≡ in_groups false w t a (b ∷ ys) s
  few_ones t a b [] s h = refl
  few_ones t a b (c ∷ ys) s h = let n : ⊥ = grind arith in elim n [ ]

  few : (t : Test) (a : Arg) (b : Arg) (ys : List Arg) (s : Store) → nat_lt (together t) (length (b ∷ ys)) ≡ false
      → tested w t (a ∷ b ∷ ys) s ≡ in_groups (compares_three t) w t a (b ∷ ys) s
  few Test.Equal a b ys s h = few_threes a b ys s h
  few Test.Less a b ys s h = few_ones Test.Less a b ys s h
  few Test.Greater a b ys s h = few_ones Test.Greater a b ys s h
  few Test.AtMost a b ys s h = few_ones Test.AtMost a b ys s h
  few Test.AtLeast a b ys s h = few_ones Test.AtLeast a b ys s h
  few Test.Has a b ys s h = few_ones Test.Has a b ys s h
  few Test.In a b ys s h = few_ones Test.In a b ys s h
  few Test.OfClass a b ys s h = few_ones Test.OfClass a b ys s h
  few Test.Provides a b ys s h = few_ones Test.Provides a b ys s h

  same_length : (ps : List Pair) → length (lefts ps) ≡ length (rights ps)
  same_length [] = refl
  same_length (p ∷ ps) = let h : length (lefts ps) ≡ length (rights ps) = same_length ps in omega (arith, h)

  first_like : (q : Bool) (t : Test) (a b : Sense) (ps : List Pair) → Like a b → (s : Store)
      → worked_first q w t a (lefts ps) s ≡ worked_first q w t b (rights ps) s
  first_like true t a b ps l s =
      steps (a.value nobody s) (b.value nobody s) (λ p. in_groups (compares_three t) w t (number p.0) (lefts ps) p.1)
      (λ p. in_groups (compares_three t) w t (number p.0) (rights ps) p.1) (l.value nobody s)
      (λ p. groups_like w (compares_three t) t (pair (number p.0) (number p.0) (arg_same (number p.0))) ps p.1)
  first_like false t a b ps l s = tested_like w t (pair (arg a) (arg b) (arg_like a b l) ∷ ps) s

  -- a number in the place of a part that is worked out to it
  number_first : (q : Bool) (t : Test) (a : Sense) (b : Arg) (n : ℕ) (p : Pair) (ps : List Pair) → ArgLike (arg a) b → ArgLike (number n) b
      → ((s : Store) → a.value nobody s ≡ Some (n, s)) → nat_lt (together t) (length (rights (p ∷ ps))) ≡ q → (s : Store)
      → worked_first q w t a (lefts (p ∷ ps)) s ≡ in_groups (compares_three t) w t b (rights (p ∷ ps)) s
  number_first true t a b n p ps l m h e s = ap (λ o. o then λ r. in_groups (compares_three t) w t (number r.0) (lefts (p ∷ ps)) r.1) (h s)
      ∙ groups_like w (compares_three t) t (pair (number n) b m) (p ∷ ps) s
  number_first false t a b n p ps l m h e s = tested_like w t (pair (arg a) b l ∷ p ∷ ps) s ∙ few t b p.right (rights ps) s e

  compared_by : (t : Test) (a b : Sense) (p : Pair) (ps : List Pair) → Like a b → (j k : Option Operand) → LeavesLike j (a.value nobody) k
      → a.leaf ≡ j → b.leaf ≡ k → (s : Store) → compared w t j a (lefts (p ∷ ps)) s ≡ compared w t k b (rights (p ∷ ps)) s
  compared_by t a b p ps l (Some x) k m d e s =
      subst (λ k. compared w t (Some x) a (lefts (p ∷ ps)) s ≡ compared w t k b (rights (p ∷ ps)) s) m
      (groups_like w (compares_three t) t
      (pair (record { leaf = Some x; value = a.value nobody }) (record { leaf = Some x; value = b.value nobody })
      (record { leaves = refl; values = l.value nobody })) (p ∷ ps) s)
  compared_by t a b p ps l None None m d e s =
      ap (λ n. worked_first (nat_lt (together t) n) w t a (lefts (p ∷ ps)) s) (same_length (p ∷ ps))
      ∙ first_like (nat_lt (together t) (length (rights (p ∷ ps)))) t a b (p ∷ ps) l s
  compared_by t a b p ps l None (Some y) m d e s =
      let own : ArgLike (arg a) (record { leaf = Some y; value = b.value nobody }) =
      record { leaves = subst (λ j. LeavesLike j (a.value nobody) (Some y)) (sym d) m; values = l.value nobody } in
      let known : ArgLike (number m.0) (record { leaf = Some y; value = b.value nobody }) =
      record { leaves = ap Some (sym m.1); values = λ s. sym (m.2 s) ∙ l.value nobody s } in
      ap (λ n. worked_first (nat_lt (together t) n) w t a (lefts (p ∷ ps)) s) (same_length (p ∷ ps))
      ∙ number_first (nat_lt (together t) (length (rights (p ∷ ps)))) t a (record { leaf = Some y; value = b.value nobody }) m.0 p ps
      own known m.2 refl s

  compared_like : (t : Test) (a b c d : Sense) → Like a b → Like c d → (s : Store)
      → compared w t a.leaf a (args c) s ≡ compared w t b.leaf b (args d) s
  compared_like t a b c d l m s =
      let os = m.others in
      let p = pair c.first d.first m.first in
      ap (λ x. compared w t a.leaf a (c.first ∷ x) s) os.1
      ∙ compared_by t a b p os.0 l a.leaf b.leaf l.leaves refl refl s
      ∙ ap (λ y. compared w t b.leaf b (d.first ∷ y) s) (sym os.2)

  -- Lemmas about operators

  element_aim : (o : Operation) (xs ys : List Arg) → ArgsLike xs ys → AimsLike (element_of o xs) (element_of o ys)
  element_aim Operation.Byte xs ys l = (refl, l)
  element_aim Operation.Word xs ys l = (refl, l)
  element_aim other xs ys l = tt

  part_aim : (p : PropertyPart) (xs ys : List Arg) → ArgsLike xs ys → AimsLike (property_aim p xs) (property_aim p ys)
  part_aim PropertyPart.Value xs ys l = (refl, l)
  part_aim PropertyPart.Address xs ys l = tt
  part_aim PropertyPart.Length xs ys l = tt

  in_order_like : (a b c d : Sense) → Like a b → Like c d → Like (in_order a c) (in_order b d)
  in_order_like a b c d l m = valued_like _ _
      (λ take s. steps (a.alone s) (b.alone s) (λ t. c.value take t) (λ t. d.value take t) (l.alone s) (λ t. m.value take t))

  both_like : (a b c d : Sense) → Like a b → Like c d → (s : Store) → both a.truth c.truth s ≡ both b.truth d.truth s
  both_like a b c d l m s = steps (a.truth s) (b.truth s) (λ p. if p.0 then c.truth p.1 else Some (false, p.1))
      (λ p. if p.0 then d.truth p.1 else Some (false, p.1)) (l.truth s) (λ p. ap (λ o. if p.0 then o else Some (false, p.1)) (m.truth p.1))

  some_like : (a b c d : Sense) → Like a b → Like c d → (s : Store) → either a.truth c.truth s ≡ either b.truth d.truth s
  some_like a b c d l m s = steps (a.truth s) (b.truth s) (λ p. if p.0 then Some (true, p.1) else c.truth p.1)
      (λ p. if p.0 then Some (true, p.1) else d.truth p.1) (l.truth s) (λ p. ap (λ o. if p.0 then Some (true, p.1) else o) (m.truth p.1))

  list_like : (a b c d : Sense) → Like a b → Like c d → Like (two w Binary.Then a c) (two w Binary.Then b d)
  list_like a b c d l m =
      let v = valued_like a.value b.value l.value in record {
        leaves = v.leaves;
        aims = v.aims;
        first = arg_like a b l;
        others = args_like c d m;
        value = v.value;
        alone = l.alone;
        truth = v.truth;
      }

  pub one_like : (op : Unary) (a b : Sense) → Like a b → Like (one w op a) (one w op b)
  one_like Unary.Negate a b l = computed_like (operation_of Operation.Subtract) (number 0 ∷ arg a ∷ []) (number 0 ∷ arg b ∷ [])
      (args_with (number 0) (number 0) (arg a ∷ []) (arg b ∷ []) (arg_same (number 0)) (one_part a b l))
  one_like Unary.Not a b l = condition_like (opposite a.truth) (opposite b.truth) (opposite_like a.truth b.truth l.truth)
  one_like (Unary.Single Single.Random) a b l = drawn_like (arg a ∷ []) (arg b ∷ []) (one_part a b l)
  one_like (Unary.Single Single.Complement) a b l = computed_like (single_of w Single.Complement) (arg a ∷ []) (arg b ∷ []) (one_part a b l)
  one_like (Unary.Single Single.Parent) a b l = computed_like (single_of w Single.Parent) (arg a ∷ []) (arg b ∷ []) (one_part a b l)
  one_like (Unary.Relative how) a b l = computed_like (relative_of w how) (arg a ∷ []) (arg b ∷ []) (one_part a b l)
  one_like (Unary.Before how) a b l = before_like how a.aim b.aim l.aims
  one_like (Unary.Behind how) a b l = behind_like how a.aim b.aim l.aims
  one_like Unary.Children a b l = supplied_like Veneer.Children (arg a ∷ []) (arg b ∷ []) (one_part a b l)
  one_like Unary.Call a b l = called_like a.aim b.aim a b [] [] l.aims l (args_same [])
  one_like Unary.Indirect a b l = calls_like (args a) (args b) (args_like a b l)

  pub two_like : (op : Binary) (a b c d : Sense) → Like a b → Like c d → Like (two w op a c) (two w op b d)
  two_like (Binary.Operation o) a b c d l m =
      let xs = arg a ∷ arg c ∷ [] in
      let ys = arg b ∷ arg d ∷ [] in
      let parts = two_parts a b c d l m in
      aimed (computed w (operation_of o) xs) (computed w (operation_of o) ys) (element_of o xs) (element_of o ys)
      (computed_like (operation_of o) xs ys parts) (element_aim o xs ys parts)
  two_like (Binary.Property p) a b c d l m =
      let xs = arg a ∷ arg c ∷ [] in
      let ys = arg b ∷ arg d ∷ [] in
      let parts = two_parts a b c d l m in
      aimed (supplied_by w (asked p) xs) (supplied_by w (asked p) ys) (property_aim p xs) (property_aim p ys)
      (supplied_like (asked p) xs ys parts) (part_aim p xs ys parts)
  two_like (Binary.Test t) a b c d l m =
      condition_like (compared w t a.leaf a (args c)) (compared w t b.leaf b (args d)) (compared_like t a b c d l m)
  two_like (Binary.Fails t) a b c d l m =
      condition_like (opposite (compared w t a.leaf a (args c))) (opposite (compared w t b.leaf b (args d)))
      (opposite_like (compared w t a.leaf a (args c)) (compared w t b.leaf b (args d)) (compared_like t a b c d l m))
  two_like Binary.Assign a b c d l m = assigned_like a.aim b.aim c d l.aims m
  two_like Binary.Comma a b c d l m = in_order_like a b c d l m
  two_like Binary.And a b c d l m = condition_like (both a.truth c.truth) (both b.truth d.truth) (both_like a b c d l m)
  two_like Binary.Or a b c d l m = condition_like (either a.truth c.truth) (either b.truth d.truth) (some_like a b c d l m)
  two_like Binary.Call a b c d l m = called_like a.aim b.aim a b (args c) (args d) l.aims l (args_like c d m)
  two_like Binary.Then a b c d l m = list_like a b c d l m
  two_like Binary.To a b c d l m = like_same no_value

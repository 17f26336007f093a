-- The list of properties is the one of the description: its numbers, in their order, and the property of each.
use Rattle.std.proofs.Common.{◌≡◌, ℕ, List, [], ◌∷◌, ◌++◌, Option, Some, None, Bool, true, false, refl, ◌∙◌, ap, sym, subst, arith}
use Rattle.std.specs.Prelude.{◌==◌, ◌||◌, cond, map, nat_eq, option_map}
use Rattle.std.specs.List.{cons_option, filter_map, flat_map, fold}
use Rattle.inf_area.specs.declared.targets.Value.{Value}
use Rattle.inf_properties.specs.{Properties.found, Properties.inherited, declared.values.Property.Property}
use Rattle.inf_world_laws.specs.{Declaring.property, Things.contains, Things.distinct, Things.values_given}
use Rattle.inf_world_laws.specs.Laws.{Properties, PropertiesAgree, as_properties, inherited_above, inherited_all, numbers_of}
use Rattle.inf_world_laws.proofs.{Order.order_agrees, Properties.values_agree}

-- Lemmas about numbers that are new, each behind those before it

abbrev AreNew : List ℕ → List ℕ → Type 0
AreNew seen [] = Unit {0}
AreNew seen (n ∷ ns) = (contains seen n ≡ false) × AreNew (n ∷ seen) ns

new_by : (seen xs : List ℕ) (x : ℕ) → AreNew seen (distinct seen xs) → AreNew (x ∷ seen) (distinct (x ∷ seen) xs) → (b : Bool)
    → contains seen x ≡ b → AreNew seen (cond b (distinct seen xs) (x ∷ distinct (x ∷ seen) xs))
new_by seen xs x old new true e = old
new_by seen xs x old new false e = (e, new)

are_new : (seen xs : List ℕ) → AreNew seen (distinct seen xs)
are_new seen [] = tt
are_new seen (x ∷ xs) = new_by seen xs x (are_new seen xs) (are_new (x ∷ seen) xs) (contains seen x) refl

abbrev AreOthers : ℕ → List ℕ → Type 0
AreOthers m [] = Unit {0}
AreOthers m (n ∷ ns) = ((m == n) ≡ false) × AreOthers m ns

differs : (m n : ℕ) (seen : List ℕ) → contains seen m ≡ true → contains seen n ≡ false → (b : Bool) → (m == n) ≡ b → (m == n) ≡ false
differs m n seen h g false e = e
differs m n seen h g true e =
    let same : m ≡ n = grind arith in
    let both : contains seen m ≡ contains seen n = ap (contains seen) same in cc

or_true : (a : Bool) → a || true ≡ true
or_true true = refl
or_true false = refl

are_others : (m : ℕ) (seen ns : List ℕ) → contains seen m ≡ true → AreNew seen ns → AreOthers m ns
are_others m seen [] h a = tt
are_others m seen (n ∷ ns) h a =
    (differs m n seen h a.0 (m == n) refl, are_others m (n ∷ seen) ns (ap (λ b. nat_eq m n || b) h ∙ or_true (nat_eq m n)) a.1)

-- The properties that are found of the numbers of a list, in order, are the list.

without_first : (p : Property) (ps : List Property) (ns : List ℕ) → AreOthers p.number ns
    → filter_map (λ n. found n (p ∷ ps)) ns ≡ filter_map (λ n. found n ps) ns
without_first p ps [] a = refl
without_first p ps (n ∷ ns) a = ap (λ b. cons_option (cond b (Some p) (found n ps)) (filter_map (λ n. found n (p ∷ ps)) ns)) a.0
    ∙ ap (cons_option (found n ps)) (without_first p ps ns a.1)

here : (n : ℕ) → (n == n) ≡ true
here n = grind arith

same_there : (n : ℕ) → nat_eq n n ≡ true
same_there n = grind arith

all_found : (seen : List ℕ) (ps : List Property) → AreNew seen (numbers_of ps) → filter_map (λ n. found n ps) (numbers_of ps) ≡ ps
all_found seen [] a = refl
all_found seen (p ∷ ps) a =
    let others : AreOthers p.number (numbers_of ps) =
    are_others p.number (p.number ∷ seen) (numbers_of ps) (ap (λ b. b || contains seen p.number) (same_there p.number)) a.1 in
    ap (λ b. cons_option (cond b (Some p) (found p.number ps)) (filter_map (λ n. found n (p ∷ ps)) (numbers_of ps))) (here p.number)
    ∙ ap (λ l. p ∷ l) (without_first p ps (numbers_of ps) others)
    ∙ ap (λ l. p ∷ l) (all_found (p.number ∷ seen) ps a.1)

-- Lemmas about the two lists

module _ (additive : ℕ → Bool) where
  pub fold_map : (above : List Property) (givers : List Properties)
      → fold (λ above g. inherited above g) above (map (as_properties additive) givers) ≡ inherited_above additive above givers
  fold_map above [] = refl
  fold_map above (g ∷ givers) = fold_map (inherited above (as_properties additive g)) givers

  pub numbers_are : (g : Properties) → numbers_of (as_properties additive g) ≡ map (λ p. p.0) g
  numbers_are [] = refl
  numbers_are (p ∷ g) = ap (λ l. p.0 ∷ l) (numbers_are g)

  all_numbers : (givers : List Properties) → flat_map numbers_of (map (as_properties additive) givers) ≡ flat_map (map (λ p. p.0)) givers
  all_numbers [] = refl
  all_numbers (g ∷ givers) = ap (λ l. l ++ flat_map numbers_of (map (as_properties additive) givers)) (numbers_are g)
      ∙ ap (λ l. map (λ p. p.0) g ++ l) (all_numbers givers)

  abbrev with_number : List Properties → ℕ → Option (ℕ × List Value)
  with_number givers n = option_map (λ values. (n, values)) (values_given additive givers n)

  one_property : (n : ℕ) (k : Option (List Value)) (ps : List (ℕ × List Value)) (o : Option Property) (qs : List Property)
      → o ≡ option_map (property additive n) k → qs ≡ as_properties additive ps
      → cons_option o qs ≡ as_properties additive (cons_option (option_map (λ values. (n, values)) k) ps)
  one_property n None ps o qs e f = ap (λ o. cons_option o qs) e ∙ f
  one_property n (Some values) ps o qs e f = ap (λ o. cons_option o qs) e ∙ ap (λ l. property additive n values ∷ l) f

  described : (own : Properties) (givers : List Properties) (ns : List ℕ) → filter_map (λ n. found n (inherited_all additive own givers)) ns
      ≡ as_properties additive (filter_map (with_number (own ∷ givers)) ns)
  described own givers [] = refl
  described own givers (n ∷ ns) = one_property n (values_given additive (own ∷ givers) n) (filter_map (with_number (own ∷ givers)) ns)
      (found n (inherited_all additive own givers)) (filter_map (λ n. found n (inherited_all additive own givers)) ns)
      (values_agree additive own givers n) (described own givers ns)

pub properties_agree : PropertiesAgree
properties_agree additive own givers single =
    let all = inherited_all additive own givers in
    let ns = flat_map (map (λ p. p.0)) (own ∷ givers) in
    let order : numbers_of all ≡ distinct [] ns =
    ap (λ above. numbers_of (inherited (as_properties additive own) above)) (sym (fold_map additive [] givers))
    ∙ order_agrees (as_properties additive own) (map (as_properties additive) givers) single
    ∙ ap (distinct []) (all_numbers additive (own ∷ givers)) in
    sym (all_found [] all (subst (AreNew []) (sym order) (are_new [] ns)))
    ∙ ap (filter_map (λ n. found n all)) order
    ∙ described additive own givers (distinct [] ns)

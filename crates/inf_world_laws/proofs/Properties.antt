-- Of each number an object has the values of all that give it where it is additive, and else those of the first.
use Rattle.std.proofs.Common.{◌≡◌, ℕ, List, [], ◌∷◌, ◌++◌, Option, Some, None, Bool, true, false, refl, ◌∙◌, ap, sym, append_assoc}
use Rattle.std.proofs.Common.{append-nil, arith, ◌==◌, cond, if◌then◌else◌, option_map, filter_map, flat_map}
use Rattle.std.specs.List.{cons_option}
use Rattle.inf_area.specs.declared.targets.Value.{Value}
use Rattle.inf_properties.specs.{Properties.found, Properties.found_or_above, Properties.inherited, declared.values.Property.Property}
use Rattle.inf_properties.proofs.Having.{found-inherited}
use Rattle.inf_world_laws.specs.{Declaring.property, Things.values_in, Things.whole}
use Rattle.inf_world_laws.specs.Laws.{Properties, ValuesAgree, as_properties, inherited_above}

-- Two that give a property, where the first comes before the other

abbrev values_found : Option Property → List Value
values_found None = []
values_found (Some p) = p.values

abbrev or_none : Option (List Value) → List Value
or_none None = []
or_none (Some values) = values

abbrev both : Bool → Option (List Value) → Option (List Value) → Option (List Value)
both b None k = k
both b (Some v) k = Some (if b then v ++ or_none k else v)

both_turned : (b : Bool) (i j k : Option (List Value)) → both b (both b i j) k ≡ both b i (both b j k)
both_turned b None j k = refl
both_turned true (Some u) None k = ap (λ l. Some (l ++ or_none k)) (append-nil u)
both_turned true (Some u) (Some v) k = ap Some (append_assoc u v (or_none k))
both_turned false (Some u) j k = refl

nothing_behind : (b : Bool) (k : Option (List Value)) → k ≡ both b k None
nothing_behind b None = refl
nothing_behind true (Some v) = ap Some (sym (append-nil v))
nothing_behind false (Some v) = refl

flat_whole : (l : List (List Value)) → or_none (whole true l) ≡ flat_map (λ l. l) l
flat_whole [] = refl
flat_whole (v ∷ l) = refl

abbrev in_front : Option (List Value) → List (List Value) → List (List Value)
in_front None l = l
in_front (Some v) l = v ∷ l

both_whole : (b : Bool) (k : Option (List Value)) (l : List (List Value)) → both b k (whole b l) ≡ whole b (in_front k l)
both_whole b None l = refl
both_whole true (Some v) l = ap (λ m. Some (v ++ m)) (flat_whole l)
both_whole false (Some v) l = refl

front_is : (n : ℕ) (g : Properties) (givers : List Properties)
    → in_front (values_in n g) (filter_map (values_in n) givers) ≡ filter_map (values_in n) (g ∷ givers)
front_is n g givers = front_by (values_in n g)
  where
    front_by : (k : Option (List Value)) → in_front k (filter_map (values_in n) givers) ≡ cons_option k (filter_map (values_in n) givers)
    front_by None = refl
    front_by (Some v) = refl

module _ (additive : ℕ → Bool) (n : ℕ) where
  abbrev P : List Value → Property
  P values = property additive n values

  same_number : (m : ℕ) → (m == n) ≡ true → m ≡ n
  same_number m h = grind arith

  found_by : (m : ℕ) (values : List Value) (o : Option Property) (k : Option (List Value)) (b : Bool) → (m == n) ≡ b → o ≡ option_map P k
      → cond b (Some (property additive m values)) o ≡ option_map P (cond b (Some values) k)
  found_by m values o k true h e = ap (λ m. Some (property additive m values)) (same_number m h)
  found_by m values o k false h e = e

  found_is : (g : Properties) → found n (as_properties additive g) ≡ option_map P (values_in n g)
  found_is [] = refl
  found_is ((m, values) ∷ g) = found_by m values (found n (as_properties additive g)) (values_in n g) (m == n) refl (found_is g)

  above_by : (i k : Option (List Value)) (above : List Property) → found n above ≡ option_map P k
      → found_or_above n (option_map P i) above ≡ option_map P (both (additive n) i k)
  above_by None k above e = e
  above_by (Some v) k above e = joined_by k e
    where
      joined_by : (k : Option (List Value)) → found n above ≡ option_map P k
          → found_or_above n (Some (P v)) above ≡ Some (P (if additive n then v ++ or_none k else v))
      joined_by None e = ap (λ o. Some (P (if additive n then v ++ values_found o else v))) e
      joined_by (Some u) e = ap (λ o. Some (P (if additive n then v ++ values_found o else v))) e

  abbrev all_by : Option (List Value) → List Properties → Option (List Value)
  all_by k givers = both (additive n) k (whole (additive n) (filter_map (values_in n) givers))

  above_is : (givers : List Properties) (above : List Property) (k : Option (List Value)) → found n above ≡ option_map P k
      → found n (inherited_above additive above givers) ≡ option_map P (all_by k givers)
  above_is [] above k e = e ∙ ap (option_map P) (nothing_behind (additive n) k)
  above_is (g ∷ givers) above k e = above_is givers (inherited above (as_properties additive g)) (both (additive n) k (values_in n g))
      (found-inherited above (as_properties additive g) n
      ∙ ap (λ o. found_or_above n o (as_properties additive g)) e
      ∙ above_by k (values_in n g) (as_properties additive g) (found_is g))
      ∙ ap (option_map P) (both_turned (additive n) k (values_in n g) (whole (additive n) (filter_map (values_in n) givers))
      ∙ ap (both (additive n) k) (both_whole (additive n) (values_in n g) (filter_map (values_in n) givers)
      ∙ ap (whole (additive n)) (front_is n g givers)))

pub values_agree : ValuesAgree
values_agree additive own givers n = found-inherited (as_properties additive own) (inherited_above additive [] givers) n
    ∙ ap (λ o. found_or_above n o (inherited_above additive [] givers)) (found_is additive n own)
    ∙ above_by additive n (values_in n own) (all_by additive n None givers) (inherited_above additive [] givers)
    (above_is additive n givers [] None refl)
    ∙ ap (option_map (property additive n)) (both_whole (additive n) (values_in n own) (filter_map (values_in n) givers)
    ∙ ap (whole (additive n)) (front_is n own givers))

-- No property has more than 32 values.
use Rattle.std.proofs.Common.{◌≡◌, ◌≤◌, ◌∷◌, ◌++◌, ◌==◌, [], ℕ, List, Bool, true, false, Some, length, length-append, refl, sym, ap, subst}
use Rattle.std.proofs.Common.{◌∙◌, arith, if◌then◌else◌}
use Rattle.std.proofs.lemmas.List.Folds.{list_all-append}
use Rattle.std.proofs.lemmas.Bool.{and_parts, and_from, leb-true, eqb-true}
use Rattle.inf_area.specs.declared.targets.Value.{Value}
use Rattle.inf_properties.specs.{Sizes.are_short, Sizes.is_short, declared.values.Property.Property}
use Rattle.inf_properties.specs.Properties.{found, has, inherited, joined, joined_values, lacked, with_joined}
use Rattle.inf_properties.proofs.{Inheriting.SameNumbers-push, Inheriting.has-push_true, Sums.lacked-same}

lacked_short : (own above : List Property) (p : Property) → are_short (lacked own above) ≡ true →
    are_short (lacked (own ++ p ∷ []) above) ≡ true
lacked_short own [] p h = refl
lacked_short own (q ∷ above) p h =
    go (has q.number own) (has q.number (own ++ p ∷ [])) h (has-push_true p own q.number) (lacked_short own above p)
  where
    go : (a b : Bool) → are_short (if a then lacked own above else q ∷ lacked own above) ≡ true → (a ≡ true → b ≡ true)
        → (are_short (lacked own above) ≡ true → are_short (lacked (own ++ p ∷ []) above) ≡ true)
        → are_short (if b then lacked (own ++ p ∷ []) above else q ∷ lacked (own ++ p ∷ []) above) ≡ true
    go true true h more later = later h
    go true false h more later = let no = more refl in cc
    go false true h more later = later (and_parts (is_short q) (are_short (lacked own above)) h).1
    go false false h more later =
        let parts = and_parts (is_short q) (are_short (lacked own above)) h in
        and_from (is_short q) (are_short (lacked (own ++ p ∷ []) above)) parts.0 (later parts.1)

-- the two parts of an object's properties are short
pub short_parts : (own above : List Property) → are_short (inherited own above) ≡ true →
    (are_short (with_joined above own) ≡ true) × (are_short (lacked own above) ≡ true)
short_parts own above h = and_parts (are_short (with_joined above own)) (are_short (lacked own above))
    (sym (list_all-append is_short (with_joined above own) (lacked own above)) ∙ h)

short_from : (own above : List Property) → are_short (with_joined above own) ≡ true → are_short (lacked own above) ≡ true →
    are_short (inherited own above) ≡ true
short_from own above h k = list_all-append is_short (with_joined above own) (lacked own above)
    ∙ and_from (are_short (with_joined above own)) (are_short (lacked own above)) h k

joined_short : (own above : List Property) (p : Property) → are_short (with_joined above own) ≡ true → is_short (joined above p) ≡ true →
    are_short (with_joined above (own ++ p ∷ [])) ≡ true
joined_short [] above p h k = and_from (is_short (joined above p)) true k refl
joined_short (q ∷ own) above p h k =
    let parts = and_parts (is_short (joined above q)) (are_short (with_joined above own)) h in
    and_from (is_short (joined above q)) (are_short (with_joined above (own ++ p ∷ []))) parts.0 (joined_short own above p parts.1 k)

-- a list without its last property, and that property
joined_front : (front above : List Property) (p : Property) → are_short (with_joined above (front ++ p ∷ [])) ≡ true →
    (are_short (with_joined above front) ≡ true) × (is_short (joined above p) ≡ true)
joined_front [] above p h = (refl, (and_parts (is_short (joined above p)) true h).0)
joined_front (q ∷ front) above p h =
    let parts = and_parts (is_short (joined above q)) (are_short (with_joined above (front ++ p ∷ []))) h in
    let later = joined_front front above p parts.1 in
    (and_from (is_short (joined above q)) (are_short (with_joined above front)) parts.0 later.0, later.1)

pub short-given : (own above : List Property) (p : Property) → are_short (inherited own above) ≡ true → is_short (joined above p) ≡ true →
    are_short (inherited (own ++ p ∷ []) above) ≡ true
short-given own above p h k =
    let parts = short_parts own above h in
    short_from (own ++ p ∷ []) above (joined_short own above p parts.0 k) (lacked_short own above p parts.1)

pub short-replaced : (front above : List Property) (p q : Property) → p.number ≡ q.number →
    are_short (inherited (front ++ p ∷ []) above) ≡ true
    → is_short (joined above q) ≡ true → are_short (inherited (front ++ q ∷ []) above) ≡ true
short-replaced front above p q e h k =
    let parts = short_parts (front ++ p ∷ []) above h in let own = joined_front front above p parts.0 in
    let same = lacked-same (front ++ p ∷ []) (front ++ q ∷ []) above (SameNumbers-push front front p q e (λ n. refl)) in
    short_from (front ++ q ∷ []) above (joined_short front above q own.0 k) (ap are_short (sym same) ∙ parts.1)

-- the last property joined with those of classes is short
pub short_last : (front above : List Property) (p : Property) → are_short (inherited (front ++ p ∷ []) above) ≡ true →
    length (joined above p).values ≤ 32
short_last front above p h =
    leb-true (length (joined above p).values) 32 (joined_front front above p (short_parts (front ++ p ∷ []) above h).0).1

pub own_length : (b : Bool) (own above : List Value) → length own ≤ length (joined_values b own above)
own_length true own above = omega (arith, length-append own above)
own_length false own above = omega arith

-- a property that classes give, and the body lacks, is short
pub short_found : (own above : List Property) (n : ℕ) (q : Property) → are_short (lacked own above) ≡ true → has n own ≡ false →
    found n above ≡ Some q → length q.values ≤ 32
short_found own [] n q h e is = cc
short_found own (p ∷ above) n q h e is = go (p.number == n) refl is (short_found own above n q (rest (has p.number own) h) e) where
  rest : (b : Bool) → are_short (if b then lacked own above else p ∷ lacked own above) ≡ true → are_short (lacked own above) ≡ true
  rest true h = h
  rest false h = (and_parts (is_short p) (are_short (lacked own above)) h).1

  here : (b : Bool) → b ≡ false → are_short (if b then lacked own above else p ∷ lacked own above) ≡ true → is_short p ≡ true
  here true isnt h = cc
  here false isnt h = (and_parts (is_short p) (are_short (lacked own above)) h).0

  go : (b : Bool) → (p.number == n) ≡ b → (if b then Some p else found n above) ≡ Some q →
      (found n above ≡ Some q → length q.values ≤ 32) → length q.values ≤ 32
  go true same is later =
      let short = here (has p.number own) (ap (λ k. has k own) (eqb-true p.number n same) ∙ e) h in
      let this : p ≡ q = cc in subst (λ (r : Property). length r.values ≤ 32) this (leb-true (length p.values) 32 short)
  go false other is later = later is

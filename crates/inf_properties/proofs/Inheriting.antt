-- Properties no two of which have the same number, and those that an object takes from its classes.
use Rattle.std.proofs.Common.{◌≡◌, ◌∷◌, ◌++◌, ◌==◌, [], ℕ, List, Bool, true, false, Some, append_assoc, append-nil, refl, sym, ap, subst}
use Rattle.std.proofs.Common.{◌∙◌, is_some, if◌then◌else◌}
use Rattle.std.proofs.lemmas.Bool.{eqb-true, eq-eqb}
use Rattle.inf_properties.specs.declared.values.Property.{Property}
use Rattle.inf_properties.specs.Properties.{AreNew, found, has, inherited, joined, lacked, with_joined}
use Rattle.inf_properties.proofs.Finding.{absent_head}

pub has-push_same : (p : Property) (ps : List Property) → has p.number (ps ++ p ∷ []) ≡ true
has-push_same p [] = ap (λ (b : Bool). is_some (if b then Some p else found p.number [])) (eq-eqb p.number p.number refl)
has-push_same p (q ∷ ps) = go (q.number == p.number) (has-push_same p ps) where
  go : (b : Bool) → has p.number (ps ++ p ∷ []) ≡ true → is_some (if b then Some q else found p.number (ps ++ p ∷ [])) ≡ true
  go true later = refl
  go false later = later

pub has-push_other : (p : Property) (ps : List Property) (n : ℕ) → (p.number == n) ≡ false → has n (ps ++ p ∷ []) ≡ has n ps
has-push_other p [] n e = ap (λ (b : Bool). is_some (if b then Some p else found n [])) e
has-push_other p (q ∷ ps) n e = go (q.number == n) (has-push_other p ps n e) where
  go : (b : Bool) → has n (ps ++ p ∷ []) ≡ has n ps →
      is_some (if b then Some q else found n (ps ++ p ∷ [])) ≡ is_some (if b then Some q else found n ps)
  go true later = refl
  go false later = later

pub has-push_true : (p : Property) (ps : List Property) (n : ℕ) → has n ps ≡ true → has n (ps ++ p ∷ []) ≡ true
has-push_true p [] n e = cc
has-push_true p (q ∷ ps) n e = go (q.number == n) e (has-push_true p ps n) where
  go : (b : Bool) → is_some (if b then Some q else found n ps) ≡ true → (has n ps ≡ true → has n (ps ++ p ∷ []) ≡ true)
      → is_some (if b then Some q else found n (ps ++ p ∷ [])) ≡ true
  go true e later = refl
  go false e later = later e

-- a number is absent from a list with one property more: neither that one nor one of the others has it
pub absent_push : (p : Property) (ps : List Property) (n : ℕ) → has n (ps ++ p ∷ []) ≡ false →
    ((p.number == n) ≡ false) × (has n ps ≡ false)
absent_push p [] n e = (absent_head p [] n e)
absent_push p (q ∷ ps) n e =
    let parts = absent_head q (ps ++ p ∷ []) n e in let later = absent_push p ps n parts.1 in
    (later.0, ap (λ (b : Bool). is_some (if b then Some q else found n ps)) parts.0 ∙ later.1)

-- a number of properties before is none of those that come
pub absent_later : (before ps : List Property) (n : ℕ) → AreNew before ps → has n before ≡ true → has n ps ≡ false
absent_later before [] n h e = refl
absent_later before (p ∷ ps) n h e = go (p.number == n) refl (absent_later (before ++ p ∷ []) ps n h.1 (has-push_true p before n e)) where
  go : (b : Bool) → (p.number == n) ≡ b → has n ps ≡ false → is_some (if b then Some p else found n ps) ≡ false
  go true same later = let is = ap (λ k. has k before) (eqb-true p.number n same) in cc
  go false other later = later

pub AreNew-push : (before ps : List Property) (p : Property) → AreNew before ps → has p.number before ≡ false → has p.number ps ≡ false →
    AreNew before (ps ++ p ∷ [])
AreNew-push before [] p h e f = (e, tt)
AreNew-push before (q ∷ ps) p h e f =
    let parts = absent_head q ps p.number f in
    (h.0, AreNew-push (before ++ q ∷ []) ps p h.1 (has-push_other q before p.number parts.0 ∙ e) parts.1)

pub AreNew-append : (before xs ys : List Property) → AreNew before xs → AreNew (before ++ xs) ys → AreNew before (xs ++ ys)
AreNew-append before [] ys h k = subst (λ b. AreNew b ys) (append-nil before) k
AreNew-append before (x ∷ xs) ys h k =
    (h.0, AreNew-append (before ++ x ∷ []) xs ys h.1 (subst (λ b. AreNew b ys) (sym (append_assoc before (x ∷ []) xs)) k))

-- joining values changes no number
pub has-joined : (above own : List Property) (n : ℕ) → has n (with_joined above own) ≡ has n own
has-joined above [] n = refl
has-joined above (p ∷ own) n = go (p.number == n) (has-joined above own n) where
  go : (b : Bool) → has n (with_joined above own) ≡ has n own
      → is_some (if b then Some (joined above p) else found n (with_joined above own)) ≡ is_some (if b then Some p else found n own)
  go true later = refl
  go false later = later

-- two lists of properties with the same numbers
abbrev pub SameNumbers : List Property → List Property → Type 0
SameNumbers xs ys = (n : ℕ) → has n xs ≡ has n ys

pub SameNumbers-push : (xs ys : List Property) (p q : Property) → p.number ≡ q.number → SameNumbers xs ys →
    SameNumbers (xs ++ p ∷ []) (ys ++ q ∷ [])
SameNumbers-push xs ys p q e same n = go (q.number == n) refl where
  go : (b : Bool) → (q.number == n) ≡ b → has n (xs ++ p ∷ []) ≡ has n (ys ++ q ∷ [])
  go true is = let here = eqb-true q.number n is in
      subst (λ k. has k (xs ++ p ∷ []) ≡ has k (ys ++ q ∷ [])) here
      (subst (λ k. has k (xs ++ p ∷ []) ≡ has q.number (ys ++ q ∷ [])) e (has-push_same p xs ∙ sym (has-push_same q ys)))
  go false is = has-push_other p xs n (ap (λ k. k == n) e ∙ is) ∙ same n ∙ sym (has-push_other q ys n is)

AreNew-joined : (above own before before' : List Property) → SameNumbers before before' → AreNew before own →
    AreNew before' (with_joined above own)
AreNew-joined above [] before before' same h = tt
AreNew-joined above (p ∷ own) before before' same h = (
  sym (same p.number) ∙ h.0,
  AreNew-joined above own (before ++ p ∷ []) (before' ++ joined above p ∷ [])
      (SameNumbers-push before before' p (joined above p) refl same) h.1,
)

-- properties that are new behind some are new behind others, which have no further numbers but those of the object's own
AreNew-lacked : (own above before before' : List Property) → ((n : ℕ) → has n own ≡ false → has n before ≡ false → has n before' ≡ false)
    → AreNew before above → AreNew before' (lacked own above)
AreNew-lacked own [] before before' all h = tt
AreNew-lacked own (p ∷ above) before before' all h = go (has p.number own) refl
    (AreNew-lacked own above (before ++ p ∷ []) before' (λ n lacks absent. all n lacks (absent_push p before n absent).1) h.1)
    (AreNew-lacked own above (before ++ p ∷ []) (before' ++ p ∷ [])
    (λ n lacks absent. let parts = absent_push p before n absent in has-push_other p before' n parts.0 ∙ all n lacks parts.1) h.1)
  where
    go : (b : Bool) → has p.number own ≡ b → AreNew before' (lacked own above) → AreNew (before' ++ p ∷ []) (lacked own above)
        → AreNew before' (if b then lacked own above else p ∷ lacked own above)
    go true is skipped taken = skipped
    go false is skipped taken = (all p.number is h.0, taken)

pub AreNew-inherited : (own above : List Property) → AreNew [] own → AreNew [] above → AreNew [] (inherited own above)
AreNew-inherited own above h k = AreNew-append [] (with_joined above own) (lacked own above) (AreNew-joined above own [] [] (λ n. refl) h)
    (AreNew-lacked own above [] ([] ++ with_joined above own) (λ n lacks absent. has-joined above own n ∙ lacks) k)

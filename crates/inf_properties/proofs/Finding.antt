-- Properties are found by the places that are kept under their numbers.
use Rattle.std.proofs.Common.{◌≡◌, ◌<◌, ◌+◌, ◌-◌, ◌∷◌, ◌++◌, ◌==◌, [], ℕ, zero, suc, List, Bool, true, false, Option, Some, None, inl, inr}
use Rattle.std.proofs.Common.{ltb, length, length-set, get_or, refl, sym, ap, subst, ◌∙◌, arith}
use Rattle.std.proofs.lemmas.Option.{slice_get-get_or, slice_get_within}
use Rattle.std.proofs.lemmas.Bool.{eqb-true, eqb-false, lt-ltb, le-ltb, cases_lt}
use Rattle.std.specs.Prelude.{slice_get, slice_set, nat_lt, is_some, if◌then◌else◌}
use Rattle.inf_properties.specs.{Properties.found, Properties.has, declared.values.Property.Property}
use Rattle.inf_properties.specs.Places.{AreAt, AreCovered, KeepsPlaces, checked}

abbrev pub at_place : ℕ → List Property → Option ℕ → Option Property
at_place number properties None = None
at_place number properties (Some place) = checked number (slice_get properties place)

-- the property of a number, by the place under the number, where the first property of the list has the place `first`
abbrev at_place_from : ℕ → ℕ → List Property → Option ℕ → Option Property
at_place_from first number properties None = None
at_place_from first number properties (Some place) =
    if nat_lt place first then None else checked number (slice_get properties (place - first))

if-true : {A : Type 0} (b : Bool) (x y : A) → b ≡ true → (if b then x else y) ≡ x
if-true true x y e = refl
if-true false x y e = cc

if-false : {A : Type 0} (b : Bool) (x y : A) → b ≡ false → (if b then x else y) ≡ y
if-false true x y e = cc
if-false false x y e = refl

nothing_there : (first n : ℕ) (o : Option ℕ) → at_place_from first n [] o ≡ None
nothing_there first n None = refl
nothing_there first n (Some place) = go (nat_lt place first) where
  go : (b : Bool) → (if b then None else checked n None) ≡ None
  go true = refl
  go false = refl

-- a property of another number is passed over
other_further : (first n : ℕ) (p : Property) (ps : List Property) (d : ℕ) → (p.number == n) ≡ false
    → at_place_from (first + 1) n ps (Some (first + d)) ≡ at_place_from first n (p ∷ ps) (Some (first + d))
other_further first n p ps zero e =
    let back : first + 0 - first ≡ 0 = omega arith in
    if-true (ltb (first + 0) (first + 1)) None (checked n (slice_get ps (first + 0 - (first + 1))))
    (lt-ltb (first + 0) (first + 1) (omega arith))
    ∙ sym (if-false (p.number == n) (Some p) None e)
    ∙ sym (ap (λ k. checked n (slice_get (p ∷ ps) k)) back)
    ∙ sym (if-false (ltb (first + 0) first) None (checked n (slice_get (p ∷ ps) (first + 0 - first)))
    (le-ltb (first + 0) first (omega arith)))
other_further first n p ps (suc d) e =
    let back : first + suc d - first ≡ suc d = omega arith in
    let nearer : first + suc d - (first + 1) ≡ d = omega arith in
    if-false (ltb (first + suc d) (first + 1)) None (checked n (slice_get ps (first + suc d - (first + 1))))
    (le-ltb (first + suc d) (first + 1) (omega arith)) ∙ ap (λ k. checked n (slice_get ps k)) nearer
    ∙ sym (ap (λ k. checked n (slice_get (p ∷ ps) k)) back)
    ∙ sym (if-false (ltb (first + suc d) first) None (checked n (slice_get (p ∷ ps) (first + suc d - first)))
    (le-ltb (first + suc d) first (omega arith)))

other_before : (first n place : ℕ) (p : Property) (ps : List Property) → place < first
    → at_place_from (first + 1) n ps (Some place) ≡ at_place_from first n (p ∷ ps) (Some place)
other_before first n place p ps h =
    if-true (ltb place (first + 1)) None (checked n (slice_get ps (place - (first + 1)))) (lt-ltb place (first + 1) (omega arith))
    ∙ sym (if-true (ltb place first) None (checked n (slice_get (p ∷ ps) (place - first))) (lt-ltb place first h))

other_there : (first n : ℕ) (p : Property) (ps : List Property) (o : Option ℕ) → (p.number == n) ≡ false
    → at_place_from (first + 1) n ps o ≡ at_place_from first n (p ∷ ps) o
other_there first n p ps None e = refl
other_there first n p ps (Some place) e = elim (cases_lt place first) [
  | inl h ↦ other_before first n place p ps h
  | inr h ↦
      let sum : first + (place - first) ≡ place = omega arith in
      subst (λ k. at_place_from (first + 1) n ps (Some k) ≡ at_place_from first n (p ∷ ps) (Some k)) sum
      (other_further first n p ps (place - first) e)
]

-- the first property is found where it has the number
found_here : (first n : ℕ) (p : Property) (ps : List Property) (o : Option ℕ) → (p.number == n) ≡ true → o ≡ Some first
    → Some p ≡ at_place_from first n (p ∷ ps) o
found_here first n p ps o e is =
    let back : first - first ≡ 0 = omega arith in
    sym (if-true (p.number == n) (Some p) None e)
    ∙ sym (ap (λ k. checked n (slice_get (p ∷ ps) k)) back)
    ∙ sym (if-false (ltb first first) None (checked n (slice_get (p ∷ ps) (first - first))) (le-ltb first first (omega arith)))
    ∙ sym (ap (at_place_from first n (p ∷ ps)) is)

found-at_from : (first : ℕ) (places : List ℕ) (ps : List Property) (n : ℕ) → AreAt first places ps
    → found n ps ≡ at_place_from first n ps (slice_get places n)
found-at_from first places [] n h = sym (nothing_there first n (slice_get places n))
found-at_from first places (p ∷ ps) n h = go (p.number == n) refl (found-at_from (first + 1) places ps n h.1) where
  go : (b : Bool) → (p.number == n) ≡ b → found n ps ≡ at_place_from (first + 1) n ps (slice_get places n)
      → (if b then Some p else found n ps) ≡ at_place_from first n (p ∷ ps) (slice_get places n)
  go true e later = found_here first n p ps (slice_get places n) e (ap (slice_get places) (sym (eqb-true p.number n e)) ∙ h.0)
  go false e later = later ∙ other_there first n p ps (slice_get places n) e

pub found-at : (places : List ℕ) (ps : List Property) (n : ℕ) → AreAt 0 places ps → found n ps ≡ at_place n ps (slice_get places n)
found-at places ps n h = found-at_from 0 places ps n h ∙ go (slice_get places n) where
  go : (o : Option ℕ) → at_place_from 0 n ps o ≡ at_place n ps o
  go None = refl
  go (Some place) =
      let same : place - 0 ≡ place = omega arith in
      if-false (ltb place 0) None (checked n (slice_get ps (place - 0))) (le-ltb place 0 (omega arith))
      ∙ ap (λ k. checked n (slice_get ps k)) same

-- a place that is written is read again
slice_get-set_same : (xs : List ℕ) (n k : ℕ) → n < length xs → slice_get (slice_set xs n k) n ≡ Some k
slice_get-set_same [] n k h = absurd (omega arith)
slice_get-set_same (x ∷ xs) zero k h = refl
slice_get-set_same (x ∷ xs) (suc n) k h = slice_get-set_same xs n k (omega arith)

slice_get-set_other : (xs : List ℕ) (n m k : ℕ) → (n ≡ m → ⊥) → slice_get (slice_set xs n k) m ≡ slice_get xs m
slice_get-set_other [] n m k e = refl
slice_get-set_other (x ∷ xs) zero zero k e = absurd (e refl)
slice_get-set_other (x ∷ xs) zero (suc m) k e = refl
slice_get-set_other (x ∷ xs) (suc n) zero k e = refl
slice_get-set_other (x ∷ xs) (suc n) (suc m) k e = slice_get-set_other xs n m k (λ same. e (ap suc same))

-- a number that no property has: neither the first one nor one behind it
pub absent_head : (p : Property) (ps : List Property) (n : ℕ) → has n (p ∷ ps) ≡ false → ((p.number == n) ≡ false) × (has n ps ≡ false)
absent_head p ps n e = go (p.number == n) e where
  go : (b : Bool) → is_some (if b then Some p else found n ps) ≡ false → (b ≡ false) × (has n ps ≡ false)
  go true absent = cc
  go false absent = (refl, absent)

-- the places of properties are not overwritten by the place of a number that none of them has
pub AreAt-set : (first : ℕ) (places : List ℕ) (ps : List Property) (n k : ℕ) → AreAt first places ps → has n ps ≡ false
    → AreAt first (slice_set places n k) ps
AreAt-set first places [] n k h e = tt
AreAt-set first places (p ∷ ps) n k h e =
    let absent = absent_head p ps n e in (
      slice_get-set_other places n p.number k (λ same. eqb-false p.number n absent.0 (sym same)) ∙ h.0,
      AreAt-set (first + 1) places ps n k h.1 absent.1,
    )

AreAt-last : (first : ℕ) (places : List ℕ) (ps : List Property) (p : Property) → AreAt first places ps →
    slice_get places p.number ≡ Some (first + length ps) → AreAt first places (ps ++ p ∷ [])
AreAt-last first places [] p h e =
    let here : first + 0 ≡ first = omega arith in (e ∙ ap (λ k. Some k) here, tt)
AreAt-last first places (q ∷ ps) p h e =
    let there : first + length (q ∷ ps) ≡ first + 1 + length ps = omega arith in
    (h.0, AreAt-last (first + 1) places ps p h.1 (e ∙ ap (λ k. Some k) there))

pub AreAt-push : (places : List ℕ) (ps : List Property) (p : Property) → AreAt 0 places ps → has p.number ps ≡ false →
    p.number < length places → AreAt 0 (slice_set places p.number (length ps)) (ps ++ p ∷ [])
AreAt-push places ps p h absent within =
    let here : 0 + length ps ≡ length ps = omega arith in
    AreAt-last 0 (slice_set places p.number (length ps)) ps p (AreAt-set 0 places ps p.number (length ps) h absent)
    (slice_get-set_same places p.number (length ps) within ∙ ap (λ k. Some k) (sym here))

pub AreAt-kept : (first : ℕ) (old new : List ℕ) (ps : List Property) → KeepsPlaces old new → AreAt first old ps → AreAt first new ps
AreAt-kept first old new [] k h = tt
AreAt-kept first old new (p ∷ ps) k h = (k.kept p.number first h.0, AreAt-kept (first + 1) old new ps k h.1)

-- a number that had a place has one still
AreCovered_one : (old new : List ℕ) (n : ℕ) → KeepsPlaces old new → n < length old → n < length new
AreCovered_one old new n k h = slice_get_within new n (get_or old n 0) (k.kept n (get_or old n 0) (slice_get-get_or old n 0 h))

pub AreCovered-kept : (old new : List ℕ) (ps : List Property) → KeepsPlaces old new → AreCovered old ps → AreCovered new ps
AreCovered-kept old new [] k h = tt
AreCovered-kept old new (p ∷ ps) k h = (AreCovered_one old new p.number k h.0, AreCovered-kept old new ps k h.1)

pub AreCovered-push : (places : List ℕ) (ps : List Property) (p : Property) → AreCovered places ps → p.number < length places →
    AreCovered places (ps ++ p ∷ [])
AreCovered-push places [] p h within = (within, tt)
AreCovered-push places (q ∷ ps) p h within = (h.0, AreCovered-push places ps p h.1 within)

pub AreCovered-set : (places : List ℕ) (ps : List Property) (n k : ℕ) → AreCovered places ps → AreCovered (slice_set places n k) ps
AreCovered-set places [] n k h = tt
AreCovered-set places (p ∷ ps) n k h = (omega (arith, length-set {A = ℕ}, h.0), AreCovered-set places ps n k h.1)

pub KeepsPlaces-then : (a b c : List ℕ) → KeepsPlaces a b → KeepsPlaces b c → KeepsPlaces a c
KeepsPlaces-then a b c h k = record { kept = λ n place is. k.kept n place (h.kept n place is) }

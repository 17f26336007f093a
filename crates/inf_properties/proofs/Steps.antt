-- One property more of a list that a loop goes over.
use Rattle.std.proofs.Common.{◌≡◌, ◌≤◌, ◌<◌, ◌+◌, ◌∷◌, ◌++◌, [], ℕ, List, true, length, get_or, take, drop, sym, ap, subst, ◌∙◌, arith}
use Rattle.std.proofs.Common.{length-take, slice_set, sum_by}
use Rattle.std.proofs.{lemmas.Bool.and_parts, lemmas.Bool.leb-true, lemmas.List.Sums.sum_by-cons, lemmas.List.drop_more}
use Rattle.std.proofs.{lemmas.List.take_more}
use Rattle.inf_properties.specs.{Properties.AreNew, Sizes.are_short, Sizes.is_short, declared.values.Property.Property}
use Rattle.inf_properties.specs.Places.{AreAt, AreCovered, KeepsPlaces}
use Rattle.inf_properties.proofs.Finding.{AreAt-push, AreCovered-kept, AreCovered-push, AreCovered-set}

taken : (ps : List Property) (i : ℕ) (p : Property) → i < length ps → p ≡ get_or ps i p → take (i + 1) ps ≡ take i ps ++ p ∷ []
taken ps i p h is = take_more ps i p h ∙ ap (λ q. take i ps ++ q ∷ []) (sym is)

left : (ps : List Property) (i : ℕ) (p : Property) → i < length ps → p ≡ get_or ps i p → drop i ps ≡ p ∷ drop (i + 1) ps
left ps i p h is = drop_more ps i p h ∙ ap (λ q. q ∷ drop (i + 1) ps) (sym is)

pub covered_step : (old new : List ℕ) (ps : List Property) (i : ℕ) (p : Property) → i < length ps → p ≡ get_or ps i p →
    KeepsPlaces old new → p.number < length new → AreCovered old (take i ps) → AreCovered new (take (i + 1) ps)
covered_step old new ps i p h is kept within covered = subst (AreCovered new) (sym (taken ps i p h is))
    (AreCovered-push new (take i ps) p (AreCovered-kept old new (take i ps) kept covered) within)

pub at_step : (places : List ℕ) (ps : List Property) (i : ℕ) (p : Property) → i < length ps → p ≡ get_or ps i p
    → AreAt 0 places (take i ps) → AreCovered places (drop i ps) → AreNew (take i ps) (drop i ps) → AreAt 0 (slice_set places p.number i)
    (take (i + 1) ps)
at_step places ps i p h is at covered once =
    let parts = subst (AreCovered places) (left ps i p h is) covered in
    let new = subst (AreNew (take i ps)) (left ps i p h is) once in
    let count : length (take i ps) ≡ i = omega (arith, length-take i ps) in
    subst (λ n. AreAt 0 (slice_set places p.number n) (take (i + 1) ps)) count
    (subst (AreAt 0 (slice_set places p.number (length (take i ps)))) (sym (taken ps i p h is))
    (AreAt-push places (take i ps) p at new.0 parts.0))

pub covered_rest : (places : List ℕ) (ps : List Property) (i n k : ℕ) (p : Property) → i < length ps → p ≡ get_or ps i p
    → AreCovered places (drop i ps) → AreCovered (slice_set places n k) (drop (i + 1) ps)
covered_rest places ps i n k p h is covered =
    let parts = subst (AreCovered places) (left ps i p h is) covered in
    AreCovered-set places (drop (i + 1) ps) n k parts.1

pub once_rest : (ps : List Property) (i : ℕ) (p : Property) → i < length ps → p ≡ get_or ps i p
    → AreNew (take i ps) (drop i ps) → AreNew (take (i + 1) ps) (drop (i + 1) ps)
once_rest ps i p h is once =
    let new = subst (AreNew (take i ps)) (left ps i p h is) once in
    subst (λ xs. AreNew xs (drop (i + 1) ps)) (sym (taken ps i p h is)) new.1

pub sum_step : (f : Property → ℕ) (ps : List Property) (i : ℕ) (p : Property) → i < length ps → p ≡ get_or ps i p
    → sum_by f (drop i ps) ≡ f p + sum_by f (drop (i + 1) ps)
sum_step f ps i p h is = ap (sum_by f) (left ps i p h is) ∙ sum_by-cons f p (drop (i + 1) ps)

pub short_step : (ps : List Property) (i : ℕ) (p : Property) → i < length ps → p ≡ get_or ps i p → are_short (drop i ps) ≡ true
    → (length p.values ≤ 32) × (are_short (drop (i + 1) ps) ≡ true)
short_step ps i p h is short =
    let parts = and_parts (is_short p) (are_short (drop (i + 1) ps)) (sym (ap are_short (left ps i p h is)) ∙ short) in
    (leb-true (length p.values) 32 parts.0, parts.1)

-- In rising texts those below one stand in front, so their number is where it is found by halves.
use Rattle.std.proofs.{lemmas.Bool.cases_lt, lemmas.Map.Keys.sorted_tail, lemmas.Map.Views.All-after_first}
use Rattle.std.proofs.Common.{◌≡◌, ◌∷◌, ◌≤◌, ◌<◌, ◌∙◌, ℕ, zero, suc, List, [], true, false, refl, sym, subst, arith, ap, inl, inr, Ordering}
use Rattle.std.proofs.Common.{length, slice_index_or, Less, Equal, Greater}
use Rattle.std.specs.{Cmp.IsTotalOrder, Cmp.Lexicographic.slice_cmp, List.AllWithin, List.Sorted.IsPartitionPoint}
use Rattle.std.specs.{List.Sorted.IsPartitionedBy, Ordering.is_lt, Ordering.nat_cmp, Ordering.ordering_reverse}
use Rattle.inf_dictionary.specs.Texts.{AreRising, Text, is_below, rank_of}

abbrev pub order : Text → Text → Ordering
order = slice_cmp nat_cmp

is_less : (o : Ordering) → is_lt o ≡ true → o ≡ Less
is_less Less h = refl
is_less Equal h = absurd (cc h)
is_less Greater h = absurd (cc h)

not_below : (r : Ordering) → r ≡ ordering_reverse r → is_lt r ≡ false
not_below Less e = absurd (cc e)
not_below Equal e = refl
not_below Greater e = refl

-- a text before one that is below another is below that, too
pub parted : IsTotalOrder order → (text : Text) (texts : List Text) → AreRising texts → IsPartitionedBy (λ other. is_below other text) texts
parted total text [] rising i j d le lt below = absurd (omega (arith, lt))
parted total text (first ∷ texts) rising zero zero d le lt below = below
parted total text (first ∷ texts) rising (suc i) zero d le lt below = absurd (omega (arith, le))
parted total text (first ∷ texts) rising zero (suc j) d le lt below =
    ap is_lt (total.trans first (slice_index_or texts j d) text (All-after_first order first texts rising j d (omega (arith, lt)))
    (is_less (order (slice_index_or texts j d) text) below))
parted total text (first ∷ texts) rising (suc i) (suc j) d le lt below =
    parted total text texts (sorted_tail order first texts rising) i j d (omega (arith, le)) (omega (arith, lt)) below

-- a place with those below before it and the others behind it is the rank
pub rank_is : (text : Text) (texts : List Text) (i : ℕ) → i ≤ length texts
    → IsPartitionPoint (λ other. is_below other text ≡ true) (λ other. is_below other text ≡ false) texts i → i ≡ rank_of text texts
rank_is text [] i within parts = omega (arith, within)
rank_is text (first ∷ texts) zero within parts =
    let above : is_below first text ≡ false = parts.1 0 first (omega arith) (omega arith) in
    rw above (rank_is text texts zero (omega arith)
    ((λ k d from to. absurd (omega (arith, to))), (λ k d from to. parts.1 (suc k) d (omega arith) (omega (arith, to)))))
rank_is text (first ∷ texts) (suc i) within parts =
    let below : is_below first text ≡ true = parts.0 0 first (omega arith) (omega arith) in
    let rest : i ≡ rank_of text texts = rank_is text texts i (omega (arith, within)) (
      (λ k d from to. parts.0 (suc k) d (omega arith) (omega (arith, to))),
      (λ k d from to. parts.1 (suc k) d (omega (arith, from)) (omega (arith, to))),
    ) in
    rw below (omega (arith, rest))

pub later_is_above : (texts : List Text) → AreRising texts → (i j : ℕ) (d : Text) → i < j → j < length texts
    → order (slice_index_or texts i d) (slice_index_or texts j d) ≡ Less
later_is_above [] rising i j d up within = absurd (omega (arith, within))
later_is_above (first ∷ texts) rising i zero d up within = absurd (omega (arith, up))
later_is_above (first ∷ texts) rising zero (suc j) d up within = All-after_first order first texts rising j d (omega (arith, within))
later_is_above (first ∷ texts) rising (suc i) (suc j) d up within =
    later_is_above texts (sorted_tail order first texts rising) i j d (omega (arith, up)) (omega (arith, within))

-- the text at a place has this place for its rank
pub rank_at : IsTotalOrder order → (text : Text) (texts : List Text) (i : ℕ) → AreRising texts → i < length texts
    → ((d : Text) → slice_index_or texts i d ≡ text) → rank_of text texts ≡ i
rank_at total text texts i rising within is = sym (rank_is text texts i (omega (arith, within)) (before, behind)) where
  before : AllWithin (λ other. is_below other text ≡ true) texts 0 i
  before k d from to =
      ap is_lt (subst (λ y. order (slice_index_or texts k d) y ≡ Less) (is d) (later_is_above texts rising k i d to within))

  behind : AllWithin (λ other. is_below other text ≡ false) texts i (length texts)
  behind k d from to = elim (cases_lt i k) [
    | inl up ↦ ap is_lt (total.antisymm (slice_index_or texts k d) text
        ∙ ap ordering_reverse (subst (λ y. order y (slice_index_or texts k d) ≡ Less) (is d) (later_is_above texts rising i k d up to)))
    | inr down ↦
        let same : k ≡ i = omega arith in rw same (rw (is d) (not_below (order text text) (total.antisymm text text)))
  ]

-- whatever stands for one that is not there, one that is there is the same
pub any_default : (texts : List Text) (i : ℕ) (d e : Text) → i < length texts → slice_index_or texts i d ≡ slice_index_or texts i e
any_default [] i d e within = absurd (omega (arith, within))
any_default (first ∷ texts) zero d e within = refl
any_default (first ∷ texts) (suc i) d e within = any_default texts i d e (omega (arith, within))

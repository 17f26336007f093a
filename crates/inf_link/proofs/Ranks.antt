-- The place of a text among texts in rising order is the number of those below it.
use Rattle.std.proofs.Common.{◌≡◌, ◌∷◌, ◌+◌, ◌≤◌, ◌∙◌, Bool, if◌then◌else◌, ℕ, zero, suc, List, [], true, false, refl, sym, ap, arith}
use Rattle.std.proofs.Common.{Ordering, length, slice_index_or, Less, Equal, Greater, sum_by, nat_cmp, is_lt, IsSorted, IsPermutation}
use Rattle.std.proofs.{lemmas.Cmp.lists_total, lemmas.Cmp.nat_cmp_total, lemmas.List.Sums.sum_by-cons}
use Rattle.std.proofs.lemmas.List.Sorted.{sorted_far, ranks_by, sum_by-IsPermutation}
use Rattle.std.specs.{Cmp.IsTotalOrder, Cmp.Lexicographic.slice_cmp, Ordering.ordering_reverse}
use Rattle.std.specs.List.Sorted.{IsPartitionPoint, IsPartitionedBy}
use Rattle.inf_link.specs.Targets.{Text, rank_of, is_below}

abbrev cmp : Text → Text → Ordering
cmp = slice_cmp nat_cmp

order : IsTotalOrder cmp
order = lists_total nat_cmp_total

-- a text `x` is below `z` where `y` is below `z` and not below `x`
below_too : (x y z : Text) → is_below y x ≡ false → is_below y z ≡ true → is_below x z ≡ true
below_too x y z not_below below = go (cmp y x) refl where
  less : (o : Ordering) → is_lt o ≡ true → o ≡ Less
  less Less h = refl
  less Equal h = absurd (cc h)
  less Greater h = absurd (cc h)

  go : (o : Ordering) → o ≡ cmp y x → is_below x z ≡ true
  go Less e = absurd (cc (ap is_lt e, not_below))
  go Equal e = ap is_lt (sym (order.congr y x z (sym e)) ∙ less (cmp y z) below)
  go Greater e = ap is_lt (order.trans x y z (order.antisymm x y ∙ ap ordering_reverse (sym e)) (less (cmp y z) below))

partitioned : (text : Text) (words : List Text) → IsSorted cmp words → IsPartitionedBy (λ word. is_below word text) words
partitioned text words sorted i j d le lt h = below_too (slice_index_or words i d) (slice_index_or words j d) text
    (sorted_far (λ x y. is_lt (cmp x y)) (ranks_by order (λ x. x)) words sorted i j d le lt) h

counted : (text : Text) (words : List Text) (i : ℕ) → i ≤ length words →
    IsPartitionPoint (λ word. is_below word text ≡ true) (λ word. is_below word text ≡ false) words i → i ≡ rank_of text words
counted text [] i le point = omega (arith, le)
counted text (word ∷ words) zero le point =
    let head : is_below word text ≡ false = point.1 0 word (omega arith) (omega arith) in
    rw head (counted text words zero (omega arith)
    ((λ k d lo hi. absurd (omega (arith, hi))), (λ k d lo hi. point.1 (suc k) d (omega arith) (omega (arith, hi)))))
counted text (word ∷ words) (suc i) le point =
    let head : is_below word text ≡ true = point.0 0 word (omega arith) (omega arith) in
    let rest : i ≡ rank_of text words = counted text words i (omega (arith, le)) (
      (λ k d lo hi. point.0 (suc k) d (omega arith) (omega (arith, hi))),
      (λ k d lo hi. point.1 (suc k) d (omega (arith, lo)) (omega (arith, hi))),
    ) in
    rw head (omega (arith, rest))

-- the partition point of the words below a text
pub partition_point-rank : (text : Text) (words : List Text) (i : ℕ) → IsSorted cmp words → i ≤ length words
    → (IsPartitionedBy (λ word. is_below word text) words → IsPartitionPoint (λ word. is_below word text ≡ true)
    (λ word. is_below word text ≡ false) words i) → i ≡ rank_of text words
partition_point-rank text words i sorted le point = counted text words i le (point (partitioned text words sorted))

-- one where a word is below a text, and none where it is not
abbrev counts : Text → Text → ℕ
counts text word = if is_below word text then 1 else 0

rank_of-sum : (text : Text) (words : List Text) → rank_of text words ≡ sum_by (counts text) words
rank_of-sum text [] = refl
rank_of-sum text (word ∷ words) = go (is_below word text) (rank_of-sum text words) ∙ sym (sum_by-cons (counts text) word words) where
  go : (b : Bool) → rank_of text words ≡ sum_by (counts text) words →
      (if b then rank_of text words + 1 else rank_of text words) ≡ (if b then 1 else 0) + sum_by (counts text) words
  go true others = omega (arith, others)
  go false others = omega (arith, others)

-- the order of the texts does not matter
pub rank_of-permutation : (text : Text) (words others : List Text) → IsPermutation words others → rank_of text others ≡ rank_of text words
rank_of-permutation text words others moved =
    rank_of-sum text others ∙ sum_by-IsPermutation (counts text) words others moved ∙ sym (rank_of-sum text words)

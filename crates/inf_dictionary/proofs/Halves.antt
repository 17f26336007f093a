-- A word is found by halves where it stands, and none is found that is not there.
use Rattle.std.proofs.Common.{◌≡◌, ◌∷◌, ◌≤◌, ◌<◌, ◌+◌, ◌∙◌, ℕ, zero, suc, List, [], Bool, true, false, cond, refl, arith, ap, inl, inr}
use Rattle.std.proofs.Common.{Ordering, length, slice_index_or, Less, Equal, Greater, Option, Some, None, is_eq, if◌then◌else◌}
use Rattle.std.proofs.lemmas.Bool.{cases_lt, le-leb, lt-leb}
use Rattle.std.specs.{BTreeMap.is_at, Cmp.IsTotalOrder, Map.lookup, Ordering.match_ordering, Ordering.ordering_reverse}
use Rattle.inf_dictionary.specs.{Lookup.found_by_halves, Lookup.half_way, Lookup.text_written, Texts.AreRising, Texts.Text, Texts.texts_of}
use Rattle.inf_dictionary.specs.{declared.uses.Word.Word}
use Rattle.inf_dictionary.proofs.Ranks.{later_is_above, order}

half_from : (first end : ℕ) → first ≤ half_way first end
half_from first end = omega arith

half_below : (first end : ℕ) → first < end → half_way first end < end
half_below first end h = omega (arith, h)

itself : (o : Ordering) → o ≡ ordering_reverse o → o ≡ Equal
itself Less e = absurd (cc e)
itself Equal e = refl
itself Greater e = absurd (cc e)

-- the result of a step, by how the text compares to the one half way
step_is : (steps : ℕ) (bytes : List ℕ) (text half : Text) (first end : ℕ) (o : Ordering) → first < end →
    text_written bytes (half_way first end) ≡ half → order text half ≡ o → found_by_halves (suc steps) bytes text first end
    ≡ match_ordering o (found_by_halves steps bytes text first (half_way first end)) (Some (half_way first end))
    (found_by_halves steps bytes text (half_way first end + 1) end)
step_is steps bytes text half first end o some stands compares =
    let low = found_by_halves steps bytes text first (half_way first end) in
    let high = found_by_halves steps bytes text (half_way first end + 1) end in let here = Some (half_way first end) in
    ap (λ (b : Bool). if b then None else match_ordering (order text (text_written bytes (half_way first end))) low here high)
    (lt-leb end first some) ∙ ap (λ t. match_ordering (order text t) low here high) stands
    ∙ ap (λ r. match_ordering r low here high) compares

pub found_where_it_stands : IsTotalOrder order → (bytes : List ℕ) (texts : List Text) (place : ℕ) → AreRising texts
    → ((k : ℕ) → k < length texts → text_written bytes k ≡ slice_index_or texts k [])
    → (steps first end : ℕ) → first ≤ place → place < end → end ≤ length texts → end ≤ first + steps
    → found_by_halves steps bytes (slice_index_or texts place []) first end ≡ Some place
found_where_it_stands total bytes texts place rising are zero first end low up most few = absurd (omega (arith, low, up, few))
found_where_it_stands total bytes texts place rising are (suc steps) first end low up most few =
    let middle = half_way first end in let text = slice_index_or texts place [] in
    let some : first < end = omega (arith, low, up) in let below : middle < end = half_below first end some in
    let there : middle < length texts = omega (arith, below, most) in
    elim (cases_lt place middle) [
      | inl lower ↦
          step_is steps bytes text (slice_index_or texts middle []) first end Less some (are middle there)
          (later_is_above texts rising place middle [] lower there)
          ∙ found_where_it_stands total bytes texts place rising are steps first middle low lower (omega (arith, there))
          (omega (arith, below, few))
      | inr upper ↦ elim (cases_lt middle place) [
        | inl above ↦
            step_is steps bytes text (slice_index_or texts middle []) first end Greater some (are middle there)
            (total.antisymm text (slice_index_or texts middle []) ∙ ap ordering_reverse
            (later_is_above texts rising middle place [] above (omega (arith, up, most))))
            ∙ found_where_it_stands total bytes texts place rising are steps (middle + 1) end (omega (arith, above)) up most
            (omega (arith, half_from first end, few))
        | inr same ↦
            let is : middle ≡ place = omega (arith, upper, same) in
            step_is steps bytes text text first end Equal some (are middle there ∙ ap (λ k. slice_index_or texts k []) is)
            (itself (order text text) (total.antisymm text text)) ∙ ap Some is
      ]
    ]

-- no text that is there is the one
other_in : (text : Text) (e : Text × Word) (words : List (Text × Word)) (k : ℕ) (b : Bool) → k < length (e ∷ words) →
    is_eq (order text e.0) ≡ b → cond b (Some e.1) (lookup (is_at (order text)) words) ≡ None
    → ((n : ℕ) → lookup (is_at (order text)) words ≡ None → n < length words → is_eq (order text (slice_index_or (texts_of words) n [])) ≡
    false) → is_eq (order text (slice_index_or (texts_of (e ∷ words)) k [])) ≡ false
other_in text e words k true h is none rest = absurd (cc none)
other_in text e words zero false h is none rest = is
other_in text e words (suc k) false h is none rest = rest k none (omega (arith, h))

pub other_at : (text : Text) (words : List (Text × Word)) (k : ℕ) → lookup (is_at (order text)) words ≡ None → k < length words
    → is_eq (order text (slice_index_or (texts_of words) k [])) ≡ false
other_at text [] k none h = absurd (omega (arith, h))
other_at text (e ∷ words) k none h =
    other_in text e words k (is_eq (order text e.0)) h refl none (λ n gone below. other_at text words n gone below)

-- a step goes on where the text half way is not the one
on_both : (o : Ordering) (low here high : Option ℕ) → is_eq o ≡ false → low ≡ None → high ≡ None → match_ordering o low here high ≡ None
on_both Less low here high e l h = l
on_both Equal low here high e l h = absurd (cc e)
on_both Greater low here high e l h = h

pub none_found : (bytes : List ℕ) (text : Text) (texts : List Text)
    → ((k : ℕ) → k < length texts → text_written bytes k ≡ slice_index_or texts k [])
    → ((k : ℕ) → k < length texts → is_eq (order text (slice_index_or texts k [])) ≡ false)
    → (steps first end : ℕ) → end ≤ length texts → found_by_halves steps bytes text first end ≡ None
none_found bytes text texts are others zero first end most = refl
none_found bytes text texts are others (suc steps) first end most =
    let middle = half_way first end in let low = found_by_halves steps bytes text first middle in
    let high = found_by_halves steps bytes text (middle + 1) end in
    elim (cases_lt first end) [
      | inl some ↦
          let there : middle < length texts = omega (arith, half_below first end some, most) in
          step_is steps bytes text (slice_index_or texts middle []) first end (order text (slice_index_or texts middle [])) some
          (are middle there) refl ∙ on_both (order text (slice_index_or texts middle [])) low (Some middle) high (others middle there)
          (none_found bytes text texts are others steps first middle (omega (arith, there)))
          (none_found bytes text texts are others steps (middle + 1) end most)
      | inr none ↦
          ap (λ (b : Bool). if b then None else match_ordering (order text (text_written bytes middle)) low (Some middle) high)
          (le-leb end first none)
    ]

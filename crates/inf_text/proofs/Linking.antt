-- The items that texts have in common, where one follows the other.
use Rattle.std.proofs.Common.{◌≡◌, ◌≢◌, ◌<◌, ◌≤◌, ◌+◌, ℕ, zero, suc, Bool, true, false, ◌&&◌, ◌||◌, cond, eqb, Option, List, [], ◌∷◌}
use Rattle.std.proofs.Common.{length, take, drop, get_or, min, refl, sym, ap, ◌∙◌, inl, inr, arith, ◌⊎◌}
use Rattle.std.proofs.{lemmas.Bool.Decides.eqb_tells, lemmas.Bool.Decides.nat_tests, lemmas.Bool.cases_lt, lemmas.List.drop_all}
use Rattle.std.proofs.{lemmas.List.get_or_read}
use Rattle.inf_characters.specs.{Items.same_item, declared.texts.TextItem.TextItem}
use Rattle.inf_text.specs.{Packing.begins_with, declared.index.Link.Link}
use Rattle.inf_text.specs.Searching.{AreBelow, AreLinked, HaveLinks, IsLink, best_of, code_of, common, first_code, linked_from, pick}
use Rattle.inf_text.specs.Searching.{text_at, tried}
use Rattle.inf_text.proofs.Cutting.{same_item-true}

pub common-fits_left : (xs ys : List TextItem) → common xs ys ≤ length xs
common-fits_left xs [] = omega arith
common-fits_left [] (y ∷ ys) = omega arith
common-fits_left (x ∷ xs) (y ∷ ys) = go (same_item x y) (common-fits_left xs ys) where
  go : (t : Bool) → common xs ys ≤ length xs → cond t (1 + common xs ys) 0 ≤ length (x ∷ xs)
  go true h = omega arith
  go false h = omega arith

pub common-fits_right : (xs ys : List TextItem) → common xs ys ≤ length ys
common-fits_right xs [] = omega arith
common-fits_right [] (y ∷ ys) = omega arith
common-fits_right (x ∷ xs) (y ∷ ys) = go (same_item x y) (common-fits_right xs ys) where
  go : (t : Bool) → common xs ys ≤ length ys → cond t (1 + common xs ys) 0 ≤ length (y ∷ ys)
  go true h = omega arith
  go false h = omega arith

-- items begin with a text that they have whole in common with it
pub begins_with_common : (items a : List TextItem) → begins_with items a ≡ eqb (common items a) (length a)
begins_with_common items [] = refl
begins_with_common [] (y ∷ ys) = grind (arith, nat_tests)
begins_with_common (x ∷ xs) (y ∷ ys) = go (same_item x y) (begins_with_common xs ys) where
  go : (t : Bool) → begins_with xs ys ≡ eqb (common xs ys) (length ys) →
      (t && begins_with xs ys) ≡ eqb (cond t (1 + common xs ys) 0) (length (y ∷ ys))
  go true h = h ∙ grind (arith, nat_tests)
  go false h = grind (arith, nat_tests)

same-before : (x y z : TextItem) (t : Bool) → same_item x y ≡ true → same_item y z ≡ t → same_item x z ≡ t
same-before x y z t e f = rw (same_item-true x y e) f

same-behind : (x y z : TextItem) (t : Bool) → same_item x y ≡ t → same_item y z ≡ true → same_item x z ≡ t
same-behind x y z t e f = rw (← same_item-true y z f) e

-- items, that leave a text before its neighbour does, leave the neighbour there too
pub common_less : (items p a : List TextItem) → common items p < common p a → common items a ≡ common items p
common_less items p [] lt = absurd (omega arith)
common_less items [] (z ∷ a) lt = absurd (omega arith)
common_less [] (y ∷ p) (z ∷ a) lt = refl
common_less (x ∷ items) (y ∷ p) (z ∷ a) lt = go (same_item x y) refl (same_item y z) refl (common_less items p a) lt where
  go : (u : Bool) → same_item x y ≡ u → (v : Bool) → same_item y z ≡ v → (common items p < common p a → common items a ≡ common items p) →
      cond u (1 + common items p) 0 < cond v (1 + common p a) 0 →
      cond (same_item x z) (1 + common items a) 0 ≡ cond u (1 + common items p) 0
  go u e false f h lt = absurd (omega arith)
  go true e true f h lt = rw (same-before x y z true e f, h (omega arith)) refl
  go false e true f h lt = rw (same-behind x y z false e f) refl

-- items that leave a text behind the place where its neighbour does leave the neighbour where the neighbour leaves the text
pub common_more : (items p a : List TextItem) → common p a < common items p → common items a ≡ common p a
common_more items p [] lt = refl
common_more items [] (z ∷ a) lt = absurd (omega arith)
common_more [] (y ∷ p) (z ∷ a) lt = absurd (omega arith)
common_more (x ∷ items) (y ∷ p) (z ∷ a) lt = go (same_item x y) refl (same_item y z) refl (common_more items p a) lt where
  go : (u : Bool) → same_item x y ≡ u → (v : Bool) → same_item y z ≡ v → (common p a < common items p → common items a ≡ common p a) →
      cond v (1 + common p a) 0 < cond u (1 + common items p) 0 → cond (same_item x z) (1 + common items a) 0 ≡ cond v (1 + common p a) 0
  go false e v f h lt = absurd (omega arith)
  go true e true f h lt = rw (same-before x y z true e f, h (omega arith)) refl
  go true e false f h lt = rw (same-before x y z false e f) refl

-- items that leave a text where its neighbour does may have more in common with the neighbour
pub common_same : (items p a : List TextItem) → common p a ≡ common items p → common items p ≤ common items a
common_same items p [] is = omega arith
common_same items [] (z ∷ a) is = omega arith
common_same [] (y ∷ p) (z ∷ a) is = omega arith
common_same (x ∷ items) (y ∷ p) (z ∷ a) is = go (same_item x y) refl (same_item y z) refl (common_same items p a) is where
  go : (u : Bool) → same_item x y ≡ u → (v : Bool) → same_item y z ≡ v → (common p a ≡ common items p → common items p ≤ common items a) →
      cond v (1 + common p a) 0 ≡ cond u (1 + common items p) 0 →
      cond u (1 + common items p) 0 ≤ cond (same_item x z) (1 + common items a) 0
  go false e v f h is = omega arith
  go true e true f h is = rw (same-before x y z true e f) (omega (arith, h (omega arith)))
  go true e false f h is = absurd (omega arith)

-- the items in common behind the first `k`, and those `k`, are all that are in common
pub common-drop : (k : ℕ) (xs ys : List TextItem) → k ≤ common xs ys → k + common (drop k xs) (drop k ys) ≡ common xs ys
common-drop zero xs ys le = omega arith
common-drop (suc k) xs [] le = absurd (omega arith)
common-drop (suc k) [] (y ∷ ys) le = absurd (omega arith)
common-drop (suc k) (x ∷ xs) (y ∷ ys) le = go (same_item x y) (common-drop k xs ys) le where
  go : (t : Bool) → (k ≤ common xs ys → k + common (drop k xs) (drop k ys) ≡ common xs ys) → suc k ≤ cond t (1 + common xs ys) 0 →
      suc k + common (drop k xs) (drop k ys) ≡ cond t (1 + common xs ys) 0
  go true h le = omega (arith, h (omega arith))
  go false h le = absurd (omega arith)

-- the state of the search: behind the text `before`, which has its first `matched` items in common with the items
pub record Searches (texts : List (List TextItem)) (items : List TextItem) (matched : ℕ) (best : Option (ℕ × ℕ)) (links : List Link)
    (whole : Option (ℕ × ℕ)) : Type 0 where
  pub before : List TextItem
  pub matched_is : matched ≡ common items before
  pub linked : AreLinked texts before links
  pub value : best_of texts items best links ≡ whole

-- the search goes on behind one more text, looked at or passed over
pub Searches-more : (texts : List (List TextItem)) (items : List TextItem) (matched next : ℕ) (best better : Option (ℕ × ℕ))
    (links rest : List Link) (l : Link) (whole : Option (ℕ × ℕ)) → links ≡ l ∷ rest → next ≡ common items (text_at texts l.number) → better
    ≡ tried items best l.number (text_at texts l.number) → Searches texts items matched best links whole → Searches texts items next better
    rest whole
Searches-more texts items matched next best better links rest l whole split next_is better_is h =
    let linked : AreLinked texts h.before (l ∷ rest) = rw split at h.linked in
    let value : best_of texts items best (l ∷ rest) ≡ whole = rw split at h.value in
    record { before = text_at texts l.number; matched_is = next_is; linked = linked.2; value = rw better_is value }

-- the next text is one of the texts, and its link says what is in common with it
pub record IsNext (texts : List (List TextItem)) (items : List TextItem) (matched : ℕ) (l : Link) : Type 0 where
  pub within : l.number < length texts
  pub before : List TextItem
  pub matched_is : matched ≡ common items before
  pub link : IsLink (text_at texts l.number) before l

pub Searches-next : (texts : List (List TextItem)) (items : List TextItem) (matched : ℕ) (best : Option (ℕ × ℕ)) (links rest : List Link)
    (l : Link) (whole : Option (ℕ × ℕ)) → links ≡ l ∷ rest → Searches texts items matched best links whole → IsNext texts items matched l
Searches-next texts items matched best links rest l whole split h =
    let linked : AreLinked texts h.before (l ∷ rest) = rw split at h.linked in
    record { within = linked.0; before = h.before; matched_is = h.matched_is; link = linked.1 }

-- the items in common with the next text, where that leaves the text before it at the place where the items do
pub goes_on : (texts : List (List TextItem)) (items : List TextItem) (matched : ℕ) (l : Link) (a : List TextItem) →
    a ≡ text_at texts l.number → l.shared ≡ matched → IsNext texts items matched l →
    matched + common (drop matched items) (drop matched a) ≡ common items a
goes_on texts items matched l a is same h =
    let shared : l.shared ≡ common h.before a = rw is h.link.shared in
    let within : matched ≤ common items a = rw h.matched_is (common_same items h.before a (sym shared ∙ same ∙ h.matched_is)) in
    common-drop matched items a within

-- the items in common with the next text, where that leaves the text before it at an earlier place
pub shorter : (texts : List (List TextItem)) (items : List TextItem) (matched : ℕ) (l : Link) → l.shared < matched →
    IsNext texts items matched l → l.shared ≡ common items (text_at texts l.number)
shorter texts items matched l less h =
    let a = text_at texts l.number in
    let left : common h.before a < common items h.before = rw (← h.link.shared, ← h.matched_is) less in
    h.link.shared ∙ sym (common_more items h.before a left)

-- texts that begin with other codes have nothing in common
apart : (xs ys : List TextItem) → first_code ys ≢ first_code xs → common xs ys ≡ 0
apart xs [] other = refl
apart [] (y ∷ ys) other = refl
apart (x ∷ xs) (y ∷ ys) other = go (same_item x y) refl where
  go : (t : Bool) → same_item x y ≡ t → cond t (1 + common xs ys) 0 ≡ 0
  go true e = absurd (other (ap code_of (sym (same_item-true x y e))))
  go false e = refl

not_tried : (items a : List TextItem) (best : Option (ℕ × ℕ)) (n : ℕ) → common items a < length a → best ≡ tried items best n a
not_tried items a best n short =
    let not_whole : eqb (common items a) (length a) ≡ false = grind (arith, nat_tests) in
    sym (ap (λ (t : Bool). cond t (pick best n (length a)) best) not_whole)

-- the items in common with the next text, where that goes on with another code
pub stays : (texts : List (List TextItem)) (items : List TextItem) (matched : ℕ) (l : Link) (best : Option (ℕ × ℕ)) → l.shared ≡ matched →
    l.len ≢ matched → l.next ≢ first_code (drop matched items) → IsNext texts items matched l →
    (matched ≡ common items (text_at texts l.number)) × (best ≡ tried items best l.number (text_at texts l.number))
stays texts items matched l best same longer other h =
    let a = text_at texts l.number in let next : l.next ≡ first_code (drop matched a) = rw (← same) h.link.next in
    let none : common (drop matched items) (drop matched a) ≡ 0 = apart (drop matched items) (drop matched a) (λ e. other (next ∙ e)) in
    let whole : matched + common (drop matched items) (drop matched a) ≡ common items a = goes_on texts items matched l a refl same h in
    let at : matched ≡ common items a = omega arith in
    let fits : matched ≤ length a = omega (arith, common-fits_right items a) in
    let short : common items a < length a = omega (arith, h.link.len, longer) in
    (at, not_tried items a best l.number short)

-- a text that has more in common with the one before it is not whole
pub passed_over : (texts : List (List TextItem)) (items : List TextItem) (matched : ℕ) (l : Link) (best : Option (ℕ × ℕ)) →
    matched < l.shared → IsNext texts items matched l →
    (matched ≡ common items (text_at texts l.number)) × (best ≡ tried items best l.number (text_at texts l.number))
passed_over texts items matched l best lt h =
    let a = text_at texts l.number in
    let less : common items h.before < common h.before a = rw (← h.link.shared, ← h.matched_is) lt in
    let same : common items a ≡ common items h.before = common_less items h.before a less in
    let at : matched ≡ common items a = h.matched_is ∙ sym same in
    let short : common items a < length a = omega (arith, common-fits_right h.before a) in
    (at, not_tried items a best l.number short)

-- the links of an order are right
pub AreLinked-from : (texts : List (List TextItem)) (before : List TextItem) (order : List ℕ) → AreBelow (length texts) order →
    AreLinked texts before (linked_from texts before order)
AreLinked-from texts before [] h = tt
AreLinked-from texts before (n ∷ order) h = (
  h 0 (omega arith),
  record { len = refl; shared = refl; next = refl },
  AreLinked-from texts (text_at texts n) order (λ j lt. h (suc j) (omega arith)),
)

AreLinked-drop : (texts : List (List TextItem)) (before : List TextItem) (n : ℕ) (links : List Link) → AreLinked texts before links →
    HaveLinks texts (drop n links)
AreLinked-drop texts before zero links h = record { before = before; linked = h }
AreLinked-drop texts before (suc n) [] h = record { before = before; linked = tt }
AreLinked-drop texts before (suc n) (l ∷ links) h = AreLinked-drop texts (text_at texts l.number) n links h.2

AreLinked-take : (texts : List (List TextItem)) (before : List TextItem) (n : ℕ) (links : List Link) → AreLinked texts before links →
    AreLinked texts before (take n links)
AreLinked-take texts before zero links h = tt
AreLinked-take texts before (suc n) [] h = tt
AreLinked-take texts before (suc n) (l ∷ links) h = (h.0, h.1, AreLinked-take texts (text_at texts l.number) n links h.2)

-- the links of a part of an order are right
pub HaveLinks-part : (texts : List (List TextItem)) (order : List ℕ) (start n : ℕ) → AreBelow (length texts) order →
    HaveLinks texts (take n (drop start (linked_from texts [] order)))
HaveLinks-part texts order start n h =
    let rest = AreLinked-drop texts [] start (linked_from texts [] order) (AreLinked-from texts [] order h) in
    record { before = rest.before; linked = AreLinked-take texts rest.before n (drop start (linked_from texts [] order)) rest.linked }

pub length-linked : (texts : List (List TextItem)) (before : List TextItem) (order : List ℕ) →
    length (linked_from texts before order) ≡ length order
length-linked texts before [] = refl
length-linked texts before (n ∷ order) = omega (arith, length-linked texts (text_at texts n) order)

-- a link has the number that stands at its place
pub number_at : (texts : List (List TextItem)) (before : List TextItem) (order : List ℕ) (j : ℕ) (d : Link) → j < length order →
    (get_or (linked_from texts before order) j d).number ≡ get_or order j 0
number_at texts before [] j d lt = absurd (omega arith)
number_at texts before (n ∷ order) zero d lt = refl
number_at texts before (n ∷ order) (suc j) d lt = number_at texts (text_at texts n) order j d (omega arith)

-- an item of a list of texts is the text of its number
pub text_is : (texts : List (List TextItem)) (n k : ℕ) (x a : List TextItem) → a ≡ x → x ≡ get_or texts k x → k ≡ n → n < length texts →
    a ≡ text_at texts n
text_is texts n k x a same at is lt =
    let lt' : k < length texts = omega arith in same ∙ get_or_read texts k x lt' at [] ∙ ap (text_at texts) is

-- trying a text by its number and its length is trying the text
pub taken_is : (items text : List TextItem) (best : Option (ℕ × ℕ)) (k n matched len : ℕ) → matched ≡ common items text → k ≡ n →
    len ≡ length text → cond (eqb matched len) (pick best k len) best ≡ tried items best n text
taken_is items text best k n matched len is number long = rw (is, number, long) refl

-- the items in common with the text before the next one fit the next one
pub fits_next : (texts : List (List TextItem)) (items : List TextItem) (matched : ℕ) (l : Link) (a : List TextItem) →
    a ≡ text_at texts l.number → l.shared ≡ matched → IsNext texts items matched l → matched ≤ length a
fits_next texts items matched l a is same h = rw is (omega (arith, h.link.shared, common-fits_right h.before (text_at texts l.number)))

-- nothing is in common behind the end of one of two texts
common-none : (ys : List TextItem) → common [] ys ≡ 0
common-none [] = refl
common-none (y ∷ ys) = refl

pub common-end : (xs ys : List TextItem) (k : ℕ) → min (length xs) (length ys) ≤ k → common (drop k xs) (drop k ys) ≡ 0
common-end xs ys k le = go (cases_lt k (length xs)) where
  go : (k < length xs) ⊎ (length xs ≤ k) → common (drop k xs) (drop k ys) ≡ 0
  go (inl lt) = rw (drop_all k ys (omega arith)) refl
  go (inr ge) = rw (drop_all k xs ge) (common-none (drop k ys))

-- a text may go on only where it leaves the one before it at the place where the items do
pub going_on : (l : Link) (matched code : ℕ) → (eqb l.shared matched && (eqb l.len matched || eqb l.next code)) ≡ true → l.shared ≡ matched
going_on l matched code h = let e : eqb l.shared matched ≡ true = left (eqb l.shared matched) _ h in grind (arith, nat_tests) where
  left : (a b : Bool) → (a && b) ≡ true → a ≡ true
  left true b h = refl
  left false b h = cc

pub not_going_on : (texts : List (List TextItem)) (items : List TextItem) (matched code : ℕ) (l : Link) (best : Option (ℕ × ℕ)) →
    code ≡ first_code (drop matched items) → (eqb l.shared matched && (eqb l.len matched || eqb l.next code)) ≡ false → matched ≤ l.shared →
    IsNext texts items matched l →
    (matched ≡ common items (text_at texts l.number)) × (best ≡ tried items best l.number (text_at texts l.number))
not_going_on texts items matched code l best is fails le h =
    go (eqb_tells l.shared matched) (eqb_tells l.len matched) (eqb_tells l.next (first_code (drop matched items)))
    (ap (λ (n : ℕ). eqb l.shared matched && (eqb l.len matched || eqb l.next n)) (sym is) ∙ fails)
  where
    go : ((eqb l.shared matched ≡ true) × (l.shared ≡ matched)) ⊎ ((eqb l.shared matched ≡ false) × (l.shared ≢ matched)) →
        ((eqb l.len matched ≡ true) × (l.len ≡ matched)) ⊎ ((eqb l.len matched ≡ false) × (l.len ≢ matched)) →
        ((eqb l.next (first_code (drop matched items)) ≡ true) × (l.next ≡ first_code (drop matched items))) ⊎
        ((eqb l.next (first_code (drop matched items)) ≡ false) × (l.next ≢ first_code (drop matched items))) →
        (eqb l.shared matched && (eqb l.len matched || eqb l.next (first_code (drop matched items)))) ≡ false →
        (matched ≡ common items (text_at texts l.number)) × (best ≡ tried items best l.number (text_at texts l.number))
    go (inr (e, other)) b n fails = passed_over texts items matched l best (omega arith) h
    go (inl (e, same)) (inl (f, whole)) n fails = absurd (let bad : true ≡ false = rw (e, f) at fails in cc)
    go (inl (e, same)) (inr (f, longer)) (inl (g, equal)) fails = absurd (let bad : true ≡ false = rw (e, f, g) at fails in cc)
    go (inl (e, same)) (inr (f, longer)) (inr (g, other)) fails = stays texts items matched l best same longer other h

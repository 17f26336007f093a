-- Where the texts stand that begin with a code, and the order of the search.
use Rattle.std.proofs.Common.{◌≡◌, ◌≢◌, ◌<◌, ◌≤◌, ◌+◌, ◌-◌, ℕ, zero, suc, Bool, true, false, eqb, List, [], ◌∷◌, length, get_or, set}
use Rattle.std.proofs.Common.{replicate, refl, sym, ap, ◌∙◌, inl, inr, arith, None, take, drop, length-drop, get_or-set_same}
use Rattle.std.proofs.Common.{get_or-set_other, ◌⊎◌, ◌&&◌, insert}
use Rattle.std.proofs.{Math.ListN.length-replicate, Math.ListN.length-set, lemmas.Bool.Decides.eqb_tells, lemmas.Bool.cases_lt}
use Rattle.std.proofs.lemmas.List.{get_or-drop, get_or-replicate, get_or-take, get_or_past, length-take}
use Rattle.std.proofs.lemmas.List.Edits.{get_or-insert_above, get_or-insert_at, get_or-insert_below, length-insert}
use Rattle.inf_characters.specs.{Items.same_item, declared.texts.TextItem.TextItem}
use Rattle.inf_text.specs.{Packing.begins_with, Packing.longest, Parts.AreAbbreviations, Parts.AreLongTexts, declared.index.Link.Link}
use Rattle.inf_text.specs.{declared.index.Ranges.Ranges}
use Rattle.inf_text.specs.Searching.{AreBelow, AreRanges, IsOrder, best_of, code_of, first_code, linked_from, text_at}
use Rattle.inf_text.proofs.{Cutting.same_item-true, Linking.length-linked, Linking.number_at}
use Rattle.inf_text.proofs.Choosing.{Shows, best_of-among, best_of-shows, longest-among, longest-shows, one_best}

-- the code that the text at a place begins with
abbrev pub code_at : List (List TextItem) → List ℕ → ℕ → ℕ
code_at texts order j = first_code (text_at texts (get_or order j 0))

-- the ranges of the texts at the first places
pub record AreRangesTo (texts : List (List TextItem)) (order : List ℕ) (place : ℕ) (ranges : Ranges) : Type 0 where
  pub starts : (j : ℕ) → j < place → get_or ranges.starts (code_at texts order j) 0 ≤ j
  pub ends : (j : ℕ) → j < place → j < get_or ranges.ends (code_at texts order j) 0
  pub ordered : (c : ℕ) → get_or ranges.starts c 0 ≤ get_or ranges.ends c 0
  pub fits : (c : ℕ) → get_or ranges.ends c 0 ≤ place
  pub starts_len : length ranges.starts ≡ 256
  pub ends_len : length ranges.ends ≡ 256

-- a table of zeros
zero_at : (c : ℕ) → get_or {A = ℕ} (replicate 256 0) c 0 ≡ 0
zero_at c = go (cases_lt c 256) where
  go : (c < 256) ⊎ (256 ≤ c) → get_or {A = ℕ} (replicate 256 0) c 0 ≡ 0
  go (inl lt) = get_or-replicate {A = ℕ} 256 c 0 0 lt
  go (inr ge) = let len : length {A = ℕ} (replicate 256 0) ≡ 256 = length-replicate {A = ℕ} 256 0 in get_or_past {X = ℕ} (replicate 256 0)
      c 0 (omega arith)

-- the ranges of no texts
pub AreRangesTo-none : (texts : List (List TextItem)) (order : List ℕ) (ranges : Ranges) →
    ranges ≡ record { starts = replicate 256 0; ends = replicate 256 0 } → AreRangesTo texts order 0 ranges
AreRangesTo-none texts order ranges is = rw is (record {
  starts = λ j lt. absurd (omega arith);
  ends = λ j lt. absurd (omega arith);
  ordered = λ c. omega (arith, zero_at c);
  fits = λ c. omega (arith, zero_at c);
  starts_len = length-replicate {A = ℕ} 256 0;
  ends_len = length-replicate {A = ℕ} 256 0;
})

-- a write changes one place
get_or-written : (xs : List ℕ) (i v j : ℕ) → i < length xs →
    ((j ≡ i) × (get_or (set xs i v) j 0 ≡ v)) ⊎ ((j ≢ i) × (get_or (set xs i v) j 0 ≡ get_or xs j 0))
get_or-written xs i v j lt = go (eqb_tells j i) where
  go : ((eqb j i ≡ true) × (j ≡ i)) ⊎ ((eqb j i ≡ false) × (j ≢ i)) →
      ((j ≡ i) × (get_or (set xs i v) j 0 ≡ v)) ⊎ ((j ≢ i) × (get_or (set xs i v) j 0 ≡ get_or xs j 0))
  go (inl (e, same)) = inl (same, rw same (get_or-set_same xs i v 0 lt))
  go (inr (e, other)) = inr (other, get_or-set_other xs i j v 0 other)

-- one more place
pub AreRangesTo-more : (texts : List (List TextItem)) (order : List ℕ) (place code : ℕ) (ranges : Ranges) (starts ends : List ℕ) → code ≡
    code_at texts order place → code < 256 → ends ≡ set ranges.ends code (place + 1) →
    ((get_or ranges.ends code 0 ≡ 0) × (starts ≡ set ranges.starts code place)) ⊎
    ((get_or ranges.ends code 0 ≢ 0) × (starts ≡ ranges.starts)) → AreRangesTo texts order place ranges → AreRangesTo texts order
    (place + 1) (record { starts = starts; ends = ends })
AreRangesTo-more texts order place code ranges starts ends is small ends_are starts_are h =
    let in_starts : code < length ranges.starts = omega (arith, h.starts_len) in
    let in_ends : code < length ranges.ends = omega (arith, h.ends_len) in
    record {
      starts =
          λ j lt. begins starts_are j (get_or-written ranges.starts code place (code_at texts order j) in_starts) (cases_lt j place) lt;
      ends = λ j lt. rw ends_are (closes j (get_or-written ranges.ends code (place + 1) (code_at texts order j) in_ends) (cases_lt j place)
          lt);
      ordered = λ c. rw ends_are (in_order starts_are c (get_or-written ranges.starts code place c in_starts)
          (get_or-written ranges.ends code (place + 1) c in_ends));
      fits = λ c. rw ends_are (within c (get_or-written ranges.ends code (place + 1) c in_ends));
      starts_len = long starts_are;
      ends_len = rw ends_are (length-set ranges.ends code (place + 1) ∙ h.ends_len);
    }
  where
    long : ((get_or ranges.ends code 0 ≡ 0) × (starts ≡ set ranges.starts code place)) ⊎
        ((get_or ranges.ends code 0 ≢ 0) × (starts ≡ ranges.starts)) → length starts ≡ 256
    long (inl (none, written)) = rw written (length-set ranges.starts code place ∙ h.starts_len)
    long (inr (used, kept)) = rw kept h.starts_len

    begins : ((get_or ranges.ends code 0 ≡ 0) × (starts ≡ set ranges.starts code place)) ⊎
        ((get_or ranges.ends code 0 ≢ 0) × (starts ≡ ranges.starts)) → (j : ℕ) →
        ((code_at texts order j ≡ code) × (get_or (set ranges.starts code place) (code_at texts order j) 0 ≡ place)) ⊎
        ((code_at texts order j ≢ code) × (get_or (set ranges.starts code place) (code_at texts order j) 0 ≡ get_or ranges.starts
        (code_at texts order j) 0)) → (j < place) ⊎ (place ≤ j) → j < place + 1 → get_or starts (code_at texts order j) 0 ≤ j
    begins (inr (used, kept)) j w (inl lt) le = rw kept (h.starts j lt)
    begins (inr (used, kept)) j w (inr ge) le =
        let at : j ≡ place = omega arith in
        rw (kept, at) (omega (arith, h.ordered (code_at texts order place), h.fits (code_at texts order place)))
    begins (inl (none, written)) j (inl (same, now)) (inl lt) le = absurd (omega (arith, rw (same, none) at (h.ends j lt)))
    begins (inl (none, written)) j (inl (same, now)) (inr ge) le = rw (written, now) ge
    begins (inl (none, written)) j (inr (other, before)) (inl lt) le = rw (written, before) (h.starts j lt)
    begins (inl (none, written)) j (inr (other, before)) (inr ge) le =
        let at : j ≡ place = omega arith in absurd (other (rw at (sym is)))

    closes : (j : ℕ) → ((code_at texts order j ≡ code) × (get_or (set ranges.ends code (place + 1)) (code_at texts order j) 0 ≡ place + 1))
        ⊎ ((code_at texts order j ≢ code) × (get_or (set ranges.ends code (place + 1)) (code_at texts order j) 0 ≡ get_or ranges.ends
        (code_at texts order j) 0)) → (j < place) ⊎ (place ≤ j) → j < place + 1 → j < get_or (set ranges.ends code (place + 1))
        (code_at texts order j) 0
    closes j (inl (same, now)) w lt = rw now lt
    closes j (inr (other, before)) (inl less) lt = rw before (h.ends j less)
    closes j (inr (other, before)) (inr ge) lt =
        let at : j ≡ place = omega arith in absurd (other (rw at (sym is)))

    in_order : ((get_or ranges.ends code 0 ≡ 0) × (starts ≡ set ranges.starts code place)) ⊎
        ((get_or ranges.ends code 0 ≢ 0) × (starts ≡ ranges.starts)) → (c : ℕ) →
        ((c ≡ code) × (get_or (set ranges.starts code place) c 0 ≡ place)) ⊎
        ((c ≢ code) × (get_or (set ranges.starts code place) c 0 ≡ get_or ranges.starts c 0)) →
        ((c ≡ code) × (get_or (set ranges.ends code (place + 1)) c 0 ≡ place + 1)) ⊎
        ((c ≢ code) × (get_or (set ranges.ends code (place + 1)) c 0 ≡ get_or ranges.ends c 0)) → get_or starts c 0 ≤ get_or
        (set ranges.ends code (place + 1)) c 0
    in_order (inl (none, written)) c (inl (same, now)) (inl (same', now')) = rw (written, now, now') (omega arith)
    in_order (inl (none, written)) c (inl (same, now)) (inr (other, before)) = absurd (other same)
    in_order (inl (none, written)) c (inr (other, before)) (inl (same, now)) = absurd (other same)
    in_order (inl (none, written)) c (inr (other, before)) (inr (other', before')) = rw (written, before, before') (h.ordered c)
    in_order (inr (used, kept)) c w (inl (same, now)) = rw (kept, now) (omega (arith, h.ordered c, h.fits c))
    in_order (inr (used, kept)) c w (inr (other, before)) = rw (kept, before) (h.ordered c)

    within : (c : ℕ) → ((c ≡ code) × (get_or (set ranges.ends code (place + 1)) c 0 ≡ place + 1)) ⊎
        ((c ≢ code) × (get_or (set ranges.ends code (place + 1)) c 0 ≡ get_or ranges.ends c 0)) → get_or (set ranges.ends code (place + 1))
        c 0 ≤ place + 1
    within c (inl (same, now)) = rw now (omega arith)
    within c (inr (other, before)) = rw before (omega (arith, h.fits c))

-- the order of no numbers
pub IsOrder-none : IsOrder 0 []
IsOrder-none = record { below = λ j lt. absurd (omega arith); len = refl; all = λ k lt. absurd (omega arith) }

-- a number is put into an order
pub IsOrder-insert : (count place : ℕ) (order : List ℕ) → place ≤ length order → IsOrder count order →
    IsOrder (count + 1) (insert order place count)
IsOrder-insert count place order le h = record {
  below = λ j lt. below j lt (cases_lt j place) (cases_lt place j);
  len = length-insert order place count le ∙ ap (λ (n : ℕ). n + 1) h.len;
  all = λ k lt. found k (cases_lt k count) lt;
} where
  below : (j : ℕ) → j < length (insert order place count) → (j < place) ⊎ (place ≤ j) → (place < j) ⊎ (j ≤ place) →
      get_or (insert order place count) j 0 < count + 1
  below j lt (inl less) w = rw (get_or-insert_below order place count 0 j less le) (omega (arith, h.below j (omega arith)))
  below j lt (inr ge) (inr most) =
      let at : j ≡ place = omega arith in rw (at, get_or-insert_at order place count 0 le) (omega arith)
  below j lt (inr ge) (inl more) =
      let len : length (insert order place count) ≡ length order + 1 = length-insert order place count le in
      let at : j ≡ j - 1 + 1 = omega arith in
      let moved : get_or (insert order place count) (j - 1 + 1) 0 ≡ get_or order (j - 1) 0 =
      get_or-insert_above order place count 0 (j - 1) (omega arith) le in
      let small : get_or order (j - 1) 0 < count = h.below (j - 1) (omega arith) in
      let small' : get_or (insert order place count) (j - 1 + 1) 0 < count + 1 = rw moved (omega arith) in
      rw (← at) at small'

  moved : (k j : ℕ) → j < length order → get_or order j 0 ≡ k → (j < place) ⊎ (place ≤ j) →
      (i : ℕ) × ((i < length (insert order place count)) × (get_or (insert order place count) i 0 ≡ k))
  moved k j lt is (inl less) =
      let len : length (insert order place count) ≡ length order + 1 = length-insert order place count le in
      (j, (omega arith, get_or-insert_below order place count 0 j less le ∙ is))
  moved k j lt is (inr ge) =
      let len : length (insert order place count) ≡ length order + 1 = length-insert order place count le in
      (j + 1, (omega arith, get_or-insert_above order place count 0 j ge le ∙ is))

  found : (k : ℕ) → (k < count) ⊎ (count ≤ k) → k < count + 1 →
      (i : ℕ) × ((i < length (insert order place count)) × (get_or (insert order place count) i 0 ≡ k))
  found k (inl less) lt = let at = h.all k less in moved k at.0 at.1.0 at.1.1 (cases_lt at.0 place)
  found k (inr ge) lt =
      let at : count ≡ k = omega arith in
      let len : length (insert order place count) ≡ length order + 1 = length-insert order place count le in
      (place, (omega arith, get_or-insert_at order place count 0 le ∙ at))

-- the last number is put among the sorted ones, and the links of these are put into the order of the search
pub IsOrder-more : (texts : List (List TextItem)) (place : ℕ) (old sorted numbers order : List ℕ) (links now : List Link) →
    0 < length texts → place ≤ length old → IsOrder (length texts - 1) old → sorted ≡ insert old place (length texts - 1) →
    numbers ≡ sorted → links ≡ linked_from texts [] numbers → now ≡ links → IsOrder (length now) order →
    IsOrder (length texts) sorted × IsOrder (length texts) order
IsOrder-more texts place old sorted numbers order links now some le h put same linked seen is =
    let count = length texts - 1 in let more : count + 1 ≡ length texts = omega arith in
    let all : IsOrder (length texts) sorted = rw put (rw more at (IsOrder-insert count place old le h)) in
    let len : length now ≡ length texts = ap length (seen ∙ linked) ∙ length-linked texts [] numbers ∙ ap length same ∙ all.len in
    (all, rw len at is)

-- an abbreviation is not empty
long_at : (texts : List (List TextItem)) (n : ℕ) → AreLongTexts texts → n < length texts → 2 ≤ length (text_at texts n)
long_at [] n h lt = absurd (omega arith)
long_at (a ∷ texts) zero h lt = h.0.0
long_at (a ∷ texts) (suc n) h lt = long_at texts n h.1 (omega arith)

-- items that begin with a text begin with its first item
same_code : (items a : List TextItem) → 2 ≤ length a → begins_with items a ≡ true → first_code a ≡ first_code items
same_code items [] le h = absurd (omega arith)
same_code [] (y ∷ a) le h = absurd (let none : false ≡ true = h in cc)
same_code (x ∷ items) (y ∷ a) le h = ap code_of (sym (same_item-true x y (left (same_item x y) (begins_with items a) h))) where
  left : (s t : Bool) → (s && t) ≡ true → s ≡ true
  left true t h = refl
  left false t h = cc

-- the link at a place of a part is that at the place behind its start
part_at : (links : List Link) (start end i : ℕ) (d : Link) → i < end - start →
    get_or (take (end - start) (drop start links)) i d ≡ get_or links (start + i) d
part_at links start end i d lt = get_or-take (end - start) (drop start links) i d lt ∙ get_or-drop start links i d

-- the texts that begin with the code of some items, by their links
abbrev pub part_of : List (List TextItem) → List ℕ → ℕ → ℕ → List Link
part_of texts order start end = take (end - start) (drop start (linked_from texts [] order))

part-below : (texts : List (List TextItem)) (order : List ℕ) (start end j : ℕ) (d : Link) → AreBelow (length texts) order →
    j < length (part_of texts order start end) → (get_or (part_of texts order start end) j d).number < length texts
part-below texts order start end j d h lt =
    let links = linked_from texts [] order in
    let cut : j < end - start = omega (arith, length-take (end - start) (drop start links)) in
    let within : start + j < length order =
    omega (arith, length-take (end - start) (drop start links), length-drop start links, length-linked texts [] order) in
    let at : (get_or links (start + j) d).number ≡ get_or order (start + j) 0 = number_at texts [] order (start + j) d within in
    let small : get_or order (start + j) 0 < length texts = h (start + j) within in
    rw (part_at links start end j d cut, at) small

-- the place of a text with which the items begin lies in the part
part-shows : (texts : List (List TextItem)) (items : List TextItem) (order : List ℕ) (ranges : Ranges) (start end n : ℕ) →
    AreAbbreviations texts → IsOrder (length texts) order → AreRanges texts order ranges →
    start ≡ get_or ranges.starts (first_code items) 0 → end ≡ get_or ranges.ends (first_code items) 0 → n < length texts →
    Shows texts items (best_of texts items None (part_of texts order start end)) n
part-shows texts items order ranges start end n known ordered h start_is end_is lt begins =
    let links = linked_from texts [] order in let found = ordered.all n lt in let j = found.0 in
    let d : Link = record { number = 0; next = 0; shared = 0; len = 0 } in let is : get_or order j 0 ≡ n = found.1.1 in
    let code : first_code (text_at texts (get_or order j 0)) ≡ first_code items =
    rw is (same_code items (text_at texts n) (long_at texts n known.texts lt) begins) in
    let low : start ≤ j = rw (start_is, ← code) (h.starts j found.1.0) in
    let high : j < end = rw (end_is, ← code) (h.ends j found.1.0) in
    let fits : end ≤ length order = rw end_is (h.fits (first_code items)) in let i = j - start in
    let cut : i < end - start = omega arith in
    let within : i < length (part_of texts order start end) =
    omega (arith, length-take (end - start) (drop start links), length-drop start links, length-linked texts [] order) in
    let back : start + i ≡ j = omega arith in
    let at : (get_or (part_of texts order start end) i d).number ≡ n =
    rw (part_at links start end i d cut, back) (number_at texts [] order j d found.1.0 ∙ is) in
    best_of-shows texts items None (part_of texts order start end) i n d within at begins

-- the best of them is the longest of all texts with which the items begin
pub best_of-part : (texts : List (List TextItem)) (items : List TextItem) (order : List ℕ) (ranges : Ranges) (start end : ℕ) →
    AreAbbreviations texts → IsOrder (length texts) order → AreRanges texts order ranges →
    start ≡ get_or ranges.starts (first_code items) 0 → end ≡ get_or ranges.ends (first_code items) 0 →
    best_of texts items None (part_of texts order start end) ≡ longest texts items
best_of-part texts items order ranges start end known ordered h start_is end_is =
    one_best texts items _ _ (best_of-among texts items None (part_of texts order start end)
    (λ j d lt. part-below texts order start end j d ordered.below lt) tt) (longest-among texts items)
    (λ n lt. part-shows texts items order ranges start end n known ordered h start_is end_is lt) (longest-shows texts items)

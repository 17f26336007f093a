-- The best of some texts, whatever the order in which they are looked at.
use Rattle.std.proofs.Common.{◌≡◌, ◌<◌, ◌≤◌, ◌+◌, ℕ, zero, suc, Bool, true, false, ◌&&◌, ◌||◌, cond, eqb, leb, ltb, Option, None, Some}
use Rattle.std.proofs.Common.{List, [], ◌∷◌, length, get_or, refl, sym, ap, ◌∙◌, arith}
use Rattle.std.proofs.lemmas.Bool.Decides.{nat_tests}
use Rattle.inf_text.specs.{Packing.begins_with, Packing.better, Packing.longer, Packing.longest, Packing.longest_from, Searching.best_of}
use Rattle.inf_text.specs.{Searching.common, Searching.pick, Searching.text_at, Searching.tried, declared.index.Link.Link}
use Rattle.inf_characters.specs.declared.texts.TextItem.{TextItem}
use Rattle.inf_text.proofs.Linking.{begins_with_common}

-- the best one is longer than a text of a number, or as long and its number no higher
pub record IsBetter (best : ℕ × ℕ) (n len : ℕ) : Type 0 where
  pub longer : len ≤ best.1
  pub lower : best.1 ≤ len → best.0 ≤ n

abbrev pub IsOver : Option (ℕ × ℕ) → ℕ → ℕ → Type 0
IsOver None n len = ⊥
IsOver (Some best) n len = IsBetter best n len

pick-new : (best : Option (ℕ × ℕ)) (n len : ℕ) → IsOver (pick best n len) n len
pick-new None n len = record { longer = omega arith; lower = λ _. omega arith }
pick-new (Some best) n len = go (ltb len best.1 || (eqb len best.1 && leb best.0 n)) refl where
  go : (t : Bool) → (ltb len best.1 || (eqb len best.1 && leb best.0 n)) ≡ t → IsOver (cond t (Some best) (Some (n, len))) n len
  go true e = record { longer = grind (arith, nat_tests); lower = λ le. grind (arith, nat_tests) }
  go false e = record { longer = omega arith; lower = λ _. omega arith }

pick-old : (best : Option (ℕ × ℕ)) (n len k l : ℕ) → IsOver best k l → IsOver (pick best n len) k l
pick-old None n len k l h = absurd h
pick-old (Some best) n len k l h = go (ltb len best.1 || (eqb len best.1 && leb best.0 n)) refl h where
  go : (t : Bool) → (ltb len best.1 || (eqb len best.1 && leb best.0 n)) ≡ t → IsBetter best k l →
      IsOver (cond t (Some best) (Some (n, len))) k l
  go true e h = h
  go false e h =
      let longer : l ≤ best.1 = h.longer in let lower : best.1 ≤ l → best.0 ≤ k = h.lower in
      let le : best.1 ≤ len = grind (arith, nat_tests) in
      let tie : best.1 ≡ len → n < best.0 = λ is. grind (arith, nat_tests) in
      record {
        longer = omega arith;
        lower = λ (fits : len ≤ l). let at : best.1 ≡ len = omega arith in omega (arith, tie at, lower (omega arith));
      }

-- a text is no better than the best one, if the items begin with it
abbrev pub Shows : List (List TextItem) → List TextItem → Option (ℕ × ℕ) → ℕ → Type 0
Shows texts items best n = begins_with items (text_at texts n) ≡ true → IsOver best n (length (text_at texts n))

-- the best one is one of the texts, with which the items begin
abbrev pub IsAmong : List (List TextItem) → List TextItem → ℕ × ℕ → Type 0
IsAmong texts items found =
    (found.0 < length texts) × (begins_with items (text_at texts found.0) ≡ true) × (found.1 ≡ length (text_at texts found.0))

abbrev pub AreAmong : List (List TextItem) → List TextItem → Option (ℕ × ℕ) → Type 0
AreAmong texts items None = Unit {0}
AreAmong texts items (Some found) = IsAmong texts items found

pick-among : (texts : List (List TextItem)) (items : List TextItem) (best : Option (ℕ × ℕ)) (n len : ℕ) → AreAmong texts items best →
    IsAmong texts items (n, len) → AreAmong texts items (pick best n len)
pick-among texts items None n len h new = new
pick-among texts items (Some best) n len h new = go (ltb len best.1 || (eqb len best.1 && leb best.0 n)) where
  go : (t : Bool) → AreAmong texts items (cond t (Some best) (Some (n, len)))
  go true = h
  go false = new

-- one text was tried
tried-new : (texts : List (List TextItem)) (items : List TextItem) (best : Option (ℕ × ℕ)) (n : ℕ) →
    Shows texts items (tried items best n (text_at texts n)) n
tried-new texts items best n begins =
    let a = text_at texts n in
    let whole : eqb (common items a) (length a) ≡ true = sym (begins_with_common items a) ∙ begins in
    rw whole (pick-new best n (length a))

tried-old : (items : List TextItem) (best : Option (ℕ × ℕ)) (n : ℕ) (a : List TextItem) (k l : ℕ) → IsOver best k l →
    IsOver (tried items best n a) k l
tried-old items best n a k l h = go (eqb (common items a) (length a)) where
  go : (t : Bool) → IsOver (cond t (pick best n (length a)) best) k l
  go true = pick-old best n (length a) k l h
  go false = h

tried-among : (texts : List (List TextItem)) (items : List TextItem) (best : Option (ℕ × ℕ)) (n : ℕ) → n < length texts →
    AreAmong texts items best → AreAmong texts items (tried items best n (text_at texts n))
tried-among texts items best n lt h = go (eqb (common items (text_at texts n)) (length (text_at texts n))) refl where
  go : (t : Bool) → eqb (common items (text_at texts n)) (length (text_at texts n)) ≡ t →
      AreAmong texts items (cond t (pick best n (length (text_at texts n))) best)
  go true e = pick-among texts items best n (length (text_at texts n)) h (lt, begins_with_common items (text_at texts n) ∙ e, refl)
  go false e = h

best_of-old : (texts : List (List TextItem)) (items : List TextItem) (best : Option (ℕ × ℕ)) (links : List Link) (k l : ℕ) →
    IsOver best k l → IsOver (best_of texts items best links) k l
best_of-old texts items best [] k l h = h
best_of-old texts items best (link ∷ links) k l h =
    best_of-old texts items (tried items best link.number (text_at texts link.number)) links k l
    (tried-old items best link.number (text_at texts link.number) k l h)

-- each text that is looked at is no better than what is found
pub best_of-shows : (texts : List (List TextItem)) (items : List TextItem) (best : Option (ℕ × ℕ)) (links : List Link) (j n : ℕ) (d : Link)
    → j < length links → (get_or links j d).number ≡ n → Shows texts items (best_of texts items best links) n
best_of-shows texts items best [] j n d lt is = absurd (omega arith)
best_of-shows texts items best (link ∷ links) zero n d lt is = rw (← is) (λ begins.
    best_of-old texts items (tried items best link.number (text_at texts link.number)) links link.number
    (length (text_at texts link.number)) (tried-new texts items best link.number begins))
best_of-shows texts items best (link ∷ links) (suc j) n d lt is =
    best_of-shows texts items (tried items best link.number (text_at texts link.number)) links j n d (omega arith) is

-- the text that is found is one of the texts
pub best_of-among : (texts : List (List TextItem)) (items : List TextItem) (best : Option (ℕ × ℕ)) (links : List Link) →
    ((j : ℕ) (d : Link) → j < length links → (get_or links j d).number < length texts) → AreAmong texts items best →
    AreAmong texts items (best_of texts items best links)
best_of-among texts items best [] below h = h
best_of-among texts items best (link ∷ links) below h =
    best_of-among texts items (tried items best link.number (text_at texts link.number)) links (λ j d lt. below (suc j) d (omega arith))
    (tried-among texts items best link.number (below 0 link (omega arith)) h)

-- the number of the best one is below a bound
abbrev IsBelow : Option (ℕ × ℕ) → ℕ → Type 0
IsBelow None n = Unit {0}
IsBelow (Some best) n = best.0 < n

longer-new : (best : Option (ℕ × ℕ)) (n len : ℕ) → IsBelow best n → IsOver (longer best n len) n len
longer-new None n len h = record { longer = omega arith; lower = λ _. omega arith }
longer-new (Some best) n len h = go (ltb best.1 len) refl where
  go : (t : Bool) → ltb best.1 len ≡ t → IsOver (cond t (Some (n, len)) (Some best)) n len
  go true e = record { longer = omega arith; lower = λ _. omega arith }
  go false e = let le : len ≤ best.1 = grind (arith, nat_tests) in record { longer = le; lower = λ _. omega arith }

longer-old : (best : Option (ℕ × ℕ)) (n len k l : ℕ) → IsOver best k l → IsOver (longer best n len) k l
longer-old None n len k l h = absurd h
longer-old (Some best) n len k l h = go (ltb best.1 len) refl h where
  go : (t : Bool) → ltb best.1 len ≡ t → IsBetter best k l → IsOver (cond t (Some (n, len)) (Some best)) k l
  go true e h =
      let lt : best.1 < len = grind (arith, nat_tests) in let longer : l ≤ best.1 = h.longer in
      record { longer = omega arith; lower = λ (fits : len ≤ l). absurd (omega arith) }
  go false e h = h

longer-below : (best : Option (ℕ × ℕ)) (n len : ℕ) → IsBelow best n → IsBelow (longer best n len) (n + 1)
longer-below None n len h = omega arith
longer-below (Some best) n len h = go (ltb best.1 len) where
  go : (t : Bool) → IsBelow (cond t (Some (n, len)) (Some best)) (n + 1)
  go true = omega arith
  go false = omega arith

IsBelow-more : (best : Option (ℕ × ℕ)) (n : ℕ) → IsBelow best n → IsBelow best (n + 1)
IsBelow-more None n h = tt
IsBelow-more (Some best) n h = omega arith

better-old : (items : List TextItem) (best : Option (ℕ × ℕ)) (n : ℕ) (a : List TextItem) (k l : ℕ) → IsOver best k l →
    IsOver (better best n a items) k l
better-old items best n a k l h = go (begins_with items a) where
  go : (t : Bool) → IsOver (cond t (longer best n (length a)) best) k l
  go true = longer-old best n (length a) k l h
  go false = h

better-new : (items : List TextItem) (best : Option (ℕ × ℕ)) (n : ℕ) (a : List TextItem) → IsBelow best n → begins_with items a ≡ true →
    IsOver (better best n a items) n (length a)
better-new items best n a h begins = rw begins (longer-new best n (length a) h)

better-below : (items : List TextItem) (best : Option (ℕ × ℕ)) (n : ℕ) (a : List TextItem) → IsBelow best n →
    IsBelow (better best n a items) (n + 1)
better-below items best n a h = go (begins_with items a) where
  go : (t : Bool) → IsBelow (cond t (longer best n (length a)) best) (n + 1)
  go true = longer-below best n (length a) h
  go false = IsBelow-more best n h

longest_from-old : (items : List TextItem) (best : Option (ℕ × ℕ)) (n : ℕ) (declared : List (List TextItem)) (k l : ℕ) → IsOver best k l →
    IsOver (longest_from best n declared items) k l
longest_from-old items best n [] k l h = h
longest_from-old items best n (a ∷ declared) k l h =
    longest_from-old items (better best n a items) (n + 1) declared k l (better-old items best n a k l h)

longest_from-shows : (items : List TextItem) (best : Option (ℕ × ℕ)) (n : ℕ) (declared : List (List TextItem)) (i k : ℕ) → IsBelow best n →
    i < length declared → k ≡ n + i → begins_with items (get_or declared i []) ≡ true →
    IsOver (longest_from best n declared items) k (length (get_or declared i []))
longest_from-shows items best n [] i k below lt is begins = absurd (omega arith)
longest_from-shows items best n (a ∷ declared) zero k below lt is begins =
    let at : k ≡ n = omega arith in
    rw at (longest_from-old items (better best n a items) (n + 1) declared n (length a) (better-new items best n a below begins))
longest_from-shows items best n (a ∷ declared) (suc i) k below lt is begins =
    longest_from-shows items (better best n a items) (n + 1) declared i k (better-below items best n a below) (omega arith) (omega arith)
    begins

longer-among : (texts : List (List TextItem)) (items : List TextItem) (best : Option (ℕ × ℕ)) (n len : ℕ) → AreAmong texts items best →
    IsAmong texts items (n, len) → AreAmong texts items (longer best n len)
longer-among texts items None n len h new = new
longer-among texts items (Some best) n len h new = go (ltb best.1 len) where
  go : (t : Bool) → AreAmong texts items (cond t (Some (n, len)) (Some best))
  go true = new
  go false = h

better-among : (texts : List (List TextItem)) (items : List TextItem) (best : Option (ℕ × ℕ)) (n : ℕ) (a : List TextItem) →
    n < length texts → a ≡ text_at texts n → AreAmong texts items best → AreAmong texts items (better best n a items)
better-among texts items best n a lt is h = go (begins_with items a) refl where
  go : (t : Bool) → begins_with items a ≡ t → AreAmong texts items (cond t (longer best n (length a)) best)
  go true e = longer-among texts items best n (length a) h (lt, rw (← is) e, ap length is)
  go false e = h

longest_from-among : (texts : List (List TextItem)) (items : List TextItem) (best : Option (ℕ × ℕ)) (n : ℕ)
    (declared : List (List TextItem)) → n + length declared ≡ length texts → ((i : ℕ) → get_or declared i [] ≡ text_at texts (n + i)) →
    AreAmong texts items best → AreAmong texts items (longest_from best n declared items)
longest_from-among texts items best n [] len at h = h
longest_from-among texts items best n (a ∷ declared) len at h =
    let here : n + 0 ≡ n = omega arith in let is : a ≡ text_at texts n = rw here at (at 0) in
    longest_from-among texts items (better best n a items) (n + 1) declared (omega arith)
    (λ i. let next : n + suc i ≡ n + 1 + i = omega arith in rw next at (at (suc i))) (better-among texts items best n a (omega arith) is h)

-- each text is no better than the longest, and the longest is one of them
pub longest-shows : (texts : List (List TextItem)) (items : List TextItem) (n : ℕ) → n < length texts →
    Shows texts items (longest texts items) n
unfolding longest
longest-shows texts items n lt begins = longest_from-shows items None 0 texts n n tt lt (omega arith) begins

pub longest-among : (texts : List (List TextItem)) (items : List TextItem) → AreAmong texts items (longest texts items)
unfolding longest
longest-among texts items =
    longest_from-among texts items None 0 texts (omega arith) (λ i. let same : 0 + i ≡ i = omega arith in rw same refl) tt

-- there is one best text at most
pub one_best : (texts : List (List TextItem)) (items : List TextItem) (f g : Option (ℕ × ℕ)) → AreAmong texts items f →
    AreAmong texts items g → ((n : ℕ) → n < length texts → Shows texts items f n) → ((n : ℕ) → n < length texts → Shows texts items g n) →
    f ≡ g
one_best texts items None None a b p q = refl
one_best texts items None (Some found) a b p q = absurd (p found.0 b.0 b.1)
one_best texts items (Some found) None a b p q = absurd (q found.0 a.0 a.1)
one_best texts items (Some f) (Some g) a b p q =
    let over : IsBetter f g.0 g.1 = rw (← b.2) at (p g.0 b.0 b.1) in
    let under : IsBetter g f.0 f.1 = rw (← a.2) at (q f.0 a.0 a.1) in
    let len : f.1 ≡ g.1 = omega (arith, over.longer, under.longer) in
    let number : f.0 ≡ g.0 = omega (arith, over.lower (omega arith), under.lower (omega arith)) in
    ap (λ (n : ℕ). Some (n, f.1)) number ∙ ap (λ (l : ℕ). Some (g.0, l)) len

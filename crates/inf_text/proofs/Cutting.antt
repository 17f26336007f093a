-- The Z-characters of a text are those of its parts.
use Rattle.std.proofs.Common.{◌≡◌, ◌<◌, ◌≤◌, ◌+◌, ◌-◌, ℕ, zero, suc, Bool, true, false, ◌&&◌, cond, ltb, Option, None, Some, List, [], ◌∷◌}
use Rattle.std.proofs.Common.{◌++◌, length, drop, length-append, refl, sym, ap, ◌∙◌, arith, slice_get, flat_map}
use Rattle.std.proofs.{Math.Seq.append_snoc, lemmas.Bool.Decides.nat_tests, lemmas.List.append-nil}
use Rattle.inf_characters.specs.{Items.IsText, Items.same_item, declared.texts.TextItem.TextItem}
use Rattle.inf_text.specs.Packing.{begins_with, better, front_behind, front_zs, longer, longest, longest_from, zs_from}
use Rattle.inf_text.specs.Parts.{AreAbbreviations, AreLongTexts, Cuts, IsCut, NoneBegins, NoneLonger, Part, Plain, Short, part_zs}

-- a test that holds of two items shows that they are equal
pub same_item-true : (x y : TextItem) → same_item x y ≡ true → x ≡ y
same_item-true (TextItem.Character c) (TextItem.Character d) h = let e : c ≡ d = grind (arith, nat_tests) in ap TextItem.Character e
same_item-true (TextItem.Character c) (TextItem.Variable n) h = cc
same_item-true (TextItem.Variable n) (TextItem.Character c) h = cc
same_item-true (TextItem.Variable n) (TextItem.Variable m) h = let e : n ≡ m = grind (arith, nat_tests) in ap TextItem.Variable e

and_both : (a b : Bool) → (a && b) ≡ true → (a ≡ true) × (b ≡ true)
and_both true b h = (refl, h)
and_both false b h = cc

-- items that begin with others are those and the rest
begins_with-true : (items a : List TextItem) → begins_with items a ≡ true → items ≡ a ++ drop (length a) items
begins_with-true items [] h = refl
begins_with-true [] (y ∷ ys) h = cc
begins_with-true (x ∷ xs) (y ∷ ys) h =
    let both = and_both (same_item x y) (begins_with xs ys) h in
    rw (same_item-true x y both.0) (ap (λ (rest : List TextItem). y ∷ rest) (begins_with-true xs ys both.1))

NoneBegins-push : (seen : List (List TextItem)) (items a : List TextItem) → NoneBegins seen items → begins_with items a ≡ false →
    NoneBegins (seen ++ a ∷ []) items
NoneBegins-push [] items a h not = (not, tt)
NoneBegins-push (s ∷ seen) items a h not = (h.0, NoneBegins-push seen items a h.1 not)

NoneLonger-push : (seen : List (List TextItem)) (items a : List TextItem) (most : ℕ) → NoneLonger seen items most →
    (begins_with items a ≡ true → length a ≤ most) → NoneLonger (seen ++ a ∷ []) items most
NoneLonger-push [] items a most h last = (last, tt)
NoneLonger-push (s ∷ seen) items a most h last = (h.0, NoneLonger-push seen items a most h.1 last)

NoneLonger-more : (seen : List (List TextItem)) (items : List TextItem) (most more : ℕ) → most ≤ more → NoneLonger seen items most →
    NoneLonger seen items more
NoneLonger-more [] items most more le h = tt
NoneLonger-more (s ∷ seen) items most more le h =
    ((λ begins. let fits : length s ≤ most = h.0 begins in omega arith), NoneLonger-more seen items most more le h.1)

NoneLonger-none : (seen : List (List TextItem)) (items : List TextItem) (most : ℕ) → NoneBegins seen items → NoneLonger seen items most
NoneLonger-none [] items most h = tt
NoneLonger-none (s ∷ seen) items most h =
    ((λ begins. absurd (let no : false ≡ true = sym h.0 ∙ begins in cc)), NoneLonger-none seen items most h.1)

slice_get-last : (seen : List (List TextItem)) (a : List TextItem) → slice_get (seen ++ a ∷ []) (length seen) ≡ Some a
slice_get-last [] a = refl
slice_get-last (s ∷ seen) a = slice_get-last seen a

slice_get-kept : (seen : List (List TextItem)) (a b : List TextItem) (n : ℕ) → slice_get seen n ≡ Some b →
    slice_get (seen ++ a ∷ []) n ≡ Some b
slice_get-kept [] a b n h = cc
slice_get-kept (s ∷ seen) a b zero h = h
slice_get-kept (s ∷ seen) a b (suc n) h = slice_get-kept seen a b n h

-- the text found among those seen is the longest of them that begins the items
record IsBest (seen : List (List TextItem)) (items : List TextItem) (n len : ℕ) : Type 0 where
  pub text : List TextItem
  pub declared_as : slice_get seen n ≡ Some text
  pub begins : begins_with items text ≡ true
  pub len_is : length text ≡ len
  pub longest : NoneLonger seen items len

IsRight : List (List TextItem) → List TextItem → Option (ℕ × ℕ) → Type 0
IsRight seen items None = NoneBegins seen items
IsRight seen items (Some found) = IsBest seen items found.0 found.1

-- a new one that begins, and is the only one or longer
IsBest-new : (seen : List (List TextItem)) (items a : List TextItem) → begins_with items a ≡ true → NoneLonger seen items (length a) →
    IsBest (seen ++ a ∷ []) items (length seen) (length a)
IsBest-new seen items a begins none = record {
  text = a;
  declared_as = slice_get-last seen a;
  begins = begins;
  len_is = refl;
  longest = NoneLonger-push seen items a (length a) none (λ _. omega arith);
}

-- a new one that does not begin, or is no longer
IsBest-kept : (seen : List (List TextItem)) (items a : List TextItem) (n len : ℕ) → IsBest seen items n len →
    (begins_with items a ≡ true → length a ≤ len) → IsBest (seen ++ a ∷ []) items n len
IsBest-kept seen items a n len h last = record {
  text = h.text;
  declared_as = slice_get-kept seen a h.text n h.declared_as;
  begins = h.begins;
  len_is = h.len_is;
  longest = NoneLonger-push seen items a len h.longest last;
}

IsRight-longer : (seen : List (List TextItem)) (items a : List TextItem) (best : Option (ℕ × ℕ)) → begins_with items a ≡ true →
    IsRight seen items best → IsRight (seen ++ a ∷ []) items (longer best (length seen) (length a))
unfolding IsRight
IsRight-longer seen items a None begins h = IsBest-new seen items a begins (NoneLonger-none seen items (length a) h)
IsRight-longer seen items a (Some best) begins h = go (ltb best.1 (length a)) refl where
  go : (t : Bool) → ltb best.1 (length a) ≡ t → IsRight (seen ++ a ∷ []) items (cond t (Some (length seen, length a)) (Some best))
  go true e = let lt : best.1 < length a = grind (arith, nat_tests) in IsBest-new seen items a begins
      (NoneLonger-more seen items best.1 (length a) (omega arith) h.longest)
  go false e = let le : length a ≤ best.1 = grind (arith, nat_tests) in IsBest-kept seen items a best.0 best.1 h (λ _. le)

IsRight-other : (seen : List (List TextItem)) (items a : List TextItem) (best : Option (ℕ × ℕ)) → begins_with items a ≡ false →
    IsRight seen items best → IsRight (seen ++ a ∷ []) items best
unfolding IsRight
IsRight-other seen items a None not h = NoneBegins-push seen items a h not
IsRight-other seen items a (Some best) not h =
    IsBest-kept seen items a best.0 best.1 h (λ begins. absurd (let no : false ≡ true = sym not ∙ begins in cc))

IsRight-better : (seen : List (List TextItem)) (items a : List TextItem) (best : Option (ℕ × ℕ)) → IsRight seen items best →
    IsRight (seen ++ a ∷ []) items (better best (length seen) a items)
IsRight-better seen items a best h = go (begins_with items a) refl where
  go : (t : Bool) → begins_with items a ≡ t → IsRight (seen ++ a ∷ []) items (cond t (longer best (length seen) (length a)) best)
  go true e = IsRight-longer seen items a best e h
  go false e = IsRight-other seen items a best e h

IsRight-all : (seen declared : List (List TextItem)) (n : ℕ) (items : List TextItem) (best : Option (ℕ × ℕ)) → length seen ≡ n →
    IsRight seen items best → IsRight (seen ++ declared) items (longest_from best n declared items)
IsRight-all seen [] n items best e h = rw append-nil h
IsRight-all seen (a ∷ declared) n items best e h =
    let next = IsRight-all (seen ++ a ∷ []) declared (n + 1) items (better best n a items) (omega (arith, length-append seen (a ∷ [])))
    (rw (← e) (IsRight-better seen items a best h)) in
    rw append_snoc at next

-- the text that is found is the longest declared one that begins the items, and none is found only where none begins them
IsRight-longest : (declared : List (List TextItem)) (items : List TextItem) → IsRight declared items (longest declared items)
unfolding IsRight longest
IsRight-longest declared items = IsRight-all [] declared 0 items None refl tt

-- the part at the front of a text, where an abbreviation was found or none
front_part : Option (ℕ × ℕ) → TextItem → Part
front_part None x = Plain x
front_part (Some found) x = Short found.0

-- the parts of a text, but for the items at its front that are passed over
parts_from : List (List TextItem) → ℕ → List TextItem → List Part
parts_from declared passed [] = []
parts_from declared (suc passed) (x ∷ items) = parts_from declared passed items
parts_from declared zero (x ∷ items) =
    let found = longest declared (x ∷ items) in front_part found x ∷ parts_from declared (front_behind found) items

front_part-zs : (found : Option (ℕ × ℕ)) (x : TextItem) → part_zs (front_part found x) ≡ front_zs found x
unfolding front_part
front_part-zs None x = refl
front_part-zs (Some found) x = refl

zs_from-parts : (declared : List (List TextItem)) (k : ℕ) (items : List TextItem) →
    zs_from declared k items ≡ flat_map part_zs (parts_from declared k items)
unfolding parts_from
zs_from-parts declared zero [] = refl
zs_from-parts declared (suc k) [] = refl
zs_from-parts declared (suc k) (x ∷ items) = zs_from-parts declared k items
zs_from-parts declared zero (x ∷ items) =
    let found = longest declared (x ∷ items) in
    rw (front_part-zs found x, zs_from-parts declared (front_behind found) items) refl

-- an abbreviation is a text of two items at least
pub AreLongTexts-at : (declared : List (List TextItem)) (n : ℕ) (a : List TextItem) → AreLongTexts declared →
    slice_get declared n ≡ Some a → (2 ≤ length a) × IsText a
AreLongTexts-at [] n a h e = cc
AreLongTexts-at (d ∷ declared) zero a h e = let same : d ≡ a = cc in rw (← same) h.0
AreLongTexts-at (d ∷ declared) (suc n) a h e = AreLongTexts-at declared n a h.1 e

-- one more is declared
pub AreLongTexts-push : (declared : List (List TextItem)) (a : List TextItem) → AreLongTexts declared → 2 ≤ length a → IsText a →
    AreLongTexts (declared ++ a ∷ [])
AreLongTexts-push [] a h long text = ((long, text), tt)
AreLongTexts-push (d ∷ declared) a h long text = (h.0, AreLongTexts-push declared a h.1 long text)

-- the first part cuts what the others leave
Cuts-front : (declared : List (List TextItem)) (x : TextItem) (items : List TextItem) (found : Option (ℕ × ℕ)) (parts : List Part) →
    AreLongTexts declared → IsRight declared (x ∷ items) found → Cuts declared parts (drop (front_behind found) items) →
    Cuts declared (front_part found x ∷ parts) (x ∷ items)
unfolding front_part IsRight
Cuts-front declared x items None parts texts h more = (items, (refl, h, more))
Cuts-front declared x items (Some found) parts texts h more =
    let room : 2 ≤ length h.text = (AreLongTexts-at declared found.0 h.text texts h.declared_as).0 in
    let behind : length h.text ≡ suc (found.1 - 1) = omega (arith, h.len_is) in let rest = drop (found.1 - 1) items in
    let split : x ∷ items ≡ h.text ++ rest =
    begins_with-true (x ∷ items) h.text h.begins ∙ ap (λ (n : ℕ). h.text ++ drop n (x ∷ items)) behind in
    let most : NoneLonger declared (x ∷ items) (length h.text) = rw h.len_is h.longest in
    (h.text, (rest, (record { declared_as = h.declared_as; items_are = split; longest = most }, more)))

parts-cut : (declared : List (List TextItem)) (k : ℕ) (items : List TextItem) → AreLongTexts declared →
    Cuts declared (parts_from declared k items) (drop k items)
unfolding parts_from
parts-cut declared zero [] h = refl
parts-cut declared (suc k) [] h = refl
parts-cut declared (suc k) (x ∷ items) h = parts-cut declared k items h
parts-cut declared zero (x ∷ items) h =
    let found = longest declared (x ∷ items) in
    Cuts-front declared x items found (parts_from declared (front_behind found) items) h (IsRight-longest declared (x ∷ items))
    (parts-cut declared (front_behind found) items h)

-- the Z-characters of a text are those of parts that cut it
pub is_cut : (declared : List (List TextItem)) (items : List TextItem) → AreLongTexts declared → IsCut declared items
is_cut declared items h = (parts_from declared 0 items, (parts-cut declared 0 items h, zs_from-parts declared 0 items))

-- one more is declared, where there is room
pub AreAbbreviations-push : (declared : List (List TextItem)) (a : List TextItem) → AreAbbreviations declared → length declared < 64 →
    2 ≤ length a → IsText a → AreAbbreviations (declared ++ a ∷ [])
AreAbbreviations-push declared a h room long text = record {
  few = omega (arith, length-append declared (a ∷ []));
  texts = AreLongTexts-push declared a h.texts long text;
}

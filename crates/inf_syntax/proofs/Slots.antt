-- A word is found by its slot.
use Rattle.std.proofs.{Math.ListN.get_or-map, lemmas.List.FromFn.get_or-map-range_with_len, lemmas.List.length-map}
use Rattle.std.proofs.{lemmas.Slice.Eq.bytes_eq-Decides}
use Rattle.std.proofs.Common.{◌≡◌, ℕ, zero, suc, ◌+◌, ◌-◌, ◌<◌, ◌≤◌, List, [], ◌∷◌, Bool, true, false, ◌&&◌, nat_eq, map, length, get_or}
use Rattle.std.proofs.Common.{refl, sym, ◌∙◌, ap, subst, arith, if◌then◌else◌, cond, inl, inr, ◌⊎◌}
use Rattle.std.proofs.lemmas.Bool.{and_parts, cond-true, cond-false, false_from_ne_true, both_ways, eq-eqb, eqb-true}
use Rattle.std.specs.{Char.to_ascii_lowercase, Str.str_eq_ignore_ascii_case}
use Rattle.inf_syntax.specs.{Atoms.place_in, Slots.all_slots, Slots.letter, Slots.place_of, Slots.slot, Slots.word_slots, Words.words}

-- Lemmas about the slot of a name in any case

same_letter : (byte : ℕ) → letter (to_ascii_lowercase byte) ≡ letter byte
same_letter byte = by_tests _ _ where
  by_tests : (b c : Bool) → letter (cond b byte (cond c (byte + 32) byte)) ≡ letter byte
  by_tests true c = refl
  by_tests false true = omega arith
  by_tests false false = refl

lower_at : (s : List ℕ) (n : ℕ) → letter (get_or (map to_ascii_lowercase s) n 0) ≡ letter (get_or s n 0)
lower_at s n = ap letter (get_or-map to_ascii_lowercase s n 0) ∙ same_letter (get_or s n 0)

letter_same : (s w : List ℕ) → map to_ascii_lowercase s ≡ map to_ascii_lowercase w → (n : ℕ) → letter (get_or s n 0) ≡ letter (get_or w n 0)
letter_same s w e n = sym (lower_at s n) ∙ ap (λ x. letter (get_or x n 0)) e ∙ lower_at w n

slot_same : (s w : List ℕ) → map to_ascii_lowercase s ≡ map to_ascii_lowercase w → slot w ≡ slot s
slot_same s w e =
    let size : length s ≡ length w = sym (length-map s to_ascii_lowercase) ∙ ap length e ∙ length-map w to_ascii_lowercase in
    let one = letter_same s w e 0 in let three = letter_same s w e 2 in
    let last : letter (get_or s (length s - 1) 0) ≡ letter (get_or w (length w - 1) 0) =
    letter_same s w e (length s - 1) ∙ ap (λ n. letter (get_or w (n - 1) 0)) size in
    cc (size, one, three, last)

differs : (s w : List ℕ) → nat_eq (slot w) (slot s) ≡ false → str_eq_ignore_ascii_case s w ≡ false
differs s w n = false_from_ne_true (str_eq_ignore_ascii_case s w) (λ e. both_ways (nat_eq (slot w) (slot s)) n (same e)) where
  same : str_eq_ignore_ascii_case s w ≡ true → nat_eq (slot w) (slot s) ≡ true
  same e =
      let letters = bytes_eq-Decides (map to_ascii_lowercase s) (map to_ascii_lowercase w) in
      eq-eqb (slot w) (slot s) (slot_same s w (letters.0 e))

-- Lemmas about looking for a name

-- the word with its slot is it
found : (s : List ℕ) (ws : List (List ℕ)) (d : List ℕ) → place_of (slot s) (map slot ws) < length ws →
    str_eq_ignore_ascii_case s (get_or ws (place_of (slot s) (map slot ws)) d) ≡ true → place_in s ws ≡ place_of (slot s) (map slot ws)
found s [] d l e = absurd (omega arith)
found s (w ∷ ws) d l e = by_slot (nat_eq (slot w) (slot s)) refl l e (λ m t. found s ws d m t) where
  place : ℕ
  place = place_of (slot s) (map slot ws)

  by_slot : (b : Bool) → nat_eq (slot w) (slot s) ≡ b → (if b then 0 else suc (place_of (slot s) (map slot ws))) < suc (length ws) →
      str_eq_ignore_ascii_case s (get_or (w ∷ ws) (if b then 0 else suc (place_of (slot s) (map slot ws))) d) ≡ true →
      (place_of (slot s) (map slot ws) < length ws → str_eq_ignore_ascii_case s (get_or ws (place_of (slot s) (map slot ws)) d) ≡ true →
      place_in s ws ≡ place_of (slot s) (map slot ws)) → place_in s (w ∷ ws) ≡ (if b then 0 else suc (place_of (slot s) (map slot ws)))
  by_slot true q l e rest = cond-true {A = ℕ} (str_eq_ignore_ascii_case s w) 0 (1 + place_in s ws) e
  by_slot false q l e rest =
      let here = cond-false {A = ℕ} (str_eq_ignore_ascii_case s w) 0 (1 + place_in s ws) (differs s w q) in
      let there = rest (omega (arith, l)) e in omega (arith, here, there)

-- whether no number of some is this one
abbrev lacks : ℕ → List ℕ → Bool
lacks n [] = true
lacks n (m ∷ rest) = (if nat_eq m n then false else true) && lacks n rest

abbrev are_distinct : List ℕ → Bool
are_distinct [] = true
are_distinct (n ∷ rest) = lacks n rest && are_distinct rest

other_is : (b : Bool) → (if b then false else true) ≡ true → b ≡ false
other_is true e = cc
other_is false e = refl

-- no word has its slot
none : (s : List ℕ) (ws : List (List ℕ)) → lacks (slot s) (map slot ws) ≡ true → place_in s ws ≡ length ws
none s [] o = refl
none s (w ∷ ws) o =
    let two = and_parts (if nat_eq (slot w) (slot s) then false else true) (lacks (slot s) (map slot ws)) o in
    let here =
    cond-false {A = ℕ} (str_eq_ignore_ascii_case s w) 0 (1 + place_in s ws) (differs s w (other_is (nat_eq (slot w) (slot s)) two.0)) in
    omega (arith, here, none s ws two.1)

-- A name is no word where the word with its slot is another, or no word has that slot.
absent : (s : List ℕ) (ws : List (List ℕ)) (d : List ℕ) → are_distinct (map slot ws) ≡ true →
    (str_eq_ignore_ascii_case s (get_or ws (place_of (slot s) (map slot ws)) d) ≡ false) ⊎ (length ws ≤ place_of (slot s) (map slot ws)) →
    place_in s ws ≡ length ws
absent s [] d a o = refl
absent s (w ∷ ws) d a o = by_slot (nat_eq (slot w) (slot s)) refl o (λ m. absent s ws d both.1 m) where
  both : (lacks (slot w) (map slot ws) ≡ true) × (are_distinct (map slot ws) ≡ true)
  both = and_parts (lacks (slot w) (map slot ws)) (are_distinct (map slot ws)) a

  behind : str_eq_ignore_ascii_case s w ≡ false → place_in s ws ≡ length ws → place_in s (w ∷ ws) ≡ suc (length ws)
  behind e r = omega (arith, cond-false {A = ℕ} (str_eq_ignore_ascii_case s w) 0 (1 + place_in s ws) e, r)

  by_slot : (b : Bool) → nat_eq (slot w) (slot s) ≡ b →
      (str_eq_ignore_ascii_case s (get_or (w ∷ ws) (if b then 0 else suc (place_of (slot s) (map slot ws))) d) ≡ false) ⊎
      (suc (length ws) ≤ (if b then 0 else suc (place_of (slot s) (map slot ws)))) →
      ((str_eq_ignore_ascii_case s (get_or ws (place_of (slot s) (map slot ws)) d) ≡ false) ⊎
      (length ws ≤ place_of (slot s) (map slot ws)) → place_in s ws ≡ length ws) → place_in s (w ∷ ws) ≡ suc (length ws)
  by_slot true q (inl e) rest = behind e (none s ws (subst (λ n. lacks n (map slot ws) ≡ true) (eqb-true (slot w) (slot s) q) both.0))
  by_slot true q (inr l) rest = absurd (omega (arith, l))
  by_slot false q (inl e) rest = behind (differs s w q) (rest (inl e))
  by_slot false q (inr l) rest = behind (differs s w q) (rest (inr (omega (arith, l))))

-- Lemmas about the slots of words

distinct : are_distinct word_slots ≡ true
distinct = refl

slot_place : (n : ℕ) → n < 256 → get_or all_slots n 72 ≡ place_of n word_slots
unfolding all_slots
slot_place n l = get_or-map-range_with_len (λ n. place_of n word_slots) 0 256 n n 72 l (omega arith)

slot_within : (s : List ℕ) → slot s < 256
slot_within s = omega arith

same_or : {X : Type 0} (xs : List X) (at : ℕ) (d e : X) → at < length xs → get_or xs at d ≡ get_or xs at e
same_or [] at d e l = absurd (omega arith)
same_or (x ∷ xs) zero d e l = refl
same_or (x ∷ xs) (suc at) d e l = same_or xs at d e (omega arith)

-- a word that is referred to
pub word_at : {X : Type 0} (f : X → List ℕ) (xs : List X) (place : ℕ) (w : X) → map f xs ≡ words → place < length xs →
    w ≡ get_or xs place w → f w ≡ get_or words place []
word_at f xs place w e l at = ap f at ∙ sym (get_or-map f xs place w) ∙ ap (λ ws. get_or ws place (f w)) e
    ∙ same_or words place (f w) [] (omega (arith, l, sym (length-map xs f) ∙ ap length e))

-- the place of a name among the words, by a look at the word at `place`
pub record IsPlace (s : List ℕ) (place : ℕ) : Type 0 where
  pub inside : place < 72 → str_eq_ignore_ascii_case s (get_or words place []) ≡ true → place ≡ place_in s words
  pub outside : str_eq_ignore_ascii_case s (get_or words place []) ≡ false → 72 ≡ place_in s words
  pub past : 72 ≤ place → 72 ≡ place_in s words

pub placed : (s : List ℕ) (place : ℕ) → place ≡ get_or all_slots (slot s) 72 → IsPlace s place
placed s place e =
    let is : place ≡ place_of (slot s) word_slots = e ∙ slot_place (slot s) (slot_within s) in
    subst (IsPlace s) (sym is) (record {
      inside = λ l t. sym (found s words [] l t);
      outside = λ t. sym (absent s words [] distinct (inl t));
      past = λ l. sym (absent s words [] distinct (inr l));
    })

-- Names that are no words of conditionals by their length or their first letter, and tokens that only pass in a side that is left out.
use Rattle.std.proofs.Common.{◌≡◌, ◌<◌, ◌+◌, ◌&&◌, ◌||◌, ℕ, Bool, true, false, cond, List, [], ◌∷◌, length, map, get_or, nat_eq}
use Rattle.std.proofs.Common.{nat_lt, Option, Some, None, slice_get, suc, refl, sym, ap, ◌∙◌, arith, is_none}
use Rattle.std.proofs.{Math.Bool.and-false, Math.ListN.get_or-map, lemmas.List.length-map, lemmas.Slice.Eq.bytes_eq-Decides}
use Rattle.std.proofs.lemmas.Bool.{and_parts, false_from_ne_true, ltb-true}
use Rattle.std.specs.{Char.to_ascii_lowercase, Str.str_eq_ignore_ascii_case}
use Rattle.inf_syntax.specs.{Atoms.keyword_of, Atoms.place_in, Words.keywords, Words.words, declared.words.Keyword.Keyword}
use Rattle.inf_conditionals.specs.{Words.word_of}
use Rattle.inf_conditionals.specs.{declared.words.ConditionalWord.ConditionalWord}

-- Lemmas about words of conditionals

-- Tells whether bytes without capitals have five to seven letters, of which the first is that of `else` or of `if`.
abbrev looks : List ℕ → Bool
looks lower = nat_lt 4 (length lower) && (nat_lt (length lower) 8 && (nat_eq (get_or lower 0 0) 101 || nat_eq (get_or lower 0 0) 105))

abbrev lowered : List ℕ → List ℕ
lowered s = map to_ascii_lowercase s

-- Tells of words, and of the same words as keywords, whether those of conditionals look so.
abbrev all_look : List (List ℕ) → List Keyword → Bool
all_look [] [] = true
all_look [] (k ∷ ks) = false
all_look (w ∷ ws) [] = false
all_look (w ∷ ws) (k ∷ ks) = (is_none (word_of (Some k)) || looks (lowered w)) && all_look ws ks

they_look : all_look words keywords ≡ true
unfolding keywords
they_look = refl

none_of : (word : Option ConditionalWord) (b : Bool) → (is_none word || b) ≡ true → b ≡ false → word ≡ None
none_of None b e n = refl
none_of (Some w) b e n = cc

looks_same : (s w : List ℕ) → str_eq_ignore_ascii_case s w ≡ true → looks (lowered s) ≡ false → looks (lowered w) ≡ false
looks_same s w e n = sym (ap looks ((bytes_eq-Decides (lowered s) (lowered w)).0 e)) ∙ n

-- A name that looks otherwise is none of them.
no_word_in : (s : List ℕ) (ws : List (List ℕ)) (ks : List Keyword) → all_look ws ks ≡ true → looks (lowered s) ≡ false
    → word_of (slice_get ks (place_in s ws)) ≡ None
no_word_in s [] [] a n = refl
no_word_in s [] (k ∷ ks) a n = cc
no_word_in s (w ∷ ws) [] a n = cc
no_word_in s (w ∷ ws) (k ∷ ks) a n =
    let both = and_parts (is_none (word_of (Some k)) || looks (lowered w)) (all_look ws ks) a in
    by (str_eq_ignore_ascii_case s w) refl both.0 (no_word_in s ws ks both.1 n)
  where
    by : (b : Bool) → str_eq_ignore_ascii_case s w ≡ b → (is_none (word_of (Some k)) || looks (lowered w)) ≡ true
        → word_of (slice_get ks (place_in s ws)) ≡ None → word_of (slice_get (k ∷ ks) (cond b 0 (1 + place_in s ws))) ≡ None
    by true e here rest = none_of (word_of (Some k)) (looks (lowered w)) here (looks_same s w e n)
    by false e here rest =
        let behind : 1 + place_in s ws ≡ suc (place_in s ws) = omega arith in
        ap (λ (n : ℕ). word_of (slice_get (k ∷ ks) n)) behind ∙ rest

no_word : (s : List ℕ) → looks (lowered s) ≡ false → word_of (keyword_of s) ≡ None
unfolding keyword_of
no_word s n = no_word_in s words keywords they_look n

pub short_is_no_word : (s : List ℕ) → length s < 5 → word_of (keyword_of s) ≡ None
short_is_no_word s short =
    let size = length-map s to_ascii_lowercase in
    let first = false_from_ne_true (nat_lt 4 (length (lowered s))) (λ e. omega (arith, ltb-true 4 (length (lowered s)) e, size, short)) in
    no_word s (ap (λ (b : Bool). b && (nat_lt (length (lowered s)) 8
    && (nat_eq (get_or (lowered s) 0 0) 101 || nat_eq (get_or (lowered s) 0 0) 105))) first)

pub long_is_no_word : (s : List ℕ) → 7 < length s → word_of (keyword_of s) ≡ None
long_is_no_word s long =
    let size = length-map s to_ascii_lowercase in
    let second = false_from_ne_true (nat_lt (length (lowered s)) 8) (λ e. omega (arith, ltb-true (length (lowered s)) 8 e, size, long)) in
    no_word s (ap (λ (b : Bool). nat_lt 4 (length (lowered s))
    && (b && (nat_eq (get_or (lowered s) 0 0) 101 || nat_eq (get_or (lowered s) 0 0) 105))) second
    ∙ and-false (nat_lt 4 (length (lowered s))))

pub other_is_no_word : (s : List ℕ) → (nat_eq (to_ascii_lowercase (get_or s 0 0)) 101 || nat_eq (to_ascii_lowercase (get_or s 0 0)) 105)
    ≡ false → word_of (keyword_of s) ≡ None
other_is_no_word s other =
    let letter = ap (λ (n : ℕ). nat_eq n 101 || nat_eq n 105) (get_or-map to_ascii_lowercase s 0 0) ∙ other in
    no_word s (ap (λ (b : Bool). nat_lt 4 (length (lowered s)) && (nat_lt (length (lowered s)) 8 && b)) letter
    ∙ ap (λ (b : Bool). nat_lt 4 (length (lowered s)) && b) (and-false (nat_lt (length (lowered s)) 8))
    ∙ and-false (nat_lt 4 (length (lowered s))))

-- Lemmas about tokens

-- A name's atom tells which word it is.
use Rattle.std.proofs.Common.{◌≡◌, ℕ, ◌+◌, ◌-◌, ◌≤◌, List, [], ◌∷◌, suc, Bool, true, false, length, slice_get, nat_lt, if◌then◌else◌}
use Rattle.std.proofs.Common.{cond, refl, ap, arith, ◌∙◌}
use Rattle.std.proofs.lemmas.Bool.{cond-false, false_from_ne_true, lt-ltb, ltb-true}
use Rattle.std.specs.Str.{str_eq_ignore_ascii_case}
use Rattle.inf_syntax.specs.Atoms.{first_word, keyword_at, keyword_of, name_at, names, place_in}
use Rattle.inf_syntax.specs.Words.{keywords, words}

place_one : (b : Bool) (n length : ℕ) → n ≤ length → cond b 0 (1 + n) ≤ suc length
place_one true n length within = omega arith
place_one false n length within = omega (arith, within)

place_within : (spelling : List ℕ) (ws : List (List ℕ)) → place_in spelling ws ≤ length ws
place_within spelling [] = omega arith
place_within spelling (w ∷ ws) =
    place_one (str_eq_ignore_ascii_case spelling w) (place_in spelling ws) (length ws) (place_within spelling ws)

-- where an atom is that of a name
by_tests : (atom : ℕ) → first_word ≤ atom → (b : Bool) → nat_lt atom (first_word + names) ≡ b
    → name_at atom ≡ (if b then atom - first_word else atom - (first_word + names))
by_tests atom from b is =
    cond-false (nat_lt atom first_word) names (cond (nat_lt atom (first_word + names)) (atom - first_word) (atom - (first_word + names)))
    (false_from_ne_true (nat_lt atom first_word) (λ e. omega (arith, from, ltb-true atom first_word e)))
    ∙ ap (λ (x : Bool). cond x (atom - first_word) (atom - (first_word + names))) is

name_is : (is_class : Bool) (place : ℕ) → place ≤ 72 → name_at (first_word + (if is_class then names else 0) + place) ≡ place
name_is true place within =
    let atom = first_word + names + place in
    by_tests atom (omega arith) false (false_from_ne_true (nat_lt atom (first_word + names))
    (λ e. omega (arith, ltb-true atom (first_word + names) e))) ∙ omega arith
name_is false place within =
    let atom = first_word + 0 + place in
    by_tests atom (omega arith) true (lt-ltb atom (first_word + names) (omega (arith, within))) ∙ omega arith

words_length : length words ≡ 72
words_length = refl

pub keyword_is : (is_class : Bool) (spelling : List ℕ) →
    keyword_at (first_word + (if is_class then names else 0) + place_in spelling words) ≡ keyword_of spelling
unfolding keyword_at keyword_of
keyword_is is_class spelling = ap (λ n. slice_get keywords n)
    (name_is is_class (place_in spelling words) (omega (arith, place_within spelling words, words_length)))

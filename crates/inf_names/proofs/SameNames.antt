-- Names that are the same in any case have the same length and last letter; how they are compared byte by byte.
use Rattle.std.proofs.{Math.ListN.get_or-map, lemmas.List.drop_all, lemmas.List.length-map, lemmas.Slice.Eq.bytes_eq-Decides}
use Rattle.std.proofs.Common.{◌≡◌, ℕ, suc, ◌+◌, ◌-◌, ◌%◌, ◌<◌, ◌≤◌, ◌&&◌, List, [], ◌∷◌, Bool, true, false, cond, map, length, get_or, drop}
use Rattle.std.proofs.Common.{refl, sym, ◌∙◌, ap, arith, drop-cons}
use Rattle.std.specs.{Char.eq_ignore_ascii_case, Char.to_ascii_lowercase, Str.str_eq_ignore_ascii_case}
use Rattle.inf_names.specs.LocalList.{last_letter}

in_any_case : (byte : ℕ) → to_ascii_lowercase byte % 32 ≡ byte % 32
in_any_case byte = by_tests _ _ where
  by_tests : (b c : Bool) → cond b byte (cond c (byte + 32) byte) % 32 ≡ byte % 32
  by_tests true c = refl
  by_tests false true = omega arith
  by_tests false false = refl

same_last : (s w : List ℕ) → map to_ascii_lowercase s ≡ map to_ascii_lowercase w → last_letter s ≡ last_letter w
same_last s w e =
    let size : length s ≡ length w = sym (length-map s to_ascii_lowercase) ∙ ap length e ∙ length-map w to_ascii_lowercase in
    sym (in_any_case (get_or s (length s - 1) 0)) ∙ ap (λ n. n % 32) (sym (get_or-map to_ascii_lowercase s (length s - 1) 0)
    ∙ ap (λ x. get_or x (length s - 1) 0) e ∙ get_or-map to_ascii_lowercase w (length s - 1) 0) ∙ in_any_case (get_or w (length s - 1) 0)
    ∙ ap (λ n. get_or w (n - 1) 0 % 32) size

pub same_letter : (s w : List ℕ) → str_eq_ignore_ascii_case s w ≡ true → last_letter s ≡ last_letter w
same_letter s w e = same_last s w ((bytes_eq-Decides (map to_ascii_lowercase s) (map to_ascii_lowercase w)).0 e)

pub same_length : (s w : List ℕ) → str_eq_ignore_ascii_case s w ≡ true → length s ≡ length w
same_length s w e = sym (length-map s to_ascii_lowercase)
    ∙ ap length ((bytes_eq-Decides (map to_ascii_lowercase s) (map to_ascii_lowercase w)).0 e) ∙ length-map w to_ascii_lowercase

-- The bytes from a place on are the same if those at that place are, and those behind it.
pub same_from : (s w : List ℕ) (i : ℕ) → length s ≡ length w → i < length s → str_eq_ignore_ascii_case (drop i s) (drop i w)
    ≡ (eq_ignore_ascii_case (get_or s i 0) (get_or w i 0) && str_eq_ignore_ascii_case (drop (suc i) s) (drop (suc i) w))
same_from s w i size within = ap (λ x. str_eq_ignore_ascii_case x (drop i w)) (drop-cons s i 0 within)
    ∙ ap (λ x. str_eq_ignore_ascii_case (get_or s i 0 ∷ drop (suc i) s) x) (drop-cons w i 0 (omega (arith, size, within)))

-- Behind the last byte nothing differs.
pub same_at_end : (s w : List ℕ) (i : ℕ) → length s ≡ length w → length s ≤ i → str_eq_ignore_ascii_case (drop i s) (drop i w) ≡ true
same_at_end s w i size behind = ap (λ x. str_eq_ignore_ascii_case x (drop i w)) (drop_all i s behind)
    ∙ ap (λ x. str_eq_ignore_ascii_case [] x) (drop_all i w (omega (arith, size, behind)))

pub ruleset same_steps = (same_from, same_at_end)

-- A name with another size or other ends is none of the language's own.
use Rattle.std.proofs.Common.{◌≡◌, ℕ, ◌-◌, List, [], ◌∷◌, true, false, map, length, get_or, refl, sym, ◌∙◌, ap, None, find}
use Rattle.std.proofs.{Math.ListN.get_or-map, lemmas.List.length-map, lemmas.Slice.Eq.bytes_eq-Decides}
use Rattle.std.proofs.lemmas.Bool.{and_parts, false_from_ne_true, both_ways}
use Rattle.std.specs.{Char.to_ascii_lowercase, List.list_all}
use Rattle.inf_names.specs.SystemNames.{ends_of, has_ends, has_name, may_be_known, name_of, named, system_names}
use Rattle.inf_names.specs.declared.system_names.SystemName.{SystemName}

letter_same : (s w : List ℕ) → map to_ascii_lowercase s ≡ map to_ascii_lowercase w → (n : ℕ) →
    to_ascii_lowercase (get_or s n 0) ≡ to_ascii_lowercase (get_or w n 0)
letter_same s w e n = sym (get_or-map to_ascii_lowercase s n 0) ∙ ap (λ x. get_or x n 0) e ∙ get_or-map to_ascii_lowercase w n 0

same_ends : (s w : List ℕ) → map to_ascii_lowercase s ≡ map to_ascii_lowercase w → may_be_known s ≡ may_be_known w
same_ends s w e =
    let size : length s ≡ length w = sym (length-map s to_ascii_lowercase) ∙ ap length e ∙ length-map w to_ascii_lowercase in
    let first = letter_same s w e 0 in
    let last = letter_same s w e (length s - 1) ∙ ap (λ n. to_ascii_lowercase (get_or w (n - 1) 0)) size in
    ap (λ n. has_ends (ends_of n) (to_ascii_lowercase (get_or s 0 0)) (to_ascii_lowercase (get_or s (length s - 1) 0))) size
    ∙ ap (λ l. has_ends (ends_of (length w)) l (to_ascii_lowercase (get_or s (length s - 1) 0))) first
    ∙ ap (λ l. has_ends (ends_of (length w)) (to_ascii_lowercase (get_or w 0 0)) l) last

differs : (s : List ℕ) (known : SystemName) → may_be_known s ≡ false → may_be_known (name_of known) ≡ true → has_name s known ≡ false
differs s known un is = false_from_ne_true (has_name s known)
    (λ e. both_ways (may_be_known s) un (same_ends s (name_of known) ((bytes_eq-Decides (map to_ascii_lowercase s)
    (map to_ascii_lowercase (name_of known))).0 e) ∙ is))

none_among : (s : List ℕ) → may_be_known s ≡ false → (ns : List SystemName) → list_all (λ n. may_be_known (name_of n)) ns ≡ true →
    find (has_name s) ns ≡ None
none_among s un [] all = refl
none_among s un (n ∷ ns) all =
    let parts = and_parts (may_be_known (name_of n)) (list_all (λ m. may_be_known (name_of m)) ns) all in
    rw (differs s n un parts.0) (none_among s un ns parts.1)

all_known : list_all (λ n. may_be_known (name_of n)) system_names ≡ true
unfolding system_names
all_known = refl

pub none_named : (s : List ℕ) → may_be_known s ≡ false → named s ≡ None
none_named s un = none_among s un system_names all_known

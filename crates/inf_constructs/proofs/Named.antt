-- The map of the code has the labels of the definitions' list.
use Rattle.std.proofs.Common.{◌≡◌, ◌<◌, ◌+◌, ℕ, suc, zero, Bool, true, false, cond, List, [], ◌∷◌, drop, length, map, Option, None, Some}
use Rattle.std.proofs.Common.{refl, sym, ap, ◌∙◌, arith, option_copied, bytes_eq, option_map, slice_get}
use Rattle.std.specs.{Borrow.Bor, Map.lookup}
use Rattle.arrayvec.specs.declared.array_vec.ArrayVec.{ArrayVec}
use Rattle.indexmap.specs.IndexMap.{insert_entry}
use Rattle.inf_constructs.specs.{Entries.as_named, Entries.known, declared.labels.Entry.Entry}
use Rattle.inf_constructs.specs.Labels.{NamedLabel, known_at, known_of, missing, missing_at, put}

abbrev pub Key : Type 0
Key = ArrayVec ℕ 32 Unit

-- whether a stored name is `name`
abbrev pub has : List ℕ → Key → Bool
has key k = bytes_eq key k.items

pub known_of-lookup : (key : List ℕ) (es : List (Key × Entry)) → known_of key (map as_named es) ≡ option_map known (lookup (has key) es)
known_of-lookup key [] = refl
known_of-lookup key (e ∷ es) = go (bytes_eq key e.0.items) (known_of-lookup key es) where
  go : (t : Bool) → known_of key (map as_named es) ≡ option_map known (lookup (has key) es) →
      cond t (Some (known e.1)) (known_of key (map as_named es)) ≡ option_map known (cond t (Some e.1) (lookup (has key) es))
  go true later = refl
  go false later = later

pub put-insert : (key : Key) (entry : Entry) (es : List (Key × Entry)) →
    map as_named (insert_entry (λ a b. bytes_eq a.items b.items) es key entry) ≡ put key.items (known entry) (map as_named es)
put-insert key entry [] = refl
put-insert key entry (e ∷ es) = go (bytes_eq key.items e.0.items) (put-insert key entry es) where
  go : (t : Bool) → map as_named (insert_entry (λ a b. bytes_eq a.items b.items) es key entry) ≡ put key.items (known entry)
      (map as_named es) → map as_named (cond t ((e.0, entry) ∷ es) (e ∷ insert_entry (λ a b. bytes_eq a.items b.items) es key entry)) ≡
      cond t (as_named (e.0, entry) ∷ map as_named es) (as_named e ∷ put key.items (known entry) (map as_named es))
  go true later = refl
  go false later = ap (λ labels. as_named e ∷ labels) later

pub known_at-get : (n : ℕ) (es : List (Key × Entry)) → known_at n (map as_named es) ≡ option_map (λ e. known e.1) (slice_get es n)
known_at-get n [] = refl
known_at-get zero (e ∷ es) = refl
known_at-get (suc n) (e ∷ es) = known_at-get n es

pub known-copied : (r : Option (Bor Entry)) → option_map (λ e. known e.now) r ≡ option_map known (option_copied r)
known-copied None = refl
known-copied (Some e) = refl

-- the missing label from one place on: the one at that place, or the one behind it
abbrev pub or_else : Option (List ℕ) → Option (List ℕ) → Option (List ℕ)
or_else None others = others
or_else (Some name) others = Some name

missing_first : (l : NamedLabel) (others : Option (List ℕ)) (t : Bool) →
    cond t others (Some l.known.spelling) ≡ or_else (cond t None (Some l.known.spelling)) others
missing_first l others true = refl
missing_first l others false = refl

missing_next : (labels : List NamedLabel) (place : ℕ) → place < length labels
    → missing (drop place labels) ≡ or_else (missing_at (known_at place labels)) (missing (drop (suc place) labels))
missing_next [] place lt = absurd (omega arith)
missing_next (l ∷ labels) zero lt = missing_first l (missing labels) l.known.is_given
missing_next (l ∷ labels) (suc place) lt = missing_next labels place (omega arith)

pub missing_step : (labels : List NamedLabel) (place : ℕ) → place < length labels
    → missing (drop place labels) ≡ or_else (missing_at (known_at place labels)) (missing (drop (place + 1) labels))
missing_step labels place lt =
    let next : place + 1 ≡ suc place = omega arith in
    missing_next labels place lt ∙ ap (λ n. or_else (missing_at (known_at place labels)) (missing (drop n labels))) (sym next)

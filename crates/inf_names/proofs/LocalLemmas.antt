-- The code does with its locals as the definitions do with the list of locals.
use Rattle.std.proofs.Common.{◌≡◌, ◌<◌, ◌≤◌, ℕ, suc, ◌+◌, Bool, true, false, cond, not, List, [], ◌∷◌, length, get_or, set, map, None, Some}
use Rattle.std.proofs.Common.{refl, ap, ◌∙◌, arith}
use Rattle.std.specs.{List.position_or_len, Str.str_eq_ignore_ascii_case}
use Rattle.inf_names.specs.{LocalList.local, Locals.local_of, Locals.number_from, Locals.with_named, declared.locals.Local.Local}

-- whether a local has this name, in any case
abbrev pub has : List ℕ → Local → Bool
has name l = str_eq_ignore_ascii_case l.name.items name

-- a local that was named
abbrev pub as_named : Local → Local
as_named l = record { name = l.name; place = l.place; is_named = true }

pub local_of-found : (name : List ℕ) (ls : List Local) (d : Local) → position_or_len (has name) ls < length ls →
    local_of name (map local ls) ≡ Some (local (get_or ls (position_or_len (has name) ls) d))
local_of-found name [] d lt = absurd (omega arith)
local_of-found name (l ∷ ls) d lt = go (has name l) lt (local_of-found name ls d) where
  go : (t : Bool) → cond (not t) (1 + position_or_len (has name) ls) 0 < suc (length ls) →
      (position_or_len (has name) ls < length ls → local_of name (map local ls) ≡ Some
      (local (get_or ls (position_or_len (has name) ls) d))) → cond t (Some (local l)) (local_of name (map local ls)) ≡ Some
      (local (get_or (l ∷ ls) (cond (not t) (1 + position_or_len (has name) ls) 0) d))
  go true lt later = refl
  go false lt later =
      let behind : 1 + position_or_len (has name) ls ≡ suc (position_or_len (has name) ls) = omega arith in
      rw behind (later (omega arith))

pub local_of-absent : (name : List ℕ) (ls : List Local) → length ls ≤ position_or_len (has name) ls → local_of name (map local ls) ≡ None
local_of-absent name [] le = refl
local_of-absent name (l ∷ ls) le = go (has name l) le (local_of-absent name ls) where
  go : (t : Bool) → suc (length ls) ≤ cond (not t) (1 + position_or_len (has name) ls) 0 →
      (length ls ≤ position_or_len (has name) ls → local_of name (map local ls) ≡ None) →
      cond t (Some (local l)) (local_of name (map local ls)) ≡ None
  go true le later = absurd (omega arith)
  go false le later = later (omega arith)

pub number_from-found : (n : ℕ) (name : List ℕ) (ls : List Local) → position_or_len (has name) ls < length ls →
    number_from n name (map local ls) ≡ Some (n + position_or_len (has name) ls)
number_from-found n name [] lt = absurd (omega arith)
number_from-found n name (l ∷ ls) lt = go (has name l) lt (number_from-found (n + 1) name ls) where
  go : (t : Bool) → cond (not t) (1 + position_or_len (has name) ls) 0 < suc (length ls) →
      (position_or_len (has name) ls < length ls → number_from (n + 1) name (map local ls) ≡ Some (n + 1 + position_or_len (has name) ls))
      → cond t (Some n) (number_from (n + 1) name (map local ls)) ≡ Some (n + cond (not t) (1 + position_or_len (has name) ls) 0)
  go true lt later = let same : n ≡ n + 0 = omega arith in ap Some same
  go false lt later =
      let next : n + 1 + position_or_len (has name) ls ≡ n + (1 + position_or_len (has name) ls) = omega arith in
      later (omega arith) ∙ ap Some next

pub number_from-absent : (n : ℕ) (name : List ℕ) (ls : List Local) → length ls ≤ position_or_len (has name) ls →
    number_from n name (map local ls) ≡ None
number_from-absent n name [] le = refl
number_from-absent n name (l ∷ ls) le = go (has name l) le (number_from-absent (n + 1) name ls) where
  go : (t : Bool) → suc (length ls) ≤ cond (not t) (1 + position_or_len (has name) ls) 0 →
      (length ls ≤ position_or_len (has name) ls → number_from (n + 1) name (map local ls) ≡ None) →
      cond t (Some n) (number_from (n + 1) name (map local ls)) ≡ None
  go true le later = absurd (omega arith)
  go false le later = later (omega arith)

pub with_named-found : (name : List ℕ) (ls : List Local) (d : Local) → position_or_len (has name) ls < length ls → with_named name
    (map local ls) ≡ map local (set ls (position_or_len (has name) ls) (as_named (get_or ls (position_or_len (has name) ls) d)))
with_named-found name [] d lt = absurd (omega arith)
with_named-found name (l ∷ ls) d lt = go (has name l) lt (with_named-found name ls d) where
  go : (t : Bool) → cond (not t) (1 + position_or_len (has name) ls) 0 < suc (length ls) →
      (position_or_len (has name) ls < length ls → with_named name (map local ls) ≡ map local
      (set ls (position_or_len (has name) ls) (as_named (get_or ls (position_or_len (has name) ls) d)))) → cond t
      (local (as_named l) ∷ map local ls) (local l ∷ with_named name (map local ls)) ≡ map local
      (set (l ∷ ls) (cond (not t) (1 + position_or_len (has name) ls) 0)
      (as_named (get_or (l ∷ ls) (cond (not t) (1 + position_or_len (has name) ls) 0) d)))
  go true lt later = refl
  go false lt later =
      let behind : 1 + position_or_len (has name) ls ≡ suc (position_or_len (has name) ls) = omega arith in
      rw behind (ap (λ rest. local l ∷ rest) (later (omega arith)))

pub with_named-absent : (name : List ℕ) (ls : List Local) → length ls ≤ position_or_len (has name) ls →
    with_named name (map local ls) ≡ map local ls
with_named-absent name [] le = refl
with_named-absent name (l ∷ ls) le = go (has name l) le (with_named-absent name ls) where
  go : (t : Bool) → suc (length ls) ≤ cond (not t) (1 + position_or_len (has name) ls) 0 →
      (length ls ≤ position_or_len (has name) ls → with_named name (map local ls) ≡ map local ls) →
      cond t (local (as_named l) ∷ map local ls) (local l ∷ with_named name (map local ls)) ≡ map local (l ∷ ls)
  go true le later = absurd (omega arith)
  go false le later = ap (λ rest. local l ∷ rest) (later (omega arith))

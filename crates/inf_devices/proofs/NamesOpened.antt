-- The different names under which sources were opened.
use Rattle.std.proofs.Common.{◌≡◌, ◌<◌, ◌||◌, ℕ, zero, suc, Bool, true, false, cond, List, [], ◌∷◌, ◌++◌, length, map, get_or, String}
use Rattle.std.proofs.Common.{Result, Ok, Err, IsOk, OnOk, refl, ap, arith, bytes_eq, string_bytes, string_eq, slice_set}
use Rattle.std.proofs.lemmas.List.{map-append}
use Rattle.std.specs.{List.list_any, declared.alloc.Global.Global}
use Rattle.indexmap.specs.IndexSet.{insert_key}
use Rattle.inf_devices.specs.{MemoryFiles.given_more, MemoryFiles.opening_of, declared.memory_files.Opened.Opened}
use Rattle.inf_devices.specs.Files.{Opening, Sources, names_from, with_name}

-- a test of names passes one of these strings
pub any_in : (test : List ℕ → Bool) (keys : List (String Global)) →
    list_any (λ k. test (string_bytes k)) keys ≡ list_any test (map string_bytes keys)
any_in test [] = refl
any_in test (k ∷ keys) = ap (λ b. test (string_bytes k) || b) (any_in test keys)

-- a name that is added
pub added_to : (keys : List (String Global)) (name : String Global) →
    map string_bytes (insert_key string_eq keys name) ≡ with_name (string_bytes name) (map string_bytes keys)
added_to keys name = by (list_any (string_eq name) keys) (list_any (bytes_eq (string_bytes name)) (map string_bytes keys))
    (any_in (bytes_eq (string_bytes name)) keys)
  where
    by : (a b : Bool) → a ≡ b → map string_bytes (cond a keys (keys ++ name ∷ [])) ≡ cond b (map string_bytes keys)
        (map string_bytes keys ++ string_bytes name ∷ [])
    by true true e = refl
    by false false e = map-append string_bytes keys (name ∷ [])
    by true false e = cc
    by false true e = cc

pub of_ok : {T E : Type 0} (r : Result T E) (P : Type 0) → IsOk r → OnOk r P → P
of_ok (Ok x) P is p = p
of_ok (Err e) P is p = cc

-- the names where one more source was opened
pub names_behind : (names : List (List ℕ)) (openings : List Opening) (o : Opening)
    → names_from names (openings ++ o ∷ []) ≡ with_name o.name (names_from names openings)
names_behind names [] o = refl
names_behind names (p ∷ openings) o = names_behind (with_name p.name names) openings o

-- the names where more was given of an opening
pub names_given : (s : Sources) (opens : List Opened) (place : ℕ) (o : Opened) (count : ℕ) (names : List (List ℕ)) → place < length opens
    → o ≡ get_or opens place o
    → names_from names (map (opening_of s) (slice_set opens place (given_more o count))) ≡ names_from names (map (opening_of s) opens)
names_given s [] place o count names within at = absurd (omega (arith, within))
names_given s (x ∷ opens) zero o count names within at =
    ap (λ (q : Opened). names_from (with_name (string_bytes q.name) names) (map (opening_of s) opens)) at
names_given s (x ∷ opens) (suc place) o count names within at =
    names_given s opens place o count (with_name (string_bytes x.name) names) (omega (arith, within)) at

-- The names of a set as a list of names.
use Rattle.std.proofs.Common.{◌≡◌, ℕ, Bool, true, false, cond, List, [], ◌∷◌, ◌++◌, map, refl, ◌∙◌, ap, bytes_eq, ◌||◌}
use Rattle.std.specs.List.{list_any}
use Rattle.arrayvec.specs.declared.array_vec.ArrayVec.{ArrayVec}
use Rattle.indexmap.specs.IndexSet.{insert_key}

abbrev pub SetKey : Type 0
SetKey = ArrayVec ℕ 35 Unit

abbrev pub spelled : List SetKey → List (List ℕ)
spelled = map (λ k. k.items)

pub any-spelled : (key : List ℕ) (ks : List SetKey) → list_any (λ k. bytes_eq key k.items) ks ≡ list_any (bytes_eq key) (spelled ks)
any-spelled key [] = refl
any-spelled key (k ∷ ks) = ap (λ t. bytes_eq key k.items || t) (any-spelled key ks)

spelled-behind : (key : SetKey) (ks : List SetKey) → spelled (ks ++ key ∷ []) ≡ spelled ks ++ key.items ∷ []
spelled-behind key [] = refl
spelled-behind key (k ∷ ks) = ap (λ names. k.items ∷ names) (spelled-behind key ks)

pub spelled-insert : (key : SetKey) (ks : List SetKey) → spelled (insert_key (λ a b. bytes_eq a.items b.items) ks key) ≡
    cond (list_any (bytes_eq key.items) (spelled ks)) (spelled ks) (spelled ks ++ key.items ∷ [])
spelled-insert key ks = go (list_any (λ k. bytes_eq key.items k.items) ks)
    ∙ ap (λ t. cond t (spelled ks) (spelled ks ++ key.items ∷ [])) (any-spelled key.items ks)
  where
    go : (t : Bool) → spelled (cond t ks (ks ++ key ∷ [])) ≡ cond t (spelled ks) (spelled ks ++ key.items ∷ [])
    go true = refl
    go false = spelled-behind key ks

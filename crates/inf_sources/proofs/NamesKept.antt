-- The names of files under their numbers.
use Rattle.std.proofs.Common.{◌≡◌, ℕ, suc, zero, ◌+◌, ◌||◌, not, Bool, true, false, cond, List, [], ◌∷◌, ◌++◌, Some, refl, sym, ap, ◌∙◌}
use Rattle.std.proofs.Common.{arith, bytes_eq, slice_get}
use Rattle.std.proofs.lemmas.Slice.Eq.{bytes_eq-Decides}
use Rattle.std.specs.List.{list_any, position_or_len}
use Rattle.inf_lexer.specs.Names.{number_of, with_name}

-- names behind others change none of these
stays_before : (names more : List (List ℕ)) (i : ℕ) (x : List ℕ) → slice_get names i ≡ Some x → slice_get (names ++ more) i ≡ Some x
stays_before [] more i x e = cc
stays_before (n ∷ names) more zero x e = e
stays_before (n ∷ names) more (suc i) x e = stays_before names more i x e

pub names_stay : (name : List ℕ) (names : List (List ℕ)) (i : ℕ) (x : List ℕ) → slice_get names i ≡ Some x →
    slice_get (with_name name names) i ≡ Some x
names_stay name names i x e = by (list_any (bytes_eq name) names) where
  by : (b : Bool) → slice_get (cond b names (names ++ name ∷ [])) i ≡ Some x
  by true = e
  by false = stays_before names (name ∷ []) i x e

-- the number of a name is the place of the first that equals it
found_at : (name : List ℕ) (names : List (List ℕ)) → list_any (bytes_eq name) names ≡ true →
    slice_get names (number_of name names) ≡ Some name
found_at name [] e = cc
found_at name (n ∷ names) e = by (bytes_eq name n) refl (λ rest. found_at name names rest) where
  by : (b : Bool) → bytes_eq name n ≡ b → (list_any (bytes_eq name) names ≡ true → slice_get names (number_of name names) ≡ Some name) →
      slice_get (n ∷ names) (cond (not b) (1 + position_or_len (bytes_eq name) names) 0) ≡ Some name
  by true is later = ap (λ (x : List ℕ). Some x) (sym ((bytes_eq-Decides name n).0 is))
  by false is later =
      let rest : list_any (bytes_eq name) names ≡ true = ap (λ b. b || list_any (bytes_eq name) names) (sym is) ∙ e in
      let next : 1 + position_or_len (bytes_eq name) names ≡ suc (position_or_len (bytes_eq name) names) = omega arith in
      ap (λ i. slice_get (n ∷ names) i) next ∙ later rest

added_at : (name : List ℕ) (names : List (List ℕ)) → list_any (bytes_eq name) names ≡ false →
    slice_get (names ++ name ∷ []) (number_of name names) ≡ Some name
added_at name [] e = refl
added_at name (n ∷ names) e = by (bytes_eq name n) refl (λ rest. added_at name names rest) where
  by : (b : Bool) → bytes_eq name n ≡ b →
      (list_any (bytes_eq name) names ≡ false → slice_get (names ++ name ∷ []) (number_of name names) ≡ Some name) →
      slice_get ((n ∷ names) ++ name ∷ []) (cond (not b) (1 + position_or_len (bytes_eq name) names) 0) ≡ Some name
  by true is later = let never : true ≡ false = ap (λ b. b || list_any (bytes_eq name) names) (sym is) ∙ e in cc
  by false is later =
      let rest : list_any (bytes_eq name) names ≡ false = ap (λ b. b || list_any (bytes_eq name) names) (sym is) ∙ e in
      let next : 1 + position_or_len (bytes_eq name) names ≡ suc (position_or_len (bytes_eq name) names) = omega arith in
      ap (λ i. slice_get ((n ∷ names) ++ name ∷ []) i) next ∙ later rest

-- a name is found at its number
pub named_at : (name : List ℕ) (names : List (List ℕ)) → slice_get (with_name name names) (number_of name names) ≡ Some name
named_at name names = by (list_any (bytes_eq name) names) refl where
  by : (b : Bool) → list_any (bytes_eq name) names ≡ b → slice_get (cond b names (names ++ name ∷ [])) (number_of name names) ≡ Some name
  by true e = found_at name names e
  by false e = added_at name names e

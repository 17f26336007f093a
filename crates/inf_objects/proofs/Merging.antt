-- Two lists merged place by place, by a function of both entries.
use Rattle.std.proofs.Common.{◌≡◌, ◌<◌, ◌+◌, ◌∷◌, ◌++◌, [], ℕ, zero, suc, List, Bool, length, get_or, take, drop, refl, sym, ap, ◌∙◌, arith}
use Rattle.std.specs.Prelude.{slice_set}
use Rattle.inf_objects.specs.Attributes.{merged}

-- the list where the places before `place` are merged
abbrev pub merged_from : {A : Type 0} → (Bool → A → Bool) → ℕ → List Bool → List A → List Bool
merged_from f place all others = take place all ++ merged f (drop place all) (drop place others)

module _ {A : Type 0} where
  next : (f : Bool → A → Bool) (place : ℕ) (all : List Bool) (others : List A) (d : Bool) (e : A) → place < length all →
      place < length others
      → merged_from f (suc place) (slice_set all place (f (get_or all place d) (get_or others place e))) others ≡ merged_from f place all
      others
  next f place [] others d e h k = absurd (omega arith)
  next f place (a ∷ all) [] d e h k = absurd (omega arith)
  next f zero (a ∷ all) (o ∷ others) d e h k = refl
  next f (suc place) (a ∷ all) (o ∷ others) d e h k = ap (λ xs. a ∷ xs) (next f place all others d e (omega arith) (omega arith))

  pub merged_next : (f : Bool → A → Bool) (place : ℕ) (all : List Bool) (others : List A) (d : Bool) (e : A) → place < length all →
      place < length others
      → merged_from f (place + 1) (slice_set all place (f (get_or all place d) (get_or others place e))) others ≡ merged_from f place all
      others
  merged_next f place all others d e h k =
      let there : place + 1 ≡ suc place = omega arith in
      ap (λ n. merged_from f n (slice_set all place (f (get_or all place d) (get_or others place e))) others) there
      ∙ next f place all others d e h k

  drop-none : (place : ℕ) → drop {A = A} place [] ≡ []
  drop-none zero = refl
  drop-none (suc place) = refl

  pub merged_end : (f : Bool → A → Bool) (place : ℕ) (all : List Bool) (others : List A) → length all ≡ place →
      merged_from f place all others ≡ all
  merged_end f zero [] others e = refl
  merged_end f (suc place) [] others e = absurd (omega arith)
  merged_end f zero (a ∷ all) others e = absurd (omega arith)
  merged_end f (suc place) (a ∷ all) [] e =
      ap (λ xs. a ∷ xs) (ap (λ os. take place all ++ merged f (drop place all) os) (sym (drop-none place)) ∙ merged_end f place all []
      (omega arith))
  merged_end f (suc place) (a ∷ all) (o ∷ others) e = ap (λ xs. a ∷ xs) (merged_end f place all others (omega arith))

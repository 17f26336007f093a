-- The attributes that a body gives and takes away one after another are those of the object in the end.
use Rattle.std.proofs.Common.{◌≡◌, ◌∷◌, [], ℕ, zero, suc, List, Bool, Option, Some, None, fold, length, length-set, replicate, refl}
use Rattle.std.proofs.Common.{ap, ◌∙◌, arith, slice_set}
use Rattle.inf_objects.specs.Attributes.{attributes_by, nothing_said, said_or}

nothing_changes : (n : ℕ) (above : List Bool) → attributes_by above (replicate n None) ≡ above
nothing_changes zero [] = refl
nothing_changes zero (a ∷ above) = refl
nothing_changes (suc n) [] = refl
nothing_changes (suc n) (a ∷ above) = ap (λ flags. a ∷ flags) (nothing_changes n above)

one_said : (above : List Bool) (said : List (Option Bool)) (n : ℕ) (b : Bool) → length above ≡ length said
    → attributes_by above (slice_set said n (Some b)) ≡ slice_set (attributes_by above said) n b
one_said [] said n b e = refl
one_said (a ∷ above) [] n b e = absurd (omega (arith, e))
one_said (a ∷ above) (s ∷ said) zero b e = refl
one_said (a ∷ above) (s ∷ said) (suc n) b e = ap (λ flags. said_or s a ∷ flags) (one_said above said n b (omega (arith, e)))

all_said : (above : List Bool) (said : List (Option Bool)) (has : List (ℕ × Bool)) → length above ≡ length said
    → attributes_by above (fold (λ s h. slice_set s h.0 (Some h.1)) said has) ≡ fold (λ flags h. slice_set flags h.0 h.1)
    (attributes_by above said) has
all_said above said [] e = refl
all_said above said (h ∷ has) e =
    all_said above (slice_set said h.0 (Some h.1)) has (omega (arith, e, length-set {A = Option Bool} said h.0 (Some h.1)))
    ∙ ap (λ flags. fold (λ s k. slice_set s k.0 k.1) flags has) (one_said above said h.0 h.1 e)

pub said_in_order : (above : List Bool) (has : List (ℕ × Bool)) → length above ≡ 48
    → attributes_by above (fold (λ s h. slice_set s h.0 (Some h.1)) nothing_said has) ≡ fold (λ flags h. slice_set flags h.0 h.1) above has
unfolding nothing_said
said_in_order above has e =
    all_said above (replicate 48 None) has e ∙ ap (λ flags. fold (λ s h. slice_set s h.0 h.1) flags has) (nothing_changes 48 above)

-- A choice has each property that both of its cases have.
use Rattle.std.proofs.Common.{◌≡◌, Bool, true, false, cond, refl}

pub of_both : {A : Type 0} (P : A → Type 0) (b : Bool) (x y : A) → (b ≡ true → P x) → (b ≡ false → P y) → P (cond b x y)
of_both P true x y f g = f refl
of_both P false x y f g = g refl

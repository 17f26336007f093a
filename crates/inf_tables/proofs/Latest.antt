-- The latest object that has a number of arrows.
use Rattle.std.proofs.Common.{◌≡◌, ◌≤◌, ◌<◌, ◌+◌, ◌∷◌, ◌++◌, [], ℕ, suc, List, Bool, true, false, Option, Some, None, length, refl}
use Rattle.std.proofs.Common.{sym, ap, subst, ◌∙◌, arith, is_some, if◌then◌else◌}
use Rattle.inf_objects.specs.declared.objects.Object.{Object}
use Rattle.inf_tables.specs.Objects.{IsReached, has_arrows, latest_from, latest_with, or_latest, parent_above, parent_by_arrows}

abbrev pub told : ℕ → ℕ → Object → Option ℕ
told arrows number o = if has_arrows arrows o then Some number else None

or_assoc : (a b c : Option ℕ) → or_latest (or_latest a b) c ≡ or_latest a (or_latest b c)
or_assoc None b c = refl
or_assoc (Some n) b c = refl

or_none : (a : Option ℕ) → or_latest a None ≡ a
or_none None = refl
or_none (Some n) = refl

-- one more object behind others is the latest if it has the arrows
latest_from-push : (arrows number : ℕ) (objects : List Object) (o : Object)
    → latest_from arrows number (objects ++ o ∷ []) ≡ or_latest (told arrows (number + length objects) o)
    (latest_from arrows number objects)
latest_from-push arrows number [] o =
    let here : number ≡ number + 0 = omega arith in sym (or_none (told arrows (number + 0) o) ∙ sym (ap (λ n. told arrows n o) here))
latest_from-push arrows number (p ∷ objects) o =
    let there : number + 1 + length objects ≡ number + length (p ∷ objects) = omega arith in
    ap (λ x. or_latest x (told arrows number p)) (latest_from-push arrows (number + 1) objects o ∙ ap
    (λ n. or_latest (told arrows n o) (latest_from arrows (number + 1) objects)) there)
    ∙ or_assoc (told arrows (number + length (p ∷ objects)) o) (latest_from arrows (number + 1) objects) (told arrows number p)

pub latest-push : (arrows : ℕ) (objects : List Object) (o : Object) →
    latest_with arrows (objects ++ o ∷ []) ≡ or_latest (told arrows (5 + length objects) o) (latest_with arrows objects)
latest-push arrows objects o = latest_from-push arrows 5 objects o

-- the latest object is one of the objects
latest_from-within : (arrows number : ℕ) (objects : List Object) (n : ℕ) → latest_from arrows number objects ≡ Some n →
    n < number + length objects
latest_from-within arrows number [] n e = cc
latest_from-within arrows number (o ∷ objects) n e =
    go (latest_from arrows (number + 1) objects) (has_arrows arrows o) e (latest_from-within arrows (number + 1) objects n)
  where
    go : (later : Option ℕ) (b : Bool) → or_latest later (if b then Some number else None) ≡ Some n →
        (later ≡ Some n → n < number + 1 + length objects) → n < number + length (o ∷ objects)
    go None true is below = let this : number ≡ n = cc in omega (arith, this)
    go None false is below = cc
    go (Some m) b is below = omega (arith, below is)

pub latest-within : (arrows : ℕ) (objects : List Object) (n : ℕ) → latest_with arrows objects ≡ Some n → n ≤ 4 + length objects
latest-within arrows objects n e = omega (arith, latest_from-within arrows 5 objects n e)

-- by arrows, of which there are some, the parent is the latest object with one less
pub above_is : (arrows k : ℕ) (objects : List Object) → arrows ≡ k + 1 →
    parent_by_arrows arrows objects ≡ parent_above (latest_with k objects)
above_is arrows k objects e = let there : arrows ≡ suc k = omega (arith, e) in ap (λ n. parent_by_arrows n objects) there

pub reached_is : (arrows k n : ℕ) (objects : List Object) → arrows ≡ k + 1 → latest_with k objects ≡ Some n → IsReached arrows objects
reached_is arrows k n objects e is =
    let there : arrows ≡ suc k = omega (arith, e) in subst (λ m. IsReached m objects) (sym there) (ap is_some is)

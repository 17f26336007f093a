-- The items of an expression's tokens that were read, as far as the rows of the grammar go by them.
use Rattle.std.proofs.{lemmas.Bool.and_parts, lemmas.Bool.eqb-true, lemmas.Bool.leb-true, lemmas.Option.same_Some}
use Rattle.std.proofs.Common.{◌≡◌, ℕ, ◌≤◌, List, [], ◌∷◌, ◌++◌, Bool, true, false, ◌&&◌, ◌==◌, nat_le, Option, Some, None, refl, subst}
use Rattle.std.proofs.Common.{arith, if◌then◌else◌}
use Rattle.inf_machine.specs.{Decided.is_within, Grammar.has}
use Rattle.inf_machine.proofs.Sets.{has_within}

-- A token that no action has used; an expression that binds at a level at least; an opening bracket of an expression; an
-- expression in brackets of which the closing one is still to come; a list without parts; one with parts that bind at a
-- level and have these signs between them; one with or without parts.
pub data Item : Type 0 where
  Sign : ℕ → Item
  Whole : ℕ → Item
  Opened : Item
  Closing : Item
  NoneYet : Item
  Parts : ℕ → ℕ → Item
  Any : ℕ → ℕ → Item

-- an item that is a case of a wider one
pub data Fits : Item → Item → Type 0 where
  sign : {set wider : ℕ} → ((atom : ℕ) → has set atom ≡ true → has wider atom ≡ true) → Fits (Sign set) (Sign wider)
  whole : {tight loose : ℕ} → loose ≤ tight → Fits (Whole tight) (Whole loose)
  opened : Fits Opened Opened
  closing : Fits Closing Closing
  none_yet : Fits NoneYet NoneYet
  parts : {level signs : ℕ} → Fits (Parts level signs) (Parts level signs)
  any : {level signs : ℕ} → Fits (Any level signs) (Any level signs)
  some : {level signs : ℕ} → Fits (Parts level signs) (Any level signs)
  nothing : {level signs : ℕ} → Fits NoneYet (Any level signs)

pub data Within : List Item → List Item → Type 0 where
  bottom : Within [] []
  item : {x y : Item} {xs ys : List Item} → Fits x y → Within xs ys → Within (x ∷ xs) (y ∷ ys)

-- Lemmas about cases of items as a test

abbrev same_list : ℕ → ℕ → ℕ → ℕ → Bool
same_list level signs other_level other_signs = (level == other_level) && (signs == other_signs)

abbrev pub fits : Item → Item → Bool
fits (Sign set) (Sign wider) = is_within set wider
fits (Whole tight) (Whole loose) = nat_le loose tight
fits Opened Opened = true
fits Closing Closing = true
fits NoneYet NoneYet = true
fits NoneYet (Any level signs) = true
fits (Parts level signs) (Parts other_level other_signs) = same_list level signs other_level other_signs
fits (Parts level signs) (Any other_level other_signs) = same_list level signs other_level other_signs
fits (Any level signs) (Any other_level other_signs) = same_list level signs other_level other_signs
fits _ _ = false

same_as : (P : ℕ → ℕ → Type 0) (level signs other_level other_signs : ℕ) → same_list level signs other_level other_signs ≡ true →
    P level signs → P other_level other_signs
same_as P level signs other_level other_signs e p =
    let both = and_parts (level == other_level) (signs == other_signs) e in
    subst (λ s. P other_level s) (eqb-true signs other_signs both.1) (subst (λ l. P l signs) (eqb-true level other_level both.0) p)

pub fits_sound : (x y : Item) → fits x y ≡ true → Fits x y
fits_sound (Sign set) (Sign other_set) e = sign (λ atom h. has_within set other_set atom e h)
fits_sound (Sign set) (Whole other_level) e = cc
fits_sound (Sign set) Opened e = cc
fits_sound (Sign set) Closing e = cc
fits_sound (Sign set) NoneYet e = cc
fits_sound (Sign set) (Parts other_level other_signs) e = cc
fits_sound (Sign set) (Any other_level other_signs) e = cc
fits_sound (Whole level) (Sign other_set) e = cc
fits_sound (Whole level) (Whole other_level) e = whole (leb-true other_level level e)
fits_sound (Whole level) Opened e = cc
fits_sound (Whole level) Closing e = cc
fits_sound (Whole level) NoneYet e = cc
fits_sound (Whole level) (Parts other_level other_signs) e = cc
fits_sound (Whole level) (Any other_level other_signs) e = cc
fits_sound Opened (Sign other_set) e = cc
fits_sound Opened (Whole other_level) e = cc
fits_sound Opened Opened e = opened
fits_sound Opened Closing e = cc
fits_sound Opened NoneYet e = cc
fits_sound Opened (Parts other_level other_signs) e = cc
fits_sound Opened (Any other_level other_signs) e = cc
fits_sound Closing (Sign other_set) e = cc
fits_sound Closing (Whole other_level) e = cc
fits_sound Closing Opened e = cc
fits_sound Closing Closing e = closing
fits_sound Closing NoneYet e = cc
fits_sound Closing (Parts other_level other_signs) e = cc
fits_sound Closing (Any other_level other_signs) e = cc
fits_sound NoneYet (Sign other_set) e = cc
fits_sound NoneYet (Whole other_level) e = cc
fits_sound NoneYet Opened e = cc
fits_sound NoneYet Closing e = cc
fits_sound NoneYet NoneYet e = none_yet
fits_sound NoneYet (Parts other_level other_signs) e = cc
fits_sound NoneYet (Any other_level other_signs) e = nothing
fits_sound (Parts level signs) (Sign other_set) e = cc
fits_sound (Parts level signs) (Whole other_level) e = cc
fits_sound (Parts level signs) Opened e = cc
fits_sound (Parts level signs) Closing e = cc
fits_sound (Parts level signs) NoneYet e = cc
fits_sound (Parts level signs) (Parts other_level other_signs) e =
    same_as (λ l s. Fits (Parts level signs) (Parts l s)) level signs other_level other_signs e parts
fits_sound (Parts level signs) (Any other_level other_signs) e =
    same_as (λ l s. Fits (Parts level signs) (Any l s)) level signs other_level other_signs e some
fits_sound (Any level signs) (Sign other_set) e = cc
fits_sound (Any level signs) (Whole other_level) e = cc
fits_sound (Any level signs) Opened e = cc
fits_sound (Any level signs) Closing e = cc
fits_sound (Any level signs) NoneYet e = cc
fits_sound (Any level signs) (Parts other_level other_signs) e = cc
fits_sound (Any level signs) (Any other_level other_signs) e =
    same_as (λ l s. Fits (Any level signs) (Any l s)) level signs other_level other_signs e any

abbrev pub all_fit : List Item → List Item → Bool
all_fit [] [] = true
all_fit (x ∷ xs) (y ∷ ys) = fits x y && all_fit xs ys
all_fit _ _ = false

pub all_fit_sound : (xs ys : List Item) → all_fit xs ys ≡ true → Within xs ys
all_fit_sound [] [] e = bottom
all_fit_sound [] (y ∷ ys) e = cc
all_fit_sound (x ∷ xs) [] e = cc
all_fit_sound (x ∷ xs) (y ∷ ys) e =
    let both = and_parts (fits x y) (all_fit xs ys) e in item (fits_sound x y both.0) (all_fit_sound xs ys both.1)

-- Items on the top are removed, where they are these or cases of them.
abbrev pub and_then : {A B : Type 0} → (A → Option B) → Option A → Option B
and_then next None = None
and_then next (Some a) = next a

abbrev pub popped : Item → List Item → Option (List Item)
popped y [] = None
popped y (x ∷ rest) = if fits x y then Some rest else None

abbrev pub all_popped : List Item → List Item → Option (List Item)
all_popped [] items = Some items
all_popped (y ∷ ys) items = and_then (all_popped ys) (popped y items)

-- Lemmas about orders

pub fits_same : (x : Item) → Fits x x
fits_same (Sign set) = sign (λ atom h. h)
fits_same (Whole level) = whole (omega arith)
fits_same Opened = opened
fits_same Closing = closing
fits_same NoneYet = none_yet
fits_same (Parts level signs) = parts
fits_same (Any level signs) = any

pub within_same : (xs : List Item) → Within xs xs
within_same [] = bottom
within_same (x ∷ xs) = item (fits_same x) (within_same xs)

pub within_append : {xs ys : List Item} (rest : List Item) → Within xs ys → Within (xs ++ rest) (ys ++ rest)
within_append rest bottom = within_same rest
within_append rest (item f w) = item f (within_append rest w)

fits_trans : {x y z : Item} → Fits x y → Fits y z → Fits x z
fits_trans (sign f) (sign g) = sign (λ atom h. g atom (f atom h))
fits_trans (whole f) (whole g) = whole (omega (arith, f, g))
fits_trans opened f = f
fits_trans closing f = f
fits_trans none_yet f = f
fits_trans parts f = f
fits_trans any f = f
fits_trans some any = some
fits_trans nothing any = nothing

pub within_trans : {xs ys zs : List Item} → Within xs ys → Within ys zs → Within xs zs
within_trans bottom bottom = bottom
within_trans (item f w) (item g v) = item (fits_trans f g) (within_trans w v)

popped_sound : (y : Item) (items rest : List Item) → popped y items ≡ Some rest → Within items (y ∷ rest)
popped_sound y [] rest e = cc
popped_sound y (x ∷ xs) rest e = by_fit (fits x y) refl e
  where
    by_fit : (b : Bool) → fits x y ≡ b → (if b then Some xs else None) ≡ Some rest → Within (x ∷ xs) (y ∷ rest)
    by_fit true f q = subst (λ r. Within (x ∷ xs) (y ∷ r)) (same_Some xs rest q) (item (fits_sound x y f) (within_same xs))
    by_fit false f q = cc

pub all_popped_sound : (ys items rest : List Item) → all_popped ys items ≡ Some rest → Within items (ys ++ rest)
all_popped_sound [] items rest e = subst (λ r. Within items r) (same_Some items rest e) (within_same items)
all_popped_sound (y ∷ ys) items rest e = by_first (λ left q. all_popped_sound ys left rest q) (popped y items) refl e
  where
    by_first : ((left : List Item) → all_popped ys left ≡ Some rest → Within left (ys ++ rest)) → (o : Option (List Item)) →
        popped y items ≡ o → and_then (all_popped ys) o ≡ Some rest → Within items (y ∷ (ys ++ rest))
    by_first others None p q = cc
    by_first others (Some left) p q = within_trans (popped_sound y items left p) (item (fits_same y) (others left q))

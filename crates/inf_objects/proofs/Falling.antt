-- Sums over the rows of a property table.
use Rattle.std.proofs.Common.{◌≡◌, ◌≤◌, ◌<◌, ◌+◌, ◌∷◌, ◌++◌, ◌==◌, [], ℕ, zero, suc, List, Bool, true, false, Some, None, inl, inr}
use Rattle.std.proofs.Common.{append_assoc, refl, sym, ap, ◌∙◌, arith, is_some, nat_lt, option_to_list, sum_by, if◌then◌else◌}
use Rattle.std.proofs.lemmas.Bool.{eqb-true, eqb-false, lt-ltb, le-ltb, cases_lt}
use Rattle.std.proofs.lemmas.List.Sums.{sum_by-append, sum_by-cons}
use Rattle.inf_area.specs.{declared.targets.AreaName.AreaName, declared.targets.Target.Target, declared.targets.Value.Value}
use Rattle.inf_properties.specs.{declared.sizes.Owner.Owner, declared.values.Property.Property}
use Rattle.inf_properties.specs.Properties.{AreFree, AreNew, found, has}
use Rattle.inf_properties.proofs.{Having.found-append, Having.or_found, Inheriting.absent_later, Inheriting.has-push_same}
use Rattle.inf_objects.specs.declared.objects.Object.{Object}
use Rattle.inf_objects.specs.Tables.{address_rows, class_rows, class_values, falling, has_individual, rows_by}
use Rattle.inf_objects.proofs.Rows.{none-found, no_address}

-- a measure of a property where its number is below `k`, and else 0
abbrev pub below : ℕ → (Property → ℕ) → Property → ℕ
below k f p = if nat_lt p.number k then f p else 0

pub below_in : (k : ℕ) (f : Property → ℕ) (p : Property) → p.number < k → below k f p ≡ f p
below_in k f p h = ap (λ (b : Bool). if b then f p else 0) (lt-ltb p.number k h)

pub below_out : (k : ℕ) (f : Property → ℕ) (p : Property) → k ≤ p.number → below k f p ≡ 0
below_out k f p h = ap (λ (b : Bool). if b then f p else 0) (le-ltb p.number k h)

-- a bound higher by one makes a difference to the property with that number alone
below_other : (k : ℕ) (f : Property → ℕ) (p : Property) → (p.number ≡ k → ⊥) → below (suc k) f p ≡ below k f p
below_other k f p e = elim (cases_lt p.number k) [
  | inl h ↦ below_in (suc k) f p (omega (arith, h)) ∙ sym (below_in k f p h)
  | inr h ↦ below_out (suc k) f p (omega (arith, h, e)) ∙ sym (below_out k f p h)
]

-- a property more in front, whose number no property behind it has, adds its measure to the sum
pub sum_falling-cons : (f : Property → ℕ) (k : ℕ) (p : Property) (ps : List Property) → has p.number ps ≡ false
    → sum_by f (falling k (p ∷ ps)) ≡ sum_by f (falling k ps) + below k f p
sum_falling-cons f zero p ps absent = omega (arith, below_out 0 f p (omega arith))
sum_falling-cons f (suc k) p ps absent = go (p.number == k) refl (sum_falling-cons f k p ps absent) where
  go : (b : Bool) → (p.number == k) ≡ b → sum_by f (falling k (p ∷ ps)) ≡ sum_by f (falling k ps) + below k f p
      → sum_by f (option_to_list (if b then Some p else found k ps) ++ falling k (p ∷ ps)) ≡ sum_by f
      (option_to_list (found k ps) ++ falling k ps) + below (suc k) f p
  go true is later =
      let same : p.number ≡ k = eqb-true p.number k is in
      let gone = none-found k ps (ap (λ n. has n ps) (sym same) ∙ absent) in
      let left = sum_by-append f (option_to_list (Some p)) (falling k (p ∷ ps)) in
      let right = ap (λ o. sum_by f (option_to_list o ++ falling k ps)) gone in
      omega (
        arith,
        left,
        right,
        later,
        sum_by-cons f p [],
        below_out k f p (omega (arith, same)),
        below_in (suc k) f p (omega (arith, same)),
      )
  go false is later =
      let left = sum_by-append f (option_to_list (found k ps)) (falling k (p ∷ ps)) in
      let right = sum_by-append f (option_to_list (found k ps)) (falling k ps) in
      omega (arith, left, right, later, below_other k f p (eqb-false p.number k is))

nothing_falls : (f : Property → ℕ) (k : ℕ) → sum_by f (falling k []) ≡ 0
nothing_falls f zero = refl
nothing_falls f (suc k) = nothing_falls f k

pub sum_falling : (f : Property → ℕ) (k : ℕ) (before ps : List Property) → AreNew before ps →
    sum_by f (falling k ps) ≡ sum_by (below k f) ps
sum_falling f k before [] h = nothing_falls f k
sum_falling f k before (p ∷ ps) h =
    let absent = absent_later (before ++ p ∷ []) ps p.number h.1 (has-push_same p before) in
    omega (arith, sum_falling-cons f k p ps absent, sum_falling f k (before ++ p ∷ []) ps h.1, sum_by-cons (below k f) p ps)

-- the address of an individual table in front of other properties adds its measure to the sum
sum_address : (f : Property → ℕ) (k part : ℕ) (qs ps : List Property) → 3 < k → has 3 ps ≡ false
    → sum_by f (falling k (address_rows part qs ++ ps)) ≡ sum_by f (address_rows part qs) + sum_by f (falling k ps)
sum_address f k part qs ps h absent = go (has_individual qs) where
  row : Property
  row = record { number = 3; is_additive = false; values = Value.Later (Target.Part AreaName.IndividualTables part) ∷ [] }

  go : (b : Bool) →
      sum_by f (falling k ((if b then row ∷ [] else []) ++ ps)) ≡ sum_by f (if b then row ∷ [] else []) + sum_by f (falling k ps)
  go true = omega (arith, sum_falling-cons f k row ps absent, below_in k f row h, sum_by-cons f row [])
  go false = omega arith

absent_behind : (n : ℕ) (xs ys : List Property) → found n xs ≡ None → has n ys ≡ false → has n (xs ++ ys) ≡ false
absent_behind n xs ys e h = ap is_some (found-append n xs ys ∙ ap (λ o. or_found o (found n ys)) e) ∙ h

sum_classes : (f : Property → ℕ) (k : ℕ) (cs : List ℕ) (ps : List Property) → 2 < k → has 2 ps ≡ false
    → sum_by f (falling k (class_rows cs ++ ps)) ≡ sum_by f (class_rows cs) + sum_by f (falling k ps)
sum_classes f k [] ps h absent = omega arith
sum_classes f k (c ∷ cs) ps h absent =
    let row : Property = record { number = 2; is_additive = false; values = class_values (c ∷ cs) } in
    omega (arith, sum_falling-cons f k row ps absent, below_in k f row h, sum_by-cons f row [])

-- the sum over all that an object has: the list of its classes, the address of its individual table, and its declared properties
pub sum_rows : (f : Property → ℕ) (k part : ℕ) (o : Object) → 3 < k → AreNew [] o.properties → AreFree o.properties
    → sum_by f (falling k (rows_by Owner.Object part o)) ≡ sum_by f (class_rows o.classes) + sum_by f (address_rows part o.properties) +
    sum_by (below k f) o.properties
sum_rows f k part o h new free =
    let ps = o.properties in let rows = address_rows part ps in
    let lists = append_assoc (class_rows o.classes) rows ps in
    omega (
      arith,
      ap (λ qs. sum_by f (falling k qs)) lists,
      sum_classes f k o.classes (rows ++ ps) (omega (arith, h)) (absent_behind 2 rows ps (no_address 2 part ps refl) free.no_classes),
      sum_address f k part ps ps h free.no_address,
      sum_falling f k [] ps new,
    )

-- The tables of an object have as many bytes as it counts.
use Rattle.std.proofs.Common.{◌≡◌, ◌+◌, ◌*◌, ◌∷◌, [], ℕ, List, Bool, true, false, inl, inr, length, refl, sym, ap, ◌∙◌, arith}
use Rattle.std.proofs.lemmas.Bool.{le-leb, lt-leb, lt-ltb, le-ltb, cases_lt, or_parts}
use Rattle.std.proofs.lemmas.List.Sums.{sum_by-cons}
use Rattle.std.specs.Prelude.{nat_lt, sum_by, ◌⊎◌, ◌||◌, if◌then◌else◌}
use Rattle.inf_properties.specs.{declared.sizes.Owner.Owner, declared.sizes.Size.Size, declared.values.Property.Property}
use Rattle.inf_properties.specs.Sizes.{bytes_of, common_bytes, fixups_of, individual_bytes, individuals_of, later_count, size_of}
use Rattle.inf_properties.specs.Sizes.{table_bytes, total, with_table}
use Rattle.inf_objects.specs.{Tables.has_individual, Tables.is_individual, declared.objects.Object.Object, declared.sizes.Measure.Measure}
use Rattle.inf_objects.specs.Measures.{CountedBy, kind_part, measure_by, measured, no_part, part_of, parts_of}
use Rattle.inf_objects.specs.Objects.{head_bytes, head_fixups, list_bytes, object_bytes, object_fixups}

-- the parts of both kinds together are the size of a property
kinds : (p : Property) → ((kind_part false p).bytes + (kind_part true p).bytes ≡ (size_of Owner.Object p).bytes) ×
    ((kind_part false p).later + (kind_part true p).later ≡ (size_of Owner.Object p).fixups)
kinds p = go (is_individual p) where
  go : (b : Bool) → ((if b then (if false then part_of p else no_part) else (if false then no_part else part_of p)).bytes
      + (if b then (if true then part_of p else no_part) else (if true then no_part else part_of p)).bytes ≡ (size_of Owner.Object p).bytes)
      × ((if b then (if false then part_of p else no_part) else (if false then no_part else part_of p)).later
      + (if b then (if true then part_of p else no_part) else (if true then no_part else part_of p)).later ≡
      (size_of Owner.Object p).fixups)
  go true = (omega arith, omega arith)
  go false = (omega arith, omega arith)

pub all_parts : (ps : List Property) → ((parts_of false ps).bytes + (parts_of true ps).bytes ≡ bytes_of Owner.Object ps) ×
    ((parts_of false ps).later + (parts_of true ps).later ≡ fixups_of Owner.Object ps)
all_parts [] = (refl, refl)
all_parts (p ∷ ps) =
    let here = kinds p in
    let later = all_parts ps in (
      omega (
        arith,
        here.0,
        later.0,
        sum_by-cons (λ q. (kind_part false q).bytes) p ps,
        sum_by-cons (λ q. (kind_part true q).bytes) p ps,
        sum_by-cons (λ q. (size_of Owner.Object q).bytes) p ps,
      ),
      omega (
        arith,
        here.1,
        later.1,
        sum_by-cons (λ q. (kind_part false q).later) p ps,
        sum_by-cons (λ q. (kind_part true q).later) p ps,
        sum_by-cons (λ q. (size_of Owner.Object q).fixups) p ps,
      ),
    )

-- a declared property needs nothing in an individual table; an individual one is counted as one
abbrev OfKind : Property → Type 0
OfKind p = ((is_individual p ≡ false) × ((size_of Owner.Object p).individuals ≡ 0) × ((kind_part true p).bytes ≡ 0) ×
    ((kind_part true p).later ≡ 0)) ⊎ ((is_individual p ≡ true) × ((size_of Owner.Object p).individuals ≡ 1))

abbrev one_of : Property → Bool → Size
one_of p b = if b then record { bytes = common_bytes (length p.values); fixups = later_count p.values; individuals = 0 }
    else record { bytes = individual_bytes (length p.values); fixups = later_count p.values; individuals = 1 }

of_kind : (p : Property) → OfKind p
of_kind p = elim (cases_lt p.number 64) [
  | inl h ↦
      let declared : is_individual p ≡ false = lt-leb 64 p.number h in
      inl (
        declared,
        ap (λ (b : Bool). (one_of p b).individuals) (lt-ltb p.number 64 h),
        ap (λ (b : Bool). (if b then part_of p else no_part).bytes) declared,
        ap (λ (b : Bool). (if b then part_of p else no_part).later) declared,
      )
  | inr h ↦ inr (le-leb 64 p.number h, ap (λ (b : Bool). (one_of p b).individuals) (le-ltb p.number 64 h))
]

individuals_are : (ps : List Property) → nat_lt 0 (individuals_of Owner.Object ps) ≡ has_individual ps
individuals_are [] = refl
individuals_are (p ∷ ps) = go (individuals_are ps) (of_kind p) where
  sum : individuals_of Owner.Object (p ∷ ps) ≡ (size_of Owner.Object p).individuals + individuals_of Owner.Object ps
  sum = sum_by-cons (λ q. (size_of Owner.Object q).individuals) p ps

  go : nat_lt 0 (individuals_of Owner.Object ps) ≡ has_individual ps → OfKind p →
      nat_lt 0 (individuals_of Owner.Object (p ∷ ps)) ≡ has_individual (p ∷ ps)
  go later (inl h) =
      let same : individuals_of Owner.Object (p ∷ ps) ≡ individuals_of Owner.Object ps = omega (arith, sum, h.1) in
      ap (nat_lt 0) same ∙ later ∙ sym (ap (λ b. b || has_individual ps) h.0)
  go later (inr h) = lt-ltb 0 (individuals_of Owner.Object (p ∷ ps)) (omega (arith, sum, h.1)) ∙ sym (ap (λ b. b || has_individual ps) h.0)

none_of_kind : (ps : List Property) → has_individual ps ≡ false → ((parts_of true ps).bytes ≡ 0) × ((parts_of true ps).later ≡ 0)
none_of_kind [] e = (refl, refl)
none_of_kind (p ∷ ps) e =
    let parts = or_parts (is_individual p) (has_individual ps) e in
    go parts.0 (none_of_kind ps parts.1) (of_kind p)
  where
    go : is_individual p ≡ false → ((parts_of true ps).bytes ≡ 0) × ((parts_of true ps).later ≡ 0) → OfKind p
        → ((parts_of true (p ∷ ps)).bytes ≡ 0) × ((parts_of true (p ∷ ps)).later ≡ 0)
    go isnt later (inl h) = (
      omega (arith, h.2, later.0, sum_by-cons (λ q. (kind_part true q).bytes) p ps),
      omega (arith, h.3, later.1, sum_by-cons (λ q. (kind_part true q).later) p ps),
    )
    go isnt later (inr h) = let this : false ≡ true = sym isnt ∙ h.0 in cc

pub nothing_sum : (f : Property → ℕ) (ps : List Property) → ((p : Property) → f p ≡ 0) → sum_by f ps ≡ 0
nothing_sum f [] none = refl
nothing_sum f (p ∷ ps) none = omega (arith, sum_by-cons f p ps, none p, nothing_sum f ps none)

doubled : (ps : List Property) → bytes_of Owner.Class ps ≡ 2 * sum_by (λ p. length p.values) ps
doubled [] = refl
doubled (p ∷ ps) = omega (arith, sum_by-cons (λ q. (size_of Owner.Class q).bytes) p ps, sum_by-cons (λ q. length q.values) p ps, doubled ps)

-- the end of an individual table takes two bytes, and its address three
ends_bytes : (s : Size) (b : Bool) → nat_lt 0 s.individuals ≡ b → (with_table s).bytes ≡ s.bytes + (if b then 5 else 0)
ends_bytes s b e = ap (λ (c : Bool). (if c then record s { bytes = s.bytes + 5; fixups = s.fixups + 1 } else s).bytes) e ∙ go b where
  go : (b : Bool) → (if b then record s { bytes = s.bytes + 5; fixups = s.fixups + 1 } else s).bytes ≡ s.bytes + (if b then 5 else 0)
  go true = refl
  go false = omega arith

ends_fixups : (s : Size) (b : Bool) → nat_lt 0 s.individuals ≡ b → (with_table s).fixups ≡ s.fixups + (if b then 1 else 0)
ends_fixups s b e = ap (λ (c : Bool). (if c then record s { bytes = s.bytes + 5; fixups = s.fixups + 1 } else s).fixups) e ∙ go b where
  go : (b : Bool) → (if b then record s { bytes = s.bytes + 5; fixups = s.fixups + 1 } else s).fixups ≡ s.fixups + (if b then 1 else 0)
  go true = refl
  go false = omega arith

-- the parts that an object needs, given whether it has an individual table
abbrev measured_with : Bool → Object → Measure
measured_with b o = record {
  table = record {
    bytes = 2 + length o.name + list_bytes (length o.classes) + (parts_of false o.properties).bytes + (if b then 3 else 0);
    later = (parts_of false o.properties).later + (if b then 1 else 0);
  };
  individual_table =
      if b then record { bytes = (parts_of true o.properties).bytes + 2; later = (parts_of true o.properties).later } else no_part;
}

counted_object : (o : Object) (b : Bool) → has_individual o.properties ≡ b → o.owner ≡ Owner.Object →
    CountedBy Owner.Object o (measured_with b o)
counted_object o b is e = go b is where
  ps : List Property
  ps = o.properties

  bytes : object_bytes o ≡ head_bytes Owner.Object (length o.name) (length o.classes) + table_bytes Owner.Object ps
  bytes = ap (λ w. head_bytes w (length o.name) (length o.classes) + table_bytes w ps) e

  fixups : object_fixups o ≡ head_fixups Owner.Object + (with_table (total Owner.Object ps)).fixups
  fixups = ap (λ w. head_fixups w + (with_table (total w ps)).fixups) e

  all : ((parts_of false ps).bytes + (parts_of true ps).bytes ≡ bytes_of Owner.Object ps) ×
      ((parts_of false ps).later + (parts_of true ps).later ≡ fixups_of Owner.Object ps)
  all = all_parts ps

  go : (b : Bool) → has_individual ps ≡ b → CountedBy Owner.Object o (measured_with b o)
  go true is =
      let ends = individuals_are ps ∙ is in (
        omega (arith, bytes, all.0, ends_bytes (total Owner.Object ps) true ends),
        omega (arith, fixups, all.1, ends_fixups (total Owner.Object ps) true ends),
      )
  go false is =
      let ends = individuals_are ps ∙ is in
      let none = none_of_kind ps is in (
        omega (arith, bytes, all.0, none.0, ends_bytes (total Owner.Object ps) false ends),
        omega (arith, fixups, all.1, none.1, ends_fixups (total Owner.Object ps) false ends),
      )

counted_by : (w : Owner) (o : Object) → o.owner ≡ w → CountedBy w o (measure_by w o)
counted_by Owner.Object o e = counted_object o (has_individual o.properties) refl e
counted_by Owner.Class o e =
    let ps = o.properties in
    let bytes = ap (λ w. head_bytes w (length o.name) (length o.classes) + table_bytes w ps) e in
    let fixups = ap (λ w. head_fixups w + (with_table (total w ps)).fixups) e in
    let none : nat_lt 0 (individuals_of Owner.Class ps) ≡ false =
    ap (nat_lt 0) (nothing_sum (λ p. (size_of Owner.Class p).individuals) ps (λ p. refl)) in (
      omega (arith, bytes, ends_bytes (total Owner.Class ps) false none, doubled ps),
      omega (
        arith,
        fixups,
        ends_fixups (total Owner.Class ps) false none,
        nothing_sum (λ p. (size_of Owner.Class p).fixups) ps (λ p. refl),
      ),
    )
counted_by Owner.Nothing o e = tt

pub counted : (o : Object) → CountedBy o.owner o (measured o)
counted o = counted_by o.owner o refl

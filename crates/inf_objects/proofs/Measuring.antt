-- The properties of one kind need no more than all properties.
use Rattle.std.proofs.Common.{◌≤◌, ◌∷◌, [], List, Bool, true, false, arith, if◌then◌else◌}
use Rattle.std.proofs.lemmas.List.Sums.{sum_by-cons}
use Rattle.inf_properties.specs.{Sizes.bytes_of, Sizes.size_of, declared.sizes.Owner.Owner, declared.values.Property.Property}
use Rattle.inf_properties.proofs.Sums.{few_here}
use Rattle.inf_objects.specs.{Measures.kind_part, Measures.no_part, Measures.part_of, Measures.parts_of, Tables.is_individual}

-- the properties of each kind have no more later numbers than bytes, and no more bytes than those of both kinds
pub kind_within : (individual : Bool) (p : Property)
    → ((kind_part individual p).later ≤ (kind_part individual p).bytes) × ((kind_part individual p).bytes ≤ (size_of Owner.Object p).bytes)
kind_within individual p = go (is_individual p) individual where
  few : (part_of p).later ≤ (part_of p).bytes
  few = (few_here Owner.Object p).0

  go : (a b : Bool) → ((if a then (if b then part_of p else no_part) else (if b then no_part else part_of p)).later
      ≤ (if a then (if b then part_of p else no_part) else (if b then no_part else part_of p)).bytes)
      × ((if a then (if b then part_of p else no_part) else (if b then no_part else part_of p)).bytes ≤ (size_of Owner.Object p).bytes)
  go true true = (few, omega arith)
  go true false = (omega arith, omega arith)
  go false true = (omega arith, omega arith)
  go false false = (few, omega arith)

pub parts_within : (individual : Bool) (ps : List Property) → (parts_of individual ps).bytes ≤ bytes_of Owner.Object ps
parts_within individual [] = omega arith
parts_within individual (p ∷ ps) =
    let here = kind_within individual p in let later = parts_within individual ps in
    omega (
      arith,
      here.1,
      later,
      sum_by-cons (λ q. (kind_part individual q).bytes) p ps,
      sum_by-cons (λ q. (size_of Owner.Object q).bytes) p ps,
    )

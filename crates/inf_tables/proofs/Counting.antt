-- The counts of a world when a body ends.
use Rattle.std.proofs.{lemmas.Bool.ne_eqb, lemmas.List.Sums.sum_by-cons, lemmas.List.Sums.sum_by_push}
use Rattle.std.proofs.Common.{◌≡◌, ◌≤◌, ◌+◌, ◌∷◌, ◌++◌, ◌==◌, [], ℕ, List, Bool, true, false, Option, Some, None, length, length-append}
use Rattle.std.proofs.Common.{refl, sym, ap, subst, ◌∙◌, arith}
use Rattle.std.specs.Prelude.{IsErrAnd, MatchResult, Result, Ok, Err, nat_lt, option_map, slice_get, sum_by, if◌then◌else◌}
use Rattle.inf_settings.specs.Bounds.{Limits as SettingLimits}
use Rattle.inf_properties.specs.declared.{open.GiveFault.GiveFault, sizes.Owner.Owner, sizes.Size.Size, values.Property.Property}
use Rattle.inf_properties.specs.Open.{Open, all, class_refused}
use Rattle.inf_properties.specs.Sizes.{fixups_of, individuals_of, size_of, table_bytes, total, with_table}
use Rattle.inf_properties.proofs.Sums.{few}
use Rattle.inf_objects.specs.declared.objects.Object.{Object}
use Rattle.inf_objects.specs.Objects.{ended, head_bytes, head_fixups, is_lost, join_fault, nothing_read, object_bytes, object_fixups}
use Rattle.inf_tables.specs.{Faults.given_fault, Objects.class_at, Objects.or_latest, declared.faults.Misfit.Misfit}
use Rattle.inf_tables.specs.{declared.faults.WorldFault.WorldFault, declared.kinds.Limits.Limits}
use Rattle.inf_tables.specs.World.{AreHung, IsRefused, IsWorld, WorldOf, class_by_fault, class_of_fault, open_count, room_beside}
use Rattle.inf_tables.specs.World.{with_properties}
use Rattle.inf_tables.proofs.Latest.{latest-push, told}

nothing_sum : (f : Property → ℕ) (ps : List Property) → ((p : Property) → f p ≡ 0) → sum_by f ps ≡ 0
nothing_sum f [] none = refl
nothing_sum f (p ∷ ps) none = omega (arith, sum_by-cons f p ps, none p, nothing_sum f ps none)

-- properties that belong to nothing need no bytes
pub nothing_bytes : (ps : List Property) → table_bytes Owner.Nothing ps ≡ 0
nothing_bytes ps =
    ap (λ n. (with_table (record { bytes = n; fixups = fixups_of Owner.Nothing ps; individuals = individuals_of Owner.Nothing ps })).bytes)
    (nothing_sum (λ p. (size_of Owner.Nothing p).bytes) ps (λ p. refl))
    ∙ ap (λ n. (with_table (record { bytes = 0; fixups = fixups_of Owner.Nothing ps; individuals = n })).bytes)
    (nothing_sum (λ p. (size_of Owner.Nothing p).individuals) ps (λ p. refl))

-- a class that is refused, as a fault of the world
pub refused_as : (found : Option GiveFault) (f : GiveFault) → class_refused found f →
    IsRefused (option_map given_fault found) (given_fault f)
refused_as found GiveFault.Given h = ap (option_map given_fault) h
refused_as found GiveFault.TooLong h = ap (option_map given_fault) h
refused_as found GiveFault.Full h = ap (option_map given_fault) h
refused_as found GiveFault.Memory h = tt

few_in : (s : Size) → s.fixups ≤ s.bytes → (with_table s).fixups ≤ (with_table s).bytes
few_in s h = go (nat_lt 0 s.individuals) where
  go : (b : Bool) → (if b then record s { bytes = s.bytes + 5; fixups = s.fixups + 1 } else s).fixups ≤
      (if b then record s { bytes = s.bytes + 5; fixups = s.fixups + 1 } else s).bytes
  go true = omega (arith, h)
  go false = h

head_few : (w : Owner) (n k : ℕ) → head_fixups w ≤ head_bytes w n k
head_few Owner.Object n k = omega arith
head_few Owner.Class n k = omega arith
head_few Owner.Nothing n k = omega arith

object_few : (o : Object) → object_fixups o ≤ object_bytes o
object_few o =
    omega (arith, head_few o.owner (length o.name) (length o.classes), few_in (total o.owner o.properties) (few o.owner o.properties).0)

parents-more : (most more : ℕ) (objects : List Object) → most ≤ more → AreHung most objects → AreHung more objects
parents-more most more [] h k = tt
parents-more most more (o ∷ objects) h k = (omega (arith, h, k.0), k.1, parents-more most more objects h k.2)

parents-push : (most : ℕ) (objects : List Object) (o : Object) → AreHung most objects → o.parent ≤ most → is_lost o.owner ≡ false →
    AreHung most (objects ++ o ∷ [])
parents-push most [] o h k l = (k, l, tt)
parents-push most (p ∷ objects) o h k l = (h.0, h.1, parents-push most objects o h.2 k l)

one_open : (w : Owner) → is_lost w ≡ false → open_count w ≡ 1
one_open Owner.Object e = refl
one_open Owner.Class e = refl
one_open Owner.Nothing e = cc

-- the open body is the last object
abbrev pub with_last : WorldOf → WorldOf
with_last w = record w { objects = w.objects ++ ended w.body ∷ []; is_open = false; body = nothing_read }

pub ends : (limits : Limits) (w : WorldOf) (latest new : List ℕ) (bytes fixups : ℕ) → IsWorld limits w latest bytes fixups →
    is_lost w.body.properties.owner ≡ false
    → ((arrows : ℕ) → slice_get new arrows ≡ or_latest (told arrows (5 + length w.objects) (ended w.body)) (slice_get latest arrows))
    → IsWorld limits (with_last w) new (bytes + object_bytes (ended w.body)) (fixups + object_fixups (ended w.body))
ends limits w latest new bytes fixups h e later =
    let o = ended w.body in
    let count : length (w.objects ++ o ∷ []) ≡ length w.objects + 1 = omega (arith, length-append w.objects (o ∷ [])) in
    let sum = sum_by_push object_bytes w.objects o in let sums = sum_by_push object_fixups w.objects o in
    record {
      bytes_are = omega (arith, h.bytes_are, sum);
      fixups_are = omega (arith, h.fixups_are, sums);
      few_fixups = omega (arith, h.few_fixups, object_few o);
      latest_are = λ arrows. later arrows ∙ ap (or_latest (told arrows (5 + length w.objects) o)) (h.latest_are arrows)
          ∙ sym (latest-push arrows w.objects o);
      arrows_within = omega arith;
      parents_within = parents-push (4 + length (w.objects ++ o ∷ [])) w.objects o
          (parents-more (4 + length w.objects) (4 + length (w.objects ++ o ∷ [])) w.objects (omega (arith, count)) h.parents_within)
          (omega (arith, count, h.parent_within)) e;
      parent_within = omega arith;
      bytes_within = omega (arith, h.bytes_within, sum);
      count_within = omega (arith, h.count_within, count, one_open w.body.properties.owner e);
      small = h.small;
      few_attributes = h.few_attributes;
      few_properties = h.few_properties;
    }

-- a fault that came through a `?`
pub told_by : (r : Result (Unit {0}) WorldFault) (P : Unit {0} → Type 0) (Q : WorldFault → Type 0) (g : WorldFault)
    → IsErrAnd r (λ f. f ≡ g) → Q g → MatchResult r P Q
told_by (Ok u) P Q g h q = absurd h
told_by (Err f) P Q g h q = subst Q (sym h) q

-- the fault of a class that is there is that of joining it
pub class_fault_is : (limits : SettingLimits) (w : WorldOf) (number : ℕ) (class : Object) → w.is_open ≡ true → (number ≡ 0 → ⊥) →
    class_at number w.objects ≡ Some class
    → class_of_fault limits number w ≡ option_map given_fault (join_fault number class (room_beside limits w) w.body)
class_fault_is limits w number class e some is =
    ap (λ (b : Bool). if b then (if number == 0 then None else class_by_fault limits (class_at number w.objects) number w) else Some
    (WorldFault.Misfit Misfit.NoBody)) e
    ∙ ap (λ (b : Bool). if b then None else class_by_fault limits (class_at number w.objects) number w) (ne_eqb number 0 some)
    ∙ ap (λ o. class_by_fault limits o number w) is

-- a body that belongs to nothing has other properties
pub lost_stays : (limits : Limits) (w : WorldOf) (o : Open) (latest : List ℕ) (bytes fixups : ℕ) → IsWorld limits w latest bytes fixups →
    w.body.properties.owner ≡ Owner.Nothing → o.owner ≡ Owner.Nothing → IsWorld limits (with_properties o w) latest bytes fixups
lost_stays limits w o latest bytes fixups h e f =
    let table = ap (λ x. table_bytes x (all o)) f ∙ nothing_bytes (all o) in
    let head = ap (λ x. head_bytes x (length w.body.name) (length w.body.classes)) (f ∙ sym e) in
    let count = ap open_count (f ∙ sym e) in
    record {
      bytes_are = h.bytes_are;
      fixups_are = h.fixups_are;
      few_fixups = h.few_fixups;
      latest_are = h.latest_are;
      arrows_within = h.arrows_within;
      parents_within = h.parents_within;
      parent_within = h.parent_within;
      bytes_within = omega (arith, h.bytes_within, table, head);
      count_within = omega (arith, h.count_within, count);
      small = h.small;
      few_attributes = h.few_attributes;
      few_properties = h.few_properties;
    }

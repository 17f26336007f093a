-- Sums over the properties of an object, when its body gives more.
use Rattle.std.proofs.Common.{◌≡◌, ◌≤◌, ◌+◌, ◌-◌, ◌*◌, ◌∷◌, ◌++◌, ◌==◌, [], ℕ, List, Bool, true, false, Option, Some, None, length}
use Rattle.std.proofs.Common.{length-append, refl, sym, ap, subst, ◌∙◌, arith, nat_le, nat_lt, sum_by, if◌then◌else◌}
use Rattle.std.proofs.lemmas.Bool.{eqb-true, eqb-false, ne_eqb, leb-true}
use Rattle.std.proofs.lemmas.List.Sums.{sum_by-append, sum_by-cons, sum_by_push}
use Rattle.inf_area.specs.declared.targets.Value.{Value}
use Rattle.inf_properties.specs.{declared.sizes.Owner.Owner, declared.sizes.Size.Size, declared.values.Property.Property}
use Rattle.inf_properties.specs.Properties.{AreNew, found, has, inherited, joined, joined_values, lacked, with_joined}
use Rattle.inf_properties.specs.Sizes.{bytes_of, fixups_of, individuals_of, joined_count, joined_later, joined_size, later_count, size_by}
use Rattle.inf_properties.specs.Sizes.{size_of, size_option, total}
use Rattle.inf_properties.proofs.Finding.{absent_head}
use Rattle.inf_properties.proofs.Inheriting.{absent_later, has-push_other, has-push_same, SameNumbers, SameNumbers-push}

other_way : (a b : ℕ) → (a == b) ≡ false → (b == a) ≡ false
other_way a b e = ne_eqb b a (λ same. eqb-false a b e (sym same))

-- a measure of a property that may be there
abbrev pub measure : (Property → ℕ) → Option Property → ℕ
measure f None = 0
measure f (Some p) = f p

sum-if : (f : Property → ℕ) (b : Bool) (q : Property) (xs : List Property) →
    sum_by f (if b then xs else q ∷ xs) ≡ (if b then 0 else f q) + sum_by f xs
sum-if f true q xs = omega arith
sum-if f false q xs = sum_by-cons f q xs

lacked-absent : (own above : List Property) (p : Property) → has p.number above ≡ false → lacked (own ++ p ∷ []) above ≡ lacked own above
lacked-absent own [] p e = refl
lacked-absent own (q ∷ above) p e =
    let parts = absent_head q above p.number e in
    let same = has-push_other p own q.number (other_way q.number p.number parts.0) in
    ap (λ (b : Bool). if b then lacked (own ++ p ∷ []) above else q ∷ lacked (own ++ p ∷ []) above) same
    ∙ ap (λ xs. if has q.number own then xs else q ∷ xs) (lacked-absent own above p parts.1)

sum-lacked_push : (f : Property → ℕ) (own above before : List Property) (p : Property) → AreNew before above → has p.number own ≡ false
    → sum_by f (lacked own above) ≡ sum_by f (lacked (own ++ p ∷ []) above) + measure f (found p.number above)
sum-lacked_push f own [] before p h e = refl
sum-lacked_push f own (q ∷ above) before p h e = go (q.number == p.number) refl (sum-lacked_push f own above (before ++ q ∷ []) p h.1 e)
  where
    go : (b : Bool) → (q.number == p.number) ≡ b →
        sum_by f (lacked own above) ≡ sum_by f (lacked (own ++ p ∷ []) above) + measure f (found p.number above)
        → sum_by f (lacked own (q ∷ above)) ≡ sum_by f (lacked (own ++ p ∷ []) (q ∷ above)) + measure f
        (if b then Some q else found p.number above)
    go true same later =
        let is = eqb-true q.number p.number same in
        let here : has q.number own ≡ false = ap (λ k. has k own) is ∙ e in
        let there : has q.number (own ++ p ∷ []) ≡ true = ap (λ k. has k (own ++ p ∷ [])) is ∙ has-push_same p own in
        let gone : has p.number above ≡ false =
        absent_later (before ++ q ∷ []) above p.number h.1 (ap (λ k. has k (before ++ q ∷ [])) (sym is) ∙ has-push_same q before) in
        let left =
        sum-if f (has q.number own) q (lacked own above) ∙ ap (λ (b : Bool). (if b then 0 else f q) + sum_by f (lacked own above)) here in
        let right = sum-if f (has q.number (own ++ p ∷ [])) q (lacked (own ++ p ∷ []) above)
        ∙ ap (λ (b : Bool). (if b then 0 else f q) + sum_by f (lacked (own ++ p ∷ []) above)) there in
        let equal = ap (sum_by f) (lacked-absent own above p gone) in omega arith
    go false other later =
        let same : has q.number (own ++ p ∷ []) ≡ has q.number own = has-push_other p own q.number (other_way q.number p.number other) in
        let left = sum-if f (has q.number own) q (lacked own above) in
        let right = sum-if f (has q.number (own ++ p ∷ [])) q (lacked (own ++ p ∷ []) above)
        ∙ ap (λ (b : Bool). (if b then 0 else f q) + sum_by f (lacked (own ++ p ∷ []) above)) same in
        omega arith

with_joined-push : (above own : List Property) (p : Property) →
    with_joined above (own ++ p ∷ []) ≡ with_joined above own ++ joined above p ∷ []
with_joined-push above [] p = refl
with_joined-push above (q ∷ own) p = ap (λ xs. joined above q ∷ xs) (with_joined-push above own p)

sum-with_joined_push : (f : Property → ℕ) (own above : List Property) (p : Property)
    → sum_by f (inherited (own ++ p ∷ []) above) ≡ sum_by f (with_joined above own) + f (joined above p) + sum_by f
    (lacked (own ++ p ∷ []) above)
sum-with_joined_push f own above p = sum_by-append f (with_joined above (own ++ p ∷ [])) (lacked (own ++ p ∷ []) above)
    ∙ ap (λ xs. sum_by f xs + sum_by f (lacked (own ++ p ∷ []) above)) (with_joined-push above own p)
    ∙ ap (λ n. n + sum_by f (lacked (own ++ p ∷ []) above)) (sum_by_push f (with_joined above own) (joined above p))

-- one property more: the one that classes gave is gone, and the new one is there with the values that classes add
pub sum-given : (f : Property → ℕ) (own above : List Property) (p : Property) → AreNew [] above → has p.number own ≡ false
    → (sum_by f (inherited (own ++ p ∷ []) above) + measure f (found p.number above) ≡ sum_by f (inherited own above) + f (joined above p))
    × (measure f (found p.number above) ≤ sum_by f (inherited own above))
sum-given f own above p h e =
    let new = sum-with_joined_push f own above p in
    let old = sum_by-append f (with_joined above own) (lacked own above) in
    let lost = sum-lacked_push f own above [] p h e in (omega arith, omega arith)

-- lists of the same numbers lack the same properties
pub lacked-same : (own own' above : List Property) → SameNumbers own own' → lacked own above ≡ lacked own' above
lacked-same own own' [] same = refl
lacked-same own own' (q ∷ above) same = ap (λ (b : Bool). if b then lacked own above else q ∷ lacked own above) (same q.number)
    ∙ ap (λ xs. if has q.number own' then xs else q ∷ xs) (lacked-same own own' above same)

-- another property in place of the last
pub sum-replaced : (f : Property → ℕ) (front above : List Property) (p q : Property) → p.number ≡ q.number
    → (sum_by f (inherited (front ++ q ∷ []) above) + f (joined above p) ≡ sum_by f (inherited (front ++ p ∷ []) above) + f
    (joined above q)) × (f (joined above p) ≤ sum_by f (inherited (front ++ p ∷ []) above))
sum-replaced f front above p q e =
    let new = sum-with_joined_push f front above q in let old = sum-with_joined_push f front above p in
    let same = ap (sum_by f) (lacked-same (front ++ p ∷ []) (front ++ q ∷ []) above (SameNumbers-push front front p q e (λ n. refl))) in
    (omega arith, omega arith)

-- a size changes: it loses a part and gains another
pub record Changes (old lost gained new : Size) : Type 0 where
  pub bytes : new.bytes + lost.bytes ≡ old.bytes + gained.bytes
  pub fixups : new.fixups + lost.fixups ≡ old.fixups + gained.fixups
  pub individuals : new.individuals + lost.individuals ≡ old.individuals + gained.individuals
  pub lost_bytes : lost.bytes ≤ old.bytes
  pub lost_fixups : lost.fixups ≤ old.fixups
  pub lost_individuals : lost.individuals ≤ old.individuals

measure_bytes : (o : Owner) (p : Option Property) → measure (λ p. (size_of o p).bytes) p ≡ (size_option o p).bytes
measure_bytes o None = refl
measure_bytes o (Some p) = refl

measure_fixups : (o : Owner) (p : Option Property) → measure (λ p. (size_of o p).fixups) p ≡ (size_option o p).fixups
measure_fixups o None = refl
measure_fixups o (Some p) = refl

measure_individuals : (o : Owner) (p : Option Property) → measure (λ p. (size_of o p).individuals) p ≡ (size_option o p).individuals
measure_individuals o None = refl
measure_individuals o (Some p) = refl

pub given_changes : (o : Owner) (own above : List Property) (p : Property) → AreNew [] above → has p.number own ≡ false
    → Changes (total o (inherited own above)) (size_option o (found p.number above)) (size_of o (joined above p))
    (total o (inherited (own ++ p ∷ []) above))
given_changes o own above p h e =
    let bytes = sum-given (λ p. (size_of o p).bytes) own above p h e in
    let fixups = sum-given (λ p. (size_of o p).fixups) own above p h e in
    let individuals = sum-given (λ p. (size_of o p).individuals) own above p h e in
    let b = measure_bytes o (found p.number above) in let f = measure_fixups o (found p.number above) in
    let i = measure_individuals o (found p.number above) in
    record {
      bytes = ap (λ n. bytes_of o (inherited (own ++ p ∷ []) above) + n) (sym b) ∙ bytes.0;
      fixups = ap (λ n. fixups_of o (inherited (own ++ p ∷ []) above) + n) (sym f) ∙ fixups.0;
      individuals = ap (λ n. individuals_of o (inherited (own ++ p ∷ []) above) + n) (sym i) ∙ individuals.0;
      lost_bytes = subst (λ n. n ≤ bytes_of o (inherited own above)) b bytes.1;
      lost_fixups = subst (λ n. n ≤ fixups_of o (inherited own above)) f fixups.1;
      lost_individuals = subst (λ n. n ≤ individuals_of o (inherited own above)) i individuals.1;
    }

pub replaced_changes : (o : Owner) (front above : List Property) (p q : Property) → p.number ≡ q.number
    → Changes (total o (inherited (front ++ p ∷ []) above)) (size_of o (joined above p)) (size_of o (joined above q))
    (total o (inherited (front ++ q ∷ []) above))
replaced_changes o front above p q e =
    let bytes = sum-replaced (λ p. (size_of o p).bytes) front above p q e in
    let fixups = sum-replaced (λ p. (size_of o p).fixups) front above p q e in
    let individuals = sum-replaced (λ p. (size_of o p).individuals) front above p q e in
    record {
      bytes = bytes.0;
      fixups = fixups.0;
      individuals = individuals.0;
      lost_bytes = bytes.1;
      lost_fixups = fixups.1;
      lost_individuals = individuals.1;
    }

abbrev sized : ℕ → ℕ → ℕ → Size
sized bytes fixups individuals = record { bytes = bytes; fixups = fixups; individuals = individuals }

pub changed_is : (old lost gained new : Size) → Changes old lost gained new → record {
  bytes = old.bytes - lost.bytes + gained.bytes;
  fixups = old.fixups - lost.fixups + gained.fixups;
  individuals = old.individuals - lost.individuals + gained.individuals;
} ≡ new
changed_is old lost gained new h =
    let b : old.bytes - lost.bytes + gained.bytes ≡ new.bytes = omega (arith, h.bytes, h.lost_bytes) in
    let f : old.fixups - lost.fixups + gained.fixups ≡ new.fixups = omega (arith, h.fixups, h.lost_fixups) in
    let i : old.individuals - lost.individuals + gained.individuals ≡ new.individuals = omega (arith, h.individuals, h.lost_individuals) in
    ap (λ n. sized n (old.fixups - lost.fixups + gained.fixups) (old.individuals - lost.individuals + gained.individuals)) b
    ∙ ap (λ n. sized new.bytes n (old.individuals - lost.individuals + gained.individuals)) f ∙ ap (λ n. sized new.bytes new.fixups n) i

-- counts of joined values
pub later_count-append : (xs ys : List Value) → later_count (xs ++ ys) ≡ later_count xs + later_count ys
later_count-append [] ys = omega arith
later_count-append (Value.Known n ∷ xs) ys = later_count-append xs ys
later_count-append (Value.Later t ∷ xs) ys = omega (arith, later_count-append xs ys)

pub later_count_push : (xs : List Value) (v : Value) → later_count (xs ++ v ∷ []) ≡ later_count xs + later_count (v ∷ [])
later_count_push xs v = later_count-append xs (v ∷ [])

length-joined : (b : Bool) (own above : List Value) → length (joined_values b own above) ≡ joined_count b (length own) above
length-joined true own above = length-append own above
length-joined false own above = omega arith

later-joined : (b : Bool) (own above : List Value) → later_count (joined_values b own above) ≡ joined_later b (later_count own) above
later-joined true own above = later_count-append own above
later-joined false own above = omega arith

pub size-joined : (o : Owner) (n : ℕ) (b : Bool) (own above : List Value)
    → size_by o n (length (joined_values b own above)) (later_count (joined_values b own above)) ≡ joined_size o n b (length own)
    (later_count own) above
size-joined o n b own above = ap (λ k. size_by o n k (later_count (joined_values b own above))) (length-joined b own above)
    ∙ ap (λ k. size_by o n (joined_count b (length own) above) k) (later-joined b own above)

-- there are no more fixups and individual properties than bytes
later_within : (values : List Value) → later_count values ≤ length values
later_within [] = omega arith
later_within (Value.Known n ∷ values) = omega (arith, later_within values)
later_within (Value.Later t ∷ values) = omega (arith, later_within values)

few_by : (o : Owner) (n count later : ℕ) → later ≤ count → ((size_by o n count later).fixups ≤ (size_by o n count later).bytes) ×
    ((size_by o n count later).individuals ≤ (size_by o n count later).bytes)
few_by Owner.Object n count later h = go (nat_lt n 64) (nat_le count 1) refl where
  go : (b t : Bool) → nat_le count 1 ≡ t →
      ((if b then sized (if t then 3 else 2 + 2 * count) later 0 else sized (if t then 5 else 3 + 2 * count) later 1).fixups
      ≤ (if b then sized (if t then 3 else 2 + 2 * count) later 0 else sized (if t then 5 else 3 + 2 * count) later 1).bytes)
      × ((if b then sized (if t then 3 else 2 + 2 * count) later 0 else sized (if t then 5 else 3 + 2 * count) later 1).individuals
      ≤ (if b then sized (if t then 3 else 2 + 2 * count) later 0 else sized (if t then 5 else 3 + 2 * count) later 1).bytes)
  go true true e = let few = leb-true count 1 e in (omega arith, omega arith)
  go true false e = (omega arith, omega arith)
  go false true e = let few = leb-true count 1 e in (omega arith, omega arith)
  go false false e = (omega arith, omega arith)
few_by Owner.Class n count later h = (omega arith, omega arith)
few_by Owner.Nothing n count later h = (omega arith, omega arith)

pub few_here : (o : Owner) (p : Property) → ((size_of o p).fixups ≤ (size_of o p).bytes) × ((size_of o p).individuals ≤ (size_of o p).bytes)
few_here o p = few_by o p.number (length p.values) (later_count p.values) (later_within p.values)

pub few : (o : Owner) (ps : List Property) → (fixups_of o ps ≤ bytes_of o ps) × (individuals_of o ps ≤ bytes_of o ps)
few o [] = (omega arith, omega arith)
few o (p ∷ ps) =
    let here = few_by o p.number (length p.values) (later_count p.values) (later_within p.values) in
    let later = few o ps in
    let fixups = sum_by-cons (λ p. (size_of o p).fixups) p ps in
    let individuals = sum_by-cons (λ p. (size_of o p).individuals) p ps in
    let bytes = sum_by-cons (λ p. (size_of o p).bytes) p ps in
    (omega (arith, here.0, later.0), omega (arith, here.1, later.1))

-- The invariant of a body holds behind all that the body takes.
use Rattle.std.proofs.Common.{◌≡◌, ◌≤◌, ◌<◌, ◌+◌, ◌^◌, ◌∷◌, ◌++◌, [], ℕ, suc, zero, List, Bool, true, false, length, get_or, inl, inr}
use Rattle.std.proofs.Common.{refl, sym, ap, subst, ◌∙◌, arith, slice_set, nat_lt, ◌⊎◌, if◌then◌else◌}
use Rattle.inf_area.specs.declared.targets.Value.{Value}
use Rattle.inf_properties.specs.{Open.IsOpen, Open.is_last_short, Places.AreAt, Places.KeepsPlaces, Values.with_last_value}
use Rattle.inf_properties.specs.{declared.sizes.Owner.Owner, declared.sizes.Size.Size, declared.values.Property.Property}
use Rattle.inf_properties.specs.Properties.{AreFree, AreNew, has, inherited, is_reserved, joined}
use Rattle.inf_properties.specs.Sizes.{are_short, is_short, total, with_table}
use Rattle.inf_properties.proofs.{Finding.AreAt-kept, Having.AreFree-inherited, Having.AreFree-push, Having.AreFree-valued}
use Rattle.inf_properties.proofs.{Inheriting.AreNew-inherited, Inheriting.AreNew-push, Short.short-given, Short.short-replaced, Sums.few}

-- the invariant of any lists with the size of all their properties
opens : (o : Owner) (own above : List Property) (own_places above_places : List ℕ) (size : Size)
    → AreAt 0 own_places own → AreAt 0 above_places above → AreNew [] own → AreNew [] above → AreFree own → AreFree above
    → are_short (inherited own above) ≡ true → size ≡ total o (inherited own above) → size.bytes < 2 ^ 32 → IsOpen o own above own_places
    above_places size
opens o own above own_places above_places size own_at above_at own_new above_new own_free above_free short sized small =
    let within = few o (inherited own above) in
    record {
      own_at = own_at;
      above_at = above_at;
      own_new = own_new;
      above_new = above_new;
      own_free = own_free;
      above_free = above_free;
      short = short;
      sized = sized;
      small = small;
      few_fixups = subst (λ (s : Size). s.fixups ≤ s.bytes) (sym sized) within.0;
      few_individuals = subst (λ (s : Size). s.individuals ≤ s.bytes) (sym sized) within.1;
    }

pub opens_given : (o : Owner) (own above : List Property) (own_places above_places places : List ℕ) (size new : Size) (p : Property)
    → IsOpen o own above own_places above_places size → has p.number own ≡ false → AreAt 0 places (own ++ p ∷ [])
    → is_reserved p.number ≡ false → is_short (joined above p) ≡ true → new ≡ total o (inherited (own ++ p ∷ []) above) → new.bytes < 2 ^ 32
    → IsOpen o (own ++ p ∷ []) above places above_places new
opens_given o own above own_places above_places places size new p h absent at free short sized small =
    opens o (own ++ p ∷ []) above places above_places new at h.above_at (AreNew-push [] own p h.own_new refl absent) h.above_new
    (AreFree-push own p h.own_free free) h.above_free (short-given own above p h.short short) sized small

pub opens_covered : (o : Owner) (own above : List Property) (own_places above_places places : List ℕ) (size : Size)
    → IsOpen o own above own_places above_places size → KeepsPlaces above_places places → IsOpen o own above own_places places size
opens_covered o own above own_places above_places places size h kept = opens o own above own_places places size h.own_at
    (AreAt-kept 0 above_places places above kept h.above_at) h.own_new h.above_new h.own_free h.above_free h.short h.sized h.small

pub opens_inherited : (o : Owner) (own above class : List Property) (own_places above_places places : List ℕ) (size new : Size)
    → IsOpen o own above own_places above_places size → AreNew [] class → AreFree class → AreAt 0 places (inherited above class)
    → are_short (inherited own (inherited above class)) ≡ true → new ≡ total o (inherited own (inherited above class)) → new.bytes < 2 ^ 32
    → IsOpen o own (inherited above class) own_places places new
opens_inherited o own above class own_places above_places places size new h once free at short sized small =
    opens o own (inherited above class) own_places places new h.own_at at h.own_new (AreNew-inherited above class h.above_new once)
    h.own_free (AreFree-inherited above class h.above_free free) short sized small

-- a further value of the last of some properties
pub set_last : (ps : List Property) (k : ℕ) (p : Property) (v : Value) → k + 1 ≡ length ps → p ≡ get_or ps k p
    → slice_set ps k (record p { values = p.values ++ v ∷ [] }) ≡ with_last_value v ps
set_last [] k p v h is = absurd (omega arith)
set_last (q ∷ []) zero p v h is = ap (λ (r : Property). record r { values = r.values ++ v ∷ [] } ∷ []) is
set_last (q ∷ []) (suc k) p v h is = absurd (omega arith)
set_last (q ∷ r ∷ ps) zero p v h is = absurd (omega arith)
set_last (q ∷ r ∷ ps) (suc k) p v h is = ap (λ xs. q ∷ xs) (set_last (r ∷ ps) k p v (omega arith) is)

abbrev with_more : Value → Property → Property
with_more v p = record p { values = p.values ++ v ∷ [] }

pub with_last_value-push : (front : List Property) (p : Property) (v : Value) →
    with_last_value v (front ++ p ∷ []) ≡ front ++ record p { values = p.values ++ v ∷ [] } ∷ []
with_last_value-push [] p v = refl
with_last_value-push (q ∷ []) p v = refl
with_last_value-push (q ∷ r ∷ front) p v = ap (λ xs. q ∷ xs) (with_last_value-push (r ∷ front) p v)

pub is_last_short_push : (above front : List Property) (p : Property) → is_last_short above (front ++ p ∷ []) ≡ is_short (joined above p)
is_last_short_push above [] p = refl
is_last_short_push above (q ∷ []) p = refl
is_last_short_push above (q ∷ r ∷ front) p = is_last_short_push above (r ∷ front) p

pub bytes_within : (s : Size) → s.bytes ≤ (with_table s).bytes
bytes_within s = go (nat_lt 0 s.individuals) where
  go : (b : Bool) → s.bytes ≤ (if b then record s { bytes = s.bytes + 5; fixups = s.fixups + 1 } else s).bytes
  go true = omega arith
  go false = omega arith

-- a further value of the last property changes no number
AreAt-valued : (k : ℕ) (places : List ℕ) (v : Value) (ps : List Property) → AreAt k places ps → AreAt k places (with_last_value v ps)
AreAt-valued k places v [] h = tt
AreAt-valued k places v (p ∷ []) h = (h.0, tt)
AreAt-valued k places v (p ∷ q ∷ ps) h = (h.0, AreAt-valued (k + 1) places v (q ∷ ps) h.1)

AreNew-valued : (before : List Property) (v : Value) (ps : List Property) → AreNew before ps → AreNew before (with_last_value v ps)
AreNew-valued before v [] h = tt
AreNew-valued before v (p ∷ []) h = (h.0, tt)
AreNew-valued before v (p ∷ q ∷ ps) h = (h.0, AreNew-valued (before ++ p ∷ []) v (q ∷ ps) h.1)

-- there is no property, or a last one
abbrev pub HasLast : List Property → Type 0
HasLast ps = (ps ≡ []) ⊎ ((front : List Property) × (p : Property) × (ps ≡ front ++ p ∷ []))

last_of : (ps : List Property) → HasLast ps
last_of [] = inl refl
last_of (p ∷ ps) = go (last_of ps) where
  go : HasLast ps → HasLast (p ∷ ps)
  go (inl e) = inr ([], p, ap (λ qs. p ∷ qs) e)
  go (inr h) = inr (p ∷ h.0, h.1, ap (λ qs. p ∷ qs) h.2)

short-valued : (own above : List Property) (v : Value) → are_short (inherited own above) ≡ true →
    is_last_short above (with_last_value v own) ≡ true → are_short (inherited (with_last_value v own) above) ≡ true
short-valued own above v h k = go (last_of own) where
  go : HasLast own → are_short (inherited (with_last_value v own) above) ≡ true
  go (inl e) = ap (λ ps. are_short (inherited (with_last_value v ps) above)) e ∙ ap (λ ps. are_short (inherited ps above)) (sym e) ∙ h
  go (inr l) =
      let q = with_more v l.1 in
      let new : with_last_value v own ≡ l.0 ++ q ∷ [] = ap (with_last_value v) l.2 ∙ with_last_value-push l.0 l.1 v in
      let short : is_short (joined above q) ≡ true = sym (is_last_short_push above l.0 q) ∙ ap (is_last_short above) (sym new) ∙ k in
      ap (λ ps. are_short (inherited ps above)) new
      ∙ short-replaced l.0 above l.1 q refl (ap (λ ps. are_short (inherited ps above)) (sym l.2) ∙ h) short

pub opens_valued : (o : Owner) (own above : List Property) (own_places above_places : List ℕ) (size new : Size) (v : Value)
    → IsOpen o own above own_places above_places size → is_last_short above (with_last_value v own) ≡ true
    → new ≡ total o (inherited (with_last_value v own) above) → new.bytes < 2 ^ 32 → IsOpen o (with_last_value v own) above own_places
    above_places new
opens_valued o own above own_places above_places size new v h short sized small =
    opens o (with_last_value v own) above own_places above_places new (AreAt-valued 0 own_places v own h.own_at) h.above_at
    (AreNew-valued [] v own h.own_new) h.above_new (AreFree-valued v own h.own_free) h.above_free (short-valued own above v h.short short)
    sized small

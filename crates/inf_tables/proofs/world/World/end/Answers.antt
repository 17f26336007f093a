use Rattle.std.proofs.Common.{◌≡◌, ◌+◌, ◌++◌, ◌∷◌, [], ℕ, List, length, false, sym, ap, subst, ◌∙◌, arith, slice_get}
use Rattle.inf_objects.specs.{declared.body.Body.Body, declared.objects.Object.Object}
use Rattle.inf_objects.specs.Objects.{ended, is_lost, object_bytes, object_fixups}
use Rattle.inf_tables.specs.{Objects.or_latest, World.IsWorld, World.WorldOf}
use Rattle.inf_tables.proofs.{Counting.ends, Latest.told}
use Rattle.inf_tables.proofs.world.World.end.Goals as goal

pub invariant_of-self-2 : goal.invariant_of-self-2
invariant_of-self-2 g c =
    let i = c.self.inside in
    let w : WorldOf = record {
      attributes = i.attributes;
      declared = i.declared.items;
      individuals = i.individuals;
      objects = i.objects.items;
      is_open = i.is_open;
      body = i.body;
    } in
    let object : c.in_ok-object.object ≡ ended i.body = c.in_ok-object.ensures.object in
    let kept : c.reserve.new.self.items ≡ i.objects.items = c.in_ok-reserve.ensures.items in
    let kept_latest : c.reserve-2.new.self.items ≡ i.latest.items = c.in_ok-reserve-2.ensures.items in
    let count : 4 + c.len.result + 1 ≡ 5 + length i.objects.items = omega (arith, c.len.ensures, c.reserve.new.self.ok.0, ap length kept) in
    let lost : is_lost i.body.properties.owner ≡ false =
    ap (λ (v : WorldOf). is_lost v.body.properties.owner) c.self.view_is ∙ c.requires in
    let later : (arrows : ℕ) → slice_get c.note_latest.new.latest.items arrows ≡ or_latest
    (told arrows (4 + c.len.result + 1) c.in_ok-object.object) (slice_get c.reserve-2.new.self.items arrows) =
    c.note_latest.ensures.latest in
    let latest : (arrows : ℕ) → slice_get c.note_latest.new.latest.items arrows ≡ or_latest
    (told arrows (5 + length i.objects.items) (ended i.body)) (slice_get i.latest.items arrows) =
    λ arrows. later arrows ∙ ap (λ n. or_latest (told arrows n c.in_ok-object.object) (slice_get c.reserve-2.new.self.items arrows)) count
    ∙ ap (λ o. or_latest (told arrows (5 + length i.objects.items) o) (slice_get c.reserve-2.new.self.items arrows)) object
    ∙ ap (λ ns. or_latest (told arrows (5 + length i.objects.items) (ended i.body)) (slice_get ns arrows)) kept_latest in
    let pushed : c.push_object.new.objects.items ≡ c.reserve.new.self.items ++ c.in_ok-object.object ∷ [] = c.push_object.ensures in
    let added : c.push_object.new.objects.items ≡ i.objects.items ++ ended i.body ∷ [] =
    pushed ∙ ap (λ os. os ++ c.in_ok-object.object ∷ []) kept ∙ ap (λ o. i.objects.items ++ o ∷ []) object in
    let done = ends i.limits w i.latest.items c.note_latest.new.latest.items i.bytes i.fixups c.self.invariant.0 lost latest in
    let with : List Object → Body → WorldOf = λ objects body. record {
      attributes = i.attributes;
      declared = i.declared.items;
      individuals = i.individuals;
      objects = objects;
      is_open = false;
      body = body;
    } in (
      subst (λ n. IsWorld i.limits (with c.push_object.new.objects.items c.end.new.self) c.note_latest.new.latest.items (i.bytes + n)
          (i.fixups + c.fixups-fixups.result)) (sym c.bytes-bytes.ensures.value)
          (subst (λ n. IsWorld i.limits (with c.push_object.new.objects.items c.end.new.self) c.note_latest.new.latest.items
          (i.bytes + object_bytes (ended i.body)) (i.fixups + n)) (sym c.fixups-fixups.ensures.value)
          (subst (λ os. IsWorld i.limits (with os c.end.new.self) c.note_latest.new.latest.items (i.bytes + object_bytes (ended i.body))
          (i.fixups + object_fixups (ended i.body))) (sym added)
          (subst (λ b. IsWorld i.limits (with (i.objects.items ++ ended i.body ∷ []) b) c.note_latest.new.latest.items
          (i.bytes + object_bytes (ended i.body)) (i.fixups + object_fixups (ended i.body))) (sym c.in_ok-object.ensures.ok) done))),
      c.self.invariant.1,
      c.self.invariant.2,
    )

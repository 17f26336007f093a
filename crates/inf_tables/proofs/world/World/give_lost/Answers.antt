use Rattle.std.proofs.Common.{◌≡◌, false, ap, ◌∙◌}
use Rattle.inf_properties.specs.{Open.Open, declared.sizes.Owner.Owner}
use Rattle.inf_tables.specs.World.{WorldOf}
use Rattle.inf_tables.proofs.Counting.{lost_stays}
use Rattle.inf_tables.proofs.world.World.give_lost.Goals as goal

pub invariant_of-self-2 : goal.invariant_of-self-2
invariant_of-self-2 g c =
    let i = c.self.inside in
    let w : WorldOf = record {
      attributes = i.attributes;
      declared = i.declared.items;
      individuals = i.individuals;
      objects = i.objects.items;
      is_open = i.is_open;
      body = i.body;
    } in
    let nothing : i.body.properties.owner ≡ Owner.Nothing =
    ap (λ (v : WorldOf). v.body.properties.owner) c.self.view_is ∙ c.requires.owner in
    let same : c.lose.new.self.owner ≡ i.body.properties.owner =
    ap (λ (o : Open). o.owner) (c.lose.ensures ∙ ap (λ (o : Open). record o { takes_values = false }) c.in_ok-give.ensures.ok) in (
      lost_stays i.limits w c.lose.new.self i.latest.items i.bytes i.fixups c.self.invariant.0 nothing (same ∙ nothing),
      c.self.invariant.1,
      c.self.invariant.2,
    )

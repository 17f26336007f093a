use Rattle.std.proofs.Common.{◌≡◌, ◌+◌, ◌-◌, sym, ap, ◌∙◌, arith}
use Rattle.inf_tables.specs.Objects.{parent_above}
use Rattle.inf_tables.proofs.Latest.{above_is, latest-within, reached_is}
use Rattle.inf_tables.proofs.world.World.number_above.Goals as goal

pub returns-in-Some-clause-value : goal.returns-in-Some-clause-value
returns-in-Some-clause-value g c =
    let arrows : c.args.arrows ≡ c.args.arrows - 1 + 1 = omega (arith, c.if-arrows-eq0.false) in
    sym (above_is c.args.arrows (c.args.arrows - 1) c.args.self.now.objects arrows ∙ ap parent_above
    (sym c.latest_with.ensures ∙ c.in-Some.is))

pub returns-in-Some-clause-within : goal.returns-in-Some-clause-within
returns-in-Some-clause-within g c =
    latest-within (c.args.arrows - 1) c.args.self.now.objects c.in-Some.number (sym c.latest_with.ensures ∙ c.in-Some.is)

pub returns-in-Some-clause-reached : goal.returns-in-Some-clause-reached
returns-in-Some-clause-reached g c =
    let arrows : c.args.arrows ≡ c.args.arrows - 1 + 1 = omega (arith, c.if-arrows-eq0.false) in
    reached_is c.args.arrows (c.args.arrows - 1) c.in-Some.number c.args.self.now.objects arrows (sym c.latest_with.ensures ∙ c.in-Some.is)

pub returns-in-None-clause-value : goal.returns-in-None-clause-value
returns-in-None-clause-value g c =
    let arrows : c.args.arrows ≡ c.args.arrows - 1 + 1 = omega (arith, c.if-arrows-eq0.false) in
    sym (above_is c.args.arrows (c.args.arrows - 1) c.args.self.now.objects arrows ∙ ap parent_above
    (sym c.latest_with.ensures ∙ c.in-None.is))

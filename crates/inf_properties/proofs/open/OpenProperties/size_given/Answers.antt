use Rattle.std.proofs.Common.{ap, ◌∙◌, arith, option_to_list}
use Rattle.inf_properties.specs.{Open.Open, Properties.found, Properties.values_in}
use Rattle.inf_properties.proofs.{Fitting.given_fits, Fitting.sized_by, Sums.changed_is}
use Rattle.inf_properties.proofs.open.OpenProperties.size_given.Goals as goal

pub changed-requires : goal.changed-requires
changed-requires c =
    let s = c.args.self.now in
    let owner = ap (λ (o : Open). o.owner) c.self.view_is in
    let gained = c.in_ok-gained.ensures.some ∙ sized_by c.self.inside.owner s.owner c.args.number c.args.is_additive c.counts.result.0
    c.counts.result.1 c.above_of.result.1.now (values_in (found c.args.number s.above)) (option_to_list c.args.first) owner
    c.counts.ensures.count c.counts.ensures.later c.above_of.ensures.values in
    let changes = given_fits _ s c.self.inside.size c.above_of.result.0 c.in_ok-gained.gained c.args.number c.args.is_additive c.args.first
    c.self.view_is c.self.invariant.above_new c.requires c.self.invariant.sized c.above_of.ensures.size gained in
    let little = c.in_ok-gained.ensures.little in let invariant = c.self.invariant in
    record {
      bytes = changes.lost_bytes;
      fixups = changes.lost_fixups;
      individuals = changes.lost_individuals;
      small = (omega arith, omega arith, omega arith);
      little = (omega arith, omega arith, omega arith);
    }

pub returns-clause-some : goal.returns-clause-some
returns-clause-some c =
    let s = c.args.self.now in
    let owner = ap (λ (o : Open). o.owner) c.self.view_is in
    let gained = c.in_ok-gained.ensures.some ∙ sized_by c.self.inside.owner s.owner c.args.number c.args.is_additive c.counts.result.0
    c.counts.result.1 c.above_of.result.1.now (values_in (found c.args.number s.above)) (option_to_list c.args.first) owner
    c.counts.ensures.count c.counts.ensures.later c.above_of.ensures.values in
    let changes = given_fits _ s c.self.inside.size c.above_of.result.0 c.in_ok-gained.gained c.args.number c.args.is_additive c.args.first
    c.self.view_is c.self.invariant.above_new c.requires c.self.invariant.sized c.above_of.ensures.size gained in
    c.changed.ensures ∙ changed_is _ _ _ _ changes

-- The opening that is made is the last, and the steps mean what they did.
use Rattle.std.proofs.Common.{arith, [], ◌∷◌}
use Rattle.inf_machine.proofs.Stepping.{all_mean_on, opened_last}
use Rattle.inf_machine.proofs.openings.Openings.open.Goals as goal

pub invariant_of-self-2 : goal.invariant_of-self-2
invariant_of-self-2 g c = all_mean_on g.T.Table.grammar g.T.Table.known c.self.inside.made.items c.push.new.self.items
    (c.in_ok-of.field-0 ∷ []) c.self.inside.steps c.in_ok-push.ensures.items c.self.invariant

pub returns : goal.returns
returns g c = (
  c.requires,
  opened_last c.self.inside.made.items c.push.new.self.items c.len-place.result c.in_ok-of.field-0 (c.args.rule, c.args.atom)
      c.in_ok-push.ensures.items (omega (arith, c.len-place.ensures)) c.in_ok-of.ensures,
)

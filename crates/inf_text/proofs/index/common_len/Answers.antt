use Rattle.std.proofs.Common.{◌≤◌, length, min, arith}
use Rattle.inf_text.proofs.Linking.{common-end}
use Rattle.inf_text.proofs.index.common_len.Goals as goal

pub returns-clause-value : goal.returns-clause-value
returns-clause-value c =
    let past : min (length c.args.items.now) (length c.args.text.now) ≤ c.loop-i.i = omega (arith, c.min-most.ensures) in
    omega (arith, common-end c.args.items.now c.args.text.now c.loop-i.i past, c.loop-i.invariant)

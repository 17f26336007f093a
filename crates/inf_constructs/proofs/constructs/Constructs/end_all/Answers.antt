-- Each statement that ends is the next of those that are left.
use Rattle.std.proofs.Common.{◌-◌, ap, sym, ◌∙◌, arith}
use Rattle.inf_constructs.specs.Constructs.{all_ended}
use Rattle.inf_constructs.proofs.Stacks.{next_ended}
use Rattle.inf_constructs.proofs.constructs.Constructs.end_all.Goals as goal

pub loop-left-preserved : goal.loop-left-preserved
loop-left-preserved g c =
    let n = c.loop-left.left in
    ap (λ (e : _). all_ended g.B.Bounds.most (n - 1) e.0 e.1) c.in_ok-end.ensures
    ∙ sym (next_ended g.B.Bounds.most n c.loop-left.self c.loop-left.out (omega (arith, c.loop-left-test.true))) ∙ c.loop-left.invariant

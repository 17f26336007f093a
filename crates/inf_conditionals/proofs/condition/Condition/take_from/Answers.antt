use Rattle.std.proofs.Common.{◌≡◌, ◌+◌, arith, false, sym, true, ◌∙◌}
use Rattle.inf_unit.specs.Spelled.{spelled}
use Rattle.inf_conditionals.proofs.Waiting.{one_fits, others_fit, others_taken}
use Rattle.inf_conditionals.proofs.condition.Condition.take_from.Goals as goal

pub unreachable-requires-then-not-branch : goal.unreachable-requires-then-not-branch
unreachable-requires-then-not-branch c =
    let fit = one_fits c.args.tokens.now c.loop-at.at (spelled c.in-Some.token) c.loop-at.self
    (sym c.in-Some.ensures) c.loop-at.invariant.fits in
    let never : false ≡ true = sym c.if-not-branch.true ∙ c.in_ok-take.ensures.fits ∙ fit in
    cc

pub loop-at-preserved : goal.loop-at-preserved
loop-at-preserved c =
    let ts = c.args.tokens.now in let there = sym c.in-Some.ensures in
    let took = c.in_ok-take.ensures.taken c.if-not-branch.false in
    record {
      fits = others_fit ts c.loop-at.at (c.loop-at.at + 1) (spelled c.in-Some.token) c.loop-at.self c.take.new.self (omega arith) there took
          c.loop-at.invariant.fits;
      left =
          others_taken ts c.loop-at.at (c.loop-at.at + 1) (spelled c.in-Some.token) c.loop-at.self c.take.new.self (omega arith) there took
          ∙ c.loop-at.invariant.left;
    }

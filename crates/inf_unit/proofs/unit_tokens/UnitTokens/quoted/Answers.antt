use Rattle.std.proofs.Common.{◌+◌, ◌∙◌, arith, drop, refl, slice_get, sym}
use Rattle.inf_unit.specs.Units.{quoted_in}
use Rattle.inf_unit.proofs.TokenLists.{quoted_next}
use Rattle.inf_unit.proofs.unit_tokens.UnitTokens.quoted.Goals as goal

pub returns-in-Some : goal.returns-in-Some
returns-in-Some c =
    let ts = c.args.self.now in let at = c.loop-at.at in
    sym (c.in-Some.ensures (quoted_in (drop (at + 1) ts))) ∙ sym (quoted_next ts at (at + 1) (slice_get ts at) (omega arith) refl
    (omega (arith, c.loop-at-test.true, c.len-at-end.ensures))) ∙ c.loop-at.invariant

pub loop-at-preserved : goal.loop-at-preserved
loop-at-preserved c =
    let ts = c.args.self.now in let at = c.loop-at.at in
    sym (c.in-None.ensures (quoted_in (drop (at + 1) ts))) ∙ sym (quoted_next ts at (at + 1) (slice_get ts at) (omega arith) refl
    (omega (arith, c.loop-at-test.true, c.len-at-end.ensures))) ∙ c.loop-at.invariant

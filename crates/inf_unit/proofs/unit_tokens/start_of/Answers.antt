use Rattle.std.proofs.Common.{◌∙◌, arith, sym}
use Rattle.inf_unit.proofs.KeptTokens.{begins_behind}
use Rattle.inf_unit.proofs.unit_tokens.start_of.Goals as goal

pub returns-in-Some : goal.returns-in-Some
returns-in-Some c = c.end.ensures
    ∙ sym (begins_behind c.args.kept.now c.args.at c.in-Some.before.now (omega (arith, c.if-at-eq0.false)) c.in-Some.ensures)

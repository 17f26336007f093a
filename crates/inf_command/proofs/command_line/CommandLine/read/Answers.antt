use Rattle.std.proofs.Common.{sym, ◌∙◌}
use Rattle.std.proofs.lemmas.Result.{err_from_is_err_and}
use Rattle.inf_command.proofs.WordSteps.{read_from-taken, read_from-refused}
use Rattle.inf_command.proofs.command_line.CommandLine.read.Goals as goal

pub loop-place-preserved : goal.loop-place-preserved
loop-place-preserved c =
    sym (read_from-taken c.args.words.now c.loop-place.place _ c.loop-place.taken c.in_ok-taken.taken c.loop-place-test.true
    (sym c.and.ensures ∙ c.in_ok-taken.was)) ∙ c.loop-place.invariant

pub returns-in_err-taken : goal.returns-in_err-taken
returns-in_err-taken c =
    let p = err_from_is_err_and c.from_residual.result c.from_residual.ensures.1 in
    let refused = read_from-refused c.args.words.now c.loop-place.place _ c.loop-place.taken c.in_err-taken.field-0.0 c.loop-place-test.true
    (sym c.and.ensures ∙ c.in_err-taken.was) in
    rw (p.1, p.2) (sym refused ∙ c.loop-place.invariant)

use Rattle.std.proofs.lemmas.Result.{IfOk-from_err}
use Rattle.inf_session.proofs.setup.Setup.begin.Goals as goal

pub returns-in_err-full : goal.returns-in_err-full
returns-in_err-full g c = IfOk-from_err c.from_residual-in_err-full.result _ c.from_residual-in_err-full.ensures.0

use Rattle.inf_session.proofs.{Promises.told_fault, Supplying.supplies_as}
use Rattle.inf_session.proofs.session.Session.step_veneer.Goals as goal

pub returns-in_err-was_read-clause-supplied : goal.returns-in_err-was_read-clause-supplied
returns-in_err-was_read-clause-supplied g c =
    supplies_as (told_fault c.from_residual.result _ c.from_residual.ensures.1) c.in_err-was_read.ensures.supplied

pub returns-clause-supplied : goal.returns-clause-supplied
returns-clause-supplied g c = c.in_ok-was_read.ensures.supplied

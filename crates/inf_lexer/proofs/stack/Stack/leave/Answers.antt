use Rattle.inf_lexer.proofs.Attempts.{closes_by}
use Rattle.inf_lexer.proofs.stack.Stack.leave.Goals as goal

pub returns-clause-closes : goal.returns-clause-closes
returns-clause-closes g c =
    let e = c.close.ensures in closes_by e.closes e.depth e.opened e.faults e.counts e.kept

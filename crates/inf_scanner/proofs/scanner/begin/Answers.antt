use Rattle.std.proofs.Common.{sym}
use Rattle.inf_scanner.proofs.Beginning.{begin_mark}
use Rattle.inf_scanner.proofs.scanner.begin.Goals as goal

pub returns-in-Some : goal.returns-in-Some
returns-in-Some c = sym (begin_mark c.args.set c.args.byte c.in-Some.mark (sym c.in-Some.ensures))

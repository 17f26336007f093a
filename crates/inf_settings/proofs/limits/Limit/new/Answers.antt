use Rattle.std.proofs.Common.{rules}
use Rattle.inf_settings.proofs.limits.Limit.new.Goals as goal

pub returns-then-number-eq0 : goal.returns-then-number-eq0
returns-then-number-eq0 c = search rules

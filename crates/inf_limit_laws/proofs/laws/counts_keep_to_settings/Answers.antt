use Rattle.inf_limit_laws.proofs.Whole.{counts_keep_to_settings}
use Rattle.inf_limit_laws.proofs.laws.counts_keep_to_settings.Goals as goal

pub returns : goal.returns
returns c = counts_keep_to_settings

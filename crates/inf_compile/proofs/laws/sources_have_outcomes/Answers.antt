use Rattle.inf_compile.proofs.Reaching.{outcomes_exist}
use Rattle.inf_compile.proofs.laws.sources_have_outcomes.Goals as goal

pub returns : goal.returns
returns c = outcomes_exist

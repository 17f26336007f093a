use Rattle.inf_statement_laws.proofs.Reading.{tokens_happen}
use Rattle.inf_statement_laws.proofs.laws.tokens_happen.Goals as goal

pub returns : goal.returns
returns c = tokens_happen

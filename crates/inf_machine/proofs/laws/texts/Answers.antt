use Rattle.inf_machine.proofs.TokenLaws.{texts_are_taken}
use Rattle.inf_machine.proofs.laws.texts.Goals as goal

pub returns : goal.returns
returns g c = texts_are_taken

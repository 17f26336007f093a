-- A lemma is the answer.
use Rattle.inf_interpreter.proofs.Worlds.{worlds_supply}
use Rattle.inf_interpreter.proofs.laws.worlds_supply.Goals as goal

pub returns : goal.returns
returns c = worlds_supply

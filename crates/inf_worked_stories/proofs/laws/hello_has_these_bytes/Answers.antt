-- A lemma is the answer.
use Rattle.inf_worked_stories.proofs.Hello.{hello_has_bytes}
use Rattle.inf_worked_stories.proofs.laws.hello_has_these_bytes.Goals as goal

pub returns : goal.returns
returns c = hello_has_bytes

use Rattle.inf_verbs.proofs.Sizes.{size_written, verb_at_place}
use Rattle.inf_verbs.proofs.laws.verb_at_its_place.Goals as goal

pub returns-clause-size : goal.returns-clause-size
returns-clause-size g c = size_written c.args.verbs.now.list

pub returns-clause-lines : goal.returns-clause-lines
returns-clause-lines g c = verb_at_place c.args.verbs.now.list c.args.number c.requires

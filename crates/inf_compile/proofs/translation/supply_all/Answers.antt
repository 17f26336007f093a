use Rattle.inf_session.specs.Choices.{chosen}
use Rattle.inf_compile.proofs.Concluding.{supplies_all, supplies_part}
use Rattle.inf_compile.proofs.translation.supply_all.Goals as goal

pub returns-clause-supplied : goal.returns-clause-supplied
returns-clause-supplied g c = supplies_all c.supply.result g.B.Bounds.most (chosen c.args.session.now.setup) c.args.session.now
    c.supply.new.self (g.M.Sink.taken c.args.messages.now) (g.M.Sink.taken c.supply.new.messages) c.supply.ensures.supplied.made

pub returns-clause-cut : goal.returns-clause-cut
returns-clause-cut g c = supplies_part c.supply.result g.B.Bounds.most (chosen c.args.session.now.setup) c.args.session.now
    (g.M.Sink.taken c.args.messages.now) (g.M.Sink.taken c.supply.new.messages) c.supply.ensures.supplied.broken

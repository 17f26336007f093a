use Rattle.std.proofs.Common.{sym}
use Rattle.inf_session.proofs.Supplying.{name_few}
use Rattle.inf_session.proofs.session.Session.wants.Goals as goal

pub look-requires : goal.look-requires
look-requires g c = name_few c.args.number c.in-Some.name.now (sym c.in-Some.ensures)

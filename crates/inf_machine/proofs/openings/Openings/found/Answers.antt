-- A rule that the atom does not begin is passed over, or refuses it.
use Rattle.std.proofs.Common.{sym, ◌∙◌}
use Rattle.inf_machine.proofs.openings.Openings.found.Goals as goal

pub returns-else-begins : goal.returns-else-begins
returns-else-begins g c = c.step_past.ensures c.args.self.now c.args.atom (sym c.begins.ensures ∙ c.if-begins.false)

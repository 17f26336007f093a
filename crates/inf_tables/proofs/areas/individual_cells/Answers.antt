use Rattle.inf_tables.proofs.Joining.{individual_end}
use Rattle.inf_tables.proofs.areas.individual_cells.Goals as goal

pub returns : goal.returns
returns c =
    individual_end c.loop-object.cells c.args.objects.now c.loop-object.object-index c.loop-object-test.false c.loop-object.invariant

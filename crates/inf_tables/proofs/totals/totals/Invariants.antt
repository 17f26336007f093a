use Rattle.inf_tables.proofs.WorldTables.{Left}
use Rattle.inf_tables.proofs.totals.totals.Given as goal

abbrev pub invariant-loop-object : goal.invariant-loop-object
invariant-loop-object l = Left l.most l.objects l.object-index l.all

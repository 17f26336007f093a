use Rattle.std.proofs.Common.{subst}
use Rattle.inf_tables.specs.Tables.{AllTables}
use Rattle.inf_laws.proofs.Counts.{Counted, limits_count_the_story}
use Rattle.inf_laws.proofs.laws.limits_count_the_story.Goals as goal

pub returns : goal.returns
returns g c = limits_count_the_story c.args.tables.now
    (subst (λ (t : AllTables). Counted t.world) c.tables.view_is c.written_as_counted.ensures.later)

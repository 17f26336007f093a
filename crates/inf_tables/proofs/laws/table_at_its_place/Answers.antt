use Rattle.inf_tables.specs.Areas.{all_objects}
use Rattle.inf_tables.proofs.WorldTables.{individual_placed, table_placed}
use Rattle.inf_tables.proofs.laws.table_at_its_place.Goals as goal

pub returns-clause-table : goal.returns-clause-table
returns-clause-table g c = table_placed c.args.number (all_objects c.args.world.now.objects) c.requires

pub returns-clause-individual_table : goal.returns-clause-individual_table
returns-clause-individual_table g c = individual_placed c.args.number (all_objects c.args.world.now.objects) c.requires

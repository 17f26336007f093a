-- Lemmas are the answers.
use Rattle.inf_world_laws.proofs.Rows.{classes_agree, links_are_shown, tables_are_shown}
use Rattle.inf_world_laws.proofs.laws.rows_are_evaluated.Goals as goal

pub returns : goal.returns
returns c = record { classes = classes_agree; tables = tables_are_shown; links = links_are_shown }

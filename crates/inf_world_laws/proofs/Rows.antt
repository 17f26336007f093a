-- Worked rows, by evaluation
use Rattle.std.proofs.Common.{refl}
use Rattle.inf_objects.specs.Attributes.{attribute_cells, flag_byte, no_attributes, nothing_said}
use Rattle.inf_objects.specs.Tables.{all_falling}
use Rattle.inf_world_laws.specs.Rows.{ClassesAgree, LinksAreShown, TablesAreShown}

pub classes_agree : ClassesAgree
unfolding no_attributes nothing_said
classes_agree = (refl, refl, refl)

pub tables_are_shown : TablesAreShown
unfolding all_falling attribute_cells flag_byte
tables_are_shown = (refl, refl, refl, refl)

pub links_are_shown : LinksAreShown
links_are_shown = (refl, refl)

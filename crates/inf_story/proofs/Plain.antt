-- The areas of a source that filled no table, by evaluation.
use Rattle.std.proofs.Common.{refl}
use Rattle.inf_objects.specs.{Attributes.attribute_cells, Attributes.flag_byte, Attributes.no_attributes, Tables.all_falling}
use Rattle.inf_story.specs.Plain.{LookupIsPlain, TablesArePlain, class_numbers, dictionary, globals, objects, property_defaults}
use Rattle.inf_story.specs.Plain.{property_tables, table_places}
use Rattle.inf_text.specs.Packing.{packed, longest, character_zs}
use Rattle.inf_tables.specs.Areas.{first_names}

pub tables_are_plain : TablesArePlain
unfolding property_defaults objects property_tables class_numbers globals dictionary packed longest character_zs first_names no_attributes
    attribute_cells flag_byte all_falling
tables_are_plain main finished strings = refl

pub lookup_is_plain : LookupIsPlain
unfolding table_places packed longest character_zs first_names all_falling
lookup_is_plain names = refl

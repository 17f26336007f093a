-- The bytes of a story, by evaluation
use Rattle.std.proofs.Common.{refl}
use Rattle.inf_objects.specs.{Attributes.attribute_cells, Attributes.flag_byte, Attributes.no_attributes, Tables.all_falling}
use Rattle.inf_link.specs.{Header.header_back, Header.header_front, Stories.story_of}
use Rattle.inf_story.specs.{Stories.story, Tables.abbreviations, Tables.three_spaces}
use Rattle.inf_tables.specs.{Areas.first_names, Tables.more}
use Rattle.inf_text.specs.Packing.{packed, longest, character_zs, punctuation}
use Rattle.inf_worked_stories.specs.Hello.{HelloHasBytes}

pub hello_has_bytes : HelloHasBytes
unfolding story story_of header_front header_back packed longest character_zs punctuation three_spaces abbreviations first_names
    no_attributes attribute_cells flag_byte all_falling more
hello_has_bytes = refl

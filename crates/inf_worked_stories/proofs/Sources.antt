-- Outcomes of sources with their stories, by evaluation
use Rattle.std.proofs.Common.{refl}
use Rattle.std.specs.Fmt.{digits}
use Rattle.std.specs.Prelude.{codes}
use Rattle.inf_veneer.specs.Texts as veneer
use Rattle.inf_characters.specs.Characters.{accented, zscii_of, zscii_of_unicode}
use Rattle.inf_characters.specs.Reading.{escape_piece, piece_at, spelled, spellings, text_of}
use Rattle.inf_text.specs.Packing.{packed, longest, character_zs, dictionary_bytes, punctuation}
use Rattle.inf_dictionary.specs.Words.{is_misfit}
use Rattle.inf_link.specs.{Header.header_back, Header.header_front, Stories.story_of}
use Rattle.inf_story.specs.Stories.{story, too_long}
use Rattle.inf_story.specs.Tables as tables
use Rattle.inf_objects.specs.{Attributes.attribute_cells, Attributes.flag_byte, Attributes.no_attributes, Attributes.nothing_said}
use Rattle.inf_objects.specs.Tables.{all_falling}
use Rattle.inf_tables.specs.{Areas.first_names, Tables.more}
use Rattle.inf_grammar.specs.Language as language
use Rattle.inf_names.specs.SystemNames as system
use Rattle.inf_syntax.specs.Atoms as atoms
use Rattle.inf_syntax.specs.Words as words
use Rattle.inf_output.specs.Output as output
use Rattle.inf_templates.specs.Meaning as meaning
use Rattle.inf_templates.specs.Parts as parts
use Rattle.inf_statements.specs.Effects as effects
use Rattle.inf_statements.specs.Statements as statements
use Rattle.inf_unit.specs.Units as units
use Rattle.inf_parts.specs.Parts as work_parts
use Rattle.inf_worked_stories.specs.{Hello.hello, Sources.HasStory, Sources.class_source, Sources.class_story, Sources.later_source}
use Rattle.inf_worked_stories.specs.Sources.{StoriesAreThese, later_story, verb_source, verb_story}

pub hello_source : HasStory (codes "[ Main; print \"hello\"; ];") hello
unfolding digits more text_of piece_at escape_piece spelled spellings zscii_of zscii_of_unicode accented packed longest character_zs
    punctuation units.order units.next_place output.laid output.instruction output.behind meaning.call_of parts.calling
    statements.statement_in effects.statement_laid effects.statement_finding work_parts.part_effect language.grammar language.known
    atoms.keyword_of words.keywords system.system_names veneer.all_names too_long tables.three_spaces tables.abbreviations first_names
    no_attributes nothing_said attribute_cells flag_byte all_falling story story_of header_front header_back
hello_source = record { final = _; is_read = record { turns = 20; leads = refl; ends = refl }; is_ending = refl }

pub later_is : HasStory later_source later_story
unfolding digits more text_of piece_at escape_piece spelled spellings zscii_of zscii_of_unicode accented packed longest character_zs
    punctuation units.order units.next_place output.laid output.instruction output.behind meaning.call_of parts.calling
    statements.statement_in effects.statement_laid effects.statement_finding work_parts.part_effect language.grammar language.known
    atoms.keyword_of words.keywords system.system_names veneer.all_names too_long tables.three_spaces tables.abbreviations first_names
    no_attributes nothing_said attribute_cells flag_byte all_falling story story_of header_front header_back
later_is = record { final = _; is_read = record { turns = 40; leads = refl; ends = refl }; is_ending = refl }

pub class_is : HasStory class_source class_story
unfolding digits more text_of piece_at escape_piece spelled spellings zscii_of zscii_of_unicode accented packed longest character_zs
    punctuation units.order units.next_place output.laid output.instruction output.behind meaning.call_of parts.calling
    statements.statement_in effects.statement_laid effects.statement_finding work_parts.part_effect language.grammar language.known
    atoms.keyword_of words.keywords system.system_names veneer.all_names too_long tables.three_spaces tables.abbreviations first_names
    no_attributes nothing_said attribute_cells flag_byte all_falling story story_of header_front header_back
class_is = record { final = _; is_read = record { turns = 60; leads = refl; ends = refl }; is_ending = refl }

pub verb_is : HasStory verb_source verb_story
unfolding is_misfit dictionary_bytes digits more text_of piece_at escape_piece spelled spellings zscii_of zscii_of_unicode accented packed longest character_zs
    punctuation units.order units.next_place output.laid output.instruction output.behind meaning.call_of parts.calling
    statements.statement_in effects.statement_laid effects.statement_finding work_parts.part_effect language.grammar language.known
    atoms.keyword_of words.keywords system.system_names veneer.all_names too_long tables.three_spaces tables.abbreviations first_names
    no_attributes nothing_said attribute_cells flag_byte all_falling story story_of header_front header_back
verb_is = record { final = _; is_read = record { turns = 60; leads = refl; ends = refl }; is_ending = refl }

pub stories_are_these : StoriesAreThese
stories_are_these = (hello_source, later_is, class_is, verb_is)

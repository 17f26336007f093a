-- Worked examples, by the definitions.
use Rattle.std.proofs.Common.{◌≡◌, ℕ, ◌/◌, List, [], ◌∷◌, length, map, refl, ap, ◌∙◌, subst}
use Rattle.inf_area.specs.{declared.cells.Cell.Cell, declared.scale.Scale.Scale, declared.targets.AreaName.AreaName}
use Rattle.inf_area.specs.{declared.targets.Target.Target, declared.targets.Value.Value}
use Rattle.std.specs.Fmt.{digits}
use Rattle.inf_veneer.specs.Texts as veneer
use Rattle.inf_characters.specs.Characters.{accented, zscii_of, zscii_of_unicode}
use Rattle.inf_characters.specs.Reading.{escape_piece, piece_at, spelled, spellings, text_of}
use Rattle.inf_text.specs.Packing.{packed, longest, character_zs, punctuation}
use Rattle.inf_code.specs.Code.{known}
use Rattle.inf_link.specs.{Areas.lengths, FillingLaws.cells_sizes, Header.number_bytes, MemoryMaps.map_of, StoryLaws.HasAt}
use Rattle.inf_link.specs.{declared.areas.Areas.Areas, declared.header.HeaderFields.HeaderFields}
use Rattle.inf_story.specs.Stories.{story, too_long}
use Rattle.inf_story.specs.Plain as plain
use Rattle.inf_story.specs.Tables as tables
use Rattle.inf_story.proofs.{Plain.tables_are_plain, Told.story_tells}
use Rattle.inf_objects.specs.{Attributes.attribute_cells, Attributes.flag_byte, Attributes.no_attributes, Tables.all_falling}
use Rattle.inf_tables.specs.{Areas.first_names, Tables.more, Tables.no_tables}
use Rattle.inf_compile.specs.Examples.{ConditionalsChoose, ConditionsChoose, EmptySource, FilesAreIncluded, HelloIsAStory}
use Rattle.inf_compile.specs.Examples.{NamesAreUndeclared, NoSource, SixteenAreOpen, TextIsMissing}
use Rattle.inf_grammar.specs.Language as language
use Rattle.inf_names.specs.SystemNames as system
use Rattle.inf_syntax.specs.Atoms as atoms
use Rattle.inf_syntax.specs.Words as words
use Rattle.inf_output.specs.Output as output
use Rattle.inf_templates.specs.Meaning as meaning
use Rattle.inf_templates.specs.Parts as parts
use Rattle.inf_statements.specs.Effects as effects
use Rattle.inf_statements.specs.Statements as statements
use Rattle.inf_unit.specs.Messages as messages
use Rattle.inf_unit.specs.Units as units
use Rattle.inf_parts.specs.Parts as work_parts

pub no_source : NoSource
unfolding digits more
no_source serial = refl

pub empty_source : EmptySource
unfolding digits more system.system_names veneer.all_names
empty_source serial = record { final = _; is_read = record { turns = 10; leads = refl; ends = refl }; is_ending = refl }

pub text_is_missing : TextIsMissing
unfolding digits more units.order units.next_place output.laid output.instruction output.behind meaning.call_of parts.calling
    statements.statement_in effects.statement_laid effects.statement_finding work_parts.part_effect language.grammar language.known
    atoms.keyword_of words.keywords system.system_names veneer.all_names
text_is_missing serial = record { final = _; is_read = record { turns = 20; leads = refl; ends = refl }; is_ending = refl }

pub names_are_undeclared : NamesAreUndeclared
unfolding digits more units.order units.next_place output.laid output.instruction output.behind meaning.call_of parts.calling
    statements.statement_in effects.statement_laid effects.statement_finding work_parts.part_effect language.grammar language.known
    atoms.keyword_of words.keywords system.system_names veneer.all_names
names_are_undeclared serial = record { final = _; is_read = record { turns = 40; leads = refl; ends = refl }; is_ending = refl }

pub files_are_included : FilesAreIncluded
unfolding digits more text_of piece_at escape_piece spelled spellings zscii_of zscii_of_unicode accented units.order units.next_place
    output.laid output.instruction output.behind meaning.call_of parts.calling statements.statement_in effects.statement_laid
    effects.statement_finding work_parts.part_effect language.grammar language.known atoms.keyword_of words.keywords system.system_names
    veneer.all_names
files_are_included serial = record { final = _; is_read = record { turns = 40; leads = refl; ends = refl }; is_ending = refl }

pub conditionals_choose : ConditionalsChoose
unfolding digits more text_of piece_at escape_piece spelled spellings zscii_of zscii_of_unicode accented units.order units.next_place
    output.laid output.instruction output.behind meaning.call_of parts.calling statements.statement_in effects.statement_laid
    effects.statement_finding work_parts.part_effect language.grammar language.known atoms.keyword_of words.keywords system.system_names
    veneer.all_names
conditionals_choose serial = record { final = _; is_read = record { turns = 80; leads = refl; ends = refl }; is_ending = refl }

pub conditions_choose : ConditionsChoose
unfolding digits more text_of piece_at escape_piece spelled spellings zscii_of zscii_of_unicode accented units.order units.next_place
    output.laid output.instruction output.behind meaning.call_of parts.calling statements.statement_in effects.statement_laid
    effects.statement_finding work_parts.part_effect language.grammar language.known atoms.keyword_of words.keywords system.system_names
    veneer.all_names messages.message_of
conditions_choose serial = record { final = _; is_read = record { turns = 80; leads = refl; ends = refl }; is_ending = refl }

pub sixteen_are_open : SixteenAreOpen
unfolding digits more text_of piece_at escape_piece spelled spellings zscii_of zscii_of_unicode accented units.order units.next_place
    output.laid output.instruction output.behind meaning.call_of parts.calling statements.statement_in effects.statement_laid
    effects.statement_finding work_parts.part_effect language.grammar language.known atoms.keyword_of words.keywords system.system_names
    veneer.all_names
sixteen_are_open serial = record { final = _; is_read = record { turns = 120; leads = refl; ends = refl }; is_ending = refl }

-- the code of the routine: no locals, `print`, `rtrue`, and a zero
abbrev hello_code : List Cell
hello_code = known (0x00 ∷ 0xB2 ∷ 0x35 ∷ 0x51 ∷ 0xC6 ∷ 0x85 ∷ 0xB0 ∷ 0x00 ∷ [])

abbrev fields : List ℕ → HeaderFields
fields serial = record { release = 1; serial = serial; scale = Scale.Four }

abbrev hello : List ℕ → List ℕ
hello serial = story (fields serial) 8 (Value.Later (Target.Place AreaName.Code 8) ∷ []) hello_code [] no_tables

plain_size : (map_of (cells_sizes (plain.plain_areas 8 hello_code [])) Scale.Four).end ≡ 976
unfolding packed longest character_zs tables.three_spaces tables.abbreviations plain.property_defaults plain.objects plain.property_tables
    plain.class_numbers plain.globals plain.dictionary
plain_size = refl

hello_size : (map_of (cells_sizes (tables.areas 8 hello_code [] no_tables)) Scale.Four).end ≡ 976
hello_size = ap (λ (cells : Areas (List Cell)). (map_of (cells_sizes cells) Scale.Four).end) (tables_are_plain 8 hello_code []) ∙ plain_size

pub hello_is_a_story : HelloIsAStory
unfolding digits more text_of piece_at escape_piece spelled spellings zscii_of zscii_of_unicode accented packed longest character_zs
    punctuation units.order units.next_place output.laid output.instruction output.behind meaning.call_of parts.calling
    statements.statement_in effects.statement_laid effects.statement_finding work_parts.part_effect language.grammar language.known
    atoms.keyword_of words.keywords
    system.system_names veneer.all_names too_long tables.three_spaces tables.abbreviations first_names no_attributes attribute_cells
    flag_byte all_falling
hello_is_a_story serial six =
    let says = story_tells (fields serial) 8 (Value.Later (Target.Place AreaName.Code 8) ∷ []) hello_code [] no_tables six in
    let size : length (hello serial) ≡ 976 = says.as_mapped ∙ hello_size in
    record {
      story = hello serial;
      is_outcome = record { final = _; is_read = record { turns = 20; leads = refl; ends = refl }; is_ending = refl };
      size = size;
      length_word = subst (λ n. HasAt 0x1A (hello serial) (number_bytes (n / 4))) size says.length_word;
    }

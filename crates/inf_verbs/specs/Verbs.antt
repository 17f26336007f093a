-- Verbs and their lines (Inform Technical Manual, section 8.5).
use Rattle.std.specs.Prelude.{ℕ, zero, suc, ◌+◌, ◌*◌, ◌%◌, List, [], ◌∷◌, ◌++◌, Option, Some, None, length, nat_le, nat_lt, slice_index_or}
use Rattle.std.specs.Prelude.{slice_set, if◌then◌else◌}
use Rattle.inf_area.specs.{Sums.sum_of, declared.cells.Cell.Cell, declared.targets.AreaName.AreaName, declared.targets.Target.Target}
use Rattle.inf_settings.specs.{Bounds.Limits, declared.setting.Setting.Setting}
use Rattle.inf_verbs.specs.{declared.verbs.LineFault.LineFault, declared.verbs.LinePlace.LinePlace, declared.verbs.VerbFault.VerbFault}
use Rattle.inf_verbs.specs.Lines.{LineOf, lines_cells, lines_prepositions, lines_size}

-- a verb: the lines that the last `Extend first` put in front, and the others
pub record VerbOf : Type 0 where
  pub first : List LineOf
  pub rest : List LineOf

-- all lines of a verb, in order
abbrev pub lines_of : VerbOf → List LineOf
lines_of verb = verb.first ++ verb.rest

abbrev pub no_lines : VerbOf
no_lines = record { first = []; rest = [] }

-- a verb of which further lines go in front of all
abbrev pub begun_first : VerbOf → VerbOf
begun_first verb = record { first = []; rest = lines_of verb }

abbrev pub with_first : LineOf → VerbOf → VerbOf
with_first line verb = record { first = verb.first ++ line ∷ []; rest = verb.rest }

abbrev pub with_last : LineOf → VerbOf → VerbOf
with_last line verb = record { first = verb.first; rest = verb.rest ++ line ∷ [] }

-- a verb as `Extend` makes it before its lines come
abbrev pub extended : LinePlace → VerbOf → VerbOf
extended LinePlace.First verb = begun_first verb
extended LinePlace.Last verb = verb
extended LinePlace.Replace verb = no_lines

-- a verb with a further line of its `Extend`
abbrev pub with_line : LinePlace → LineOf → VerbOf → VerbOf
with_line LinePlace.First line verb = with_first line verb
with_line LinePlace.Last line verb = with_last line verb
with_line LinePlace.Replace line verb = with_last line verb

-- all verbs by number
pub record AllVerbs : Type 0 where
  pub list : List VerbOf

abbrev pub verb_at : ℕ → AllVerbs → VerbOf
verb_at number verbs = slice_index_or verbs.list number no_lines

abbrev pub with_verb : AllVerbs → AllVerbs
with_verb verbs = record verbs { list = verbs.list ++ no_lines ∷ [] }

abbrev pub with_extended : ℕ → LinePlace → AllVerbs → AllVerbs
with_extended number how verbs = record verbs { list = slice_set verbs.list number (extended how (verb_at number verbs)) }

abbrev pub with_line_of : ℕ → LinePlace → LineOf → AllVerbs → AllVerbs
with_line_of number how line verbs = record verbs { list = slice_set verbs.list number (with_line how line (verb_at number verbs)) }

-- the number of bytes: of a verb's lines with their count, of a verb with the address of its lines, and of all verbs
abbrev pub part_size : VerbOf → ℕ
part_size verb = 1 + lines_size (lines_of verb)

abbrev pub verb_size : VerbOf → ℕ
verb_size verb = 2 + part_size verb

abbrev pub verbs_size : List VerbOf → ℕ
verbs_size verbs = sum_of verb_size verbs

-- the number of values that are known later: the addresses of lines, and those of prepositions
abbrev pub verb_laters : VerbOf → ℕ
verb_laters verb = 1 + lines_prepositions (lines_of verb)

abbrev pub verbs_laters : List VerbOf → ℕ
verbs_laters verbs = sum_of verb_laters verbs

-- the reason why another verb cannot be added: there are 255, or as many as there may be, or the grammar would have more bytes than it may
abbrev pub add_fault : Limits → AllVerbs → Option VerbFault
add_fault limits verbs =
    if nat_le 255 (length verbs.list) then Some VerbFault.TooMany
    else if nat_le (limits Setting.Verbs) (length verbs.list) then Some VerbFault.Full
    else if nat_lt (limits Setting.GrammarLines) (verbs_size verbs.list + 3) then Some VerbFault.NoSpace
    else None

-- the reason why another line of `count` tokens cannot be added
abbrev pub line_fault_of : Limits → ℕ → AllVerbs → Option LineFault
line_fault_of limits count verbs =
    if nat_lt (limits Setting.GrammarLines) (verbs_size verbs.list + (3 + 3 * count)) then Some LineFault.NoSpace else None

-- Verbs as they are written: the address of each verb's lines, then for each verb the number of its lines, and these.
abbrev pub verb_cells : VerbOf → List Cell
verb_cells verb = (Cell.Byte (length (lines_of verb) % 256) ∷ []) ++ lines_cells (lines_of verb)

abbrev pub parts_cells : List VerbOf → List Cell
parts_cells [] = []
parts_cells (verb ∷ verbs) = verb_cells verb ++ parts_cells verbs

-- places for the addresses of the lines of the verbs before `number`
abbrev pub address_cells : ℕ → List Cell
address_cells zero = []
address_cells (suc number) = address_cells number ++ Cell.Later (Target.Part AreaName.Grammar number) ∷ []

abbrev pub grammar_cells : List VerbOf → List Cell
grammar_cells verbs = address_cells (length verbs) ++ parts_cells verbs

-- the places where the lines of each verb begin, where those of the first begin at `at`
abbrev pub places_from : ℕ → List VerbOf → List ℕ
places_from at [] = []
places_from at (verb ∷ verbs) = at ∷ places_from (at + part_size verb) verbs

abbrev pub places_of : List VerbOf → List ℕ
places_of verbs = places_from (2 * length verbs) verbs

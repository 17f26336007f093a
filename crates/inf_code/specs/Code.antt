-- The code of a story: finished routines, as bytes and numbers that are known later, and the open routine.
use Rattle.std.specs.Prelude.{◌≡◌, ℕ, ◌+◌, ◌-◌, ◌≤◌, ◌<◌, ◌^◌, Bool, true, false, not, ◌&&◌, nat_lt, if◌then◌else◌, List, [], ◌∷◌, ◌++◌}
use Rattle.std.specs.Prelude.{length, map, take, drop, Option, Some, None}
use Rattle.inf_area.specs.{Cells.bytes_of, Cells.fixups_of, Cells.later_count, Cells.size_of, Fixups.Fixups, Scales.gap}
use Rattle.inf_area.specs.{declared.cells.Cell.Cell as CodeCell, declared.fixups.AddFault.AddFault, declared.fixups.Fixup.Fixup}
use Rattle.inf_area.specs.{declared.scale.Scale.Scale, declared.targets.AreaName.AreaName, declared.targets.Target.Target}
use Rattle.inf_opcode.specs.{Opcodes.row_of, declared.cells.Special.Special, declared.instructions.Label.Label}
use Rattle.inf_opcode.specs.Cells.{Cell, Of, long_bytes, label_count, fixup_count}
use Rattle.inf_opcode.specs.Instructions.{Parts, instruction_cells}
use Rattle.inf_assembler.specs.{Places.missing, Places.twice_behind, declared.routines.CloseFault.CloseFault, declared.routines.Limit.Limit}
use Rattle.inf_assembler.specs.{declared.routines.Limits.Limits, declared.routines.RoutineKind.RoutineKind}
use Rattle.inf_assembler.specs.Routines.{State, Contents, IsOpen, contents_of, fresh, with_cells, body_bytes, closing, routine_fixups}
use Rattle.inf_assembler.specs.Routines.{is_full, long_places, missing_fault, twice_fault, body_fault}
use Rattle.inf_settings.specs.{Bounds.Limits as SettingLimits, declared.setting.Setting.Setting}
use Rattle.inf_code.specs.declared.code.CodeLimits.{CodeLimits}

-- bytes as cells
abbrev pub known : List ℕ → List CodeCell
known bytes = map CodeCell.Byte bytes

-- the zeros behind a routine of `size` bytes that fill it up to the next packed address (Z-Machine Standard 1.1, section 1.2.3)
abbrev pub zeros_behind : Scale → ℕ → List ℕ
zeros_behind scale size = take (gap scale size) (0 ∷ 0 ∷ 0 ∷ 0 ∷ 0 ∷ 0 ∷ 0 ∷ [])

abbrev pub padding : Scale → ℕ → List CodeCell
padding scale size = known (zeros_behind scale size)

-- cells with the zeros that fill them up to a packed address
abbrev pub padded : Scale → List CodeCell → List CodeCell
padded scale cells = cells ++ padding scale (size_of cells)

-- The first routine, which has no locals: it calls a routine whose packed address is zero until it is known, drops the
-- result, and quits; behind it come zeros up to a packed address of each version (sections 5.2, 14).
abbrev pub first_routine : List ℕ
first_routine = 0x00 ∷ 0x8F ∷ 0 ∷ 0 ∷ 0xBA ∷ 0 ∷ 0 ∷ 0 ∷ []

-- the first routine as cells, where `called` is the routine that it calls
abbrev pub first_cells : Target → List CodeCell
first_cells called = CodeCell.Byte 0x00 ∷ CodeCell.Byte 0x8F ∷ CodeCell.Later called ∷ CodeCell.Byte 0xBA ∷ CodeCell.Byte 0 ∷ CodeCell.Byte
    0 ∷ CodeCell.Byte 0 ∷ []

-- the place where the routine behind finished ones begins, in bytes from the front of the code: behind the first routine
-- and the finished ones
abbrev pub place_behind : List CodeCell → ℕ
place_behind finished = 8 + size_of finished

-- The cells of bytes with fixups, from a place on: the bytes before the first fixup, its reference, and the cells of the rest.
abbrev pub cells_from : ℕ → List Fixup → List ℕ → List CodeCell
cells_from place [] bytes = known bytes
cells_from place (fixup ∷ fixups) bytes = known (take (fixup.place - place) bytes)
    ++ CodeCell.Later fixup.target ∷ cells_from (fixup.place + 2) fixups (drop (fixup.place + 2 - place) bytes)

-- Tells whether fixups follow one another from a place on, each of two bytes, and end before `end`.
abbrev pub AreInOrder : ℕ → List Fixup → ℕ → Type 0
AreInOrder place [] end = place ≤ end
AreInOrder place (fixup ∷ fixups) end = (place ≤ fixup.place) × AreInOrder (fixup.place + 2) fixups end

-- Tells whether bytes with fixups, from a place on, are the bytes of cells.
pub record StandsFor (place : ℕ) (fixups : List Fixup) (bytes : List ℕ) (cells : List CodeCell) : Type 0 where
  pub in_order : AreInOrder place fixups (place + length bytes)
  pub are : cells_from place fixups bytes ≡ cells
  pub bytes_are : bytes_of cells ≡ bytes
  pub fixups_are : fixups_of AreaName.Code place cells ≡ fixups

-- the bytes of a routine whose items are `body`: its number of locals, these, and the return where control runs past the
-- last (Z-Machine Standard 1.1, section 5)
abbrev pub whole_bytes : RoutineKind → Contents → List ℕ → List ℕ
whole_bytes kind contents body = contents.locals ∷ body ++ closing kind contents

abbrev pub cells_with : ℕ → RoutineKind → Contents → Option (List ℕ) → List CodeCell
cells_with place kind contents None = []
cells_with place kind contents (Some body) = cells_from place (routine_fixups place contents) (whole_bytes kind contents body)

-- The routine as cells, with the bytes and the references that it has when it is closed; none where an offset does not fit.
abbrev pub routine_cells : ℕ → RoutineKind → Contents → List CodeCell
routine_cells place kind contents = cells_with place kind contents (body_bytes place contents)

-- An open routine: its contents so far, and whether it is lost. A lost routine gives no code, and only its labels and offsets are checked.
pub record Opened : Type 0 where
  pub contents : Contents
  pub is_lost : Bool

-- The routines of a story: the scale of packed addresses, whether its code has begun, the finished routines of its source, their number,
-- and the open routine, if any. Code begins with a first routine that the source does not have: it calls the source's Main.
pub record Routines : Type 0 where
  pub scale : Scale
  pub has_begun : Bool
  pub finished : List CodeCell
  pub routines : ℕ
  pub opened : Option Opened

-- whether a routine is open and lost
abbrev pub is_lost_in : Option Opened → Bool
is_lost_in None = false
is_lost_in (Some o) = o.is_lost

-- the limits of code, from those of the settings
abbrev pub code_limits : SettingLimits → CodeLimits
code_limits limits = record { labels = limits Setting.Labels; code = limits Setting.Code; refs = limits Setting.References }

abbrev pub no_routines : Scale → Routines
no_routines scale = record { scale = scale; has_begun = false; finished = []; routines = 0; opened = None }

-- The code with the first routine, which calls `called`.
abbrev pub code_cells : Target → List CodeCell → List CodeCell
code_cells called finished = first_cells called ++ finished

-- Tells whether there would be more fixups than there may be, with those of the code behind `refs`; and why they are not
-- listed: there are too many, or there is no memory.
abbrev pub are_too_many : Target → List CodeCell → Fixups → Bool
are_too_many called finished refs = nat_lt refs.limit (length refs.list + later_count (code_cells called finished))

abbrev pub unlisted : Bool → AddFault
unlisted full = if full then AddFault.Full else AddFault.Memory

-- a routine with an instruction more, and the open routine with one
abbrev pub with_instruction : Parts → Contents → Contents
with_instruction parts contents = with_cells (instruction_cells parts) (row_of parts.opcode).is_final contents

abbrev pub with_item : Parts → Option Opened → Option Opened
with_item parts None = None
with_item parts (Some o) = Some (record o { contents = with_instruction parts o.contents })

-- a routine with a label marked at its end, and the open routine with one
abbrev pub with_mark : Label → Contents → Contents
with_mark label contents = with_cells (Of (Special.Marks label) ∷ []) false contents

abbrev pub with_label : Label → Option Opened → Option Opened
with_label label None = None
with_label label (Some o) = Some (record o { contents = with_mark label o.contents })

-- the cells that the open routine becomes at a place, filled up to a packed address; none, where it is lost
abbrev pub closed_cells : Scale → RoutineKind → ℕ → Option Opened → List CodeCell
closed_cells scale kind place None = []
closed_cells scale kind place (Some o) = if o.is_lost then [] else padded scale (routine_cells place kind o.contents)

-- the number of routines that are finished by closing: one, unless the open one is lost
abbrev pub closed_count : Option Opened → ℕ
closed_count None = 0
closed_count (Some o) = if o.is_lost then 0 else 1

-- the routines after the open one is closed
abbrev pub with_closed : RoutineKind → Routines → Routines
with_closed kind routines = record routines {
  finished = routines.finished ++ closed_cells routines.scale kind (place_behind routines.finished) routines.opened;
  routines = routines.routines + closed_count routines.opened;
  opened = None;
}

-- the routines after the open one is given up
abbrev pub with_none_open : Routines → Routines
with_none_open routines = record routines { opened = None }

-- an open routine, by the bytes of its area
abbrev pub open_in : List ℕ → Bool → Option State → Option Opened
open_in bytes is_lost None = None
open_in bytes is_lost (Some routine) = Some (record { contents = contents_of routine bytes; is_lost = is_lost })

-- the bytes of finished routines and of an open one behind them, with every branch long, and their references
abbrev pub bytes_with : List CodeCell → Contents → ℕ
bytes_with finished contents = place_behind finished + 1 + length (long_bytes contents.cells)

-- the references before those of the open routine: none where it is lost, since its references are counted alone
abbrev pub references_before : Bool → List CodeCell → ℕ
references_before is_lost finished = if is_lost then 0 else later_count finished

abbrev pub references_with : Bool → List CodeCell → Contents → ℕ
references_with is_lost finished contents = references_before is_lost finished + fixup_count contents.cells

-- The bound of an open routine, which is the numbers of the program alone: the limits of a source are checked where a unit is finished.
abbrev pub unlimited : ℕ
unlimited = 18446744073709551615

-- the most references of the source's routines: the first routine has one, and tables have four
abbrev pub most_references : ℕ
most_references = 18446744073709551610

-- the first limit that the beginning of code would pass
abbrev pub full_first : CodeLimits → Option Limit
full_first limits = if nat_lt limits.code 8 then Some Limit.Code else if nat_lt limits.refs 5 then Some Limit.Refs else None

-- the first limit that is passed where code begins; none where it has begun
abbrev pub full_unless : Bool → CodeLimits → Option Limit
full_unless has_begun limits = if has_begun then None else full_first limits

abbrev pub full_begun : SettingLimits → Routines → Option Limit
full_begun limits routines = full_unless routines.has_begun (code_limits limits)

-- The routines once code has begun, unless that would pass a limit.
abbrev pub begun_unless : Option Limit → Routines → Routines
begun_unless None routines = record routines { has_begun = true }
begun_unless (Some s) routines = routines

abbrev pub begun : SettingLimits → Routines → Routines
begun limits routines = begun_unless (full_begun limits routines) routines

-- the number of routines of a story so far, the first one counted where code has begun
abbrev pub routine_count : Routines → ℕ
routine_count routines = (if routines.has_begun then 1 else 0) + routines.routines

-- the number of bytes of code, and of references, of a story so far
abbrev pub code_count : Routines → ℕ
code_count routines = (if routines.has_begun then 8 else 0) + size_of routines.finished

abbrev pub reference_count : Routines → ℕ
reference_count routines = (if routines.has_begun then 5 else 4) + later_count routines.finished

-- the first limit that code would pass which begins with another routine; unless this is lost, it has a byte for the number of its locals
abbrev pub full_with_locals : Bool → CodeLimits → Option Limit
full_with_locals is_lost limits = if not is_lost && nat_lt limits.code 9 then Some Limit.Code else full_first limits

abbrev pub full_before : Bool → Bool → CodeLimits → Option Limit
full_before is_lost has_begun limits = if has_begun then None else full_with_locals is_lost limits

-- the first limit that another routine would pass at a place
abbrev pub full_behind_bytes : CodeLimits → Bool → Bool → ℕ → Option Limit
full_behind_bytes limits is_lost has_begun place =
    if nat_lt unlimited (place + 1) then Some Limit.Code else full_before is_lost has_begun limits

abbrev pub full_opened : SettingLimits → Bool → Routines → Option Limit
full_opened limits is_lost routines = full_behind_bytes (code_limits limits) is_lost routines.has_begun (place_behind routines.finished)

-- the routines where one with `locals` local variables is opened, which is lost or not
abbrev pub with_opened : ℕ → Bool → Routines → Routines
with_opened locals is_lost routines =
    record routines { has_begun = true; opened = Some (record { contents = fresh locals; is_lost = is_lost }) }

-- The first bound that more cells in the open routine would pass: that of its labels, branches and jumps, of all bytes, and of all
-- references.
abbrev pub full_cells : Bool → List CodeCell → List Cell → Contents → Option Limit
full_cells is_lost finished cells contents =
    if nat_lt unlimited (label_count contents.cells + label_count cells) then Some Limit.Labels else
    if nat_lt unlimited (bytes_with finished contents + length (long_bytes cells)) then Some Limit.Code else
    if nat_lt most_references (references_with is_lost finished contents + fixup_count cells) then Some Limit.Refs else None

abbrev pub full_behind : List CodeCell → List Cell → Option Opened → Option Limit
full_behind finished cells None = None
full_behind finished cells (Some o) = full_cells o.is_lost finished cells o.contents

abbrev pub full_with : Parts → Routines → Option Limit
full_with parts routines = full_behind routines.finished (instruction_cells parts) routines.opened

-- the bound that one more label would pass
abbrev pub full_marked : Option Opened → Option Limit
full_marked None = None
full_marked (Some o) = if nat_lt unlimited (label_count o.contents.cells + 1) then Some Limit.Labels else None

abbrev pub full_label : Routines → Option Limit
full_label routines = full_marked routines.opened

-- Number of labels, branches and jumps of the open routine.
abbrev pub labels_of : Option Opened → ℕ
labels_of None = 0
labels_of (Some o) = label_count o.contents.cells

abbrev pub labels : Routines → ℕ
labels routines = labels_of routines.opened

-- The room left of a limit, where `used` of it is used; none where that is more than the limit.
abbrev pub rest : ℕ → ℕ → Option ℕ
rest limit used = if nat_lt limit used then None else Some (limit - used)

abbrev pub rest_behind : Option ℕ → ℕ → Option ℕ
rest_behind None used = None
rest_behind (Some left) used = rest left used

abbrev pub labels_left : SettingLimits → Routines → Option ℕ
labels_left limits routines = rest (limits Setting.Labels) (labels routines)

-- The number of bytes of code so far, with those of the open routine, every branch long. A lost routine has none.
abbrev pub code_with : ℕ → List CodeCell → Option Opened → ℕ
code_with count finished None = count
code_with count finished (Some o) = if o.is_lost then count else bytes_with finished o.contents

abbrev pub bytes_of_code : Routines → ℕ
bytes_of_code routines = code_with (code_count routines) routines.finished routines.opened

-- the number of bytes of code that there may still be
abbrev pub code_left : SettingLimits → Routines → Option ℕ
code_left limits routines = rest (limits Setting.Code) (bytes_of_code routines)

-- The number of references of the open routine. A lost routine has none.
abbrev pub references_open : Option Opened → ℕ
references_open None = 0
references_open (Some o) = if o.is_lost then 0 else fixup_count o.contents.cells

abbrev pub references_left : SettingLimits → Routines → Option ℕ
references_left limits routines =
    rest_behind (rest (limits Setting.References) (reference_count routines)) (references_open routines.opened)

-- The fault of a routine behind `start` bytes and `references` references: a label that is missing or placed twice, an offset that does not
-- fit, or the first bound that is passed, by its bytes with the return at its end or by all references.
abbrev pub limit_fault : ℕ → Contents → ℕ → Option CloseFault
limit_fault references contents len = if is_full contents.is_final unlimited len then Some (CloseFault.Full Limit.Code) else
    if nat_lt most_references (references + fixup_count contents.cells) then Some (CloseFault.Full Limit.Refs) else None

abbrev pub fault_behind : ℕ → ℕ → Contents → Option CloseFault
fault_behind start references contents = missing_fault
    (twice_fault (body_fault (λ body. limit_fault references contents (start + 1 + length body)) (body_bytes start contents))
    (twice_behind [] contents.cells)) (missing (long_places start contents) contents.cells)

-- The setting that finished routines would pass, by their bytes with the first one, and by all references that the story then has.
abbrev pub full_finished : CodeLimits → ℕ → ℕ → Option Limit
full_finished limits bytes references = if nat_lt limits.code bytes then Some Limit.Code else
    if nat_lt limits.refs references then Some Limit.Refs else None

-- the fault of a routine behind which finished routines would pass a setting; a lost one is none of them
abbrev pub fault_of_full : Option Limit → Option CloseFault
fault_of_full None = None
fault_of_full (Some limit) = Some (CloseFault.Full limit)

abbrev pub finished_fault : Bool → CodeLimits → List CodeCell → Option CloseFault
finished_fault is_lost limits finished =
    if is_lost then None else fault_of_full (full_finished limits (place_behind finished) (5 + later_count finished))

abbrev pub first_fault : Option CloseFault → Option CloseFault → Option CloseFault
first_fault None later = later
first_fault (Some fault) later = Some fault

abbrev pub fault_end : CodeLimits → Scale → RoutineKind → List CodeCell → Option Opened → Option CloseFault
fault_end limits scale kind finished None = None
fault_end limits scale kind finished (Some o) =
    first_fault (fault_behind (place_behind finished) (references_before o.is_lost finished) o.contents)
    (finished_fault o.is_lost limits (finished ++ padded scale (routine_cells (place_behind finished) kind o.contents)))

abbrev pub fault_closed : SettingLimits → RoutineKind → Routines → Option CloseFault
fault_closed limits kind routines = fault_end (code_limits limits) routines.scale kind routines.finished routines.opened

-- the bounds of each routine
abbrev pub routine_bounds : Limits
routine_bounds = record { labels = unlimited; code = unlimited }

-- Tells whether an open routine begins at `place` and goes up to the end of the area.
pub record StandsBehind (place : ℕ) (bytes : List ℕ) (routine : State) : Type 0 where
  pub start : routine.start ≡ place
  pub open_still : IsOpen routine bytes
  pub limits : routine.limits ≡ routine_bounds

abbrev pub IsBehind : ℕ → List ℕ → Option State → Type 0
IsBehind place bytes None = Unit {0}
IsBehind place bytes (Some routine) = StandsBehind place bytes routine

-- the bytes of the finished routines of the source, without the first routine, where `finished` bytes precede the open one
abbrev pub source_bytes : ℕ → List ℕ → List ℕ
source_bytes finished bytes = drop 8 (take finished bytes)

abbrev pub source_cells : ℕ → Fixups → List ℕ → List CodeCell
source_cells finished refs bytes = cells_from 8 refs.list (source_bytes finished bytes)

-- The invariant of code: `finished` bytes of finished routines, with the first one, fixups in them, and an open routine.
pub record IsCode (limits : CodeLimits) (finished : ℕ) (refs : Fixups) (bytes : List ℕ) (routine : Option State) : Type 0 where
  pub within : finished ≤ length bytes
  pub front : take 8 (take finished bytes) ≡ first_routine
  pub stands : StandsFor 8 refs.list (source_bytes finished bytes) (source_cells finished refs bytes)
  pub limit : refs.limit ≡ most_references
  pub few : finished - 8 ≤ limits.code - 8
  pub behind : IsBehind finished bytes routine

-- Tells whether a list of fixups is empty, with room for the most references.
abbrev pub IsSpare : Fixups → Type 0
IsSpare refs = refs ≡ record { list = []; limit = most_references }

-- Tells whether code that has begun has room for its beginning, and `listed` references of finished routines are at most as many as
-- there may be beside those that each story has; limits are numbers of the program.
abbrev pub HasRoom : Bool → CodeLimits → ℕ → Type 0
HasRoom has_begun limits listed =
    (limits.code < 2 ^ 64) × ((has_begun ≡ true → (8 ≤ limits.code) × (5 ≤ limits.refs)) × (listed ≤ limits.refs - 5))

-- Open routines, and the effect of each call on them (Z-Machine Standard 1.1, section 5).
use Rattle.std.specs.Prelude.{◌≡◌, ℕ, ◌+◌, Bool, true, false, nat_lt, List, [], ◌∷◌, ◌++◌, length, take, drop, slice_index, Option, Some}
use Rattle.std.specs.Prelude.{None, if◌then◌else◌}
use Rattle.inf_area.specs.{Fixups.Fixups, Fixups.with_fixups, declared.fixups.Fixup.Fixup}
use Rattle.inf_opcode.specs.{declared.cells.Kept.Kept, declared.instructions.Label.Label}
use Rattle.inf_opcode.specs.Cells.{Cell, long_bytes, label_count, fixup_count, kept_from, cells_of}
use Rattle.inf_assembler.specs.declared.{routines.CloseFault.CloseFault, routines.Closed.Closed, routines.GrowFault.GrowFault}
use Rattle.inf_assembler.specs.declared.{routines.Limit.Limit, routines.Limits.Limits, routines.RoutineKind.RoutineKind}
use Rattle.inf_assembler.specs.Places.{Places, long_place, place_from, closed_bytes, closed_fixups, missing, twice_behind}

-- The state of an open routine: its start, the entries that it keeps of its bytes, its number of labels, branches and
-- jumps, that of references, whether control never runs past its last item, and the limits.
pub record State : Type 0 where
  pub start : ℕ
  pub kept : List Kept
  pub labels : ℕ
  pub fixups : ℕ
  pub is_final : Bool
  pub limits : Limits

-- the items of a routine: its number of locals, their cells, and whether control never runs past the last
pub record Contents : Type 0 where
  pub locals : ℕ
  pub cells : List Cell
  pub is_final : Bool

-- the items of an open routine, by its state and the bytes of its area
abbrev pub contents_of : State → List ℕ → Contents
contents_of state bytes = record {
  locals = slice_index bytes state.start;
  cells = cells_of (state.start + 1) state.kept (drop (state.start + 1) bytes);
  is_final = state.is_final;
}

-- Tells whether an open routine has items `contents`, and its bytes follow `front`.
pub record Stands (state : State) (area front : List ℕ) (contents : Contents) : Type 0 where
  pub start : state.start ≡ length front
  pub bytes : area ≡ front ++ contents.locals ∷ long_bytes contents.cells
  pub kept : state.kept ≡ kept_from (length front + 1) contents.cells
  pub labels : state.labels ≡ label_count contents.cells
  pub fixups : state.fixups ≡ fixup_count contents.cells
  pub is_final : state.is_final ≡ contents.is_final

-- Tells whether the bytes of the area end with those of the routine, every branch long and numbers that are known later
-- zero, and the routine keeps the entries of these bytes.
abbrev pub IsOpen : State → List ℕ → Type 0
IsOpen state bytes = Stands state bytes (take state.start bytes) (contents_of state bytes)

-- Tells whether an open routine has items `contents` after a call, with unchanged limits and bytes before it.
pub record Holds (contents : Contents) (old : State) (old_bytes : List ℕ) (new : State) (new_bytes : List ℕ) : Type 0 where
  pub is : contents_of new new_bytes ≡ contents
  pub open_still : IsOpen new new_bytes
  pub start : new.start ≡ old.start
  pub front : take old.start new_bytes ≡ take old.start old_bytes
  pub limits : new.limits ≡ old.limits

-- a routine that has only its number of locals
abbrev pub fresh : ℕ → Contents
fresh locals = record { locals = locals; cells = []; is_final = false }

-- a routine with more items
abbrev pub with_cells : List Cell → Bool → Contents → Contents
with_cells cells is_final contents = record contents { cells = contents.cells ++ cells; is_final = is_final }

-- the first limit that more labels, bytes and references would pass
abbrev pub full_by : ℕ → ℕ → ℕ → State → ℕ → Fixups → Option Limit
full_by labels bytes fixups state len refs = if nat_lt state.limits.labels (state.labels + labels) then Some Limit.Labels else
    if nat_lt state.limits.code (len + bytes) then Some Limit.Code else
    if nat_lt refs.limit (length refs.list + state.fixups + fixups) then Some Limit.Refs else None

-- the first limit that more cells would pass
abbrev pub full_with : List Cell → State → List ℕ → Fixups → Option Limit
full_with cells state bytes refs = full_by (label_count cells) (length (long_bytes cells)) (fixup_count cells) state (length bytes) refs

-- the fault where they are refused: a limit, or want of memory
abbrev pub refusal : Option Limit → GrowFault
refusal None = GrowFault.Memory
refusal (Some setting) = GrowFault.Full setting

-- a moment of an open routine: its numbers of bytes, entries, labels and references, and whether control never ran past its last item
pub record Moment : Type 0 where
  pub len : ℕ
  pub kept : ℕ
  pub labels : ℕ
  pub fixups : ℕ
  pub is_final : Bool

abbrev pub moment_of : Contents → Moment
moment_of contents = record {
  len = 1 + length (long_bytes contents.cells);
  kept = length (kept_from 0 contents.cells);
  labels = label_count contents.cells;
  fixups = fixup_count contents.cells;
  is_final = contents.is_final;
}

-- Tells whether the first items of a routine were all items at a moment.
pub record Were (earlier : Contents) (at : Moment) (now : Contents) : Type 0 where
  pub added : List Cell
  pub locals : now.locals ≡ earlier.locals
  pub cells : now.cells ≡ earlier.cells ++ added
  pub moment : at ≡ moment_of earlier

-- the long places and the places of the labels of a routine, by its place
abbrev pub long_places : ℕ → Contents → Places
long_places start contents = long_place (start + 1) contents.cells

abbrev pub places : ℕ → Contents → Places
places start contents = place_from (long_places start contents) (start + 1) (start + 1) contents.cells

-- the instruction that returns where control runs past the last item
abbrev pub closing_byte : RoutineKind → ℕ
closing_byte RoutineKind.Plain = 176
closing_byte RoutineKind.Embedded = 177

abbrev pub closing_bytes : RoutineKind → Bool → List ℕ
closing_bytes kind true = []
closing_bytes kind false = closing_byte kind ∷ []

abbrev pub closing : RoutineKind → Contents → List ℕ
closing kind contents = closing_bytes kind contents.is_final

-- the bytes of a closed routine without the return at its end; none where an offset does not fit
abbrev pub body_bytes : ℕ → Contents → Option (List ℕ)
body_bytes start contents = closed_bytes (long_places start contents) (places start contents) (start + 1) (start + 1) contents.cells

-- the references of a routine
abbrev pub routine_fixups : ℕ → Contents → List Fixup
routine_fixups start contents = closed_fixups (long_places start contents) (start + 1) (start + 1) contents.cells

-- the fault of a routine that begins at `start`: first that of its labels, then of its offsets, then of limits
abbrev pub is_full : Bool → ℕ → ℕ → Bool
is_full true limit len = false
is_full false limit len = nat_lt limit (len + 1)

abbrev pub end_fault : Bool → Limits → ℕ → Fixups → ℕ → Option CloseFault
end_fault is_final limits len refs fixups = if is_full is_final limits.code len then Some (CloseFault.Full Limit.Code) else
    if nat_lt refs.limit (length refs.list + fixups) then Some (CloseFault.Full Limit.Refs) else None

abbrev pub full_fault : ℕ → RoutineKind → Contents → Limits → Fixups → List ℕ → Option CloseFault
full_fault start kind contents limits refs body =
    end_fault contents.is_final limits (start + 1 + length body) refs (fixup_count contents.cells)

abbrev pub body_fault : (List ℕ → Option CloseFault) → Option (List ℕ) → Option CloseFault
body_fault next None = Some CloseFault.TooFar
body_fault next (Some body) = next body

abbrev pub twice_fault : Option CloseFault → Option Label → Option CloseFault
twice_fault next None = next
twice_fault next (Some label) = Some (CloseFault.LabelTwice label)

abbrev pub missing_fault : Option CloseFault → Option Label → Option CloseFault
missing_fault next None = next
missing_fault next (Some label) = Some (CloseFault.LabelMissing label)

abbrev pub fault_of : ℕ → RoutineKind → Contents → Limits → Fixups → Option CloseFault
fault_of start kind contents limits refs = missing_fault
    (twice_fault (body_fault (full_fault start kind contents limits refs) (body_bytes start contents)) (twice_behind [] contents.cells))
    (missing (long_places start contents) contents.cells)

-- the area and the references once a routine is closed
pub record Finished (kind : RoutineKind) (place : ℕ) (contents : Contents) (old_bytes : List ℕ) (old_refs : Fixups) (new_bytes : List ℕ)
    (new_refs : Fixups) : Type 0 where
  pub body : List ℕ
  pub is : body_bytes place contents ≡ Some body
  pub bytes : new_bytes ≡ take place old_bytes ++ contents.locals ∷ body ++ closing kind contents
  pub fixups : new_refs ≡ with_fixups (old_refs.list ++ routine_fixups place contents) old_refs

-- the result of closing a routine
pub record Closes (kind : RoutineKind) (place : ℕ) (contents : Contents) (old_bytes : List ℕ) (old_refs : Fixups) (closed : Closed)
    (new_bytes : List ℕ) (new_refs : Fixups) : Type 0 where
  pub body : List ℕ
  pub is : body_bytes place contents ≡ Some body
  pub bytes : new_bytes ≡ take place old_bytes ++ contents.locals ∷ body ++ closing kind contents
  pub fixups : new_refs ≡ with_fixups (old_refs.list ++ routine_fixups place contents) old_refs
  pub start : closed.start ≡ place
  pub len : closed.len ≡ 1 + length body + length (closing kind contents)
  pub refs : closed.refs ≡ length (routine_fixups place contents)

-- The places of cells in a closed routine: short branches, offsets and bytes.
use Rattle.std.specs.Prelude.{ℕ, ◌+◌, ◌-◌, ◌*◌, ◌/◌, ◌%◌, Bool, true, false, nat_lt, nat_le, ◌==◌, ◌&&◌, List, [], ◌∷◌, ◌++◌, Option, Some}
use Rattle.std.specs.Prelude.{None, is_some, if◌then◌else◌}
use Rattle.inf_area.specs.{Words.word, declared.fixups.Fixup.Fixup, declared.targets.AreaName.AreaName}
use Rattle.inf_opcode.specs.declared.{cells.Special.Special, instructions.Destination.Destination, instructions.Label.Label}
use Rattle.inf_opcode.specs.Cells.{Cell, Plain, Of, special_size, sense_bit}

-- whether a special cell marks a label
abbrev pub marks : ℕ → Special → Bool
marks number (Special.Marks label) = label.number == number
marks number (Special.Branches branch) = false
marks number (Special.Jumps label) = false
marks number (Special.Refers target) = false

-- the places of labels, by their numbers
abbrev pub Places : Type 0
Places = ℕ → Option ℕ

-- The long place of a label, in cells from a place on: the sum of the long sizes before its first mark.
abbrev pub long_place : ℕ → List Cell → Places
long_place place [] number = None
long_place place ((Plain byte) ∷ cells) number = long_place (place + 1) cells number
long_place place ((Of what) ∷ cells) number = if marks number what then Some place else long_place (place + special_size what) cells number

-- A branch is short where its offset is 2 to 63 with every branch long (section 4.7.3): the distance from its first byte to its label.
abbrev pub is_near : ℕ → Option ℕ → Bool
is_near place None = false
is_near place (Some target) = nat_le (place + 2) target && nat_le target (place + 63)

abbrev pub is_short_to : Places → ℕ → Destination → Bool
is_short_to long place (Destination.To label) = is_near place (long label.number)
is_short_to long place Destination.ReturnFalse = false
is_short_to long place Destination.ReturnTrue = false

-- the size in bytes of a special cell at a long place
abbrev pub size_at : Places → ℕ → Special → ℕ
size_at long place (Special.Marks label) = 0
size_at long place (Special.Branches branch) = if is_short_to long place branch.target then 1 else 2
size_at long place (Special.Jumps label) = 2
size_at long place (Special.Refers target) = 2

-- The place of a label, in cells from the place `new` on, which is `old` with all branches long: the sum of the sizes
-- before its first mark.
abbrev pub place_from : Places → ℕ → ℕ → List Cell → Places
place_from long old new [] number = None
place_from long old new ((Plain byte) ∷ cells) number = place_from long (old + 1) (new + 1) cells number
place_from long old new ((Of what) ∷ cells) number =
    if marks number what then Some new
    else place_from long (old + special_size what) (new + size_at long old what) cells number

-- An offset to a place, from behind the branch or jump, as a number of twice `half` values: 2 leads to the byte at `end`
-- (sections 4.7.2 and 15, jump). None where it does not fit.
abbrev pub offset_to : ℕ → ℕ → Option ℕ → Option ℕ
offset_to half end None = None
offset_to half end (Some target) =
    if nat_le end (target + 2 + half) && nat_lt (target + 2) (end + half)
    then Some ((target + 2 + 2 * half - end) % (2 * half)) else None

-- the offset of a branch whose last byte is before `end`; those of 0 and 1 return
abbrev pub branch_offset : Places → ℕ → Destination → Option ℕ
branch_offset places end (Destination.To label) = offset_to 8192 end (places label.number)
branch_offset places end Destination.ReturnFalse = Some 0
branch_offset places end Destination.ReturnTrue = Some 1

-- the bytes of a branch: one, whose bit 6 is set, or two (section 4.7)
abbrev pub branch_bytes : Bool → Bool → ℕ → List ℕ
branch_bytes true sense offset = (sense_bit sense + 64 + offset % 64) ∷ []
branch_bytes false sense offset = (sense_bit sense + offset / 256) ∷ (offset % 256) ∷ []

-- a function of a value that may be none
abbrev pub with_some : {A B : Type 0} → (A → B) → Option A → Option B
with_some f None = None
with_some f (Some x) = Some (f x)

-- the bytes of a special cell at a place, by its long place; none where an offset does not fit
abbrev pub closed_special : Places → Places → ℕ → ℕ → Special → Option (List ℕ)
closed_special long places old new (Special.Marks label) = Some []
closed_special long places old new (Special.Branches branch) =
    let short = is_short_to long old branch.target in
    with_some (branch_bytes short branch.sense) (branch_offset places (new + (if short then 1 else 2)) branch.target)
closed_special long places old new (Special.Jumps label) = with_some word (offset_to 32768 (new + 2) (places label.number))
closed_special long places old new (Special.Refers target) = Some (0 ∷ 0 ∷ [])

-- bytes followed by bytes, each of which may be none
abbrev pub joined : Option (List ℕ) → Option (List ℕ) → Option (List ℕ)
joined None others = None
joined (Some bytes) others = with_some (λ rest. bytes ++ rest) others

-- the bytes of the cells of a whole routine
abbrev pub closed_bytes : Places → Places → ℕ → ℕ → List Cell → Option (List ℕ)
closed_bytes long places old new [] = Some []
closed_bytes long places old new ((Plain byte) ∷ cells) =
    with_some (λ rest. byte ∷ rest) (closed_bytes long places (old + 1) (new + 1) cells)
closed_bytes long places old new ((Of what) ∷ cells) = joined (closed_special long places old new what)
    (closed_bytes long places (old + special_size what) (new + size_at long old what) cells)

-- the reference of a special cell, with its place
abbrev pub fixup_at : ℕ → Special → List Fixup
fixup_at place (Special.Marks label) = []
fixup_at place (Special.Branches branch) = []
fixup_at place (Special.Jumps label) = []
fixup_at place (Special.Refers target) = record { area = AreaName.Code; place = place; target = target } ∷ []

abbrev pub closed_fixups : Places → ℕ → ℕ → List Cell → List Fixup
closed_fixups long old new [] = []
closed_fixups long old new ((Plain byte) ∷ cells) = closed_fixups long (old + 1) (new + 1) cells
closed_fixups long old new ((Of what) ∷ cells) =
    fixup_at new what ++ closed_fixups long (old + special_size what) (new + size_at long old what) cells

-- the label that a branch goes to
abbrev pub label_of : Destination → Option Label
label_of (Destination.To label) = Some label
label_of Destination.ReturnFalse = None
label_of Destination.ReturnTrue = None

abbrev pub used_by : Special → Option Label
used_by (Special.Marks label) = None
used_by (Special.Branches branch) = label_of branch.target
used_by (Special.Jumps label) = Some label
used_by (Special.Refers target) = None

-- the first of two
abbrev pub first_of : {A : Type 0} → Option A → Option A → Option A
first_of (Some x) other = Some x
first_of None other = other

-- a label, where it has no place
abbrev pub unplaced : Places → Option Label → Option Label
unplaced places None = None
unplaced places (Some label) = if is_some (places label.number) then None else Some label

-- the first label by use that has no place
abbrev pub missing : Places → List Cell → Option Label
missing places [] = None
missing places ((Plain byte) ∷ cells) = missing places cells
missing places ((Of what) ∷ cells) = first_of (unplaced places (used_by what)) (missing places cells)

-- a label that a special cell marks, where cells before it mark it too
abbrev pub marked_again : List Cell → Special → Option Label
marked_again before (Special.Marks label) = if is_some (long_place 0 before label.number) then Some label else None
marked_again before (Special.Branches branch) = None
marked_again before (Special.Jumps label) = None
marked_again before (Special.Refers target) = None

-- the first label that is marked twice, by its second mark, behind the cells before
abbrev pub twice_behind : List Cell → List Cell → Option Label
twice_behind before [] = None
twice_behind before ((Plain byte) ∷ cells) = twice_behind before cells
twice_behind before ((Of what) ∷ cells) = first_of (marked_again before what) (twice_behind (before ++ Of what ∷ []) cells)

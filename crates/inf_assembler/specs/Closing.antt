-- The computations from the entries that a routine keeps, one after the other.
use Rattle.std.specs.Prelude.{ℕ, ◌+◌, ◌-◌, ◌≤◌, ◌==◌, List, [], ◌∷◌, ◌++◌, length, take, drop, slice_get, Option, Some, None, is_some}
use Rattle.std.specs.Prelude.{if◌then◌else◌}
use Rattle.inf_area.specs.declared.fixups.Fixup.{Fixup}
use Rattle.inf_opcode.specs.{Cells.special_size, declared.cells.Kept.Kept, declared.cells.Special.Special}
use Rattle.inf_opcode.specs.{declared.instructions.Label.Label}
use Rattle.inf_assembler.specs.Places.{Places, marks, is_short_to, closed_special, used_by, unplaced, first_of, fixup_at}

-- the place of a label in a table
abbrev pub entry_of : Option (Option ℕ) → Option ℕ
entry_of None = None
entry_of (Some place) = place

abbrev pub found : List (Option ℕ) → Places
found places number = entry_of (slice_get places number)

-- the place of one label alone
abbrev pub only : ℕ → ℕ → Places
only label place number = if label == number then Some place else None

-- the number of bytes that a special cell saves against its long size
abbrev pub special_saving : Places → ℕ → Special → ℕ
special_saving long place (Special.Marks label) = 0
special_saving long place (Special.Branches branch) = if is_short_to long place branch.target then 1 else 0
special_saving long place (Special.Jumps label) = 0
special_saving long place (Special.Refers target) = 0

abbrev pub saving : Places → Kept → ℕ
saving long entry = special_saving long entry.place entry.what

-- the place of a label, where `saved` bytes were saved before the entries
abbrev pub kept_place : Places → ℕ → List Kept → Places
kept_place long saved [] number = None
kept_place long saved (entry ∷ others) number =
    if marks number entry.what then Some (entry.place - saved) else kept_place long (saved + saving long entry) others number

-- the places of a routine of which no label has one
abbrev pub nowhere : Places
nowhere number = None

-- the first label by use that has no place
abbrev pub kept_missing : Places → List Kept → Option Label
kept_missing places [] = None
kept_missing places (entry ∷ others) = first_of (unplaced places (used_by entry.what)) (kept_missing places others)

-- the first label that is marked twice, by its second mark, behind the entries before
abbrev pub kept_again : List Kept → Special → Option Label
kept_again before (Special.Marks label) = if is_some (kept_place nowhere 0 before label.number) then Some label else None
kept_again before (Special.Branches branch) = None
kept_again before (Special.Jumps label) = None
kept_again before (Special.Refers target) = None

abbrev pub kept_twice : List Kept → List Kept → Option Label
kept_twice before [] = None
kept_twice before (entry ∷ others) = first_of (kept_again before entry.what) (kept_twice (before ++ entry ∷ []) others)

-- the references, where `saved` bytes were saved before the entries
abbrev pub kept_fixups : Places → ℕ → List Kept → List Fixup
kept_fixups long saved [] = []
kept_fixups long saved (entry ∷ others) = fixup_at (entry.place - saved) entry.what ++ kept_fixups long (saved + saving long entry) others

-- Bytes where `n` of them from the place `from` on are written to the place `to`, which lies before, and `added` behind them.
abbrev pub placed_bytes : ℕ → ℕ → ℕ → List ℕ → List ℕ → List ℕ
placed_bytes to from n added bytes = take to bytes ++ take n (drop from bytes) ++ added ++ drop (to + n + length added) bytes

-- the bytes of an area whose bytes from one place on are moved to another, with the kept entries among them written short
abbrev pub with_bytes : (List ℕ → Option (List ℕ)) → Option (List ℕ) → Option (List ℕ)
with_bytes next None = None
with_bytes next (Some bytes) = next bytes

abbrev pub squeezed : Places → Places → ℕ → ℕ → List Kept → List ℕ → Option (List ℕ)
squeezed long places from to [] bytes = Some (take to bytes ++ drop from bytes)
squeezed long places from to (entry ∷ others) bytes = with_bytes
    (λ added. squeezed long places (entry.place + special_size entry.what) (to + (entry.place - from) + length added) others
    (placed_bytes to from (entry.place - from) added bytes)) (closed_special long places entry.place (to + (entry.place - from)) entry.what)

-- Tells whether entries are in order from a place on, up to an end.
abbrev pub AreInOrder : ℕ → List Kept → ℕ → Type 0
AreInOrder from [] end = from ≤ end
AreInOrder from (entry ∷ others) end = (from ≤ entry.place) × AreInOrder (entry.place + special_size entry.what) others end

-- The limits that additions pass.
use Rattle.std.proofs.Common.{◌≡◌, ℕ, ◌+◌, List, length, ◌∙◌, ap, arith}
use Rattle.inf_area.specs.Fixups.{Fixups}
use Rattle.inf_opcode.specs.{Cells.fixup_count, Cells.label_count, Cells.long_bytes, Cells.plain, Counts.counts_of, Instructions.Parts}
use Rattle.inf_opcode.specs.{Instructions.front_cells, Instructions.instruction_cells, declared.writing.Counts.Counts}
use Rattle.inf_assembler.specs.Routines.{State, full_by, full_with}
use Rattle.inf_opcode.proofs.Growing.{long-plain}
use Rattle.inf_opcode.proofs.Counting.{length-long, labels-append, fixups-append, labels-plain, fixups-plain}

-- an instruction's counts, with its text
pub labels_is : (parts : Parts) (more : Counts) → more ≡ counts_of (front_cells parts) → more.labels ≡ label_count (instruction_cells parts)
labels_is parts more e =
    omega (arith, ap (λ (x : Counts). x.labels) e, labels-append (front_cells parts) (plain parts.text), labels-plain parts.text)

pub fixups_are : (parts : Parts) (more : Counts) → more ≡ counts_of (front_cells parts) →
    more.fixups ≡ fixup_count (instruction_cells parts)
fixups_are parts more e =
    omega (arith, ap (λ (x : Counts). x.fixups) e, fixups-append (front_cells parts) (plain parts.text), fixups-plain parts.text)

pub full_is : (parts : Parts) (state : State) (bytes : List ℕ) (refs : Fixups) (len text : ℕ) (more : Counts) →
    more ≡ counts_of (front_cells parts) → text ≡ length parts.text → len ≡ length bytes
    → full_by more.labels (more.bytes + text) more.fixups state len refs ≡ full_with (instruction_cells parts) state bytes refs
full_is parts state bytes refs len text more e f at =
    let size : more.bytes + text ≡ length (long_bytes (instruction_cells parts)) =
    omega (arith, ap (λ (x : Counts). x.bytes) e, f, length-long (front_cells parts) (plain parts.text), ap length (long-plain parts.text))
    in
    ap (λ k. full_by k (more.bytes + text) more.fixups state len refs) (labels_is parts more e)
    ∙ ap (λ k. full_by (label_count (instruction_cells parts)) k more.fixups state len refs) size
    ∙ ap (λ k. full_by (label_count (instruction_cells parts)) (length (long_bytes (instruction_cells parts))) k state len refs)
    (fixups_are parts more e) ∙ ap (λ k. full_by (label_count (instruction_cells parts)) (length (long_bytes (instruction_cells parts)))
    (fixup_count (instruction_cells parts)) state k refs) at

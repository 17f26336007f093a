-- Counts of the bytes, labels and references that cells take.
use Rattle.std.specs.Prelude.{List, length}
use Rattle.inf_opcode.specs.{Cells.Cell, Cells.fixup_count, Cells.label_count, Cells.long_bytes, declared.writing.Counts.Counts}

abbrev pub counts_of : List Cell → Counts
counts_of cells = record { bytes = length (long_bytes cells); labels = label_count cells; fixups = fixup_count cells }

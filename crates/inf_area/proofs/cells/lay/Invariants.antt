use Rattle.std.proofs.Common.{◌≡◌, ◌++◌, drop, ◌+◌, length}
use Rattle.inf_area.specs.Cells.{bytes_of, fixups_of}
use Rattle.inf_area.proofs.cells.lay.Given as goal

abbrev pub invariant-loop-cell : goal.invariant-loop-cell
invariant-loop-cell l = (l.laid.bytes.items ++ bytes_of (drop l.cell-index l.cells) ≡ bytes_of l.cells)
    × (l.laid.fixups.items ++ fixups_of l.area (l.from + length l.laid.bytes.items) (drop l.cell-index l.cells) ≡ fixups_of l.area l.from
    l.cells)

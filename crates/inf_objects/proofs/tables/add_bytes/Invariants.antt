use Rattle.std.proofs.Common.{◌≡◌, ◌++◌, drop}
use Rattle.inf_objects.specs.Tables.{byte_cells}
use Rattle.inf_objects.proofs.tables.add_bytes.Given as goal

abbrev pub invariant-loop-byte : goal.invariant-loop-byte
invariant-loop-byte l = l.cells ++ byte_cells (drop l.byte-index l.bytes) ≡ l.initial.cells ++ byte_cells l.bytes

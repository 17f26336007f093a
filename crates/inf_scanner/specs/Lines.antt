-- Lines and their ends.
use Rattle.std.specs.Prelude.{ℕ, ◌+◌, ◌==◌, ◌&&◌, ◌||◌, not, false, if◌then◌else◌}
use Rattle.inf_scanner.specs.declared.lines.Lines.{Lines}

-- A line ends with CR, LF or CR LF, at its first byte.
abbrev pub past : ℕ → Lines → Lines
past b lines = record {
  line = if b == 13 || (b == 10 && not lines.after_return) then lines.line + 1 else lines.line;
  after_return = b == 13;
}

abbrev pub first_line : Lines
first_line = record { line = 1; after_return = false }

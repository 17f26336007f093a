-- Writing while a routine is open.
use Rattle.std.specs.Prelude.{◌≡◌, ℕ, List, ◌++◌, length}
use Rattle.inf_opcode.specs.{Cells.Cell, Cells.kept_from, Cells.long_bytes, declared.cells.Kept.Kept}

-- Cells were written behind bytes, and their special parts were kept behind those kept before.
pub record Grew (old_bytes : List ℕ) (old_kept : List Kept) (cells : List Cell) (new_bytes : List ℕ) (new_kept : List Kept) : Type 0 where
  pub bytes : new_bytes ≡ old_bytes ++ long_bytes cells
  pub kept : new_kept ≡ old_kept ++ kept_from (length old_bytes) cells

-- Some bytes were written behind those before, and some parts were kept behind those kept before.
pub record Longer (old_bytes : List ℕ) (old_kept : List Kept) (new_bytes : List ℕ) (new_kept : List Kept) : Type 0 where
  pub added : List ℕ
  pub added_kept : List Kept
  pub bytes : new_bytes ≡ old_bytes ++ added
  pub kept : new_kept ≡ old_kept ++ added_kept

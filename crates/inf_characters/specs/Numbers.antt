-- Numbers up to a limit, and the bounds of a piece. Only the crate's private clauses cite them.
use Rattle.std.specs.Prelude.{ℕ, ◌≤◌, List, length, min}
use Rattle.inf_characters.specs.{Items.IsItem, declared.reading.Piece.Piece}

-- a count of digits and their number, or the limit where that is less
abbrev pub capped : ℕ × ℕ → ℕ × ℕ
capped found = (found.0, min found.1 65536)

-- a piece has no more than the bytes, and its item is one
abbrev pub IsPieceOf : List ℕ → Piece → Type 0
IsPieceOf bytes piece = (piece.behind ≤ length bytes) × IsItem piece.item

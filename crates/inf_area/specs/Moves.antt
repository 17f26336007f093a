-- Bytes that move to the front.
use Rattle.std.specs.Prelude.{ℕ, ◌+◌, List, ◌++◌, take, drop}

-- bytes of which the `n` from place `from` on are written over those from place `to` on, which comes before
abbrev pub moved : ℕ → ℕ → ℕ → List ℕ → List ℕ
moved to from n bytes = take to bytes ++ take n (drop from bytes) ++ drop (to + n) bytes

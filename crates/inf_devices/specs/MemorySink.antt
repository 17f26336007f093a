-- A sink in memory.
use Rattle.std.specs.Prelude.{ℕ, List}

-- the bytes that it took, and how often it failed
pub record Written : Type 0 where
  pub bytes : List ℕ
  pub failures : ℕ

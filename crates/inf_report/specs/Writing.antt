-- The outcome of writing some bytes to a sink.
use Rattle.std.specs.Prelude.{◌≡◌, ℕ, ◌<◌, ◌≤◌, List, ◌++◌, length, Option, Result, Ok, Err}
use Rattle.inf_devices.specs.{Files.Rose, Sinks.Takes}
use Rattle.inf_report.specs.declared.pieces.ReportFault.{ReportFault}

-- A sink took only the front of some bytes.
pub record TakesPart (old new : Option (List ℕ)) (bytes : List ℕ) : Type 0 where
  pub front : List ℕ
  pub rest : List ℕ
  pub is_cut : bytes ≡ front ++ rest
  pub is_short : 0 < length rest
  pub takes : Takes old new front

-- The bytes taken and the count of failures, before and after a write, by its result: all bytes were taken and no failure was counted, or
-- the sink failed and took a part.
abbrev pub Writes : Option (List ℕ) → Option (List ℕ) → ℕ → ℕ → List ℕ → Result Unit ReportFault → Type 0
Writes old new before after bytes (Ok _) = Takes old new bytes × (after ≡ before)
Writes old new before after bytes (Err _) = TakesPart old new bytes × (before ≤ after) × Rose before after

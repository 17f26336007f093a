use Rattle.std.proofs.Common.{◌≡◌, drop}
use Rattle.inf_assembler.specs.Closing.{found, kept_missing}
use Rattle.inf_assembler.proofs.closing.first_missing.Given as goal

-- the first missing label is found in the entries that are left
abbrev pub invariant-loop-entry : goal.invariant-loop-entry
invariant-loop-entry l = kept_missing (found l.places) (drop l.entry-index l.kept) ≡ kept_missing (found l.places) l.kept

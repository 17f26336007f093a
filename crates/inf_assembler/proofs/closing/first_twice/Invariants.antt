use Rattle.std.proofs.Common.{◌≡◌, ℕ, [], take, drop}
use Rattle.inf_assembler.specs.Closing.{found, nowhere, kept_place, kept_twice}
use Rattle.inf_assembler.proofs.closing.first_twice.Given as goal

-- the marks so far are seen, and the first label that is marked twice is found in the entries that are left
abbrev pub invariant-loop-entry : goal.invariant-loop-entry
invariant-loop-entry l = record {
  seen : (n : ℕ) → found l.seen.items n ≡ kept_place nowhere 0 (take l.entry-index l.kept) n;
  left : kept_twice (take l.entry-index l.kept) (drop l.entry-index l.kept) ≡ kept_twice [] l.kept;
}

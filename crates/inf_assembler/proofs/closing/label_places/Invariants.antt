use Rattle.std.proofs.Common.{◌≡◌, ℕ, ◌≤◌, drop}
use Rattle.inf_assembler.specs.{Closing.found, Closing.kept_place, Places.first_of}
use Rattle.inf_assembler.proofs.closing.label_places.Given as goal

-- a label is found in all entries where it is found so far, or in those that are left
abbrev pub invariant-loop-entry : goal.invariant-loop-entry
invariant-loop-entry l = record {
  saved : l.saved ≤ l.entry-index;
  places : (n : ℕ) → first_of (found l.places.items n) (kept_place (found l.long) l.saved (drop l.entry-index l.kept) n) ≡ kept_place
      (found l.long) 0 l.kept n;
}

use Rattle.std.proofs.Common.{◌≡◌, ◌≤◌, List, ◌++◌, length, drop}
use Rattle.inf_area.specs.declared.fixups.Fixup.{Fixup}
use Rattle.inf_assembler.specs.Closing.{found, kept_fixups}
use Rattle.inf_assembler.proofs.closing.list_fixups.Given as goal

-- the fixups that are listed, with those of the entries that are left, are all
abbrev pub invariant-loop-entry : goal.invariant-loop-entry
invariant-loop-entry l = record {
  added : List Fixup;
  saved : l.saved ≤ l.entry-index;
  limit : l.refs.limit ≡ l.fn.refs.limit;
  room : length l.refs.list ≤ l.refs.limit;
  so_far : l.refs.list ≡ l.fn.refs.list ++ added;
  left : l.refs.list ++ kept_fixups (found l.long) l.saved (drop l.entry-index l.kept) ≡ l.fn.refs.list ++ kept_fixups (found l.long) 0
      l.kept;
}

use Rattle.std.proofs.Common.{◌≡◌, drop}
use Rattle.inf_unit.specs.Names.{with_all_undeclared}
use Rattle.inf_unit.proofs.names.tell_undeclared.Given as goal

-- what is told, and then of the names that are left, is what is told of all
abbrev pub invariant-loop-number : goal.invariant-loop-number
invariant-loop-number g l =
    with_all_undeclared l.files.names (drop l.number l.names.names) l.messages ≡ with_all_undeclared l.files.names l.names.names
    l.fn.messages

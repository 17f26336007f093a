use Rattle.std.proofs.Common.{◌≡◌, drop, map}
use Rattle.inf_names.specs.LocalList.{local}
use Rattle.inf_compilation.specs.{Actions.with_all_unused, Context.handed}
use Rattle.inf_compilation.proofs.routines.tell_unused.Given as goal

-- The warnings told so far, and then those of the locals that are left, are the warnings of all.
abbrev pub invariant-loop-local : goal.invariant-loop-local
invariant-loop-local l = with_all_unused (handed l.context) l.place (map local (drop l.local-index l.local-items)) l.report
    ≡ with_all_unused (handed l.context) l.place (map local l.local-items) l.fn.report

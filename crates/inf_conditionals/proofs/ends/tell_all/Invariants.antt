use Rattle.std.proofs.Common.{◌≡◌, drop}
use Rattle.inf_conditionals.specs.Ends.{with_all_lone}
use Rattle.inf_conditionals.proofs.ends.tell_all.Given as goal

-- reporting the conditionals that are left behind those so far is reporting all
abbrev pub invariant-loop-conditional : goal.invariant-loop-conditional
invariant-loop-conditional l =
    with_all_lone l.files.names (drop l.conditional-index l.unclosed) l.report ≡ with_all_lone l.files.names l.unclosed l.fn.report

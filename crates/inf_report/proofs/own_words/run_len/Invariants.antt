use Rattle.std.proofs.Common.{◌≡◌, ◌+◌, drop}
use Rattle.std.specs.List.{prefix_len}
use Rattle.inf_report.specs.OwnWords.{is_alike}
use Rattle.inf_report.proofs.own_words.run_len.Given as goal

-- the bytes so far are alike, and the bytes left have the further ones that are alike
abbrev pub invariant-loop-index : goal.invariant-loop-index
invariant-loop-index l =
    l.index + prefix_len (is_alike l.set l.is_space) (drop l.index l.bytes) ≡ prefix_len (is_alike l.set l.is_space) l.bytes

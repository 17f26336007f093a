use Rattle.std.proofs.Common.{◌≡◌, drop}
use Rattle.inf_compilation.specs.{Context.handed, Works.work}
use Rattle.inf_reader.specs.Acting.{acted}
use Rattle.inf_reader.proofs.acting.act_each.Given as goal

-- the actions that are left lead from here to where all lead
abbrev pub invariant-loop-action : goal.invariant-loop-action
invariant-loop-action g l =
    acted g.B.Bounds.most (handed l.context) l.place (drop l.action-index l.actions) (work l.compilation) ≡ acted g.B.Bounds.most
    (handed l.context) l.place l.actions (work l.fn.compilation)

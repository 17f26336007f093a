use Rattle.std.proofs.Common.{◌≡◌, ◌<◌, false, length, cond, suc, None}
use Rattle.inf_session.specs.{Promises.MakesTurns, Promises.Wrote, Standing.IsSet, Standing.ended, Weights.weight}
use Rattle.inf_session.proofs.session.Session.read.Given as goal

-- some turns led here from the start
abbrev pub invariant-loop-self : goal.invariant-loop-self
invariant-loop-self g l = record {
  called : MakesTurns g.F.Files g.M.Sink g.B.Bounds.most l.fn.files l.files l.fn.messages l.messages l.fn.self l.self None;
  wrote : Wrote g.M.Sink l.fn.messages l.messages None;
  is_open : length l.self.open_files.outer < g.F.Files.depth l.files;
  goes : l.self.open_files.lexer.has_failed ≡ false;
  set : IsSet l.self;
}

abbrev pub decreases-loop-self : goal.decreases-loop-self
decreases-loop-self g l = cond (ended l.self) 0 (suc (weight l.self.open_files))

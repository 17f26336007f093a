use Rattle.std.proofs.Common.{◌≡◌, ◌<◌, ◌≤◌, ◌⊎◌, true, false, length, cond, suc, None}
use Rattle.inf_devices.specs.Files.{Rose}
use Rattle.inf_session.specs.{Choices.chosen, Choices.most_quoted, Promises.Promised, Promises.Wrote, Weights.weight}
use Rattle.inf_session.specs.Standing.{HasRoom, IsSet, ended, state}
use Rattle.inf_session.proofs.Runs.{PartSoFar}
use Rattle.inf_session.proofs.session.Session.read_part.Given as goal

-- some turns of a part led here from the start
abbrev pub invariant-loop-self : goal.invariant-loop-self
invariant-loop-self g l =
    let f = g.F.Files in let m = g.M.Sink in
    record {
      called : Promised f l.fn.files l.files l.fn.self l.self None
          (λ s o start. PartSoFar g.B.Bounds.most s o (state s start (f.openings l.fn.files) l.fn.self)
          (state s start (f.openings l.files) l.self) (m.taken l.fn.messages) (m.taken l.messages))
          (λ failed s o start e. ⊥) (Rose (m.failures l.fn.messages) (m.failures l.messages));
      wrote : Wrote m l.fn.messages l.messages None;
      falls : (ended l.self ≡ true) ⊎ (weight l.self.open_files < weight l.fn.self.open_files);
      is_open : length l.self.open_files.outer < f.depth l.files;
      goes : l.self.open_files.lexer.has_failed ≡ false;
      set : IsSet l.self;
      longest : l.fn.self.quoted ≤ most_quoted (chosen l.fn.self.setup) → l.self.quoted ≤ most_quoted (chosen l.fn.self.setup);
      room : HasRoom l.self.room l.self.open_files;
    }

abbrev pub decreases-loop-self : goal.decreases-loop-self
decreases-loop-self g l = cond (ended l.self) 0 (suc (weight l.self.open_files))

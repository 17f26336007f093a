use Rattle.std.proofs.Common.{◌≡◌, ◌-◌, suc, false, cond, is_some, None}
use Rattle.inf_devices.specs.Files.{Openings, Sources}
use Rattle.inf_session.specs.{Choices.chosen, Promises.Wrote, Standing.next_of, Standing.state, Veneer.most_texts, Veneer.supplied}
use Rattle.inf_session.proofs.Supplying.{LeadsOn}
use Rattle.inf_session.proofs.session.Session.supply.Given as goal

-- the rest leads from here to the state to which all leads from the start; where no routine was read none is left
abbrev pub invariant-loop-was_read : goal.invariant-loop-was_read
invariant-loop-was_read g l = record {
  led : (sources : Sources) (start now : Openings) → LeadsOn (supplied g.B.Bounds.most (chosen l.fn.self.setup))
      (state sources start now l.fn.self) (state sources start now l.self) (g.M.Sink.taken l.fn.messages) (g.M.Sink.taken l.messages);
  none : l.was_read ≡ false → is_some (next_of l.self) ≡ false;
  files : l.self.open_files ≡ l.fn.self.open_files;
  setup : l.self.setup ≡ l.fn.self.setup;
  wrote : Wrote g.M.Sink l.fn.messages l.messages None;
}

abbrev pub decreases-loop-was_read : goal.decreases-loop-was_read
decreases-loop-was_read g l = cond l.was_read (suc (most_texts - l.self.passed)) 0

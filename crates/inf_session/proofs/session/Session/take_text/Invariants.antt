use Rattle.std.proofs.Common.{◌≡◌, ◌≤◌, List, ℕ}
use Rattle.inf_devices.specs.Files.{Openings, Sources}
use Rattle.inf_session.specs.{Choices.chosen, Standing.state, Veneer.in_text, Veneer.text_turns}
use Rattle.inf_session.proofs.session.Session.take_text.Given as goal

-- the turns that are left lead from here to the state to which all lead from the start
abbrev pub invariant-loop-left : goal.invariant-loop-left
invariant-loop-left g l = record {
  led : (sources : Sources) (start now : Openings) (told : List ℕ) →
      text_turns g.B.Bounds.most (chosen l.fn.self.setup) l.left (in_text l.lexer (state sources start now l.self told))
      ≡ text_turns g.B.Bounds.most (chosen l.fn.self.setup) l.most (in_text l.fn.lexer (state sources start now l.fn.self told));
  set : l.self.open_files.lexer.set ≡ l.lexer.set;
  limit : l.lexer.limit ≡ l.fn.lexer.limit;
  longest : l.fn.self.quoted ≤ l.fn.lexer.limit → l.self.quoted ≤ l.fn.lexer.limit;
  files : l.self.open_files ≡ l.fn.self.open_files;
  setup : l.self.setup ≡ l.fn.self.setup;
}

abbrev pub decreases-loop-left : goal.decreases-loop-left
decreases-loop-left g l = l.left

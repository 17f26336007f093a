use Rattle.std.proofs.Common.{◌≡◌, ◌<◌, length, false}
use Rattle.inf_session.specs.{Choices.chosen, Standing.IsSet}
use Rattle.inform_session_tests.proofs.playing.make_all.Given as goal

-- another call may be made
abbrev pub invariant-loop-place : goal.invariant-loop-place
invariant-loop-place g l =
    record {
      is_open : length l.cx.session.open_files.outer < g.F.Files.depth l.files;
      goes : l.cx.session.open_files.lexer.has_failed ≡ false;
      set : IsSet l.cx.session;
      known : (chosen l.cx.session.setup).settings ≡ l.cx.settings.now;
    }

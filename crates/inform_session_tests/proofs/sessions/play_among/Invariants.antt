-- The limits are those of the settings.
use Rattle.inf_settings.specs.Bounds.{limits_of}
use Rattle.inform_session_tests.proofs.sessions.play_among.Given as goal

abbrev pub ghosts-play_under : goal.ghosts-play_under
ghosts-play_under g a = record { most = limits_of a.settings.now }

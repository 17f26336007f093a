-- The limits are those of the settings.
use Rattle.inf_settings.specs.Bounds.{limits_of}
use Rattle.inf_compile.proofs.translation.translate_opened.Given as goal

abbrev pub ghosts-translate_under : goal.ghosts-translate_under
ghosts-translate_under g a = record { most = limits_of a.setup.settings.now }

use Rattle.std.proofs.Common.{◌≡◌, drop}
use Rattle.inf_command.specs.Spoken.{settings_of, with_numbers}
use Rattle.inf_command.proofs.spoken.Spoken.settings.Given as goal

-- the settings that are left, put in turn, give the settings that all give
abbrev pub invariant-loop-setting : goal.invariant-loop-setting
invariant-loop-setting l = with_numbers (drop l.setting-index l.setting-items) l.self l.settings ≡ settings_of l.self

use Rattle.std.proofs.Common.{◌≡◌, drop}
use Rattle.inf_settings.specs.Settings.{named, named_among}
use Rattle.inf_settings.proofs.setting.Setting.named.Given as goal

-- the search among the settings that are left gives the result of the search among all
abbrev pub invariant-loop-setting : goal.invariant-loop-setting
invariant-loop-setting l = named_among l.name (drop l.setting-index l.setting-items) ≡ named l.name

use Rattle.std.proofs.Common.{◌∙◌}
use Rattle.inf_settings.specs.{Settings.all_settings, declared.setting.Setting.Setting}
use Rattle.inf_command.proofs.Numbers.{with_numbers-next}
use Rattle.inf_command.proofs.spoken.Spoken.settings.Goals as goal

pub loop-setting-preserved : goal.loop-setting-preserved
loop-setting-preserved c = rw (c.set_named.ensures, c.of.ensures)
    (with_numbers-next all_settings c.loop-setting.setting-index Setting.QuotedText c.args.self.now c.loop-setting.settings
    c.loop-setting-test.true ∙ c.loop-setting.invariant)

use Rattle.std.proofs.Common.{◌≡◌, false, get_or, ◌∙◌, sym, bytes_eq}
use Rattle.inf_settings.proofs.Finding.{named_next}
use Rattle.inf_settings.specs.{Settings.all_settings, Settings.name_of, declared.setting.Setting.Setting}
use Rattle.inf_settings.proofs.setting.Setting.named.Goals as goal

pub loop-setting-preserved : goal.loop-setting-preserved
loop-setting-preserved c =
    let setting = get_or all_settings c.loop-setting.setting-index Setting.QuotedText in
    let spelled : c.as_bytes.result.now ≡ name_of setting = c.as_bytes.ensures.value ∙ c.name.ensures.value in
    let other : bytes_eq c.args.name.now c.as_bytes.result.now ≡ false = sym c.if-eq.ensures in
    named_next c.args.name.now all_settings c.loop-setting.setting-index Setting.QuotedText c.loop-setting-test.true (rw spelled at other)
    ∙ c.loop-setting.invariant

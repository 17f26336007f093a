-- The limits of tables that expressions do not use.
use Rattle.std.specs.Prelude.{◌≡◌}
use Rattle.inf_settings.specs.{Bounds.Limits, declared.setting.Setting.Setting}

-- the limits by the settings where no word names another number
pub record AreUsual (limits : Limits) : Type 0 where
  pub words : 2000 ≡ limits Setting.DictionaryEntries
  pub arrays : 10000 ≡ limits Setting.Arrays
  pub objects : 640 ≡ limits Setting.Objects
  pub properties : 30000 ≡ limits Setting.PropertyTables
  pub verbs : 200 ≡ limits Setting.Verbs
  pub grammar : 16000 ≡ limits Setting.GrammarLines
  pub actions : 200 ≡ limits Setting.Actions
  pub low_strings : 2048 ≡ limits Setting.LowStrings

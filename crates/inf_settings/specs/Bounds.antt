-- The limits of a compilation, which a type stands for.
use Rattle.std.specs.Prelude.{◌≡◌, ℕ}
use Rattle.inf_settings.specs.{Settings.number_of, declared.setting.Setting.Setting, declared.settings.Settings.Settings}

-- the limit of each setting
abbrev pub Limits : Type 0
Limits = Setting → ℕ

-- The limits are the numbers of the settings.
abbrev pub AreSet : Limits → Settings → Type 0
AreSet limits settings = (s : Setting) → limits s ≡ number_of s settings

-- the numbers of the settings as limits
abbrev pub limits_of : Settings → Limits
limits_of settings = λ s. number_of s settings

-- the greatest limits that numbers of the program can hold: the size of arrays is a number of 64 bits, all others have 32
abbrev pub unbounded : Limits
unbounded Setting.Arrays = 18446744073709551615
unbounded s = 4294967295

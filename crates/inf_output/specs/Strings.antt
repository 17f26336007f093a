-- The strings of a story.
use Rattle.std.specs.Prelude.{ℕ, List, [], ◌++◌, length, Bool, nat_le}
use Rattle.inf_settings.specs.{Bounds.Limits, declared.setting.Setting.Setting}
use Rattle.inf_area.specs.declared.scale.Scale.{Scale}
use Rattle.inf_code.specs.Code.{zeros_behind}

-- Bytes of packed texts, and the scale of packed addresses.
pub record StringArea : Type 0 where
  pub bytes : List ℕ
  pub scale : Scale

abbrev pub no_strings : Scale → StringArea
no_strings scale = record { bytes = []; scale = scale }

-- One more string, filled up to a packed address (Z-Machine Standard 1.1, section 1.2.3).
abbrev pub with_string : List ℕ → StringArea → StringArea
with_string text strings = record strings { bytes = strings.bytes ++ (text ++ zeros_behind strings.scale (length text)) }

-- Tells whether there is room for a string.
abbrev pub fits : Limits → List ℕ → StringArea → Bool
fits limits text strings = nat_le (length (with_string text strings).bytes) (limits Setting.Strings)

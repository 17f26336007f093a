-- The settings that words named, one by one.
use Rattle.std.proofs.Common.{◌≡◌, ◌+◌, ◌<◌, ℕ, List, length, drop, get_or, add-one, drop-cons, refl}
use Rattle.inf_settings.specs.{declared.setting.Setting.Setting, declared.settings.Settings.Settings}
use Rattle.inf_command.specs.{Spoken.number_named, Spoken.with_number_of, Spoken.with_numbers, declared.spoken.Spoken.Spoken}

-- a setting is followed by those behind it
pub with_numbers-next : (some : List Setting) (i : ℕ) (d : Setting) (s : Spoken) (settings : Settings) → i < length some
    → with_numbers (drop (i + 1) some) s (with_number_of (get_or some i d) (number_named (get_or some i d) s) settings)
    ≡ with_numbers (drop i some) s settings
with_numbers-next some i d s settings lt = rw (drop-cons some i d, add-one) refl

-- The low strings of a story behind the first one, which each story has: three spaces, in two bytes.
use Rattle.std.specs.Prelude.{ℕ, ◌+◌, List, [], ◌∷◌, ◌++◌, length, Bool, nat_le}
use Rattle.inf_settings.specs.{Bounds.Limits, declared.setting.Setting.Setting}

-- the bytes of packed texts, and where those of abbreviations begin, in bytes from the front of the first one
pub record LowArea : Type 0 where
  pub bytes : List ℕ
  pub abbreviations : List ℕ

abbrev pub no_low_strings : LowArea
no_low_strings = record { bytes = []; abbreviations = [] }

-- the number of bytes with the first one
abbrev pub low_size : LowArea → ℕ
low_size low = 2 + length low.bytes

-- one low string more: a packed text is of whole words (Z-Machine Standard 1.1, section 3.2)
abbrev pub with_low : List ℕ → LowArea → LowArea
with_low text low = record low { bytes = low.bytes ++ text }

-- one low string more, which is an abbreviation (section 3.3)
abbrev pub with_abbreviation : List ℕ → LowArea → LowArea
with_abbreviation text low = record (with_low text low) { abbreviations = low.abbreviations ++ low_size low ∷ [] }

-- whether there is room for one low string more
abbrev pub low_fits : Limits → List ℕ → LowArea → Bool
low_fits limits text low = nat_le (low_size low + length text) (limits Setting.LowStrings)

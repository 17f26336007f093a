-- The choices of the words of a command for a compilation.
use Rattle.std.specs.Prelude.{ℕ, List, map}
use Rattle.inf_letters.specs.declared.letters.Letters.{Letters}
use Rattle.inf_settings.specs.{Settings.number_of, declared.setting.Setting.Setting, declared.settings.Settings.Settings}
use Rattle.inf_session.specs.declared.setup.Setup.{Setup}

-- the choices of the letters, the settings, and the directories of included files
pub record Choices : Type 0 where
  pub letters : Letters
  pub settings : Settings
  pub directories : List (List ℕ)

-- the number of bytes that a text or quote may have
abbrev pub most_quoted : Choices → ℕ
most_quoted o = number_of Setting.QuotedText o.settings

-- the choices that the code's setup stands for
abbrev pub chosen : Setup → Choices
chosen s = record { letters = s.letters; settings = s.settings.now; directories = map (λ d. d.now) s.directories.now }

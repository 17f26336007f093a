-- Context that is handed down to all that is compiled.
use Rattle.std.specs.Prelude.{ℕ}
use Rattle.inf_characters.specs.declared.characters.CharSet.{CharSet}
use Rattle.inf_settings.specs.{Settings.number_of, declared.setting.Setting.Setting, declared.settings.Settings.Settings}
use Rattle.inf_unit.specs.Messages.{FileNames}
use Rattle.inf_compilation.specs.declared.context.Context.{Context as CodeContext}

-- Context: the names of the files that were opened, by their numbers; the character set of the sources; and the settings.
pub record Context : Type 0 where
  pub names : FileNames
  pub set : CharSet
  pub settings : Settings

-- Meaning of a context of the code.
abbrev pub handed : CodeContext → Context
handed c = record { names = c.files.now.names; set = c.set; settings = c.settings.now }

-- Number of tokens that an expression may have.
abbrev pub longest : Context → ℕ
longest context = number_of Setting.ExpressionNodes context.settings

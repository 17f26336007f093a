-- Counts of all that the settings bound, by what was read so far.
use Rattle.std.specs.Prelude.{ℕ, ◌≤◌, List, length, map, max}
use Rattle.inf_arrays.specs.Arrays.{all_of, arrays_size}
use Rattle.inf_code.specs.Code.{code_count, reference_count}
use Rattle.inf_compilation.specs.Actions.{Compilation}
use Rattle.inf_conditionals.specs.Open.{Conditions}
use Rattle.inf_settings.specs.{Settings.all_settings, Settings.number_of, declared.setting.Setting.Setting}
use Rattle.inf_settings.specs.declared.settings.Settings.{Settings}
use Rattle.inf_tables.specs.{LowStrings.low_size, Tables.references_with, World.bytes_now, World.object_count}
use Rattle.inf_verbs.specs.Verbs.{verbs_size}

-- Count of what a setting bounds, where the longest quoted token had `quoted` bytes, by the conditionals `c` and by all that was compiled.
-- For a setting of one token, expression or routine it is the greatest count so far: of labels, branches and jumps, that of a routine
-- where one of its units ended; of tokens, that of an expression of a unit or of a condition. No count is cut to its setting.
abbrev pub used : ℕ → Conditions → Compilation → Setting → ℕ
used quoted c w Setting.QuotedText = quoted
used quoted c w Setting.ExpressionNodes = max w.most_tokens c.most_tokens
used quoted c w Setting.Symbols = length w.output.names.names
used quoted c w Setting.Labels = w.most_labels
used quoted c w Setting.DictionaryEntries = length w.output.tables.dictionary.list
used quoted c w Setting.Objects = object_count w.output.tables.world
used quoted c w Setting.Verbs = length w.output.tables.verbs.list
used quoted c w Setting.Actions = length w.output.tables.actions.routines
used quoted c w Setting.GrammarLines = verbs_size w.output.tables.verbs.list
used quoted c w Setting.PropertyTables = bytes_now w.output.tables.world
used quoted c w Setting.Arrays = arrays_size (all_of w.output.tables.arrays)
used quoted c w Setting.LowStrings = low_size w.output.tables.low_strings
used quoted c w Setting.Code = code_count w.output.code
used quoted c w Setting.Strings = length w.output.strings.bytes
used quoted c w Setting.References = references_with (reference_count w.output.code) w.output.tables

-- Counts of all settings, in their order.
abbrev pub all_used : ℕ → Conditions → Compilation → List ℕ
all_used quoted c w = map (used quoted c w) all_settings

-- Counts of tokens, labels and references are within their settings.
abbrev pub AreKept : Settings → ℕ → Conditions → Compilation → Type 0
AreKept settings quoted c w = (used quoted c w Setting.ExpressionNodes ≤ number_of Setting.ExpressionNodes settings) ×
    (used quoted c w Setting.Labels ≤ number_of Setting.Labels settings) ×
    (used quoted c w Setting.References ≤ number_of Setting.References settings)

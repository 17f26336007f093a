-- The settings that words named.
use Rattle.std.specs.Prelude.{ℕ, List, [], ◌∷◌, if◌then◌else◌, Option, Some, None}
use Rattle.std.specs.Option.{option_or}
use Rattle.inf_settings.specs.{declared.setting.Setting.Setting, declared.settings.Settings.Settings}
use Rattle.inf_settings.specs.Settings.{all_settings, defaults, is_fit, with_named as with_setting}
use Rattle.inf_command.specs.declared.spoken.Spoken.{Spoken}

-- no setting is named
abbrev pub none_named : Spoken
none_named = record {
  quoted_text = None;
  expression_nodes = None;
  symbols = None;
  labels = None;
  dictionary_entries = None;
  objects = None;
  verbs = None;
  actions = None;
  grammar_lines = None;
  property_tables = None;
  arrays = None;
  low_strings = None;
  code = None;
  strings = None;
  references = None;
}

-- the number that a setting was given, if it was named
abbrev pub number_named : Setting → Spoken → Option ℕ
number_named Setting.QuotedText s = s.quoted_text
number_named Setting.ExpressionNodes s = s.expression_nodes
number_named Setting.Symbols s = s.symbols
number_named Setting.Labels s = s.labels
number_named Setting.DictionaryEntries s = s.dictionary_entries
number_named Setting.Objects s = s.objects
number_named Setting.Verbs s = s.verbs
number_named Setting.Actions s = s.actions
number_named Setting.GrammarLines s = s.grammar_lines
number_named Setting.PropertyTables s = s.property_tables
number_named Setting.Arrays s = s.arrays
number_named Setting.LowStrings s = s.low_strings
number_named Setting.Code s = s.code
number_named Setting.Strings s = s.strings
number_named Setting.References s = s.references

-- a setting is named: the last number holds
abbrev pub with_named : Setting → ℕ → Spoken → Spoken
with_named Setting.QuotedText n s = record s { quoted_text = Some n }
with_named Setting.ExpressionNodes n s = record s { expression_nodes = Some n }
with_named Setting.Symbols n s = record s { symbols = Some n }
with_named Setting.Labels n s = record s { labels = Some n }
with_named Setting.DictionaryEntries n s = record s { dictionary_entries = Some n }
with_named Setting.Objects n s = record s { objects = Some n }
with_named Setting.Verbs n s = record s { verbs = Some n }
with_named Setting.Actions n s = record s { actions = Some n }
with_named Setting.GrammarLines n s = record s { grammar_lines = Some n }
with_named Setting.PropertyTables n s = record s { property_tables = Some n }
with_named Setting.Arrays n s = record s { arrays = Some n }
with_named Setting.LowStrings n s = record s { low_strings = Some n }
with_named Setting.Code n s = record s { code = Some n }
with_named Setting.Strings n s = record s { strings = Some n }
with_named Setting.References n s = record s { references = Some n }

-- the numbers after the setting of a name is named, if there is one and it can have the number
abbrev pub with_name : Option Setting → ℕ → Spoken → Spoken
with_name None n s = s
with_name (Some x) n s = if is_fit n then with_named x n s else s

-- for each setting the number of the first ones, or where they do not name it, of the others
abbrev pub numbers_over : Spoken → Spoken → Spoken
numbers_over s others = record {
  quoted_text = option_or s.quoted_text others.quoted_text;
  expression_nodes = option_or s.expression_nodes others.expression_nodes;
  symbols = option_or s.symbols others.symbols;
  labels = option_or s.labels others.labels;
  dictionary_entries = option_or s.dictionary_entries others.dictionary_entries;
  objects = option_or s.objects others.objects;
  verbs = option_or s.verbs others.verbs;
  actions = option_or s.actions others.actions;
  grammar_lines = option_or s.grammar_lines others.grammar_lines;
  property_tables = option_or s.property_tables others.property_tables;
  arrays = option_or s.arrays others.arrays;
  low_strings = option_or s.low_strings others.low_strings;
  code = option_or s.code others.code;
  strings = option_or s.strings others.strings;
  references = option_or s.references others.references;
}

-- the settings, of which one that was named has its number
abbrev pub with_number_of : Setting → Option ℕ → Settings → Settings
with_number_of x None settings = settings
with_number_of x (Some n) settings = with_setting (Some x) n settings

-- the settings after some of them were named in turn
abbrev pub with_numbers : List Setting → Spoken → Settings → Settings
with_numbers [] s settings = settings
with_numbers (x ∷ others) s settings = with_numbers others s (with_number_of x (number_named x s) settings)

-- the number of each setting: the one that words named, or its default
abbrev pub settings_of : Spoken → Settings
settings_of s = with_numbers all_settings s defaults

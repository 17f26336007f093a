-- The settings: their names, their order, their default numbers, and the numbers that they may have (Designer's Manual, fourth
-- edition, section 39).
use Rattle.std.specs.Prelude.{ℕ, List, [], ◌∷◌, codes, Bool, ◌&&◌, nat_le, if◌then◌else◌, Option, Some, None, Result, Ok, Err, bytes_eq}
use Rattle.inf_settings.specs.{declared.setting.Setting.Setting, declared.settings.SetFault.SetFault, declared.settings.Settings.Settings}

abbrev pub name_of : Setting → List ℕ
name_of Setting.QuotedText = codes "MAX_QTEXT_SIZE"
name_of Setting.ExpressionNodes = codes "MAX_EXPRESSION_NODES"
name_of Setting.Symbols = codes "MAX_SYMBOLS"
name_of Setting.Labels = codes "MAX_LABELS"
name_of Setting.DictionaryEntries = codes "MAX_DICT_ENTRIES"
name_of Setting.Objects = codes "MAX_OBJECTS"
name_of Setting.Verbs = codes "MAX_VERBS"
name_of Setting.Actions = codes "MAX_ACTIONS"
name_of Setting.GrammarLines = codes "MAX_LINESPACE"
name_of Setting.PropertyTables = codes "MAX_PROP_TABLE_SIZE"
name_of Setting.Arrays = codes "MAX_STATIC_DATA"
name_of Setting.LowStrings = codes "MAX_LOW_STRINGS"
name_of Setting.Code = codes "MAX_CODE"
name_of Setting.Strings = codes "MAX_STATIC_STRINGS"
name_of Setting.References = codes "MAX_REFS"

-- the place of a setting among all, counted from 0
abbrev pub place_of : Setting → ℕ
place_of Setting.QuotedText = 0
place_of Setting.ExpressionNodes = 1
place_of Setting.Symbols = 2
place_of Setting.Labels = 3
place_of Setting.DictionaryEntries = 4
place_of Setting.Objects = 5
place_of Setting.Verbs = 6
place_of Setting.Actions = 7
place_of Setting.GrammarLines = 8
place_of Setting.PropertyTables = 9
place_of Setting.Arrays = 10
place_of Setting.LowStrings = 11
place_of Setting.Code = 12
place_of Setting.Strings = 13
place_of Setting.References = 14

-- all settings, in their order
abbrev pub all_settings : List Setting
all_settings =
    Setting.QuotedText ∷ Setting.ExpressionNodes ∷ Setting.Symbols ∷ Setting.Labels ∷ Setting.DictionaryEntries ∷ Setting.Objects ∷
    Setting.Verbs ∷ Setting.Actions ∷
    Setting.GrammarLines ∷ Setting.PropertyTables ∷ Setting.Arrays ∷ Setting.LowStrings ∷ Setting.Code ∷ Setting.Strings ∷
    Setting.References ∷ []

-- the setting with a name, in which case counts
abbrev pub named_among : List ℕ → List Setting → Option Setting
named_among name [] = None
named_among name (s ∷ settings) = if bytes_eq name (name_of s) then Some s else named_among name settings

abbrev pub named : List ℕ → Option Setting
named name = named_among name all_settings

-- tells whether a setting may have a number
abbrev pub is_fit : ℕ → Bool
is_fit n = nat_le 1 n && nat_le n 1048576

abbrev pub fit : ℕ → Option ℕ
fit n = if is_fit n then Some n else None

-- the default numbers of all settings
abbrev pub defaults : Settings
defaults = record {
  quoted_text = 4000;
  expression_nodes = 100;
  symbols = 10000;
  labels = 1000;
  dictionary_entries = 2000;
  objects = 640;
  verbs = 200;
  actions = 200;
  grammar_lines = 16000;
  property_tables = 30000;
  arrays = 10000;
  low_strings = 2048;
  code = 262144;
  strings = 262144;
  references = 50000;
}

-- the number of a setting
abbrev pub number_of : Setting → Settings → ℕ
number_of Setting.QuotedText s = s.quoted_text
number_of Setting.ExpressionNodes s = s.expression_nodes
number_of Setting.Symbols s = s.symbols
number_of Setting.Labels s = s.labels
number_of Setting.DictionaryEntries s = s.dictionary_entries
number_of Setting.Objects s = s.objects
number_of Setting.Verbs s = s.verbs
number_of Setting.Actions s = s.actions
number_of Setting.GrammarLines s = s.grammar_lines
number_of Setting.PropertyTables s = s.property_tables
number_of Setting.Arrays s = s.arrays
number_of Setting.LowStrings s = s.low_strings
number_of Setting.Code s = s.code
number_of Setting.Strings s = s.strings
number_of Setting.References s = s.references

-- the settings where one has another number
abbrev pub with_number : Setting → ℕ → Settings → Settings
with_number Setting.QuotedText n s = record s { quoted_text = n }
with_number Setting.ExpressionNodes n s = record s { expression_nodes = n }
with_number Setting.Symbols n s = record s { symbols = n }
with_number Setting.Labels n s = record s { labels = n }
with_number Setting.DictionaryEntries n s = record s { dictionary_entries = n }
with_number Setting.Objects n s = record s { objects = n }
with_number Setting.Verbs n s = record s { verbs = n }
with_number Setting.Actions n s = record s { actions = n }
with_number Setting.GrammarLines n s = record s { grammar_lines = n }
with_number Setting.PropertyTables n s = record s { property_tables = n }
with_number Setting.Arrays n s = record s { arrays = n }
with_number Setting.LowStrings n s = record s { low_strings = n }
with_number Setting.Code n s = record s { code = n }
with_number Setting.Strings n s = record s { strings = n }
with_number Setting.References n s = record s { references = n }

-- the answer to setting the setting with a name to a number; and below, the settings behind it
abbrev pub answer_to : Option Setting → ℕ → Result Unit SetFault
answer_to None n = Err SetFault.Unknown
answer_to (Some s) n = if is_fit n then Ok tt else Err SetFault.OutOfRange

abbrev pub with_named : Option Setting → ℕ → Settings → Settings
with_named None n s = s
with_named (Some name) n s = if is_fit n then with_number name n s else s

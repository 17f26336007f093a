-- The directives `Abbreviate` and `Lowstring`. Z-Machine Standard 1.1, section 3.3; Designer's Manual, fourth edition, sections 1.11 and
-- 45.
use Rattle.std.specs.Prelude.{ℕ, List, [], ◌∷◌, ◌++◌, length, nat_le, Bool, true, false, if◌then◌else◌, Option, Some, None, option_map}
use Rattle.std.specs.Prelude.{Result, Ok, Err}
use Rattle.inf_settings.specs.{Bounds.Limits, declared.setting.Setting.Setting}
use Rattle.inf_characters.specs.{Reading.text_of, declared.characters.CharSet.CharSet, declared.reading.Mode.Mode}
use Rattle.inf_characters.specs.{declared.reading.TextFault.TextFault, declared.texts.TextItem.TextItem}
use Rattle.inf_text.specs.{Declaring.declared_number, Packing.packed, declared.abbreviation.AbbrevFault.AbbrevFault}
use Rattle.inf_scanner.specs.declared.tokens.Place.{Place}
use Rattle.inf_expressions.specs.{declared.findings.Finding.Finding, declared.findings.UnitError.UnitError}
use Rattle.inf_names.specs.{Spellings.Name, declared.meanings.Meaning.Meaning}
use Rattle.inf_tables.specs.{LowStrings.low_fits, LowStrings.low_size, LowStrings.with_abbreviation, Tables.AllTables}
use Rattle.inf_output.specs.Output.{Code, Out, passed_table, with_low_text}
use Rattle.inf_report.specs.declared.messages.FixedLimit.{FixedLimit}
use Rattle.inf_unit.specs.{Tokens.SourceToken, Units.first_place, Units.name_order, Units.quoted_in}
use Rattle.inf_operands.specs.Texts.{text_packed}
use Rattle.inf_compilation.specs.{Context.Context, Findings.Findings, Findings.found_alone}
use Rattle.inf_compilation.specs.Actions.{Compilation, passed, unit_ended}
use Rattle.inf_named_values.specs.Declarations.{declaration_ended, name_declared, plainly_known}
use Rattle.inf_named_values.specs.declared.declarations.Declared.{Declared}

-- the error of a fault in a text, where no definition answers the fault `Memory`
abbrev pub fault_error : TextFault → UnitError
fault_error TextFault.BadCode = UnitError.NumberOutOfRange
fault_error TextFault.UnknownEscape = UnitError.UnknownEscape
fault_error TextFault.NoZscii = UnitError.NoZscii
fault_error TextFault.Memory = UnitError.NoZscii

-- the characters of a text, or the error of its first fault
abbrev pub or_error : Result (List TextItem) TextFault → Result (List TextItem) UnitError
or_error (Ok items) = Ok items
or_error (Err fault) = Err (fault_error fault)

-- Definitions of abbreviations

-- Whether there are as many abbreviations as there may be: of three banks with 32 texts each, the first has the string variables.
abbrev pub has_most_abbreviations : Out → Bool
has_most_abbreviations o = nat_le 64 (length o.tables.low_strings.abbreviations)

-- the error of a text that is not declared
abbrev pub refused_error : Result ℕ AbbrevFault → Option UnitError
refused_error (Ok number) = None
refused_error (Err AbbrevFault.Full) = Some UnitError.TooMany
refused_error (Err AbbrevFault.Repeated) = Some UnitError.WrongAbbreviation
refused_error (Err AbbrevFault.TooShort) = Some UnitError.WrongAbbreviation
refused_error (Err AbbrevFault.Memory) = None

-- The error of an abbreviation, by all that was laid before it: there are too many, or a text was packed before, or it is declared already,
-- or it is too short.
abbrev pub abbreviation_error : List TextItem → Out → Option UnitError
abbreviation_error items o =
    if has_most_abbreviations o then Some UnitError.TooMany else if o.texts.is_late then Some UnitError.WrongAbbreviation else
    refused_error (declared_number o.texts.declared items)

-- a text is declared, unless it is refused
abbrev pub text_declared : Option UnitError → List TextItem → Code
text_declared None items o = record o { texts = record o.texts { declared = o.texts.declared ++ items ∷ [] } }
text_declared (Some error) items o = o

-- The low string of an abbreviation is added, packed without abbreviations. Where it would pass the limit, it is not added, and the limit
-- is passed.
abbrev pub with_abbreviations : List ℕ → AllTables → AllTables
with_abbreviations bytes tables = record tables { low_strings = with_abbreviation bytes tables.low_strings }

abbrev pub low_added_by : Limits → Bool → List ℕ → Code
low_added_by limits true bytes o = record o { tables = with_abbreviations bytes o.tables }
low_added_by limits false bytes o = passed_table limits Setting.LowStrings o

abbrev pub low_added : Limits → List ℕ → Code
low_added limits bytes o = low_added_by limits (low_fits limits bytes o.tables.low_strings) bytes o

abbrev pub low_unless : Limits → Option UnitError → List TextItem → Code
low_unless limits None items o = low_added limits (packed items []) o
low_unless limits (Some error) items o = o

abbrev pub abbreviation_added : Limits → Option UnitError → List TextItem → Code
abbreviation_added limits error items o = low_unless limits error items (text_declared error items o)

-- the finding about a text, at the text
abbrev pub at_text : UnitError → Finding
at_text error = record { order = 0; error = error }

abbrev pub abbreviation_findings : Option UnitError → Findings
abbreviation_findings error = record (found_alone (option_map at_text error)) { many = FixedLimit.Abbreviations }

abbrev pub abbreviation_ended : Limits → Context → Place → Option UnitError → Compilation → Compilation
abbreviation_ended limits context first error w = unit_ended limits context first false (abbreviation_findings error) w

abbrev pub abbreviation_with : Limits → Context → Place → Result (List TextItem) UnitError → Compilation → Compilation
abbreviation_with limits context first (Err error) w = abbreviation_ended limits context first (Some error) w
abbreviation_with limits context first (Ok items) w =
    let error = abbreviation_error items w.output in
    abbreviation_ended limits context first error (record w { output = abbreviation_added limits error items w.output })

-- a text of `Abbreviate` is a unit of its own
abbrev pub abbreviation : Limits → Context → Place → Compilation → Compilation
abbreviation limits context place w = abbreviation_with limits context (first_place w.unit.tokens place)
    (or_error (text_of context.set Mode.Abbreviation (quoted_in w.unit.tokens))) w

-- the word, which is a unit, too
abbrev pub abbreviate_header : Limits → Context → Place → Compilation → Compilation
abbreviate_header limits context first w = unit_ended limits context first false (found_alone None) w

-- Definitions of low strings with names

-- a name whose declaration has an error stands for 0
abbrev pub named_nothing : Limits → Name → Code
named_nothing limits name o = name_declared limits name (Meaning.Number 0) o

abbrev pub low_named : Limits → Name → List TextItem → Code
low_named limits name items o = name_declared limits name (Meaning.LowString (low_size o.tables.low_strings))
    (with_low_text limits (packed items []) (text_packed o))

abbrev pub low_named_by : Limits → Name → Result (List TextItem) UnitError → Code
low_named_by limits name (Err error) o = named_nothing limits name o
low_named_by limits name (Ok items) o = low_named limits name items o

abbrev pub low_string_added : Limits → CharSet → Option Finding → Name → List SourceToken → Code
low_string_added limits set (Some f) name tokens o = named_nothing limits name o
low_string_added limits set None name tokens o = low_named_by limits name (or_error (text_of set Mode.Text (quoted_in tokens))) o

abbrev pub low_string_with : Limits → Context → Place → Name → Declared → Compilation → Compilation
low_string_with limits context first name d w = declaration_ended limits context first name FixedLimit.Values d
    (record w { output = low_string_added limits context.set d.finding name w.unit.tokens w.output })

abbrev pub low_string : Limits → Context → Place → List Name → Compilation → Compilation
low_string limits context first [] w = passed true w
low_string limits context first (name ∷ names) w =
    low_string_with limits context first name (plainly_known name (name_order w.unit.tokens) w) w

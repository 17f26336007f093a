-- The effects of the directives that are one unit.
use Rattle.std.specs.Prelude.{List, [], ◌∷◌, true}
use Rattle.inf_settings.specs.Bounds.{Limits}
use Rattle.inf_scanner.specs.declared.tokens.Place.{Place}
use Rattle.inf_names.specs.Spellings.{Name}
use Rattle.inf_output.specs.Output.{full}
use Rattle.inf_unit.specs.{Messages.location, Messages.with_full, Messages.with_words, declared.directives.Directive.Directive}
use Rattle.inf_unit.specs.Directives.{Include, End, directive_of, weight_of}
use Rattle.inf_unit.specs.Units.{directive_word, first_place, names_in, quoted_in}
use Rattle.inf_compilation.specs.{Context.Context, Findings.nothing_found}
use Rattle.inf_compilation.specs.Actions.{Compilation, code_begun, constant, passed, replace, stub, unit_ended, words_of}
use Rattle.inf_declarations.specs.{Attributes.attribute, Globals.global_variable}
use Rattle.inf_directives.specs.{Abbreviations.low_string, Defaults.default}
use Rattle.inf_declarations.specs.Properties.{property}
use Rattle.inf_directives.specs.{Headers.release, Headers.serial, Switches.switches}
use Rattle.inf_verb_lines.specs.Verbs.{fake_action}

-- A directive with which nothing is wrong ends: the first setting that was passed is shown.
abbrev pub fit_ended : Limits → Context → Place → Compilation → Compilation
fit_ended limits context first w = unit_ended limits context first true nothing_found w

abbrev pub carried_out : Limits → Directive → Context → Place → List Name → Compilation → Compilation
carried_out limits Directive.Include context first names w =
    fit_ended limits context first (record w { asked = Include (quoted_in w.unit.tokens) first })
carried_out limits Directive.Message context first names w = fit_ended limits context first
    (record w { report = with_words (location context.names first) (weight_of names) (words_of context.set w.unit) w.report })
carried_out limits Directive.End context first names w = fit_ended limits context first (record w { asked = End })
carried_out limits Directive.Constant context first names w = constant limits context first names w
carried_out limits Directive.Replace context first names w = replace limits context first names w
carried_out limits Directive.Stub context first names w = stub limits context first names w
carried_out limits Directive.Default context first names w = default limits context first names w
carried_out limits Directive.Attribute context first names w = attribute limits context first names w
carried_out limits Directive.Property context first names w = property limits context first names w
carried_out limits Directive.Global context first names w = global_variable limits context first names w
carried_out limits Directive.FakeAction context first names w = fake_action limits context first names w
carried_out limits Directive.Switches context first names w = switches limits context first names w
carried_out limits Directive.Lowstring context first names w = low_string limits context first names w
carried_out limits Directive.Release context first names w = release limits context first w
carried_out limits Directive.Serial context first names w = serial limits context first w
carried_out limits Directive.SystemFile context first names w = fit_ended limits context first (record w { is_system = true })

-- Code begins with a directive, unless it has begun. With `Switches` it does not.
abbrev pub code_begun_by : Limits → Directive → Compilation → Compilation
code_begun_by limits Directive.Switches w = w
code_begun_by limits _ w = code_begun limits w

-- a directive ends, which begins with the name of its word
abbrev pub directive_of_names : Limits → Context → Place → List Name → Compilation → Compilation
directive_of_names limits context first [] w = passed true w
directive_of_names limits context first (word ∷ names) w =
    let d = directive_of (directive_word w.unit.tokens) in carried_out limits d context first names (code_begun_by limits d w)

-- The first limit that was passed is told, at the place where a unit begins.
abbrev pub limits_told : Limits → Context → Place → Compilation → Compilation
limits_told limits context first w = record w { report = with_full context.names first (full limits w.output) w.report }

-- Since code begins with a directive, the limits are looked at behind it, whatever it does.
abbrev pub directive_end : Limits → Context → Place → Compilation → Compilation
directive_end limits context place w =
    let first = first_place w.unit.tokens place in
    limits_told limits context first (directive_of_names limits context first (names_in w.unit.tokens) w)

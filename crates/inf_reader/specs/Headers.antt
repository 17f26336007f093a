-- The headers of directives that have entries, bodies, lines or texts.
use Rattle.std.specs.Prelude.{List, [], ◌∷◌, false, Option, Some}
use Rattle.inf_settings.specs.Bounds.{Limits}
use Rattle.inf_scanner.specs.declared.tokens.Place.{Place}
use Rattle.inf_names.specs.Spellings.{Name}
use Rattle.inf_compilation.specs.{Actions.Compilation, Actions.code_begun, Actions.passed, Context.Context}
use Rattle.inf_syntax.specs.declared.words.Keyword.{Keyword}
use Rattle.inf_unit.specs.Units.{directive_word, first_place, names_in}
use Rattle.inf_bodies.specs.Objects.{class_header, object_header}
use Rattle.inf_declarations.specs.Arrays.{array_named}
use Rattle.inf_directives.specs.Abbreviations.{abbreviate_header}
use Rattle.inf_verb_lines.specs.Verbs.{extend_header, verb_header}
use Rattle.inf_reader.specs.{Directives.limits_told, declared.headers.Heading.Heading}

abbrev pub class_named : Limits → Context → Place → List Name → Compilation → Compilation
class_named limits context first [] w = passed false w
class_named limits context first (name ∷ names) w = class_header limits context first name w

-- the kind of a directive with a header, by its word; one of an object begins with its own word or with the name of a class
abbrev pub heading_of : Option Keyword → Heading
heading_of (Some Keyword.Array) = Heading.Array
heading_of (Some Keyword.Class) = Heading.Class
heading_of (Some Keyword.Verb) = Heading.Verb
heading_of (Some Keyword.Extend) = Heading.Extend
heading_of (Some Keyword.Abbreviate) = Heading.Abbreviate
heading_of _ = Heading.Object

abbrev pub header_as : Limits → Heading → Context → Place → List Name → Compilation → Compilation
header_as limits Heading.Array context first names w = array_named limits context first names w
header_as limits Heading.Class context first names w = class_named limits context first names w
header_as limits Heading.Object context first names w = object_header limits context first w
header_as limits Heading.Verb context first names w = verb_header limits context first w
header_as limits Heading.Extend context first names w = extend_header limits context first w
header_as limits Heading.Abbreviate context first names w = abbreviate_header limits context first w

abbrev pub directive_header : Limits → Context → Place → List Name → Compilation → Compilation
directive_header limits context first [] w = passed false w
directive_header limits context first (word ∷ names) w = header_as limits (heading_of (directive_word w.unit.tokens)) context first names w

-- Code begins with a header, unless it has begun, and behind it the limits are looked at.
abbrev pub header_ended : Limits → Context → Place → Compilation → Compilation
header_ended limits context place w =
    let first = first_place w.unit.tokens place in
    limits_told limits context first (directive_header limits context first (names_in w.unit.tokens) (code_begun limits w))

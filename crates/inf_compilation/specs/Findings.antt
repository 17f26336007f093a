-- Findings about a unit, and the messages by which they are told.
use Rattle.std.specs.Prelude.{ℕ, List, [], slice_get, Bool, if◌then◌else◌, Option, Some, None, option_map}
use Rattle.inf_scanner.specs.declared.tokens.Place.{Place}
use Rattle.inf_expressions.specs.{Findings.least_of_both, declared.findings.Finding.Finding, declared.findings.UnitError.UnitError}
use Rattle.inf_names.specs.{Locals.Headed, Locals.Repeated, Spellings.Name, declared.symbols.DeclareFault.DeclareFault}
use Rattle.inf_report.specs.Messages.{Declared, End, Message, SystemName, TooMany}
use Rattle.inf_report.specs.declared.messages.FixedLimit.{FixedLimit}
use Rattle.inf_unit.specs.{Messages.Diagnostic, Messages.FileNames, Messages.location, Messages.message_of, Tokens.SourceToken, Tokens.told}
use Rattle.inf_compilation.specs.Words.{nowhere}

-- Definitions of expressions

-- Message of an error at a token, and its place.
abbrev pub blame_at : UnitError → Option SourceToken → Diagnostic
blame_at error None = record { place = nowhere; message = message_of error End [] }
blame_at error (Some t) = record { place = t.place; message = message_of error (told t) t.bytes }

abbrev pub blame_of : List SourceToken → Finding → Diagnostic
blame_of tokens f = blame_at f.error (slice_get tokens f.order)

-- A name that is declared already, with the place of its first declaration, which a name of the language does not have.
pub record Again : Type 0 where
  pub name : Name
  pub first : Option Place

-- Findings about a unit. Of all that was found the least is told: of too many with the limit that is passed, and of a name that is
-- declared already with its first declaration.
pub record Findings : Type 0 where
  pub least : Option Finding
  pub many : FixedLimit
  pub again : Option Again

-- Definitions of names

-- A name that is declared already, if the names refuse it: names of the language, and first declarations, stay as they are. That
-- there are too many names is no error of the unit.
abbrev pub again_by : Name → Option (DeclareFault Place) → Option Again
again_by n (Some (DeclareFault.Present first)) = Some (record { name = n; first = first })
again_by n _ = None

-- Finding at the order of a name that is declared already.
abbrev pub again_finding : ℕ → Option Again → Option Finding
again_finding order None = None
again_finding order (Some a) = Some (record { order = order; error = UnitError.Declared })

abbrev pub again_message : FileNames → List ℕ → Option Place → Message
again_message files bytes None = SystemName bytes
again_message files bytes (Some first) = Declared bytes (location files first)

abbrev pub again_told : FileNames → Again → Diagnostic
again_told files a = record { place = a.name.place; message = again_message files a.name.bytes a.first }

-- Definitions of units

-- Finding that there is one more than there may be, which is told of the first token.
abbrev pub many_finding : Bool → Option Finding
many_finding are_many = if are_many then Some (record { order = 0; error = UnitError.TooMany }) else None

-- Findings about a unit in which nothing else may be wrong.
abbrev pub found_alone : Option Finding → Findings
found_alone f = record { least = f; many = FixedLimit.Values; again = None }

abbrev pub nothing_found : Findings
nothing_found = found_alone None

-- Message of a finding, by its error, about a unit that begins at a place and has these tokens.
unfoldable pub told_by : UnitError → FileNames → List SourceToken → Place → Finding → Findings → Option Diagnostic
told_by UnitError.Declared files tokens first f all = option_map (again_told files) all.again
told_by UnitError.TooMany files tokens first f all = Some (record { place = first; message = TooMany all.many })
told_by _ files tokens first f all = Some (blame_of tokens f)

abbrev pub told_of : FileNames → List SourceToken → Place → Option Finding → Findings → Option Diagnostic
told_of files tokens first None all = None
told_of files tokens first (Some f) all = told_by f.error files tokens first f all

abbrev pub told_as : FileNames → List SourceToken → Place → Findings → Option Diagnostic
told_as files tokens first all = told_of files tokens first all.least all

-- Definitions of headers

-- A local that is named again.
abbrev pub again_local : Option Repeated → Option Again
again_local None = None
again_local (Some r) = Some (record { name = r.name; first = Some r.first })

abbrev pub first_again : Option Again → Option Again → Option Again
first_again (Some a) later = Some a
first_again None later = later

-- Findings about the header of a routine: that there are too many locals, which is told of its first token; that its name, which
-- stands at an order, is declared already; or that a local is named again, behind it.
abbrev pub header_findings : ℕ → Option Again → Headed → Findings
header_findings order of_name h =
    let again = first_again of_name (again_local h.repeated) in
    record { least = least_of_both (many_finding h.are_too_many) (again_finding order again); many = FixedLimit.Locals; again = again }

-- Meaning of a message at a place of the code.
use Rattle.inf_report.specs.Meant.{meant}
use Rattle.inf_unit.specs.{Messages.Diagnostic, declared.messages.Diagnostic.Diagnostic as CodeDiagnostic}

abbrev pub blamed : CodeDiagnostic → Diagnostic
blamed b = record { place = b.place; message = meant b.message }

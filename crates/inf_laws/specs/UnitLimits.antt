-- The settings that are compared with their counts where a unit has ended: those of labels, code and references.
use Rattle.std.specs.Prelude.{◌≡◌, ◌+◌, ◌≤◌, Bool, false, Some, None}
use Rattle.inf_code.specs.Code.{bytes_of_code, labels, reference_count, references_open}
use Rattle.inf_compilation.specs.{Context.Context, Findings.Findings}
use Rattle.inf_compilation.specs.Actions.{Compilation, begun_at, unit_ended}
use Rattle.inf_output.specs.{Output.Out, Output.begun, Output.full_past, declared.past.Past.Past}
use Rattle.inf_scanner.specs.declared.tokens.Place.{Place}
use Rattle.inf_settings.specs.{Bounds.Limits, declared.setting.Setting.Setting}
use Rattle.inf_tables.specs.Tables.{references, references_with}
use Rattle.inf_unit.specs.Messages.{FileNames}

-- The labels of the open routine are at most their setting; so are the bytes of all code, with the open routine in its longest form; and
-- so are the references of finished routines and of tables, also with those of the open routine.
pub record IsWithin (limits : Limits) (o : Out) : Type 0 where
  pub few_labels : labels o.code ≤ limits Setting.Labels
  pub few_bytes : bytes_of_code o.code ≤ limits Setting.Code
  pub few_references : references_with (reference_count o.code) o.tables ≤ limits Setting.References
  pub few_with_open : reference_count o.code + references_open o.code.opened + references o.tables ≤ limits Setting.References

-- Code that is no longer laid, but counted alone, has passed a limit.
abbrev pub StopsForALimit : Out → Type 0
StopsForALimit o = (past : Past) → o.past ≡ Some past → full_past past ≡ None → ⊥

-- A unit that ended without a fatal message leaves labels, code and references within their settings, and the most labels of a routine.
pub record KeepsWithin (limits : Limits) (before behind : Compilation) : Type 0 where
  pub within : behind.report.counts.is_over ≡ false → IsWithin limits behind.output
  pub most_labels : behind.report.counts.is_over ≡ false → before.most_labels ≤ limits Setting.Labels
      → behind.most_labels ≤ limits Setting.Labels

-- Units, conditional directives and sources that end without a fatal message keep within their settings.
pub record UnitsKeepWithin (limits : Limits) : Type 0 where
  pub unit : (context : Context) (first : Place) (has_last : Bool) (found : Findings) (w : Compilation) → StopsForALimit w.output
      → KeepsWithin limits w (unit_ended limits context first has_last found w)
  pub conditional : (files : FileNames) (first : Place) (w : Compilation) → StopsForALimit (begun limits w.output)
      → KeepsWithin limits w (begun_at limits files first w)

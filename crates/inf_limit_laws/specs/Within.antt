-- The counts of a compilation that are compared with their settings where an expression or a unit has ended, within these settings; and the
-- room that is left of limits beside code, where code is counted and no longer laid.
use Rattle.std.specs.Prelude.{Bool, List, None, Option, Some, false, is_some, true, ℕ, ◌+◌, ◌≡◌, ◌≤◌}
use Rattle.inf_settings.specs.{Bounds.Limits, declared.setting.Setting.Setting}
use Rattle.inf_tables.specs.Tables.{references}
use Rattle.inf_code.specs.Code.{Routines, labels, reference_count, references_open}
use Rattle.inf_output.specs.{Output.Code, Output.Out, Output.full_past, declared.past.Past.Past}
use Rattle.inf_compilation.specs.{Actions.Compilation, Context.Context, Context.longest}

-- Room

-- Code has begun, the open routine has no more labels than it may have, and the references of all routines and those for which there is
-- still room are no more than there may be.
pub record LeavesRoom (limits : Limits) (code : Routines) (past : Past) : Type 0 where
  pub begun : code.has_begun ≡ true
  pub few_labels : labels code ≤ limits Setting.Labels
  pub few_references : (left : ℕ) → past.refs ≡ Some left
      → reference_count code + references_open code.opened + left ≤ limits Setting.References

-- Knowledge of a compilation before: whether all expressions were within their setting, and where its abbreviations begin, if these are
-- followed.
pub record Before : Type 0 where
  pub is_exact : Bool
  pub abbreviations : Option (List ℕ)

abbrev pub unfollowed : (strict : Bool) → Before
unfollowed strict = record { is_exact = strict; abbreviations = None }

-- Code has begun where a routine is open; and where code is counted alone, and passed no limit, it leaves room. The abbreviations that are
-- followed are those of before.
pub record IsCounted (limits : Limits) (was : Before) (code : Routines) (past : Option Past) (abbreviations : List ℕ) : Type 0 where
  pub begun : is_some code.opened ≡ true → code.has_begun ≡ true
  pub room : (p : Past) → past ≡ Some p → full_past p ≡ None → LeavesRoom limits code p
  pub same : (known : List ℕ) → was.abbreviations ≡ Some known → abbreviations ≡ known

abbrev pub Counted : Limits → Before → Out → Type 0
Counted limits was o = IsCounted limits was o.code o.past o.tables.low_strings.abbreviations

-- Code keeps an output counted.
abbrev pub Keeps : Limits → Before → Code → Type 0
Keeps limits was c = (o : Out) → Counted limits was o → Counted limits was (c o)

pub record Sound (limits : Limits) (was : Before) (c : Code) : Type 0 where
  pub keeps : Keeps limits was c

-- Counts

-- whether a fatal message stands
abbrev pub is_over : Compilation → Bool
is_over w = w.report.counts.is_over

-- The most tokens of an expression and the most labels of a routine are within their settings, and the output is counted.
abbrev pub IsKept : Limits → Context → Before → Compilation → Type 0
IsKept limits context was w =
    (was.is_exact ≡ true → w.most_tokens ≤ longest context) × ((w.most_labels ≤ limits Setting.Labels) × Counted limits was w.output)

-- The references of finished routines and of tables are within their setting.
abbrev pub AreFew : Limits → Compilation → Type 0
AreFew limits w = reference_count w.output.code + references w.output.tables ≤ limits Setting.References

-- Within a unit a compilation goes from one state to another: a fatal message stays, and where none stands all but the references is kept.
pub record Lays (limits : Limits) (context : Context) (was : Before) (w v : Compilation) : Type 0 where
  pub on : is_over v ≡ false → is_over w ≡ false
  pub kept : is_over v ≡ false → IsKept limits context was w → IsKept limits context was v

-- From the end of a unit a compilation goes to that of another one, or to some place before: a fatal message stays, what is kept stays
-- kept, and references are few behind it where they were before.
pub record Steps (limits : Limits) (context : Context) (was : Before) (w v : Compilation) : Type 0 where
  pub on : is_over v ≡ false → is_over w ≡ false
  pub kept : is_over v ≡ false → IsKept limits context was w → IsKept limits context was v
  pub few : is_over v ≡ false → IsKept limits context was w → AreFew limits w → AreFew limits v

-- Where a unit ends, they are few, whatever it laid.
pub record Ends (limits : Limits) (context : Context) (was : Before) (w v : Compilation) : Type 0 where
  pub on : is_over v ≡ false → is_over w ≡ false
  pub kept : is_over v ≡ false → IsKept limits context was w → IsKept limits context was v
  pub few : is_over v ≡ false → IsKept limits context was w → AreFew limits v

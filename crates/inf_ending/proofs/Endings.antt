-- The ends of compilations: one with an error has no story, and the messages of another end with the line that tells no error.
use Rattle.std.proofs.Common.{not, ◌&&◌, ◌==◌, Result, IfOk, ◌≡◌, ◌⊎◌, inl, inr, ℕ, ◌%◌, [], Bool, true, false, cond, List, ◌++◌, Option}
use Rattle.std.proofs.Common.{Some, None, refl, sym, ap, subst, ◌∙◌}
use Rattle.std.proofs.lemmas.Bool.{eqb-true}
use Rattle.inf_settings.specs.Bounds.{Limits}
use Rattle.inf_area.specs.{Scales.most_bytes, declared.scale.Scale.Scale, declared.targets.Value.Value}
use Rattle.inf_code.specs.Code.{Routines}
use Rattle.inf_link.specs.declared.link.LinkFault.{LinkFault}
use Rattle.inf_story.specs.{Names.values_of, Statistics.counts_of, Stories.too_long, declared.statistics.Statistics.Statistics}
use Rattle.inf_compilation.specs.Actions.{Compilation, begun_at}
use Rattle.inf_unit.proofs.Cases.{of_both}
use Rattle.inf_unit.specs.Messages.{FileNames, Reported, with_closing, with_fatal}
use Rattle.inf_unit.specs.Names.{main_of, with_all_undeclared}
use Rattle.inf_output.specs.{Output.Out, Strings.StringArea}
use Rattle.inf_report.specs.{Messages.StoryTooLong, Reports.closing}
use Rattle.inf_ending.specs.declared.{compiled.Status.Status, ending.Outcome.Outcome as CodeOutcome, ending.Telling.Telling}
use Rattle.inf_ending.specs.Ending.{Outcome, begun, bytes_of, counted, fields_of, finished, first_line, is_clean, laid, linked, named}
use Rattle.inf_ending.specs.Ending.{refused, seen, sizes_of, statistics_by, told_of, first_place}
use Rattle.inf_tables.specs.Tables.{AllTables}

-- the most bytes of a story fit a number of four bytes
pub most_is_small : (s : Scale) → most_bytes s % 4294967296 ≡ most_bytes s
most_is_small Scale.Four = refl
most_is_small Scale.Eight = refl

-- The outcome of a compilation whose last names are told is its outcome.
pub told_is_finished : {E : Type 0} (limits : Limits) (serial : List ℕ) (files : FileNames) (w told : Compilation)
    (result : Result CodeOutcome E) → told ≡ record (begun_at limits files first_place w) {
      report = with_all_undeclared files (begun_at limits files first_place w).output.names.names
          (begun_at limits files first_place w).report;
    } → IfOk result (λ t. seen t ≡ begun (told_of serial told) files told.output told.report (main_of told.output.names))
    → IfOk result (λ t. seen t ≡ finished limits serial files w)
told_is_finished limits serial files w told result same given =
    subst (λ v. IfOk result (λ t. seen t ≡ begun (told_of serial v) files v.output v.report (main_of v.output.names))) same given

-- The fault of a story that would be too long for its version, as it is told.
pub longest_told : {E : Type 0} (t : Telling) (files : FileNames) (main : ℕ) (names : List Value) (code : Routines)
    (strings : StringArea) (tables : AllTables) (r : Reported) (s : Scale) (bytes : List ℕ) (most : ℕ) (fault : LinkFault)
    (result : Result CodeOutcome E) → s ≡ code.scale → bytes ≡ strings.bytes → most ≡ most_bytes s → fault ≡ LinkFault.StoryTooLong
    → (fault ≡ LinkFault.Memory)
    ⊎ (too_long (record { release = t.release; serial = t.serial; scale = s }) main code.finished bytes tables ≡ Some fault)
    → IfOk result (λ e. seen e ≡ refused (with_fatal (first_line files) (StoryTooLong most) r))
    → IfOk result (λ e. seen e ≡ linked t files main names code strings tables r
    (too_long (fields_of t code) main code.finished strings.bytes tables))
longest_told t files main names code strings tables r s bytes most fault result same all longest is why given =
    let long : Scale → List ℕ → Option LinkFault =
    λ q a. too_long (record { release = t.release; serial = t.serial; scale = q }) main code.finished a tables in
    let found : long code.scale strings.bytes ≡ Some LinkFault.StoryTooLong = elim why [
      | inl memory ↦ (let never : LinkFault.Memory ≡ LinkFault.StoryTooLong = sym memory ∙ is in cc)
      | inr told ↦ sym (ap (λ q. long q strings.bytes) same) ∙ sym (ap (λ a. long s a) all) ∙ told ∙ ap (λ f. Some f) is
    ] in
    subst (λ o. IfOk result (λ e. seen e ≡ o))
    (ap (λ n. refused (with_fatal (first_line files) (StoryTooLong n) r)) (longest ∙ ap most_bytes same)
    ∙ sym (ap (λ o. linked t files main names code strings tables r o) found)) given

abbrev HasNone : Outcome → Type 0
HasNone e = e.status ≡ Status.Errors → e.story ≡ None

linked_none : (t : Telling) (files : FileNames) (main : ℕ) (names : List Value) (code : Routines) (strings : StringArea)
    (tables : AllTables) (r : Reported) (long : Option LinkFault) → HasNone (linked t files main names code strings tables r long)
linked_none t files main names code strings tables r None = λ e. cc
linked_none t files main names code strings tables r (Some LinkFault.ReadableTooLong) = λ _. refl
linked_none t files main names code strings tables r (Some LinkFault.StoryTooLong) = λ _. refl
linked_none t files main names code strings tables r (Some LinkFault.Memory) = λ _. refl

named_none : (t : Telling) (files : FileNames) (main : ℕ) (code : Routines) (strings : StringArea) (tables : AllTables) (r : Reported)
    (names : Option (List Value)) → HasNone (named t files main code strings tables r names)
named_none t files main code strings tables r None = λ _. refl
named_none t files main code strings tables r (Some names) =
    linked_none t files main names code strings tables r (too_long (fields_of t code) main code.finished strings.bytes tables)

laid_none : (t : Telling) (files : FileNames) (main : ℕ) (o : Out) (r : Reported) → HasNone (laid t files main o r)
laid_none t files main o r = named_none t files main o.code o.strings o.tables r (values_of o.names.names)

begun_none : (t : Telling) (files : FileNames) (o : Out) (r : Reported) (main : Option ℕ) → HasNone (begun t files o r main)
begun_none t files o r None = λ _. refl
begun_none t files o r (Some main) =
    of_both HasNone (is_clean r) (laid t files main o r) (refused r) (λ _. laid_none t files main o r) (λ _ _. refl)

pub errors_none : (limits : Limits) (serial : List ℕ) (files : FileNames) (w : Compilation) →
    (finished limits serial files w).status ≡ Status.Errors → (finished limits serial files w).story ≡ None
errors_none limits serial files w =
    let b = begun_at limits files first_place w in
    begun_none (told_of serial b) files b.output (with_all_undeclared files b.output.names.names b.report) (main_of b.output.names)

-- lines that end with the line that tells no error
pub record Closes (lines : List ℕ) : Type 0 where
  pub front : List ℕ
  pub warnings : ℕ
  pub is : lines ≡ front ++ closing 0 warnings

-- an outcome with a story, by a report that counted no error: its lines end with the line that tells none
pub record IsClean (r : Reported) (e : Outcome) : Type 0 where
  pub counts_none : is_clean r ≡ true
  pub closes : Closes e.messages
  pub bytes : List ℕ
  pub story : e.story ≡ Some bytes

-- both tests hold where their conjunction does
both_hold : (over : Bool) (zeros : Bool) → (not over && zeros) ≡ true → (over ≡ false) × (zeros ≡ true)
both_hold true zeros e = cc
both_hold false true e = (refl, refl)
both_hold false false e = cc

closes_clean : (r : Reported) → is_clean r ≡ true → Closes (with_closing r).lines
closes_clean r e =
    let both = both_hold r.counts.is_over (r.counts.errors == 0) e in
    record {
      front = r.lines;
      warnings = r.counts.warnings;
      is = ap (λ b. r.lines ++ cond b [] (closing r.counts.errors r.counts.warnings)) both.0
          ∙ ap (λ n. r.lines ++ closing n r.counts.warnings) (eqb-true r.counts.errors 0 both.1);
    }

abbrev EndsSo : Reported → Outcome → Type 0
EndsSo r e = e.status ≡ Status.Success → IsClean r e

-- statistics count no error
statistics_clean : (wanted : Bool) (s : Statistics) (r : Reported) → is_clean r ≡ true → is_clean (statistics_by wanted s r) ≡ true
statistics_clean true s r clean = clean
statistics_clean false s r clean = clean

linked_clean : (t : Telling) (files : FileNames) (main : ℕ) (names : List Value) (code : Routines) (strings : StringArea)
    (tables : AllTables) (r : Reported) → is_clean r ≡ true → (long : Option LinkFault) → EndsSo r
    (linked t files main names code strings tables r long)
linked_clean t files main names code strings tables r clean None =
    let statistics : Statistics = record { counts = counts_of t.symbols code tables; sizes = sizes_of t main names code strings tables } in
    λ _. record {
      counts_none = clean;
      closes = closes_clean (statistics_by t.has_statistics statistics r) (statistics_clean t.has_statistics statistics r clean);
      bytes = bytes_of t main names code strings tables;
      story = refl;
    }
linked_clean t files main names code strings tables r clean (Some LinkFault.ReadableTooLong) = λ e. cc
linked_clean t files main names code strings tables r clean (Some LinkFault.StoryTooLong) = λ e. cc
linked_clean t files main names code strings tables r clean (Some LinkFault.Memory) = λ e. cc

named_clean : (t : Telling) (files : FileNames) (main : ℕ) (code : Routines) (strings : StringArea) (tables : AllTables) (r : Reported) →
    is_clean r ≡ true → (names : Option (List Value)) → EndsSo r (named t files main code strings tables r names)
named_clean t files main code strings tables r clean None = λ e. cc
named_clean t files main code strings tables r clean (Some names) = linked_clean t files main names code strings tables r clean
    (too_long (fields_of t code) main code.finished strings.bytes tables)

laid_clean : (t : Telling) (files : FileNames) (main : ℕ) (o : Out) (r : Reported) → is_clean r ≡ true → EndsSo r (laid t files main o r)
laid_clean t files main o r clean = named_clean t files main o.code o.strings o.tables r clean (values_of o.names.names)

begun_clean : (t : Telling) (files : FileNames) (o : Out) (r : Reported) (main : Option ℕ) → EndsSo r (begun t files o r main)
begun_clean t files o r None = λ e. cc
begun_clean t files o r (Some main) =
    of_both (EndsSo r) (is_clean r) (laid t files main o r) (refused r) (λ clean. laid_clean t files main o r clean) (λ _ e. cc)

pub success_clean : (limits : Limits) (serial : List ℕ) (files : FileNames) (w : Compilation) →
    (finished limits serial files w).status ≡ Status.Success → IsClean (counted limits files w) (finished limits serial files w)
success_clean limits serial files w =
    let b = begun_at limits files first_place w in
    begun_clean (told_of serial b) files b.output (with_all_undeclared files b.output.names.names b.report) (main_of b.output.names)

-- The limit that is passed: the first that the assembler finds for its area is the first of the routines.
use Rattle.std.proofs.Common.{◌-◌, ◌<◌, ◌≤◌, nat_lt, ◌≡◌, ℕ, ◌+◌, Bool, true, false, cond, List, [], ◌∷◌, length, take, Option, Some, None}
use Rattle.std.proofs.Common.{refl, sym, ◌∙◌, ap, arith, length-append}
use Rattle.std.proofs.lemmas.Bool.Decides.{nat_tests}
use Rattle.inf_area.specs.{Cells.later_count, Fixups.Fixups, declared.cells.Cell.Cell as CodeCell, declared.fixups.Fixup.Fixup}
use Rattle.inf_area.specs.{declared.targets.AreaName.AreaName}
use Rattle.inf_area.proofs.Joining.{length-fixups_of}
use Rattle.inf_opcode.specs.Cells.{Cell, long_bytes, label_count, fixup_count}
use Rattle.inf_assembler.specs.{Places.missing, Places.twice_behind, declared.routines.CloseFault.CloseFault, declared.routines.Limit.Limit}
use Rattle.inf_assembler.specs.{declared.routines.Limits.Limits, declared.routines.RoutineKind.RoutineKind}
use Rattle.inf_assembler.specs.Routines.{State, Contents, body_bytes, body_fault, contents_of, fault_of, full_with, is_full, long_places}
use Rattle.inf_assembler.specs.Routines.{missing_fault, twice_fault}
use Rattle.inf_code.specs.declared.code.CodeLimits.{CodeLimits}
use Rattle.inf_code.specs.Code.{IsCode, IsSpare, StandsFor, bytes_with, references_before, references_with, full_cells, fault_behind}
use Rattle.inf_code.specs.Code.{first_fault, most_references, place_behind, routine_bounds, unlimited, source_bytes, source_cells}
use Rattle.inf_code.proofs.CodeSteps.{size_finished}

-- each fixup is a reference that is known later
pub later_stands_for : (place : ℕ) (fixups : List Fixup) (bytes : List ℕ) (cells : List CodeCell) → StandsFor place fixups bytes cells →
    later_count cells ≡ length fixups
later_stands_for place fixups bytes cells stands = sym (length-fixups_of AreaName.Code place cells) ∙ ap length stands.fixups_are

-- fixups that are as many as there is room for leave none for one more, and fewer leave it
pub too_many : (limit len own count : ℕ) → len ≤ limit → limit - len ≤ own → count ≡ 1 + own → nat_lt limit (len + count) ≡ true
too_many limit len own count within is same = grind (arith, nat_tests, within, is, same)

pub not_too_many : (limit len own count : ℕ) → own < limit - len → count ≡ 1 + own → nat_lt limit (len + count) ≡ false
not_too_many limit len own count is same = grind (arith, nat_tests, is, same)

-- where no limit is passed, the limit of bytes is not passed
pub code_is_free : (full : Bool) (rest : Option Limit) → cond full (Some Limit.Code) rest ≡ None → cond full (Some Limit.Code) None ≡ None
code_is_free true rest e = cc
code_is_free false rest e = refl

-- the first of three limits that is passed
abbrev of_three : Bool → Bool → Bool → Option Limit
of_three labels code refs = cond labels (Some Limit.Labels) (cond code (Some Limit.Code) (cond refs (Some Limit.Refs) None))

-- The list for the references of an open routine: its limit is the most references, and it has as many as precede those of the routine.
pub record Lists (is_lost : Bool) (finished : List CodeCell) (listed : Fixups) : Type 0 where
  pub limit : listed.limit ≡ most_references
  pub count : length listed.list ≡ references_before is_lost finished

pub lists : (is_lost : Bool) (finished : ℕ) (refs spare : Fixups) (bytes : List ℕ) (listed : Fixups) →
    StandsFor 8 refs.list (source_bytes finished bytes) (source_cells finished refs bytes) → refs.limit ≡ most_references → IsSpare spare
    → listed ≡ cond is_lost spare refs → Lists is_lost (source_cells finished refs bytes) listed
lists true finished refs spare bytes listed stands limit empty is =
    record { limit = ap (λ (f : Fixups). f.limit) (is ∙ empty); count = ap (λ (f : Fixups). length f.list) (is ∙ empty) }
lists false finished refs spare bytes listed stands limit empty is = record {
  limit = ap (λ (f : Fixups). f.limit) is ∙ limit;
  count = ap (λ (f : Fixups). length f.list) is
      ∙ sym (later_stands_for 8 refs.list (source_bytes finished bytes) (source_cells finished refs bytes) stands);
}

-- the bytes of the area are those of the finished routines and of the open one
pub bytes_are : (limits : CodeLimits) (finished : ℕ) (refs : Fixups) (bytes : List ℕ) (routine : State) →
    IsCode limits finished refs bytes (Some routine)
    → length bytes ≡ bytes_with (source_cells finished refs bytes) (contents_of routine bytes)
bytes_are limits finished refs bytes routine is =
    let stands = is.behind.open_still in let contents = contents_of routine bytes in
    omega (
      arith,
      ap length stands.bytes,
      length-append (take routine.start bytes) (contents.locals ∷ long_bytes contents.cells),
      stands.start,
      is.behind.start,
      size_finished limits finished refs bytes (Some routine) is,
    )

-- the fault of a routine at its limits, under any bounds
abbrev pub limit_by : Limits → ℕ → ℕ → Contents → ℕ → Option CloseFault
limit_by limits most references contents len = cond (is_full contents.is_final limits.code len) (Some (CloseFault.Full Limit.Code))
    (cond (nat_lt most (references + fixup_count contents.cells)) (Some (CloseFault.Full Limit.Refs)) None)

abbrev pub behind_by : Limits → ℕ → ℕ → ℕ → Contents → Option CloseFault
behind_by limits most start references contents = missing_fault
    (twice_fault (body_fault (λ body. limit_by limits most references contents (start + 1 + length body)) (body_bytes start contents))
    (twice_behind [] contents.cells)) (missing (long_places start contents) contents.cells)

-- more in the open routine, and its end
module _ (limits : CodeLimits) (finished : ℕ) (refs listed : Fixups) (bytes : List ℕ) (is_lost : Bool) (routine : State)
    (is : IsCode limits finished refs bytes (Some routine)) (kept : Lists is_lost (source_cells finished refs bytes) listed) where
  abbrev before : List CodeCell
  before = source_cells finished refs bytes

  abbrev contents : Contents
  contents = contents_of routine bytes

  start_is : routine.start ≡ place_behind before
  start_is = is.behind.start ∙ sym (size_finished limits finished refs bytes (Some routine) is)

  pub full_is : (cells : List Cell) →
      full_with cells routine bytes listed ≡ full_cells is_lost (source_cells finished refs bytes) cells (contents_of routine bytes)
  full_is cells =
      let stands = is.behind.open_still in let front = take routine.start bytes in
      let long = length (long_bytes cells) in let fixups = fixup_count cells in
      let len : length bytes ≡ bytes_with before contents =
      omega (arith, ap length stands.bytes, length-append front (contents.locals ∷ long_bytes contents.cells), stands.start, start_is) in
      let referred : length listed.list + routine.fixups ≡ references_with is_lost before contents =
      omega (arith, kept.count, stands.fixups) in
      ap (λ (l : Limits). of_three (nat_lt l.labels (routine.labels + label_count cells)) (nat_lt l.code (length bytes + long))
      (nat_lt listed.limit (length listed.list + routine.fixups + fixups))) is.behind.limits
      ∙ ap (λ n. of_three (nat_lt unlimited (n + label_count cells)) (nat_lt unlimited (length bytes + long))
      (nat_lt listed.limit (length listed.list + routine.fixups + fixups))) stands.labels
      ∙ ap (λ n. of_three (nat_lt unlimited (label_count contents.cells + label_count cells)) (nat_lt unlimited (n + long))
      (nat_lt listed.limit (length listed.list + routine.fixups + fixups))) len
      ∙ ap (λ n. of_three (nat_lt unlimited (label_count contents.cells + label_count cells))
      (nat_lt unlimited (bytes_with before contents + long)) (nat_lt n (length listed.list + routine.fixups + fixups))) kept.limit
      ∙ ap (λ n. of_three (nat_lt unlimited (label_count contents.cells + label_count cells))
      (nat_lt unlimited (bytes_with before contents + long)) (nat_lt most_references (n + fixups))) referred

  pub end_is : (kind : RoutineKind) → fault_of routine.start kind (contents_of routine bytes) routine.limits listed ≡ fault_behind
      (place_behind (source_cells finished refs bytes)) (references_before is_lost (source_cells finished refs bytes))
      (contents_of routine bytes)
  end_is kind = ap (λ (l : Limits). behind_by l listed.limit routine.start (length listed.list) contents) is.behind.limits
      ∙ ap (λ n. behind_by routine_bounds n routine.start (length listed.list) contents) kept.limit
      ∙ ap (λ n. fault_behind n (length listed.list) contents) start_is ∙ ap (λ n. fault_behind (place_behind before) n contents) kept.count

-- the first of two faults is none where both are
pub first_none : (first later : Option CloseFault) → first ≡ None → later ≡ None → first_fault first later ≡ None
first_none None later e is = is
first_none (Some fault) later e is = cc

pub first_some : (first later : Option CloseFault) (fault : CloseFault) → first ≡ Some fault → first_fault first later ≡ Some fault
first_some None later fault e = cc
first_some (Some f) later fault e = e

pub later_some : (first later : Option CloseFault) (fault : CloseFault) → first ≡ None → later ≡ Some fault →
    first_fault first later ≡ Some fault
later_some None later fault e is = is
later_some (Some f) later fault e is = cc

-- The fault at the end of a routine, by the parts of the code.
use Rattle.std.specs.Prelude.{Result, Ok, Err, MatchResult}
use Rattle.std.proofs.Common.{◌≡◌, ◌⊎◌, ◌+◌, ◌++◌, inl, inr, ℕ, Bool, false, cond, List, length, Option, Some, None, refl, sym, ◌∙◌, ap}
use Rattle.inf_area.specs.{Cells.later_count, Fixups.Fixups, declared.cells.Cell.Cell as CodeCell, declared.scale.Scale.Scale}
use Rattle.inf_assembler.specs.declared.{routines.CloseFault.CloseFault, routines.Closed.Closed, routines.RoutineKind.RoutineKind}
use Rattle.inf_assembler.specs.Routines.{Closes, State, contents_of, fault_of}
use Rattle.inf_settings.specs.Bounds.{Limits}
use Rattle.inf_code.specs.Code.{Routines, code_limits, fault_closed, fault_end, open_in}
use Rattle.inf_code.specs.Code.{IsCode, IsSpare, fault_behind, fault_of_full, finished_fault, first_fault, full_finished, padded}
use Rattle.inf_code.specs.Code.{place_behind, references_before, routine_cells, source_bytes, source_cells, zeros_behind}
use Rattle.inf_code.specs.declared.code.CodeLimits.{CodeLimits}
use Rattle.inf_code.proofs.CodeSteps.{finished_closed, whole_stands}
use Rattle.inf_code.proofs.Full.{end_is, later_stands_for, lists, first_none, first_some, later_some}

-- the fault at the end of a routine that is lost or not, by the fields of the code
module _ (limits : CodeLimits) (finished : ℕ) (refs spare : Fixups) (bytes : List ℕ) (is_lost : Bool) (routine : State) (kind : RoutineKind)
    (is : IsCode limits finished refs bytes (Some routine)) (empty : IsSpare spare) where
  abbrev before : List CodeCell
  before = source_cells finished refs bytes

  abbrev wrong : Option CloseFault
  wrong = fault_behind (place_behind before) (references_before is_lost before) (contents_of routine bytes)

  pub is_first : (listed : Fixups) → listed ≡ cond is_lost spare refs →
      fault_of routine.start kind (contents_of routine bytes) routine.limits listed ≡ wrong
  is_first listed same = end_is limits finished refs listed bytes is_lost routine is
      (lists is_lost finished refs spare bytes listed is.stands is.limit empty same) kind

-- the fault at the end of the code's routine, by what is known of the code's fields
pub closed_as : {scale : Scale} {has_begun : Bool} {finished : List CodeCell} {routines : ℕ} {lost is_lost : Bool} {routine : State}
    {open_one : Option State} {code : Routines} {limits : CodeLimits} (kind : RoutineKind) (most : Limits) (bytes : List ℕ)
    → open_one ≡ Some routine → is_lost ≡ lost → limits ≡ code_limits most → record {
      scale = scale;
      has_begun = has_begun;
      finished = finished;
      routines = routines;
      opened = open_in bytes is_lost open_one;
    } ≡ code → fault_end limits scale kind finished (open_in bytes lost (Some routine)) ≡ fault_closed most kind code
closed_as {scale = scale} {finished = finished} {lost = lost} {is_lost = is_lost} {open_one = r} {limits = limits} kind most bytes some kept
    is_most view = ap (λ o. fault_end limits scale kind finished (open_in bytes lost o)) (sym some)
    ∙ ap (λ b. fault_end limits scale kind finished (open_in bytes b r)) (sym kept)
    ∙ ap (λ l. fault_end l scale kind finished (open_in bytes is_lost r)) is_most ∙ ap (fault_closed most kind) view

-- the fault is the first one, or want of memory
pub told_first : (first later : Option CloseFault) (fault : CloseFault) → (fault ≡ CloseFault.Memory) ⊎ (first ≡ Some fault) →
    (fault ≡ CloseFault.Memory) ⊎ (first_fault first later ≡ Some fault)
told_first first later fault (inl memory) = inl memory
told_first first later fault (inr e) = inr (first_some first later fault e)

-- a lost routine has no fault beside its labels and offsets
pub told_lost : {T : Type 0} (r : Result T CloseFault) (wrong : Option CloseFault) →
    MatchResult r (λ _. wrong ≡ None) (λ fault. (fault ≡ CloseFault.Memory) ⊎ (wrong ≡ Some fault))
    → MatchResult r (λ _. first_fault wrong None ≡ None) (λ fault. (fault ≡ CloseFault.Memory) ⊎ (first_fault wrong None ≡ Some fault))
told_lost (Ok x) wrong e = first_none wrong None e refl
told_lost (Err fault) wrong e = told_first wrong None fault e

-- Behind a routine without a fault of its own, the setting that would be passed is told, or want of memory.
pub later_told : (first later now : Option CloseFault) (fault : CloseFault) → first ≡ None → later ≡ now
    → (fault ≡ CloseFault.Memory) ⊎ (now ≡ Some fault) → (fault ≡ CloseFault.Memory) ⊎ (first_fault first later ≡ Some fault)
later_told first later now fault none is (inl memory) = inl memory
later_told first later now fault none is (inr told) = inr (later_some first later fault none (is ∙ told))

-- the finished routines have as many references as are listed
pub listed_are : (scale : Scale) (kind : RoutineKind) (limits : CodeLimits) (finished : ℕ) (refs listed : Fixups) (bytes written : List ℕ)
    (routine : State) (closed : Closed) (is : IsCode limits finished refs bytes (Some routine))
    → Closes kind routine.start (contents_of routine bytes) bytes refs closed written listed
    → later_count (source_cells finished refs bytes ++ padded scale
    (routine_cells (place_behind (source_cells finished refs bytes)) kind (contents_of routine bytes))) ≡ length listed.list
listed_are scale kind limits finished refs listed bytes written routine closed is closes =
    let whole = written ++ zeros_behind scale closed.len in
    ap later_count (sym (finished_closed scale kind limits finished refs listed bytes written whole routine closed is closes refl))
    ∙ later_stands_for 8 listed.list (source_bytes (length whole) whole) (source_cells (length whole) listed whole)
    (whole_stands scale kind limits finished refs listed bytes written whole routine closed is closes refl)

-- the setting that the finished routines would pass, by the bytes of the area and the references that are listed
pub full_is : (limits : CodeLimits) (cells : List CodeCell) (bytes listed : ℕ) → place_behind cells ≡ bytes → later_count cells ≡ listed
    → finished_fault false limits cells ≡ fault_of_full (full_finished limits bytes (5 + listed))
full_is limits cells bytes listed size count = ap (λ n. fault_of_full (full_finished limits n (5 + later_count cells))) size
    ∙ ap (λ n. fault_of_full (full_finished limits bytes (5 + n))) count

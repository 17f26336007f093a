-- The closed routine and its padding follow the finished routines; a lost routine adds nothing.
use Rattle.std.specs.Prelude.{MatchResult, Bool}
use Rattle.std.proofs.Common.{◌≡◌, ◌≤◌, ◌+◌, ◌-◌, ◌⊎◌, false, true, refl, arith, List, ◌++◌, length, Option, Some, None, sym, ◌∙◌, ap, subst}
use Rattle.inf_assembler.specs.{Routines.State, Routines.contents_of, declared.routines.CloseFault.CloseFault}
use Rattle.inf_area.specs.declared.cells.Cell.{Cell as CodeCell}
use Rattle.inf_code.specs.Code.{Routines, IsCode, open_in, closed_cells, closed_count, place_behind, source_cells, with_closed}
use Rattle.inf_code.specs.Code.{fault_behind, fault_of_full}
use Rattle.inf_code.proofs.CodeSteps.{closed_size, code_after, counted_closed, finished_closed, size_finished}
use Rattle.inf_code.proofs.Ends.{closed_as, full_is, is_first, later_told, listed_are, told_first, told_lost}
use Rattle.inf_code.proofs.Full.{first_none}
use Rattle.inf_code.proofs.code.Code.close.Goals as goal

pub returns-then-self-clause-fault : goal.returns-then-self-clause-fault
returns-then-self-clause-fault g c =
    let inside = c.self.inside in let routine = c.in-Some.routine in let kind = c.args.kind in
    let some : inside.routine ≡ Some routine = sym c.take.ensures.value ∙ c.in-Some.is in
    let lost : inside.is_lost ≡ true = c.if-self.true in
    let is : IsCode inside.limits inside.finished inside.refs inside.area (Some routine) =
    (subst (IsCode inside.limits inside.finished inside.refs inside.area) some c.self.invariant.0) in
    let Tells : Option CloseFault → Type 0 =
    λ wrong. MatchResult c.close_lost.result (λ _. wrong ≡ None) (λ fault. (fault ≡ CloseFault.Memory) ⊎ (wrong ≡ Some fault)) in
    let start = is.behind.start ∙ sym (size_finished inside.limits inside.finished inside.refs inside.area (Some routine) is) in
    let told = subst (λ n. Tells (fault_behind n 0 (contents_of routine inside.area))) start c.close_lost.ensures.fault in
    subst Tells (closed_as kind g.B.Bounds.most inside.area some lost inside.is_most c.self.view_is) (told_lost c.close_lost.result _ told)

pub returns-in-Err-clause-fault : goal.returns-in-Err-clause-fault
returns-in-Err-clause-fault g c =
    let inside = c.self.inside in let routine = c.in-Some.routine in let kind = c.args.kind in
    let some : inside.routine ≡ Some routine = sym c.take.ensures.value ∙ c.in-Some.is in
    let kept : inside.is_lost ≡ false = c.if-self.false in
    let is : IsCode inside.limits inside.finished inside.refs inside.area (Some routine) =
    (subst (IsCode inside.limits inside.finished inside.refs inside.area) some c.self.invariant.0) in
    let Tells : Option CloseFault → Type 0 = λ wrong. (c.in-Err.fault ≡ CloseFault.Memory) ⊎ (wrong ≡ Some c.in-Err.fault) in
    let first = is_first inside.limits inside.finished inside.refs inside.spare inside.area false routine kind is c.self.invariant.1.1.0
    inside.refs refl in
    subst Tells (closed_as kind g.B.Bounds.most inside.area some kept inside.is_most c.self.view_is)
    (told_first _ _ c.in-Err.fault (subst Tells first c.in-Err.ensures.fault))

pub invariant_of-self-2 : goal.invariant_of-self-2
invariant_of-self-2 g c =
    let inside = c.self.inside in let routine = c.in-Some.routine in
    let some : inside.routine ≡ Some routine = sym c.take.ensures.value ∙ c.in-Some.is in
    let is : IsCode inside.limits inside.finished inside.refs inside.area (Some routine) =
    subst (IsCode inside.limits inside.finished inside.refs inside.area) some c.self.invariant.0 in
    let whole = c.fill_up.new.area in let listed = c.close.new.refs in let few = c.in_default-fill_up.ensures.room in
    let after = code_after inside.scale c.args.kind inside.limits inside.finished inside.refs listed inside.area c.close.new.area whole
    routine c.in-Ok.closed is c.in-Ok.ensures.ok c.in_default-fill_up.ensures.ok few in
    let none : IsCode inside.limits (length whole) listed whole c.take.new.self =
    subst (IsCode inside.limits (length whole) listed whole) (sym c.take.ensures.after) after in
    let count = counted_closed inside.scale c.args.kind inside.limits inside.finished inside.refs listed inside.area c.close.new.area whole
    routine c.in-Ok.closed is c.in-Ok.ensures.ok inside.routines c.in_default-fill_up.ensures.ok c.self.invariant.1.1.1 in
    let within : length listed.list ≤ inside.limits.refs - 5 = omega (arith, c.in_default-fill_up.ensures.few, c.len-listed.ensures.value) in
    let len = sym c.len-self-inside.ensures.value in (
      subst (λ n. IsCode inside.limits n listed whole c.take.new.self) len none,
      ((c.self.invariant.1.0.0, (c.self.invariant.1.0.1.0, within)), (c.self.invariant.1.1.0, subst (λ n. inside.routines + 1 + 8 ≤ n) len count)),
    )

pub returns-clause-ok : goal.returns-clause-ok
returns-clause-ok g c =
    let inside = c.self.inside in let routine = c.in-Some.routine in let kind = c.args.kind in
    let some : inside.routine ≡ Some routine = sym c.take.ensures.value ∙ c.in-Some.is in
    let kept : inside.is_lost ≡ false = c.if-self.false in
    let is : IsCode inside.limits inside.finished inside.refs inside.area (Some routine) =
    subst (IsCode inside.limits inside.finished inside.refs inside.area) some c.self.invariant.0 in
    let whole = c.fill_up.new.area in let listed = c.close.new.refs in
    let before = source_cells inside.finished inside.refs inside.area in
    let closed = finished_closed inside.scale kind inside.limits inside.finished inside.refs listed inside.area c.close.new.area whole
    routine c.in-Ok.closed is c.in-Ok.ensures.ok c.in_default-fill_up.ensures.ok in
    let Of : List CodeCell → Option State → Routines = λ cells r.
    record {
      scale = inside.scale;
      has_begun = inside.has_begun;
      finished = cells;
      routines = inside.routines + 1;
      opened = open_in whole inside.is_lost r;
    } in
    let With : Bool → Option State → Routines = λ b r.
    record {
      scale = inside.scale;
      has_begun = inside.has_begun;
      finished = before ++ closed_cells inside.scale kind (place_behind before) (open_in inside.area b r);
      routines = inside.routines + closed_count (open_in inside.area b r);
      opened = None;
    } in
    ap (λ n. Of (source_cells n listed whole) c.take.new.self) c.len-self-inside.ensures.value
    ∙ ap (Of (source_cells (length whole) listed whole)) c.take.ensures.after
    ∙ ap (λ cells. Of cells None) closed ∙ ap (With false) (sym some) ∙ ap (λ b. With b inside.routine) (sym kept)
    ∙ ap (with_closed kind) c.self.view_is

pub returns-in-Err-fill_up-clause-fault : goal.returns-in-Err-fill_up-clause-fault
returns-in-Err-fill_up-clause-fault g c =
    let inside = c.self.inside in let routine = c.in-Some.routine in let kind = c.args.kind in
    let some : inside.routine ≡ Some routine = sym c.take.ensures.value ∙ c.in-Some.is in
    let kept : inside.is_lost ≡ false = c.if-self.false in
    let is : IsCode inside.limits inside.finished inside.refs inside.area (Some routine) =
    (subst (IsCode inside.limits inside.finished inside.refs inside.area) some c.self.invariant.0) in
    let written = c.close.new.area in
    let size_is = closed_size inside.scale kind inside.limits inside.finished inside.refs c.close.new.refs inside.area written routine
    c.in-Ok.closed is c.in-Ok.ensures.ok in
    let count = listed_are inside.scale kind inside.limits inside.finished inside.refs c.close.new.refs inside.area written routine
    c.in-Ok.closed is c.in-Ok.ensures.ok ∙ sym c.len-listed.ensures.value in
    let same = full_is inside.limits _ _ _ size_is count in
    let first = is_first inside.limits inside.finished inside.refs inside.spare inside.area false routine kind is c.self.invariant.1.1.0
    inside.refs refl in
    let Tells : Option CloseFault → Type 0 =
    λ wrong. (c.in-Err-fill_up.fault ≡ CloseFault.Memory) ⊎ (wrong ≡ Some c.in-Err-fill_up.fault) in
    subst Tells (closed_as kind g.B.Bounds.most inside.area some kept inside.is_most c.self.view_is)
    (later_told _ _ _ c.in-Err-fill_up.fault (sym first ∙ c.in-Ok.ensures.fault) same c.in-Err-fill_up.ensures.fault)

pub returns-clause-fault : goal.returns-clause-fault
returns-clause-fault g c =
    let inside = c.self.inside in let routine = c.in-Some.routine in let kind = c.args.kind in
    let some : inside.routine ≡ Some routine = sym c.take.ensures.value ∙ c.in-Some.is in
    let kept : inside.is_lost ≡ false = c.if-self.false in
    let is : IsCode inside.limits inside.finished inside.refs inside.area (Some routine) =
    (subst (IsCode inside.limits inside.finished inside.refs inside.area) some c.self.invariant.0) in
    let written = c.close.new.area in
    let size_is = closed_size inside.scale kind inside.limits inside.finished inside.refs c.close.new.refs inside.area written routine
    c.in-Ok.closed is c.in-Ok.ensures.ok in
    let count = listed_are inside.scale kind inside.limits inside.finished inside.refs c.close.new.refs inside.area written routine
    c.in-Ok.closed is c.in-Ok.ensures.ok ∙ sym c.len-listed.ensures.value in
    let over = full_is inside.limits _ _ _ size_is count ∙ ap fault_of_full c.in_default-fill_up.ensures.fault in
    let first = is_first inside.limits inside.finished inside.refs inside.spare inside.area false routine kind is c.self.invariant.1.1.0
    inside.refs refl in
    subst (λ wrong. wrong ≡ None) (closed_as kind g.B.Bounds.most inside.area some kept inside.is_most c.self.view_is)
    (first_none _ _ (sym first ∙ c.in-Ok.ensures.fault) over)

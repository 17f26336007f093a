-- The open routine follows the finished ones.
use Rattle.std.proofs.Common.{MatchResult, ◌≡◌, Option, Some, None, sym, ◌∙◌, ap, subst}
use Rattle.inf_opcode.specs.{Instructions.instruction_cells, PartsOf.parts_of}
use Rattle.inf_assembler.specs.{Routines.State, Routines.contents_of, Routines.refusal, declared.routines.Limit.Limit}
use Rattle.inf_code.specs.Code.{Routines, IsCode, open_in, full_with, source_cells, with_instruction}
use Rattle.inf_code.proofs.{CodeSteps.code_or_same, Full.full_is, Full.lists}
use Rattle.inf_code.proofs.code.Code.emit.Goals as goal

pub invariant_of-self-2 : goal.invariant_of-self-2
invariant_of-self-2 g c =
    let inside = c.self.inside in
    let is : IsCode inside.limits inside.finished inside.refs inside.area (Some c.in-Some.routine) =
    subst (IsCode inside.limits inside.finished inside.refs inside.area) c.in-Some.is c.self.invariant.0 in (
      code_or_same inside.limits inside.finished inside.refs inside.area c.emit.new.area c.in-Some.routine c.emit.new.self
          (with_instruction (parts_of c.args.instruction.now) (contents_of c.in-Some.routine inside.area)) is c.emit.result
          c.emit.ensures.ok c.emit.ensures.err,
      c.self.invariant.1,
    )

pub returns-clause-fault : goal.returns-clause-fault
returns-clause-fault g c =
    let inside = c.self.inside in let parts = parts_of c.args.instruction.now in
    let is : IsCode inside.limits inside.finished inside.refs inside.area (Some c.in-Some.routine) =
    subst (IsCode inside.limits inside.finished inside.refs inside.area) c.in-Some.is c.self.invariant.0 in
    let before = source_cells inside.finished inside.refs inside.area in
    let kept = lists inside.is_lost inside.finished inside.refs inside.spare inside.area c.listed-refs.result.now is.stands is.limit
    c.self.invariant.1.1.0 c.listed-refs.ensures in
    let With : Option State → Routines = λ r. record {
      scale = inside.scale;
      has_begun = inside.has_begun;
      finished = before;
      routines = inside.routines;
      opened = open_in inside.area inside.is_lost r;
    } in
    let Tells : Option Limit → Type 0 = λ full. MatchResult c.emit.result (λ _. full ≡ None) (λ fault. fault ≡ refusal full) in
    let same = full_is inside.limits inside.finished inside.refs c.listed-refs.result.now inside.area inside.is_lost c.in-Some.routine is
    kept (instruction_cells parts) ∙ ap (λ r. full_with parts (With r)) (sym c.in-Some.is) ∙ ap (full_with parts) c.self.view_is in
    subst Tells same c.emit.ensures.fault

-- The counts are those of the bytes that are written.
use Rattle.std.proofs.Common.{◌+◌, ◌∙◌, length, take, ap, sym, subst, refl, arith}
use Rattle.std.proofs.lemmas.Result.{err_from_is_err_and}
use Rattle.inf_opcode.specs.{Grown.Grew, Instructions.instruction_cells, Opcodes.row_of, PartsOf.parts_of}
use Rattle.inf_opcode.specs.{declared.opcodes.OpcodeRow.OpcodeRow}
use Rattle.inf_assembler.specs.Routines.{State, contents_of, refusal}
use Rattle.inf_assembler.proofs.{Finishing.none_of, Opened.holds, Opened.stands_more}
use Rattle.inf_assembler.proofs.Filling.{full_is, labels_is, fixups_are}
use Rattle.inf_assembler.proofs.routines.Routine.emit.Goals as goal

pub returns-in-Some-clause-fault : goal.returns-in-Some-clause-fault
returns-in-Some-clause-fault g c =
    let state = c.args.self.now in let bytes = g.A.Area.bytes c.args.area.now in
    let parts = parts_of c.args.instruction.now in let more = c.instruction_counts-more.result in
    let counted = c.instruction_counts-more.ensures.value in
    let all =
    full_is parts state bytes c.args.refs.now c.len.result (length c.args.instruction.now.text.now) more counted refl c.len.ensures.value in
    ap refusal (sym c.in-Some.is ∙ c.full.ensures.value ∙ all)

pub returns-in_err-append_instruction-clause-fault : goal.returns-in_err-append_instruction-clause-fault
returns-in_err-append_instruction-clause-fault g c =
    let state = c.args.self.now in let bytes = g.A.Area.bytes c.args.area.now in
    let parts = parts_of c.args.instruction.now in let more = c.instruction_counts-more.result in
    let counted = c.instruction_counts-more.ensures.value in
    let all =
    full_is parts state bytes c.args.refs.now c.len.result (length c.args.instruction.now.text.now) more counted refl c.len.ensures.value in
    let none = sym (c.full.ensures.value ∙ all) ∙ none_of c.full.result c.in_default.not-Some in
    let p = err_from_is_err_and c.from_residual.result c.from_residual.ensures.1 in
    rw (p.1, p.2) (ap refusal (sym none))

pub returns-clause-fault : goal.returns-clause-fault
returns-clause-fault g c =
    let state = c.args.self.now in let bytes = g.A.Area.bytes c.args.area.now in
    let parts = parts_of c.args.instruction.now in let more = c.instruction_counts-more.result in
    let counted = c.instruction_counts-more.ensures.value in
    let all =
    full_is parts state bytes c.args.refs.now c.len.result (length c.args.instruction.now.text.now) more counted refl c.len.ensures.value in
    sym (c.full.ensures.value ∙ all) ∙ none_of c.full.result c.in_default.not-Some

pub returns-clause-ok : goal.returns-clause-ok
returns-clause-ok g c =
    let state = c.args.self.now in let bytes = g.A.Area.bytes c.args.area.now in
    let parts = parts_of c.args.instruction.now in let more = c.instruction_counts-more.result in
    let counted = c.instruction_counts-more.ensures.value in
    let all =
    full_is parts state bytes c.args.refs.now c.len.result (length c.args.instruction.now.text.now) more counted refl c.len.ensures.value in
    let inside = c.self.inside in let new_bytes = g.A.Area.bytes c.append_instruction.new.area in
    let new_kept = c.append_instruction.new.kept.items in let cells = instruction_cells parts in
    let new : State = record {
      start = inside.start;
      kept = new_kept;
      labels = inside.labels + more.labels;
      fixups = inside.fixups + more.fixups;
      is_final = c.row-row.result.is_final;
      limits = inside.limits;
    } in
    let grew = subst (λ (s : State). Grew bytes s.kept cells new_bytes new_kept) c.self.view_is c.in_ok-append_instruction.ensures.ok in
    let start = ap (λ (s : State). s.start) c.self.view_is in
    let stands = stands_more state new bytes new_bytes (take state.start bytes) (contents_of state bytes) cells
    (row_of c.args.instruction.now.opcode).is_final c.requires.open_still grew start
    (omega (arith, ap (λ (s : State). s.labels) c.self.view_is, labels_is parts more counted))
    (omega (arith, ap (λ (s : State). s.fixups) c.self.view_is, fixups_are parts more counted))
    (ap (λ (r : OpcodeRow). r.is_final) c.row-row.ensures.exact) in
    holds _ state new bytes new_bytes (take state.start bytes) stands start refl (ap (λ (s : State). s.limits) c.self.view_is)

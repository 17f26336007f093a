use Rattle.inf_parts.proofs.Lines.{known_begun, known_prepared}
use Rattle.inf_compilation.specs.Works.{work}
use Rattle.inf_parts.proofs.parts.end_part.Goals as goal

pub lay_part-requires : goal.lay_part-requires
lay_part-requires g c =
    known_begun g.B.Bounds.most c.args.part c.in_ok-opcode.opcode (work c.prepare_case.new.compilation) (work c.take_up.new.compilation)
    c.in_ok-finding.ensures.named
    (known_prepared g.B.Bounds.most c.args.part c.in_ok-opcode.opcode (work c.prepare.new.compilation) (work c.prepare_case.new.compilation)
    c.in_ok-prepare_case.ensures c.in_ok-opcode.ensures.opcode)

pub carry_out_part-requires-clause-opcode : goal.carry_out_part-requires-clause-opcode
carry_out_part-requires-clause-opcode g c =
    known_begun g.B.Bounds.most c.args.part c.in_ok-opcode.opcode (work c.prepare_case.new.compilation) (work c.take_up.new.compilation)
    c.in_ok-finding.ensures.named
    (known_prepared g.B.Bounds.most c.args.part c.in_ok-opcode.opcode (work c.prepare.new.compilation) (work c.prepare_case.new.compilation)
    c.in_ok-prepare_case.ensures c.in_ok-opcode.ensures.opcode)

-- There are as many operands as the opcode takes.
use Rattle.std.proofs.Common.{is_some, OnOk, ◌≡◌, ◌∙◌, ◌≤◌, List, ap, sym, subst, length, arith}
use Rattle.inf_opcode.specs.declared.opcodes.OpcodeRow.{OpcodeRow}
use Rattle.inf_output.specs.{Output.Out, Output.Takes, Output.instruction, declared.operands.Simple.Simple}
use Rattle.inf_templates.specs.{Parts.operands, Tasks.parts_of}
use Rattle.inf_templates.proofs.Given.{operands_all, operands_len}
use Rattle.inf_templates.proofs.templates.lay_instruction.Goals as goal

pub instruct-requires : goal.instruct-requires
instruct-requires g c =
    let nodes = c.args.nodes.now in let arguments = c.args.arguments.now in
    let few : length arguments ≤ c.from.result =
    omega (arith, c.requires.few, c.from.ensures, ap (λ (r : OpcodeRow). r.most) c.row.ensures.exact) in
    let all = c.deref.ensures.0 ∙ operands_all g.B.Bounds.most nodes c.from.result arguments c.operands-operands.result.items
    c.operands-operands.ensures few in
    subst (λ n. Takes c.args.opcode n (is_some c.args.store) (is_some c.args.branch))
    (sym (ap length all ∙ operands_len g.B.Bounds.most nodes arguments)) c.requires

pub returns : goal.returns
returns g c =
    let nodes = c.args.nodes.now in let arguments = c.args.arguments.now in
    let few : length arguments ≤ c.from.result =
    omega (arith, c.requires.few, c.from.ensures, ap (λ (r : OpcodeRow). r.most) c.row.ensures.exact) in
    let all = c.deref.ensures.0 ∙ operands_all g.B.Bounds.most nodes c.from.result arguments c.operands-operands.result.items
    c.operands-operands.ensures few in
    let Gives : List Simple → Out → Type 0 =
    λ given o. OnOk c.instruct.result (c.instruct.new.self ≡ instruction g.B.Bounds.most c.args.opcode given c.args.store c.args.branch o)
    in
    subst (Gives (operands (parts_of g.B.Bounds.most nodes arguments))) c.in_ok-evaluate_all.ensures
    (subst (λ given. Gives given c.evaluate_all.new.out) all c.instruct.ensures)

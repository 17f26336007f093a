use Rattle.std.proofs.Common.{rules, ◌≡◌, OnOk, subst}
use Rattle.inf_output.specs.Output.{Code}
use Rattle.inf_statements.proofs.Firsts.{first_string}
use Rattle.inf_statements.proofs.statements.set_string.Goals as goal

pub returns-in-Some : goal.returns-in-Some
returns-in-Some g c = subst (λ (code : Code). OnOk c.lay_instruction.result (c.lay_instruction.new.out ≡ code c.args.out.now))
    (first_string g.B.Bounds.most c.args.low c.args.nodes.now c.args.roots.now c.in-Some.root.now (search rules)) c.lay_instruction.ensures

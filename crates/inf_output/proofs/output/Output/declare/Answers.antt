-- Where memory lacks, nothing is wrong with the name.
use Rattle.std.proofs.Common.{sym, ◌∙◌, ap}
use Rattle.inf_names.specs.Symbols.{declare_fault, found_in, is_full}
use Rattle.inf_names.proofs.Putting.{fit_where_memory}
use Rattle.inf_output.specs.Output.{Out}
use Rattle.inf_output.proofs.output.Output.declare.Goals as goal

pub returns-in-Err-Memory-clause-memory : goal.returns-in-Err-Memory-clause-memory
returns-in-Err-Memory-clause-memory g c =
    let names = c.self.inside.names in let name = c.args.name.now in
    ap (λ (o : Out). declare_fault g.B.Bounds.most name o.names) (sym c.self.view_is)
    ∙ fit_where_memory (found_in name names) (is_full g.B.Bounds.most names)
    (sym c.in-Err-Memory.field-0-is ∙ c.in-Err-Memory.ensures.fault)

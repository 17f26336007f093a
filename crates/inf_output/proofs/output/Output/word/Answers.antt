-- Where memory lacks, nothing is wrong with the use.
use Rattle.std.proofs.Common.{sym, ◌∙◌, ap}
use Rattle.inf_dictionary.specs.Words.{add_fault, word_of}
use Rattle.inf_dictionary.proofs.Faults.{fit_where_memory}
use Rattle.inf_output.specs.{Output.Out, declared.output.Output.TheInside.Inside}
use Rattle.inf_output.proofs.output.Output.word.Goals as goal

pub returns-in-Err-Memory-clause-memory : goal.returns-in-Err-Memory-clause-memory
returns-in-Err-Memory-clause-memory g c =
    let words = c.self-inside.inside.0.1.1.0.dictionary in let how = c.args.word_use in
    ap (λ (o : Out). add_fault g.B.Bounds.most (word_of c.args.text o.tables.dictionary.list) how o.tables.dictionary) (sym c.self.view_is)
    ∙ ap (λ (o : Inside g.row.B.Denot). add_fault g.B.Bounds.most (word_of c.args.text o.tables.dictionary.list) how o.tables.dictionary)
    (sym c.self-inside.view_is) ∙ fit_where_memory g.B.Bounds.most (word_of c.args.text words.list) how words
    (sym c.in-Err-Memory.field-0-is ∙ c.in-Err-Memory.ensures.fault)

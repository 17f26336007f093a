use Rattle.std.proofs.Common.{ap, ◌∙◌}
use Rattle.inf_lexer.proofs.Reading.{fault_is, reads_refused}
use Rattle.inf_sources.specs.Open.{Open}
use Rattle.inf_sources.proofs.{Calls.reads_file, Nestings.reads_head_on}
use Rattle.inf_sources.proofs.open_files.OpenFiles.next_head_word.Goals as goal

pub returns-clause-word : goal.returns-clause-word
returns-clause-word g c =
    let next = c.in_ok-is_word.ensures in
    let on = next.went (ap (λ (o : Open). o.lexer.has_failed) c.self.view_is ∙ c.requires.goes) in
    rw (← c.self.view_is) (λ honest start n.
    reads_head_on on next.same.0 honest n c.in_ok-is_word.is_word c.next_head_word.new.place c.args.place.now
    c.next_head_word.new.word.items (next.word honest))

pub returns-clause-reads : goal.returns-clause-reads
returns-clause-reads g c =
    let next = c.in_ok-is_word.ensures in
    rw (← c.self.view_is) (reads_file (next.went (ap (λ (o : Open). o.lexer.has_failed) c.self.view_is ∙ c.requires.goes)) next.same.0.file)

pub returns-in_err-is_word-clause-reads : goal.returns-in_err-is_word-clause-reads
returns-in_err-is_word-clause-reads g c =
    let next = c.in_err-is_word.ensures in
    rw (← c.self.view_is) (reads_file (reads_refused (fault_is c.from_residual.result c.from_residual.ensures)
    (next.went (ap (λ (o : Open). o.lexer.has_failed) c.self.view_is ∙ c.requires.goes))) next.same.0.file)

pub returns-in_err-is_word-clause-took : goal.returns-in_err-is_word-clause-took
returns-in_err-is_word-clause-took g c = rw (fault_is c.from_residual.result c.from_residual.ensures) c.in_err-is_word.ensures.took

pub returns-in_err-is_word-clause-refused : goal.returns-in_err-is_word-clause-refused
returns-in_err-is_word-clause-refused g c =
    let refused = c.in_err-is_word.ensures.refused in
    rw (← c.self.view_is, fault_is c.from_residual.result c.from_residual.ensures) (
      refused.0,
      λ honest start not. refused.1 honest (ap (λ (o : Open). o.lexer.has_failed) c.self.view_is ∙ c.requires.goes) not,
    )

use Rattle.std.proofs.Common.{ap, ◌∙◌}
use Rattle.inf_lexer.proofs.Reading.{fault_is, reads_refused}
use Rattle.inf_sources.specs.Open.{Open}
use Rattle.inf_sources.proofs.{Calls.reads_file, Nestings.reads_on, Quoted.heard_few}
use Rattle.inf_sources.proofs.open_files.OpenFiles.next.Goals as goal

pub returns-clause-token : goal.returns-clause-token
returns-clause-token g c =
    let next = c.in_ok-token.ensures in
    let on = next.went (ap (λ (o : Open). o.lexer.has_failed) c.self.view_is ∙ c.requires.goes) in
    rw (← c.self.view_is) (λ honest start n. reads_on on next.same honest n c.in_ok-token.token (next.token honest) next.took.1)

pub returns-clause-reads : goal.returns-clause-reads
returns-clause-reads g c =
    let next = c.in_ok-token.ensures in
    rw (← c.self.view_is) (reads_file (next.went (ap (λ (o : Open). o.lexer.has_failed) c.self.view_is ∙ c.requires.goes)) next.same.file)

pub returns-clause-took : goal.returns-clause-took
returns-clause-took g c =
    let before = c.self.inside.lexer in
    rw (← c.self.view_is) (
      c.in_ok-token.ensures.took.0,
      heard_few before.set before.limit before.lines c.in_ok-token.token c.next.new.self c.self.invariant.1.1.0 c.in_ok-token.ensures.heard,
    )

pub returns-in_err-token-clause-reads : goal.returns-in_err-token-clause-reads
returns-in_err-token-clause-reads g c =
    let next = c.in_err-token.ensures in
    rw (← c.self.view_is) (reads_file (reads_refused (fault_is c.from_residual.result c.from_residual.ensures)
    (next.went (ap (λ (o : Open). o.lexer.has_failed) c.self.view_is ∙ c.requires.goes))) next.same.file)

pub returns-in_err-token-clause-refused : goal.returns-in_err-token-clause-refused
returns-in_err-token-clause-refused g c = λ honest start. rw (← c.self.view_is, fault_is c.from_residual.result c.from_residual.ensures)
    (c.in_err-token.ensures.refused honest (ap (λ (o : Open). o.lexer.has_failed) c.self.view_is ∙ c.requires.goes))

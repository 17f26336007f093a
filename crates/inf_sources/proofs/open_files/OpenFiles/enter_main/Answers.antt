use Rattle.std.proofs.Common.{length, ap, ◌∙◌, arith}
use Rattle.std.proofs.Math.Path.{subst⁻¹}
use Rattle.inf_lexer.specs.{Entering.AreOpened, Names.Nest, Names.number_of, Readers.at_front}
use Rattle.inf_lexer.proofs.{Opened.none_opened, Reading.fault_is}
use Rattle.inf_sources.proofs.Including.{main_cause, main_entered, main_refused, same_fault}
use Rattle.inf_sources.proofs.open_files.OpenFiles.enter_main.Goals as goal

pub returns-clause-front : goal.returns-clause-front
returns-clause-front g c =
    let t = c.in_ok-lexer.ensures.attempt in
    let opened = g.F.Files.opened c.args.files.now in (
      t.entered.is_entered.1 ∙ ap (λ (n : Nest). at_front n.set n.limit (number_of t.entered.name n.names)) c.new-names.ensures,
      (c.new.ensures.items, t.opened.opened (subst⁻¹ (λ (n : Nest). AreOpened n.names opened) c.new-names.ensures (none_opened opened))),
    )

pub returns-clause-entered : goal.returns-clause-entered
returns-clause-entered g c = λ honest. main_entered c.new-names.ensures c.new.ensures.items c.in_ok-lexer.ensures.attempt.entered honest

pub returns-clause-tries : goal.returns-clause-tries
returns-clause-tries g c = c.in_ok-lexer.ensures.attempt.tries

pub returns-clause-kept : goal.returns-clause-kept
returns-clause-kept g c =
    let t = c.in_ok-lexer.ensures.attempt in
    record { sources = t.tries.sources; honesty = t.tries.honesty; faults = t.tries.faults; opened = t.opened.stays }

pub returns-in_err-lexer-clause-entered : goal.returns-in_err-lexer-clause-entered
returns-in_err-lexer-clause-entered g c = rw (fault_is c.from_residual.result c.from_residual.ensures) (λ honest. tt)

pub returns-in_err-lexer-clause-refused : goal.returns-in_err-lexer-clause-refused
returns-in_err-lexer-clause-refused g c = rw (fault_is c.from_residual.result c.from_residual.ensures)
    (λ honest. main_refused (g.F.Files.sources c.args.files.now) c.args.name.now c.new-names.ensures
    (c.in_err-lexer.ensures.attempt.leaves honest))

pub returns-in_err-lexer-clause-tries : goal.returns-in_err-lexer-clause-tries
returns-in_err-lexer-clause-tries g c = rw (fault_is c.from_residual.result c.from_residual.ensures) c.in_err-lexer.ensures.attempt.tries

pub returns-in_err-lexer-clause-kept : goal.returns-in_err-lexer-clause-kept
returns-in_err-lexer-clause-kept g c =
    let t = c.in_err-lexer.ensures.attempt in
    record { sources = t.tries.sources; honesty = t.tries.honesty; faults = t.tries.faults; opened = t.opened.stays }

pub returns-in_err-lexer-clause-cause : goal.returns-in_err-lexer-clause-cause
returns-in_err-lexer-clause-cause g c =
    let told = fault_is c.from_residual.result c.from_residual.ensures in
    let e = c.in_err-lexer.ensures in (
      λ deep. absurd (omega (
        arith,
        e.full (same_fault c.from_residual.result told deep),
        ap (λ (n : Nest). length n.open_files) c.new-names.ensures,
      )),
      λ device. main_cause c.new-names.ensures (e.attempt.cause (same_fault c.from_residual.result told device)),
    )

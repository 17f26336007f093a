use Rattle.std.proofs.Common.{Bor, List, ℕ, map, refl, sym, ap, ◌∙◌}
use Rattle.std.proofs.lemmas.List.{take_all}
use Rattle.inf_lexer.specs.{Entering.is_absent, Names.name_in, declared.enter_faults.EnterFault.EnterFault}
use Rattle.inf_lexer.proofs.{Attempts.attempt_as, Attempts.attempt_decides, Attempts.attempt_first, Attempts.attempt_none}
use Rattle.inf_lexer.proofs.{Attempts.attempt_passes, Attempts.names_at, Attempts.names_to, Reading.fault_is}
use Rattle.inf_lexer.proofs.stack.Stack.open_first.Goals as goal

pub loop-directory-init : goal.loop-directory-init
loop-directory-init g c = attempt_first

pub loop-directory-preserved : goal.loop-directory-preserved
loop-directory-preserved g c =
    let f = λ (d : Bor (List ℕ)). name_in d.now c.args.file.now in
    attempt_as (names_to f c.args.directories.now c.loop-directory.directory-index _ c.loop-directory-test.true (sym c.in_ok-name.ensures))
    (attempt_passes c.open_named-answer.result c.loop-directory.invariant c.open_named-answer.ensures.attempt
    (sym c.is_absent.ensures ∙ c.if-not-is_absent.false))

pub returns-in_err-name-clause-attempt : goal.returns-in_err-name-clause-attempt
returns-in_err-name-clause-attempt g c =
    let f = λ (d : Bor (List ℕ)). name_in d.now c.args.file.now in
    let told = fault_is c.from_residual.result c.from_residual.ensures in
    attempt_as (names_at f c.args.directories.now c.loop-directory.directory-index c.args.file c.loop-directory-test.true refl)
    (attempt_decides _ c.from_residual.result c.loop-directory.invariant (attempt_none EnterFault.Memory told refl refl refl)
    (ap is_absent told))

pub returns-then-not-is_absent-clause-attempt : goal.returns-then-not-is_absent-clause-attempt
returns-then-not-is_absent-clause-attempt g c =
    let f = λ (d : Bor (List ℕ)). name_in d.now c.args.file.now in
    attempt_as (names_at f c.args.directories.now c.loop-directory.directory-index _ c.loop-directory-test.true (sym c.in_ok-name.ensures))
    (attempt_decides _ c.open_named-answer.result c.loop-directory.invariant c.open_named-answer.ensures.attempt
    (sym c.is_absent.ensures ∙ c.if-not-is_absent.true))

pub returns-clause-attempt : goal.returns-clause-attempt
returns-clause-attempt g c = attempt_as (ap (map (λ (d : Bor (List ℕ)). name_in d.now c.args.file.now))
    (sym (take_all c.loop-directory.directory-index c.args.directories.now c.loop-directory-test.false))) c.loop-directory.invariant

use Rattle.std.proofs.Common.{◌∷◌, [], length, map, refl, ap, sym, ◌∙◌}
use Rattle.std.proofs.lemmas.Bool.{leb-false}
use Rattle.inf_lexer.specs.{Entering.is_of_opening, Names.innermost_name, Names.name_beside, declared.enter_faults.EnterFault.EnterFault}
use Rattle.inf_lexer.proofs.{Attempts.attempt_as, Attempts.attempt_none, Attempts.declines_none, Candidates.can_be, Candidates.fit_is}
use Rattle.inf_lexer.proofs.{Candidates.name_alone, Candidates.names_listed, Candidates.names_none, Reading.fault_is}
use Rattle.inf_lexer.proofs.stack.Stack.enter.Goals as goal

pub returns-in_default-clause-attempt : goal.returns-in_default-clause-attempt
returns-in_default-clause-attempt g c = attempt_none EnterFault.BadName refl refl refl refl

pub returns-then-is_full-clause-attempt : goal.returns-then-is_full-clause-attempt
returns-then-is_full-clause-attempt g c = attempt_none EnterFault.TooDeep refl refl refl refl

pub returns-in_err-name-clause-attempt : goal.returns-in_err-name-clause-attempt
returns-in_err-name-clause-attempt g c =
    attempt_none EnterFault.Memory (fault_is c.from_residual.result c.from_residual.ensures) refl refl refl

pub returns-then-is_beside-clause-attempt : goal.returns-then-is_beside-clause-attempt
returns-then-is_beside-clause-attempt g c =
    let file = fit_is _ _ _ c.in-Some.ensures ∙ c.without_sign-is_beside.ensures.name in
    attempt_as (name_alone (map (λ d. d.now) c.args.directories.now) (innermost_name c.args.self.now) c.args.text.now c.in-Some.file.now
    (sym c.without_sign-is_beside.ensures.sign ∙ c.if-is_beside.true) file
    ∙ ap (λ n. n ∷ []) (ap (λ i. name_beside i c.in-Some.file.now) (sym c.innermost.ensures) ∙ sym c.in_ok-name.ensures))
    c.open_named.ensures.attempt

pub returns-then-is_empty-clause-attempt : goal.returns-then-is_empty-clause-attempt
returns-then-is_empty-clause-attempt g c =
    let file = fit_is _ _ _ c.in-Some.ensures ∙ c.without_sign-is_beside.ensures.name in
    attempt_as (names_none c.args.directories.now (innermost_name c.args.self.now) c.args.text.now c.in-Some.file.now
    (sym c.without_sign-is_beside.ensures.sign ∙ c.if-is_beside.false) file (sym c.if-is_empty.ensures)
    ∙ ap (λ n. n ∷ []) (sym c.in_ok-name-2.ensures)) c.open_named-then-is_empty.ensures.attempt

pub returns-clause-attempt : goal.returns-clause-attempt
returns-clause-attempt g c =
    let file = fit_is _ _ _ c.in-Some.ensures ∙ c.without_sign-is_beside.ensures.name in
    attempt_as (sym (names_listed c.args.directories.now (innermost_name c.args.self.now) c.args.text.now c.in-Some.file.now
    (sym c.without_sign-is_beside.ensures.sign ∙ c.if-is_beside.false) file (sym c.if-is_empty.ensures))) c.open_first.ensures.attempt

pub returns-in_err-name-clause-declines : goal.returns-in_err-name-clause-declines
returns-in_err-name-clause-declines g c =
    declines_none _ c.from_residual.result (ap is_of_opening (fault_is c.from_residual.result c.from_residual.ensures))
    (can_be _ _ _ c.args.text.now c.in-Some.ensures refl c.without_sign-is_beside.ensures.name)
    (leb-false 16 (length c.args.self.now.open_files) (sym c.is_full.ensures ∙ c.if-is_full.false))

pub returns-then-is_beside-clause-declines : goal.returns-then-is_beside-clause-declines
returns-then-is_beside-clause-declines g c = declines_none _ c.open_named.result c.open_named.ensures.named
    (can_be _ _ _ c.args.text.now c.in-Some.ensures refl c.without_sign-is_beside.ensures.name)
    (leb-false 16 (length c.args.self.now.open_files) (sym c.is_full.ensures ∙ c.if-is_full.false))

pub returns-then-is_empty-clause-declines : goal.returns-then-is_empty-clause-declines
returns-then-is_empty-clause-declines g c = declines_none _ c.open_named-then-is_empty.result c.open_named-then-is_empty.ensures.named
    (can_be _ _ _ c.args.text.now c.in-Some.ensures refl c.without_sign-is_beside.ensures.name)
    (leb-false 16 (length c.args.self.now.open_files) (sym c.is_full.ensures ∙ c.if-is_full.false))

pub returns-clause-declines : goal.returns-clause-declines
returns-clause-declines g c = declines_none _ c.open_first.result c.open_first.ensures.named
    (can_be _ _ _ c.args.text.now c.in-Some.ensures refl c.without_sign-is_beside.ensures.name)
    (leb-false 16 (length c.args.self.now.open_files) (sym c.is_full.ensures ∙ c.if-is_full.false))

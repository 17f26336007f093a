use Rattle.std.proofs.Common.{◌∷◌, [], refl, ap, sym}
use Rattle.inf_lexer.specs.declared.enter_faults.EnterFault.{EnterFault}
use Rattle.inf_lexer.proofs.{Attempts.attempt_as, Attempts.attempt_none, Reading.fault_is}
use Rattle.inf_lexer.proofs.stack.Stack.enter_main.Goals as goal

pub returns-then-is_empty-clause-attempt : goal.returns-then-is_empty-clause-attempt
returns-then-is_empty-clause-attempt g c = attempt_none EnterFault.BadName refl refl refl refl

pub returns-then-is_full-clause-attempt : goal.returns-then-is_full-clause-attempt
returns-then-is_full-clause-attempt g c = attempt_none EnterFault.TooDeep refl refl refl refl

pub returns-in_err-name-clause-attempt : goal.returns-in_err-name-clause-attempt
returns-in_err-name-clause-attempt g c =
    attempt_none EnterFault.Memory (fault_is c.from_residual.result c.from_residual.ensures) refl refl refl

pub returns-clause-attempt : goal.returns-clause-attempt
returns-clause-attempt g c = attempt_as (ap (λ n. n ∷ []) (sym c.in_ok-name.ensures.ok)) c.open_named.ensures.attempt

use Rattle.std.proofs.Common.{true, refl, sym, ap, ◌∙◌}
use Rattle.std.specs.List.{prefix_len}
use Rattle.inf_scanner.specs.{Runs.stays, declared.scanner.State.State}
use Rattle.inf_scanner.proofs.Runs.{no_run}
use Rattle.inf_scanner.proofs.scanner.run_len.Goals as goal

pub returns-in-Mark : goal.returns-in-Mark
returns-in-Mark c =
    sym (ap (λ (s : State). prefix_len (stays s) c.args.bytes.now) c.in-Mark.is ∙ no_run (stays (State.Mark c.in-Mark.field-0)) (λ b. refl)
    c.args.bytes.now)

pub returns-in-Quote-true : goal.returns-in-Quote-true
returns-in-Quote-true c = sym (ap (λ (s : State). prefix_len (stays s) c.args.bytes.now)
    (c.in-Quote-true.is ∙ ap (λ t. State.Quote t) c.in-Quote-true.field-0-test)
    ∙ no_run (stays (State.Quote true)) (λ b. refl) c.args.bytes.now)

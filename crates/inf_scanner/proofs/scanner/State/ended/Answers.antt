use Rattle.std.proofs.Common.{ap, sym, ◌∙◌}
use Rattle.inf_scanner.specs.Scanning.{find}
use Rattle.inf_scanner.proofs.Runs.{found_mark}
use Rattle.inf_scanner.proofs.scanner.State.ended.Goals as goal

pub returns-in-Mark-clause-found : goal.returns-in-Mark-clause-found
returns-in-Mark-clause-found c = λ set limit seen rest.
    found_mark set limit c.in-Mark.mark seen rest (c.is_whole.ensures.none c.if-is_whole.true)
    ∙ ap (λ s. find set limit s seen rest) (sym c.in-Mark.is)

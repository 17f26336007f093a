use Rattle.std.proofs.Common.{◌<◌, ◌+◌, List, ℕ, Option, drop, length, sym, ap, ◌∙◌, arith}
use Rattle.inf_constructs.specs.Labels.{missing}
use Rattle.inf_constructs.proofs.Named.{missing_step, or_else}
use Rattle.inf_constructs.proofs.labels.Labels.missing.Goals as goal

pub returns-in-Some : goal.returns-in-Some
returns-in-Some c =
    let labels = c.args.self.now in let place = c.loop-place.place in let rest = missing (drop (place + 1) labels) in
    let within : place < length labels = omega (arith, c.loop-place-test.true, c.len-place-end.ensures) in
    ap (λ (f : Option (List ℕ)). or_else f rest) c.in-Some.ensures ∙ sym (missing_step labels place within) ∙ c.loop-place.invariant

pub loop-place-preserved : goal.loop-place-preserved
loop-place-preserved c =
    let labels = c.args.self.now in let place = c.loop-place.place in let rest = missing (drop (place + 1) labels) in
    let within : place < length labels = omega (arith, c.loop-place-test.true, c.len-place-end.ensures) in
    ap (λ (f : Option (List ℕ)). or_else f rest) c.in_default.ensures ∙ sym (missing_step labels place within) ∙ c.loop-place.invariant

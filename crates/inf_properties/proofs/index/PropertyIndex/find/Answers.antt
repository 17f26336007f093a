use Rattle.std.proofs.Common.{ap, ◌∙◌}
use Rattle.inf_properties.specs.Properties.{found}
use Rattle.inf_properties.proofs.Having.{found_number, found_short}
use Rattle.inf_properties.proofs.index.PropertyIndex.find.Goals as goal

pub returns-clause-number : goal.returns-clause-number
returns-clause-number c = found_number (λ p. p.now) c.find.result c.args.number c.args.properties.now
    (c.find.ensures ∙ ap (found c.args.number) c.as_slice.ensures.value) c.as_slice.ensures.short

pub returns-clause-short : goal.returns-clause-short
returns-clause-short c = found_short (λ p. p.now) c.find.result c.args.number c.args.properties.now
    (c.find.ensures ∙ ap (found c.args.number) c.as_slice.ensures.value) c.as_slice.ensures.short

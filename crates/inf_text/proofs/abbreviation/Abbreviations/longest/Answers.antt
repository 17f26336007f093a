use Rattle.inf_text.proofs.Searching.{longest-few}
use Rattle.inf_text.proofs.abbreviation.Abbreviations.longest.Goals as goal

pub returns-clause-fits : goal.returns-clause-fits
returns-clause-fits c =
    rw (c.longest.ensures, c.deref.ensures.value) (longest-few c.self.inside.texts.items c.args.items.now c.self.invariant.declared.few)

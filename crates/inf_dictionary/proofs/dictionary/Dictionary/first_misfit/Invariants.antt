use Rattle.std.proofs.Common.{◌≡◌, drop, []}
use Rattle.inf_dictionary.specs.Words.{first_misfit}
use Rattle.inf_dictionary.proofs.dictionary.Dictionary.first_misfit.Given as goal

abbrev pub invariant-loop-text : goal.invariant-loop-text
invariant-loop-text g l = (first_misfit l.self.list l.place l.before.entries (drop l.text-index l.texts) ≡ first_misfit l.self.list 0 []
    l.texts) × (l.place ≡ l.text-index)

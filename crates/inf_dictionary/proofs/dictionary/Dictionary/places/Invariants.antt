use Rattle.std.proofs.Common.{◌≡◌, ◌++◌}
use Rattle.inf_dictionary.specs.Texts.{texts_of}
use Rattle.inf_dictionary.proofs.dictionary.Dictionary.places.Given as goal

abbrev pub invariant-loop-text : goal.invariant-loop-text
invariant-loop-text g l = l.texts.items ++ texts_of l.text-iterator ≡ texts_of l.self.list

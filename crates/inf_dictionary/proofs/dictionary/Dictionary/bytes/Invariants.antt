use Rattle.std.proofs.Common.{◌≡◌, ◌++◌}
use Rattle.inf_dictionary.specs.Words.{dictionary_bytes, entries_bytes}
use Rattle.inf_dictionary.proofs.dictionary.Dictionary.bytes.Given as goal

abbrev pub invariant-loop-text : goal.invariant-loop-text
invariant-loop-text g l = l.bytes.items ++ entries_bytes l.text-iterator ≡ dictionary_bytes l.self.list

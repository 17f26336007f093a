use Rattle.std.proofs.Common.{◌≡◌, drop, false}
use Rattle.inf_compilation.specs.Crowds.{are_in_memory}
use Rattle.inf_compilation.proofs.crowds.are_in_memory.Given as goal

-- the symbols that are left decide with those so far as all symbols do
abbrev pub invariant-loop-symbol : goal.invariant-loop-symbol
invariant-loop-symbol l = are_in_memory (drop l.symbol-index l.symbols) l.found ≡ are_in_memory l.symbols false

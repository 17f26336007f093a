use Rattle.std.proofs.Common.{◌≡◌, drop, true}
use Rattle.inf_compilation.specs.Crowds.{are_plain}
use Rattle.inf_compilation.proofs.crowds.are_plain.Given as goal

-- the symbols that are left decide with those so far as all symbols do
abbrev pub invariant-loop-symbol : goal.invariant-loop-symbol
invariant-loop-symbol l = are_plain l.in_memory (drop l.symbol-index l.symbols) l.plain ≡ are_plain l.in_memory l.symbols true

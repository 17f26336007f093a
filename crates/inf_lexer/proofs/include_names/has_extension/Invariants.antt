use Rattle.std.proofs.Common.{◌≡◌, drop, false}
use Rattle.inf_lexer.specs.Names.{has_dot}
use Rattle.inf_lexer.proofs.include_names.has_extension.Given as goal

-- the rest of the name goes on from here as the whole name does from the start
abbrev pub invariant-loop-byte : goal.invariant-loop-byte
invariant-loop-byte l = has_dot l.dot (drop l.byte-index l.name) ≡ has_dot false l.name

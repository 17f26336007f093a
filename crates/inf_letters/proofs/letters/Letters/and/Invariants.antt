use Rattle.std.proofs.Common.{◌≡◌, length}
use Rattle.inf_letters.specs.Letters.{with_letters}
use Rattle.inf_letters.proofs.letters.Letters.and.Given as goal

-- the letters that are left, behind the choices so far, give the choices of all letters
abbrev pub invariant-loop-first : goal.invariant-loop-first
invariant-loop-first l = with_letters l.rest l.spoken ≡ with_letters l.letters l.fn.self

abbrev pub decreases-loop-first : goal.decreases-loop-first
decreases-loop-first l = length l.rest

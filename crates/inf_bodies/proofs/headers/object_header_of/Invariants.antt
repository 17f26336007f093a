use Rattle.std.proofs.Common.{◌≡◌, drop}
use Rattle.inf_bodies.specs.Objects.{header_from, object_header_of}
use Rattle.inf_bodies.proofs.headers.object_header_of.Given as goal

-- the header so far, with the tokens that are left, is the header of all
abbrev pub invariant-loop-at : goal.invariant-loop-at
invariant-loop-at l = header_from l.word l.at (drop l.at l.tokens) l.header ≡ object_header_of l.word l.tokens

use Rattle.std.proofs.Common.{◌≡◌, drop}
use Rattle.inf_link.specs.{Areas.contents, Filling.filled, Targets.lookup, Targets.number_of}
use Rattle.inf_link.proofs.areas.Areas.fill_all.Given as goal

-- the areas that are filled so far lead, with the fixups that are left, to those where all are filled
abbrev pub invariant-loop-fixup : goal.invariant-loop-fixup
invariant-loop-fixup g l =
    let number = number_of (lookup l.targets) l.scale l.bases in
    filled number (drop l.fixup-index l.fixups) (contents g.A.Area.bytes l.self) ≡ filled number l.fixups
    (contents g.A.Area.bytes l.fn.self)

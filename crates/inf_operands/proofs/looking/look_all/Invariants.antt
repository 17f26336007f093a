use Rattle.std.proofs.Common.{◌≡◌, [], false, length, true}
use Rattle.inf_characters.specs.declared.characters.CharSet.{CharSet}
use Rattle.inf_names.specs.{LocalList.listed, Symbols.no_names}
use Rattle.inf_settings.specs.Bounds.{Limits}
use Rattle.inf_operands.specs.Operands.{looked_from, settled}
use Rattle.inf_operands.proofs.looking.look_all.Given as goal

-- The operands so far, and then those of the leaves that are left, are those of all; and while all leaves stay, their use goes on from
-- the operands so far.
abbrev pub invariant-loop-leaf : goal.invariant-loop-leaf
invariant-loop-leaf g l = record {
  looked : looked_from (listed l.locals) l.out l.tokens l.left (no_names false) l.operands.items
      ≡ looked_from (listed l.locals) l.out l.tokens l.leaves (no_names false) [];
  stay : l.stay ≡ true → (limits : Limits) (set : CharSet) →
      settled limits set (listed l.locals) l.tokens l.left (record { out = l.out; operands = l.operands.items })
      ≡ settled limits set (listed l.locals) l.tokens l.leaves (record { out = l.out; operands = [] });
}

abbrev pub decreases-loop-leaf : goal.decreases-loop-leaf
decreases-loop-leaf g l = length l.left

use Rattle.std.proofs.Common.{◌≡◌, ◌≤◌, take, drop, length}
use Rattle.inf_assembler.specs.Closing.{found, squeezed, AreInOrder}
use Rattle.inf_assembler.proofs.closing.squeeze.Given as goal

-- the entries that are left lead from the bytes so far to those of all
abbrev pub invariant-loop-entry : goal.invariant-loop-entry
invariant-loop-entry g l =
    let old = g.A.Area.bytes l.fn.area in let bytes = g.A.Area.bytes l.area in let left = drop l.entry-index l.kept in
    record {
      ordered : l.to ≤ l.from;
      behind : l.start ≤ l.to;
      order : AreInOrder l.from left (length old);
      long : length bytes ≡ length old;
      before : take l.start bytes ≡ take l.start old;
      left : squeezed (found l.long) (found l.places) l.from l.to left bytes ≡ squeezed (found l.long) (found l.places) l.start l.start
          l.kept old;
    }

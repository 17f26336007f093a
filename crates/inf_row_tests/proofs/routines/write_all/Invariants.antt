-- The items so far are behind all that was there before.
use Rattle.inf_assembler.specs.Routines.{IsOpen, Were, contents_of, moment_of}
use Rattle.inf_row_tests.proofs.routines.write_all.Given as goal

abbrev pub invariant-loop-item : goal.invariant-loop-item
invariant-loop-item g l =
    let before = contents_of l.fn.routine (g.A.Area.bytes l.fn.area) in
    record {
      open_still : IsOpen l.routine (g.A.Area.bytes l.area);
      behind : Were before (moment_of before) (contents_of l.routine (g.A.Area.bytes l.area));
    }

-- A sink that failed took a front of the lines that is not all.
use Rattle.std.proofs.Common.{take, drop, refl, sym, length-drop, arith}
use Rattle.std.proofs.lemmas.List.{take-append-drop}
use Rattle.inf_unit.proofs.messages.write_lines.Goals as goal

pub returns-in-Err : goal.returns-in-Err
returns-in-Err g c =
    let lines = c.args.lines.now in
    let n = c.in-Err._count in (
      record {
        front = take n lines;
        rest = drop n lines;
        is_cut = sym (take-append-drop n lines);
        is_short = omega (arith, length-drop n lines, c.in-Err.ensures.short);
        takes = c.in-Err.ensures.part;
      },
      c.in-Err.ensures.failures,
      c.in-Err.ensures.failed refl,
    )

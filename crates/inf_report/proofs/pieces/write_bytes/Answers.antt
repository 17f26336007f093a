use Rattle.std.proofs.Common.{take, drop, refl, sym, length-drop, arith}
use Rattle.std.proofs.lemmas.List.{take-append-drop}
use Rattle.inf_report.proofs.pieces.write_bytes.Goals as goal

pub returns-in-Err : goal.returns-in-Err
returns-in-Err g c =
    let bytes = c.args.bytes.now in
    let n = c.in-Err._count in (
      record {
        front = take n bytes;
        rest = drop n bytes;
        is_cut = sym (take-append-drop n bytes);
        is_short = omega (arith, length-drop n bytes, c.in-Err.ensures.short);
        takes = c.in-Err.ensures.part;
      },
      c.in-Err.ensures.failures,
      c.in-Err.ensures.failed refl,
    )

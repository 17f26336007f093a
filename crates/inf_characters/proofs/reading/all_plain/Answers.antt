use Rattle.std.proofs.{lemmas.List.Folds.list_all_more}
use Rattle.std.proofs.Common.{sym}
use Rattle.inf_characters.specs.Reading.{is_plain}
use Rattle.inf_characters.proofs.reading.all_plain.Goals as goal

pub loop-byte-preserved : goal.loop-byte-preserved
loop-byte-preserved c =
    rw (c.loop-byte.invariant, c.is_plain-plain.ensures) (sym (list_all_more is_plain c.args.bytes.now c.loop-byte.byte-index 0 c.loop-byte-test.true))

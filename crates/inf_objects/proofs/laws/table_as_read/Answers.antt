use Rattle.std.proofs.Common.{◌≡◌, length, true, ap, arith}
use Rattle.inf_properties.specs.Sizes.{are_short}
use Rattle.inf_objects.specs.Tables.{all_falling, falling, rows_of}
use Rattle.inf_objects.proofs.Interpreting.{falling_below, falling_rows, found_falling, short_rows, table_is_read}
use Rattle.inf_objects.proofs.laws.table_as_read.Goals as goal

pub returns-clause-read : goal.returns-clause-read
unfolding all_falling
returns-clause-read c =
    let o = c.args.object.now in let part = c.args.part in
    let short : are_short (rows_of part o) ≡ true = short_rows o.owner part o
    (omega (arith, c.as_slice-classes.ensures.few, ap length c.as_slice-classes.ensures.value)) c.as_slice-properties.ensures.short in
    λ number_of rest. table_is_read number_of o.name c.args.words (falling 64 (rows_of part o)) rest c.requires.name c.requires.few
    (falling_rows 64 (rows_of part o) (omega arith) short)

pub returns-clause-falling : goal.returns-clause-falling
unfolding all_falling
returns-clause-falling c = falling_below 64 (rows_of c.args.part c.args.object.now)

pub returns-clause-same : goal.returns-clause-same
unfolding all_falling
returns-clause-same c = λ number h. found_falling number 64 (rows_of c.args.part c.args.object.now) h

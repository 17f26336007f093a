use Rattle.inf_arrays.proofs.Sizes.{laters_written, size_written}
use Rattle.inf_arrays.specs.Arrays.{all_of}
use Rattle.inf_arrays.proofs.laws.written_arrays.Goals as goal

pub returns-clause-size : goal.returns-clause-size
returns-clause-size g c = size_written (all_of c.args.arrays.now)

pub returns-clause-laters : goal.returns-clause-laters
returns-clause-laters g c = laters_written (all_of c.args.arrays.now)

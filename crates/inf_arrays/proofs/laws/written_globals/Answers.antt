use Rattle.std.proofs.Common.{arith, ◌≤◌, length}
use Rattle.inf_arrays.proofs.Sizes.{globals_later, globals_size}
use Rattle.inf_arrays.proofs.laws.written_globals.Goals as goal

pub returns-clause-size : goal.returns-clause-size
returns-clause-size c =
    let few : length c.args.globals.now ≤ 235 = omega (arith, c.len-count.ensures.value, c.len-count.ensures.limited) in
    globals_size c.args.globals.now few

pub returns-clause-laters : goal.returns-clause-laters
returns-clause-laters c = globals_later c.args.globals.now

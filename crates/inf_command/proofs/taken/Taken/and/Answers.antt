use Rattle.std.proofs.Common.{◌≡◌, get_or, arith}
use Rattle.std.proofs.lemmas.Str.{IsCharBoundary-after_ascii}
use Rattle.inf_command.proofs.taken.Taken.and.Goals as goal

pub range_from-requires : goal.range_from-requires
range_from-requires c = λ some.
    let word = c.args.word.now in let first : get_or word 0 0 ≡ 43 = grind arith in
    IsCharBoundary-after_ascii word 0 c.utf8.word (omega arith) (omega arith)

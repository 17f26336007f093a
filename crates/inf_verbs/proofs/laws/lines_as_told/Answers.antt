use Rattle.std.proofs.Common.{[]}
use Rattle.inf_verbs.proofs.Sizes.{told_first, told_last, told_replace}
use Rattle.inf_verbs.specs.Verbs.{lines_of}
use Rattle.inf_verbs.proofs.laws.lines_as_told.Goals as goal

pub returns-clause-first : goal.returns-clause-first
returns-clause-first c = λ more verb. told_first [] (lines_of verb) more

pub returns-clause-last : goal.returns-clause-last
returns-clause-last c = λ more verb. told_last verb.first verb.rest more

pub returns-clause-replace : goal.returns-clause-replace
returns-clause-replace c = λ more verb. told_replace [] [] more

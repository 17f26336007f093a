use Rattle.std.proofs.Common.{◌≡◌, ◌+◌, ◌==◌, ap, ◌∙◌, arith, count_by}
use Rattle.inf_objects.specs.Tree.{children_of}
use Rattle.inf_objects.proofs.Walking.{children_rise, count_once, walk_children}
use Rattle.inf_objects.proofs.laws.tree_as_walked.Goals as goal

pub returns-clause-walked : goal.returns-clause-walked
returns-clause-walked c = walk_children

pub returns-clause-rising : goal.returns-clause-rising
returns-clause-rising c = λ parents parent. children_rise 1 parent parents

pub returns-clause-once : goal.returns-clause-once
returns-clause-once c = λ parents number parent h.
    let there : number + 1 ≡ 1 + number = omega arith in
    ap (λ n. count_by (λ child. child == n) (children_of parent parents)) there ∙ count_once number 1 parent parents h

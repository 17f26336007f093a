-- The point that separates the words below a text from the others.
use Rattle.std.proofs.Common.{rules, of_calls}
use Rattle.std.proofs.lemmas.Fn.{always_returns_same}
use Rattle.inf_link.specs.Targets.{is_below}
use Rattle.inf_link.proofs.Ranks.{partition_point-rank}
use Rattle.inf_link.proofs.targets.rank.Goals as goal

pub returns : goal.returns
returns c = partition_point-rank c.args.text c.args.words.now c.partition_point.result c.requires.sorted c.partition_point.ensures.bound
    (c.partition_point.ensures.partitioned (λ word. is_below word c.args.text)
    (always_returns_same _ _ _ (λ a r f k. search (rules, of_calls))))

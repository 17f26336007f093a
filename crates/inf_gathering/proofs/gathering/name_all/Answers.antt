use Rattle.std.proofs.{lemmas.List.Edits.map_over_more, lemmas.List.drop_all, lemmas.List.get_or_default, lemmas.List.take_all}
use Rattle.std.proofs.Common.{rules}
use Rattle.inf_gathering.specs.Gatherings.{action_leaf}
use Rattle.inf_gathering.proofs.gathering.name_all.Goals as goal

pub loop-at-preserved : goal.loop-at-preserved
loop-at-preserved c = search (rules, map_over_more action_leaf, get_or_default)

pub returns : goal.returns
returns c = search (rules, take_all, drop_all)

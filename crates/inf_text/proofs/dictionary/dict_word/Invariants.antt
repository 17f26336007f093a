use Rattle.std.proofs.Common.{drop}
use Rattle.inf_text.proofs.Fronts.{Gives}
use Rattle.inf_text.proofs.dictionary.dict_word.Given as goal

abbrev pub invariant-loop-item : goal.invariant-loop-item
invariant-loop-item l = Gives l.front (drop l.item-index l.item-items) l.item-items

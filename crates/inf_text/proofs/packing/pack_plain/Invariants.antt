use Rattle.std.proofs.Common.{◌≡◌, [], drop}
use Rattle.inf_text.specs.{Packer.completed, Packing.words, Packing.zs_from}
use Rattle.inf_text.proofs.packing.pack_plain.Given as goal

-- the words written and the items left give the whole text
abbrev pub invariant-loop-item : goal.invariant-loop-item
invariant-loop-item l =
    completed (l.bytes.items, l.waiting) (zs_from [] 0 (drop l.item-index l.item-items)) ≡ words (zs_from [] 0 l.item-items)

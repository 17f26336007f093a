use Rattle.std.proofs.Common.{◌≡◌, length, ℕ, List, option_copied}
use Rattle.inf_characters.specs.{Items.IsText, declared.texts.TextItem.TextItem}
use Rattle.inf_text.specs.{Packer.completed, Packing.in_use, Packing.words, Packing.zs_from}
use Rattle.inf_text.proofs.packing.pack_short.Given as goal

-- The words written and the items left give the whole text.
pub record Packs (packer : List ℕ × List ℕ) (texts : List (List TextItem)) (items whole : List TextItem) : Type 0 where
  pub value : completed packer (zs_from texts 0 items) ≡ words (zs_from texts 0 whole)
  pub text : IsText items

abbrev pub invariant-loop-zs : goal.invariant-loop-zs
invariant-loop-zs l = Packs (l.bytes.items, l.waiting) (in_use (option_copied l.abbreviations)) l.items l.initial.items

abbrev pub decreases-loop-zs : goal.decreases-loop-zs
decreases-loop-zs l = length l.items

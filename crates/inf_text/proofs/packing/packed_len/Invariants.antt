use Rattle.std.proofs.Common.{◌≡◌, ◌≤◌, ◌+◌, ◌*◌, length, ℕ, List, option_copied}
use Rattle.inf_characters.specs.{Items.IsText, declared.texts.TextItem.TextItem}
use Rattle.inf_text.specs.Packing.{in_use, zs_from}
use Rattle.inf_text.proofs.packing.packed_len.Given as goal

-- The Z-characters counted and those of the items left are those of the whole text, at most four for each item.
pub record Counts (count : ℕ) (texts : List (List TextItem)) (items whole : List TextItem) : Type 0 where
  pub value : count + length (zs_from texts 0 items) ≡ length (zs_from texts 0 whole)
  pub text : IsText items
  pub few : count + 4 * length items ≤ 4 * length whole

abbrev pub invariant-loop-zs : goal.invariant-loop-zs
invariant-loop-zs l = Counts l.count (in_use (option_copied l.abbreviations)) l.items l.initial.items

abbrev pub decreases-loop-zs : goal.decreases-loop-zs
decreases-loop-zs l = length l.items

-- One step through a text. Only the crate's private clauses cite it.
use Rattle.std.specs.Prelude.{◌≡◌, ℕ, ◌<◌, ◌≤◌, List, ◌++◌, length}
use Rattle.inf_characters.specs.{Items.IsText, declared.texts.TextItem.TextItem}
use Rattle.inf_text.specs.Packing.{AreZs, zs_from}

-- the Z-characters at the front of some items, and the items behind them
pub record Steps (declared : List (List TextItem)) (items : List TextItem) (zs : List ℕ) (rest : List TextItem) : Type 0 where
  pub value : zs_from declared 0 items ≡ zs ++ zs_from declared 0 rest
  pub small : AreZs zs
  pub few : length zs ≤ 4
  pub text : IsText rest
  pub shorter : length rest < length items

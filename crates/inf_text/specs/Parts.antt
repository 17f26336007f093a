-- The way in which a text is cut where abbreviations are taken (Z-Machine Standard 1.1, section 3.3).
use Rattle.std.specs.Prelude.{◌≡◌, ℕ, ◌≤◌, true, false, Some, List, [], ◌∷◌, ◌++◌, length, slice_get, flat_map}
use Rattle.inf_characters.specs.{Items.IsText, declared.texts.TextItem.TextItem}
use Rattle.inf_text.specs.Packing.{abbreviation_zs, begins_with, item_zs, zs_from}

-- a part of a text: an item that stands for itself, or the abbreviation of a number
pub data Part : Type 0 where
  Plain : TextItem → Part
  Short : ℕ → Part

-- the Z-characters of a part
abbrev pub part_zs : Part → List ℕ
part_zs (Plain x) = item_zs x
part_zs (Short n) = abbreviation_zs n

-- none of some abbreviations stands at the front of some items
abbrev pub NoneBegins : List (List TextItem) → List TextItem → Type 0
NoneBegins [] items = Unit {0}
NoneBegins (a ∷ declared) items = (begins_with items a ≡ false) × NoneBegins declared items

-- the abbreviations that stand at the front of some items have at most `most` items each
abbrev pub NoneLonger : List (List TextItem) → List TextItem → ℕ → Type 0
NoneLonger [] items most = Unit {0}
NoneLonger (a ∷ declared) items most = (begins_with items a ≡ true → length a ≤ most) × NoneLonger declared items most

-- the abbreviation of a number stands at the front of some items, is as long as any that does, and rest follows it
pub record TakesLongest (declared : List (List TextItem)) (items : List TextItem) (n : ℕ) (a rest : List TextItem) : Type 0 where
  pub declared_as : slice_get declared n ≡ Some a
  pub items_are : items ≡ a ++ rest
  pub longest : NoneLonger declared items (length a)

-- Parts cut some items, from left to right: each part begins where the one before it ends. An item stands for itself only where no
-- abbreviation begins, and an abbreviation is the longest that begins there.
abbrev pub Cuts : List (List TextItem) → List Part → List TextItem → Type 0
Cuts declared [] items = items ≡ []
Cuts declared (Plain x ∷ parts) items = (rest : List TextItem) × ((items ≡ x ∷ rest) × NoneBegins declared items × Cuts declared parts rest)
Cuts declared (Short n ∷ parts) items =
    (a : List TextItem) × ((rest : List TextItem) × (TakesLongest declared items n a rest × Cuts declared parts rest))

-- each abbreviation is a text of two items at least
abbrev pub AreLongTexts : List (List TextItem) → Type 0
AreLongTexts [] = Unit {0}
AreLongTexts (a ∷ declared) = ((2 ≤ length a) × IsText a) × AreLongTexts declared

-- abbreviations that may be declared: at most 64 texts of two items or more
pub record AreAbbreviations (declared : List (List TextItem)) : Type 0 where
  pub few : length declared ≤ 64
  pub texts : AreLongTexts declared

-- the Z-characters of a text are those of parts that cut it
abbrev pub IsCut : List (List TextItem) → List TextItem → Type 0
IsCut declared items = (parts : List Part) × (Cuts declared parts items × (zs_from declared 0 items ≡ flat_map part_zs parts))

-- The items of a text.
use Rattle.std.specs.Prelude.{◌<◌, ◌+◌, ◌==◌, nat_le, Bool, false, ◌&&◌, IsTrue, List, [], ◌∷◌, if◌then◌else◌}
use Rattle.inf_characters.specs.{Characters.is_code, declared.texts.TextItem.TextItem}

-- a character is 13, 32 to 126 or 155 to 223, and there are 32 string variables (Z-Machine Standard 1.1, sections 3.8 and 3.3)
abbrev pub IsItem : TextItem → Type 0
IsItem (TextItem.Character c) = IsTrue (is_code c)
IsItem (TextItem.Variable n) = n < 32

-- the items are those of a text
abbrev pub IsText : List TextItem → Type 0
IsText [] = Unit {0}
IsText (x ∷ xs) = IsItem x × IsText xs

-- two items are the same
abbrev pub same_item : TextItem → TextItem → Bool
same_item (TextItem.Character c) (TextItem.Character d) = c == d
same_item (TextItem.Character c) (TextItem.Variable n) = false
same_item (TextItem.Variable n) (TextItem.Character c) = false
same_item (TextItem.Variable n) (TextItem.Variable m) = n == m

-- capital letters made small
abbrev pub lowered : TextItem → TextItem
lowered (TextItem.Character c) = if nat_le 65 c && nat_le c 90 then TextItem.Character (c + 32) else TextItem.Character c
lowered (TextItem.Variable n) = TextItem.Variable n

-- The reading of a packed text by an interpreter (Z-Machine Standard 1.1, section 3), apart from how texts are packed.
use Rattle.std.specs.Prelude.{◌≡◌, ℕ, ◌+◌, ◌-◌, ◌*◌, ◌/◌, ◌%◌, ◌==◌, ◌&&◌, nat_lt, List, [], ◌∷◌, ◌++◌, map, slice_index, slice_index_or}
use Rattle.std.specs.Prelude.{codes, if◌then◌else◌}
use Rattle.inf_text.specs.Packing.{packed}
use Rattle.inf_characters.specs.declared.texts.TextItem.{TextItem}

-- the Z-characters of the words, three in each, up to the word that has its top bit set (section 3.2)
abbrev pub string_zs : List ℕ → List ℕ
string_zs [] = []
string_zs (high ∷ []) = []
string_zs (high ∷ low ∷ bytes) =
    let word = 256 * high + low in
    (word / 1024 % 32) ∷ (word / 32 % 32) ∷ (word % 32) ∷ (if nat_lt high 128 then string_zs bytes else [])

-- the letters on Z-characters 6 to 31 of the alphabets A0, A1 and A2; 6 and 7 of A2 have meanings of their own (section 3.5.3)
abbrev pub letters : ℕ → List ℕ
letters alphabet =
    if alphabet == 0 then codes "abcdefghijklmnopqrstuvwxyz"
    else if alphabet == 1 then codes "ABCDEFGHIJKLMNOPQRSTUVWXYZ"
    else codes "  0123456789.,!?_#'\"/\\-:()"

-- the readings of the next Z-character
pub data Expects : Type 0 where
  Letter : (alphabet : ℕ) → Expects
  Entry : (bank : ℕ) → Expects
  HighBits : Expects
  LowBits : (high : ℕ) → Expects

-- the text that an entry of the table of abbreviations prints: the first 32 are string variables, then come the declared abbreviations
-- (section 3.3)
abbrev pub entry_text : List (List TextItem) → ℕ → List TextItem
entry_text texts n = if nat_lt n 32 then TextItem.Variable n ∷ [] else slice_index_or texts (n - 32) []

-- the text that Z-characters print (sections 3.2.1 to 3.5)
abbrev pub printed : List (List TextItem) → Expects → List ℕ → List TextItem
printed texts expects [] = []
printed texts (Letter alphabet) (z ∷ zs) =
    if z == 0 then TextItem.Character 32 ∷ printed texts (Letter 0) zs
    else if nat_lt z 4 then printed texts (Entry z) zs
    else if nat_lt z 6 then printed texts (Letter (z - 3)) zs
    else if (alphabet == 2) && (z == 6) then printed texts HighBits zs
    else if (alphabet == 2) && (z == 7) then TextItem.Character 13 ∷ printed texts (Letter 0) zs
    else TextItem.Character (slice_index (letters alphabet) (z - 6)) ∷ printed texts (Letter 0) zs
printed texts (Entry bank) (z ∷ zs) = entry_text texts (32 * (bank - 1) + z) ++ printed texts (Letter 0) zs
printed texts HighBits (z ∷ zs) = printed texts (LowBits z) zs
printed texts (LowBits high) (z ∷ zs) = TextItem.Character (32 * high + z) ∷ printed texts (Letter 0) zs

-- the text of a string that is an abbreviation: it uses none itself (section 3.3.1)
unfoldable pub abbreviation_text : List ℕ → List TextItem
abbreviation_text bytes = printed [] (Letter 0) (string_zs bytes)

-- the text of a string, where the strings of the declared abbreviations are these
unfoldable pub unpacked : List (List ℕ) → List ℕ → List TextItem
unpacked strings bytes = printed (map abbreviation_text strings) (Letter 0) (string_zs bytes)

-- the strings of the declared abbreviations, packed without abbreviations
abbrev pub strings : List (List TextItem) → List (List ℕ)
strings declared = map (λ a. packed a []) declared

-- An interpreter reads in the bytes of a text, packed with the declared abbreviations, that text.
abbrev pub UnpacksTo : List (List TextItem) → List ℕ → List TextItem → Type 0
UnpacksTo declared bytes items = unpacked (strings declared) bytes ≡ items

-- The way in which a text is packed (Z-Machine Standard 1.1, sections 3.2 to 3.7).
use Rattle.std.specs.Prelude.{ℕ, ◌<◌, zero, suc, ◌+◌, ◌-◌, ◌*◌, ◌/◌, ◌%◌, ◌==◌, nat_lt, nat_le, Bool, true, false, ◌&&◌, Option, Some, None}
use Rattle.std.specs.Prelude.{List, [], ◌∷◌, ◌++◌, length, take, replicate, codes, if◌then◌else◌}
use Rattle.std.specs.List.{flat_map, position_from}
use Rattle.inf_characters.specs.{Items.lowered, Items.same_item, declared.texts.TextItem.TextItem}
use Rattle.inf_text.specs.declared.zchars.ZChars.{ZChars}

-- the characters of alphabet A2 on Z-characters 8 to 31 (section 3.5.3)
unfoldable pub punctuation : List ℕ
punctuation = codes "0123456789.,!?_#'\"/\\-:()"

-- A character outside the alphabets A0 and A1: from A2 by a shift, or its ten bits behind Z-character 6 of A2 (section 3.4).
abbrev pub other_zs : ℕ → Option ℕ → List ℕ
other_zs c None = 5 ∷ 6 ∷ (c / 32) ∷ (c % 32) ∷ []
other_zs c (Some place) = 5 ∷ (8 + place) ∷ []

-- the Z-characters of a code (sections 3.5.1, 3.5.3, 3.2.3)
unfoldable pub character_zs : ℕ → List ℕ
character_zs c =
    if c == 32 then 0 ∷ []
    else if nat_le 97 c && nat_le c 122 then (c - 91) ∷ []
    else if nat_le 65 c && nat_le c 90 then 4 ∷ (c - 59) ∷ []
    else if c == 13 then 5 ∷ 7 ∷ []
    else other_zs c (position_from (λ x. x == c) 0 punctuation)

-- the Z-characters of an item; a string variable is an entry of the first bank of abbreviations (section 3.3)
abbrev pub item_zs : TextItem → List ℕ
item_zs (TextItem.Character c) = character_zs c
item_zs (TextItem.Variable n) = 1 ∷ n ∷ []

-- the Z-characters of a declared abbreviation, which has entry 32 + n of the table: its bank and its place there (section 3.3)
abbrev pub abbreviation_zs : ℕ → List ℕ
abbreviation_zs n = ((32 + n) / 32 + 1) ∷ ((32 + n) % 32) ∷ []

-- Tells whether items begin with those of an abbreviation.
abbrev pub begins_with : List TextItem → List TextItem → Bool
begins_with items [] = true
begins_with [] (y ∷ ys) = false
begins_with (x ∷ xs) (y ∷ ys) = same_item x y && begins_with xs ys

-- a number and its length in place of the best one so far, if it is longer
abbrev pub longer : Option (ℕ × ℕ) → ℕ → ℕ → Option (ℕ × ℕ)
longer None n len = Some (n, len)
longer (Some best) n len = if nat_lt best.1 len then Some (n, len) else Some best

-- an abbreviation with which the items begin in place of the best one so far, if it is longer
abbrev pub better : Option (ℕ × ℕ) → ℕ → List TextItem → List TextItem → Option (ℕ × ℕ)
better best n a items = if begins_with items a then longer best n (length a) else best

-- the number and the length of the longest abbreviation with which the items begin: the best one so far, or one of those from number n on
abbrev pub longest_from : Option (ℕ × ℕ) → ℕ → List (List TextItem) → List TextItem → Option (ℕ × ℕ)
longest_from best n [] items = best
longest_from best n (a ∷ declared) items = longest_from (better best n a items) (n + 1) declared items

-- the number and the length of the longest declared abbreviation with which the items begin
unfoldable pub longest : List (List TextItem) → List TextItem → Option (ℕ × ℕ)
longest declared items = longest_from None 0 declared items

-- the Z-characters at the front of a text, where an abbreviation was found or none
abbrev pub front_zs : Option (ℕ × ℕ) → TextItem → List ℕ
front_zs None x = item_zs x
front_zs (Some found) x = abbreviation_zs found.0

-- the number of items behind the first that the Z-characters at the front stand for
abbrev pub front_behind : Option (ℕ × ℕ) → ℕ
front_behind None = 0
front_behind (Some found) = found.1 - 1

-- The Z-characters of a text, but for the items at its front that are passed over. At each place that is reached, the longest abbreviation
-- is taken; where none begins there, the item stands for itself.
abbrev pub zs_from : List (List TextItem) → ℕ → List TextItem → List ℕ
zs_from declared passed [] = []
zs_from declared (suc passed) (x ∷ items) = zs_from declared passed items
zs_from declared zero (x ∷ items) =
    let found = longest declared (x ∷ items) in front_zs found x ++ zs_from declared (front_behind found) items

-- the one to four Z-characters of an item or of an abbreviation
abbrev pub zs_list : ZChars → List ℕ
zs_list (ZChars.One a) = a ∷ []
zs_list (ZChars.Two a b) = a ∷ b ∷ []
zs_list (ZChars.Four a b c d) = a ∷ b ∷ c ∷ d ∷ []

-- Z-characters are numbers of five bits
abbrev pub AreZs : List ℕ → Type 0
AreZs [] = Unit {0}
AreZs (z ∷ zs) = (z < 32) × AreZs zs

-- three Z-characters in two bytes, the top bit set in the last word of a text (section 3.2)
abbrev pub word : Bool → ℕ → ℕ → ℕ → List ℕ
word last a b c = ((if last then 128 else 0) + 4 * a + b / 8) ∷ (32 * (b % 8) + c) ∷ []

-- the words of some Z-characters, the last one filled with 5; there is always one (sections 3.2, 3.7)
abbrev pub words : List ℕ → List ℕ
words [] = word true 5 5 5
words (a ∷ []) = word true a 5 5
words (a ∷ b ∷ []) = word true a b 5
words (a ∷ b ∷ c ∷ []) = word true a b c
words (a ∷ b ∷ c ∷ d ∷ zs) = word false a b c ++ words (d ∷ zs)

-- the bytes of a text, with the declared abbreviations, in the order of their declaration
unfoldable pub packed : List TextItem → List (List TextItem) → List ℕ
packed items declared = words (zs_from declared 0 items)

-- the Z-characters of a text as the dictionary has it: of small letters, nine (section 13.3)
abbrev pub dictionary_zs : List TextItem → List ℕ
dictionary_zs items = take 9 (flat_map (λ x. item_zs (lowered x)) items ++ replicate 9 5)

-- the bytes of a text in the dictionary
unfoldable pub dictionary_bytes : List TextItem → List ℕ
dictionary_bytes items = words (dictionary_zs items)

-- the abbreviations in use, where there are any
abbrev pub in_use : Option (List (List TextItem)) → List (List TextItem)
in_use None = []
in_use (Some declared) = declared

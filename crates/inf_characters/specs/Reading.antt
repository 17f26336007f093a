-- The way in which the bytes of a source are read as a text (Inform Designer's Manual, section 1.11 and table 2).
use Rattle.std.specs.Prelude.{◌≡◌, ℕ, zero, suc, ◌+◌, ◌-◌, ◌*◌, ◌==◌, nat_lt, nat_le, Bool, false, not, ◌&&◌, ◌||◌, Option, Some, None}
use Rattle.std.specs.Prelude.{Result, Ok, Err, List, [], ◌∷◌, ◌++◌, length, take, drop, replicate, codes, if◌then◌else◌}
use Rattle.std.specs.List.{list_any, prefix_len}
use Rattle.inf_characters.specs.{declared.characters.CharSet.CharSet, declared.reading.Mode.Mode, declared.reading.Piece.Piece}
use Rattle.inf_characters.specs.{declared.reading.TextFault.TextFault, declared.texts.TextItem.TextItem}
use Rattle.inf_characters.specs.Characters.{is_code, is_white, is_line_end, zscii_of, zscii_of_unicode}

-- a piece of one item
abbrev pub one : TextItem → ℕ → Piece
one item behind = record { item = item; count = 1; behind = behind; is_mark = false }

-- the value of a digit, in capitals or small letters, where it is one of the base
abbrev pub digit_of : ℕ → ℕ → Option ℕ
digit_of base b =
    if nat_le 48 b && nat_le b 57 then Some (b - 48)
    else if (base == 16) && nat_le 65 b && nat_le b 70 then Some (b - 55)
    else if (base == 16) && nat_le 97 b && nat_le b 102 then Some (b - 87)
    else None

-- the number of digits at the front of some bytes and the number that they write, behind those that were read already
abbrev pub number_from : ℕ → ℕ → ℕ → List ℕ → ℕ × ℕ
number_from base count high [] = (count, high)
number_from base count high (b ∷ bs) =
    elim (digit_of base b) [ None ↦ (count, high) | Some d ↦ number_from base (count + 1) (base * high + d) bs ]

-- @@ and a decimal number: the character of that code
abbrev pub code_piece : ℕ × ℕ → Result Piece TextFault
code_piece found =
    if found.0 == 0 then Err TextFault.UnknownEscape
    else if is_code found.1 then Ok (one (TextItem.Character found.1) (1 + found.0))
    else Err TextFault.BadCode

-- the piece of a character that may have no code
abbrev pub character_piece : Option ℕ → ℕ → Result Piece TextFault
character_piece None behind = Err TextFault.NoZscii
character_piece (Some c) behind = Ok (one (TextItem.Character c) behind)

-- whether a closing brace comes first
abbrev pub closes : List ℕ → Bool
closes [] = false
closes (b ∷ bs) = b == 125

-- @{ and a hexadecimal number and }: the character of that number in Unicode
abbrev pub unicode_piece : List ℕ → ℕ × ℕ → Result Piece TextFault
unicode_piece bytes found =
    if (found.0 == 0) || not (closes (drop found.0 bytes)) then Err TextFault.UnknownEscape
    else character_piece (zscii_of_unicode found.1) (2 + found.0)

-- @ and two digits: a string variable, in the texts that are printed alone
abbrev pub variable_piece : Mode → ℕ → List ℕ → Result Piece TextFault
variable_piece Mode.Quote tens bytes = Err TextFault.UnknownEscape
variable_piece Mode.Abbreviation tens bytes = Err TextFault.UnknownEscape
variable_piece Mode.Text tens [] = Err TextFault.UnknownEscape
variable_piece Mode.Text tens (b ∷ bs) = elim (digit_of 10 b) [
  | None ↦ Err TextFault.UnknownEscape
  | Some units ↦ if nat_lt (10 * tens + units) 32 then Ok (one (TextItem.Variable (10 * tens + units)) 2) else Err TextFault.BadCode
]

-- the two characters that spell each of ZSCII 155 to 223 behind @, in their order (Inform Designer's Manual, table 2)
unfoldable pub spellings : List ℕ
spellings =
    codes ":a:o:u:A:O:Uss>><<:e:i:y:E:I'a'e'i'o'u'y'A'E'I'O'U'Y`a`e`i`o`u`A`E`I`O`U^a^e^i^o^u^A^E^I^O^UoaoA\\o\\O~a~n~o~A~N~OaeAEcccCthetThEtLLoeOE!!??"

-- the place of two bytes among pairs, counted from a number on
abbrev pub pair_from : ℕ → ℕ → ℕ → List ℕ → Option ℕ
pair_from a b n [] = None
pair_from a b n (x ∷ []) = None
pair_from a b n (x ∷ y ∷ pairs) = if (x == a) && (y == b) then Some n else pair_from a b (n + 1) pairs

-- the mark that a byte is read as: a backslash for a slash
abbrev pub stroke : ℕ → ℕ
stroke b = if b == 47 then 92 else b

-- the code of the letter that a mark and a letter spell
unfoldable pub spelled : ℕ → ℕ → Option ℕ
spelled mark letter = pair_from (stroke mark) letter 155 spellings

-- @, a mark and a letter: an accented letter
abbrev pub accent_piece : ℕ → List ℕ → Result Piece TextFault
accent_piece a [] = Err TextFault.UnknownEscape
accent_piece a (b ∷ bs) = elim (spelled a b) [ None ↦ Err TextFault.UnknownEscape | Some c ↦ Ok (one (TextItem.Character c) 2) ]

-- the piece that @ begins
unfoldable pub escape_piece : Mode → List ℕ → Result Piece TextFault
escape_piece mode [] = Err TextFault.UnknownEscape
escape_piece mode (b ∷ bs) =
    if b == 64 then code_piece (number_from 10 0 0 bs)
    else if b == 123 then unicode_piece bs (number_from 16 0 0 bs)
    else elim (digit_of 10 b) [ None ↦ accent_piece b bs | Some tens ↦ variable_piece mode tens bs ]

-- the character that a typed one gives: ^ a new line and ~ a quotation mark, but in a quoted word ^ an apostrophe
abbrev pub meaning : Mode → ℕ → ℕ
meaning Mode.Quote c = if c == 94 then 39 else c
meaning Mode.Text c = if c == 94 then 13 else if c == 126 then 34 else c
meaning Mode.Abbreviation c = if c == 94 then 13 else if c == 126 then 34 else c

-- whether a byte is the mark of a new line
abbrev pub is_new_line_mark : Mode → ℕ → Bool
is_new_line_mark Mode.Quote b = false
is_new_line_mark Mode.Text b = b == 94
is_new_line_mark Mode.Abbreviation b = b == 94

-- the length of the white space at the front
abbrev pub white_len : CharSet → List ℕ → ℕ
white_len set bytes = prefix_len (is_white set) bytes

-- the number of spaces that a run of white space is read as: with a line end in it one, or none right behind the mark of a new line; else
-- as many as it has bytes
abbrev pub spaces : Bool → List ℕ → ℕ
spaces after_mark run = if not (list_any is_line_end run) then length run else if after_mark then 0 else 1

-- the piece at the front of a text
unfoldable pub piece_at : CharSet → Mode → Bool → ℕ → List ℕ → Result Piece TextFault
piece_at set mode after_mark b bytes =
    if b == 64 then escape_piece mode bytes
    else if b == 92 then Ok (record { item = TextItem.Character 32; count = 0; behind = white_len set bytes; is_mark = false })
    else if is_white set b then Ok (record {
      item = TextItem.Character 32;
      count = spaces after_mark (b ∷ take (white_len set bytes) bytes);
      behind = white_len set bytes;
      is_mark = false;
    })
    else elim (zscii_of set b) [
      | None ↦ Err TextFault.NoZscii
      | Some c ↦ Ok (record { item = TextItem.Character (meaning mode c); count = 1; behind = 0; is_mark = is_new_line_mark mode b })
    ]

-- items before a text that may be refused
abbrev pub with_front : List TextItem → Result (List TextItem) TextFault → Result (List TextItem) TextFault
with_front front (Ok items) = Ok (front ++ items)
with_front front (Err fault) = Err fault

-- a piece, and the items that come behind it
abbrev pub and_then : Result Piece TextFault → (Piece → Result (List TextItem) TextFault) → Result (List TextItem) TextFault
and_then (Err fault) next = Err fault
and_then (Ok found) next = with_front (replicate found.count found.item) (next found)

-- the text of some bytes, but for those at their front that are passed over; `after_mark` is whether the mark of a new line comes before
-- them
abbrev pub text_from : CharSet → Mode → Bool → ℕ → List ℕ → Result (List TextItem) TextFault
text_from set mode after_mark passed [] = Ok []
text_from set mode after_mark (suc passed) (b ∷ bytes) = text_from set mode after_mark passed bytes
text_from set mode after_mark zero (b ∷ bytes) =
    and_then (piece_at set mode after_mark b bytes) (λ found. text_from set mode found.is_mark found.behind bytes)

-- the text of some bytes, or the fault of the first bad place
unfoldable pub text_of : CharSet → Mode → List ℕ → Result (List TextItem) TextFault
text_of set mode bytes = text_from set mode false 0 bytes

-- some front of the bytes is a text that is not empty
pub record HoldsItems (set : CharSet) (mode : Mode) (bytes : List ℕ) : Type 0 where
  pub front : List ℕ
  pub rest : List ℕ
  pub bytes_are : bytes ≡ front ++ rest
  pub item : TextItem
  pub items : List TextItem
  pub reads : text_of set mode front ≡ Ok (item ∷ items)

-- A call answered as reading does; or there was too little memory, which only a text that has items takes.
abbrev pub Reads : CharSet → Mode → List ℕ → Result (List TextItem) TextFault → Type 0
Reads set mode bytes (Ok items) = text_of set mode bytes ≡ Ok items
Reads set mode bytes (Err TextFault.UnknownEscape) = text_of set mode bytes ≡ Err TextFault.UnknownEscape
Reads set mode bytes (Err TextFault.NoZscii) = text_of set mode bytes ≡ Err TextFault.NoZscii
Reads set mode bytes (Err TextFault.BadCode) = text_of set mode bytes ≡ Err TextFault.BadCode
Reads set mode bytes (Err TextFault.Memory) = HoldsItems set mode bytes

-- a byte of a text that is a character or white space by itself, in both character sets and in each mode
abbrev pub is_plain : ℕ → Bool
is_plain b = nat_le 32 b && nat_le b 126 && not (b == 64)

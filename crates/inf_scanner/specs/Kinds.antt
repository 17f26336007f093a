-- The kind of a token, by its bytes (Designer's Manual, fourth edition, sections 1.4 and 1.11).
use Rattle.std.specs.{Str.bytes_eq, declared.alloc.AllocError.AllocError}
use Rattle.std.specs.Prelude.{ℕ, ◌+◌, ◌-◌, ◌*◌, List, [], ◌∷◌, length, take, drop, Bool, true, false, ◌&&◌, ◌||◌, ◌==◌, nat_le, nat_lt}
use Rattle.std.specs.Prelude.{if◌then◌else◌, Option, Some, None, Result, Ok, Err}
use Rattle.inf_characters.specs.{Reading.text_of, declared.characters.CharSet.CharSet, declared.reading.Mode.Mode}
use Rattle.inf_characters.specs.{declared.reading.TextFault.TextFault, declared.texts.TextItem.TextItem}
use Rattle.inf_text.specs.Packing.{dictionary_bytes}
use Rattle.inf_scanner.specs.{Kept.Kept, declared.kinds.Sign.Sign, declared.scanner.Ending.Ending, declared.tokens.BadToken.BadToken}
use Rattle.inf_scanner.specs.{declared.tokens.TokenKind.TokenKind}

-- the value of a digit in base 2, 10 or 16
abbrev pub digit_of : ℕ → ℕ → Option ℕ
digit_of base b = if b == 48 || b == 49 then Some (b - 48) else if (nat_le 50 b && nat_le b 57) && nat_lt 2 base then Some (b - 48) else
    if (nat_le 97 b && nat_le b 102) && nat_lt 10 base then Some (b - 97 + 10) else
    if (nat_le 65 b && nat_le b 70) && nat_lt 10 base then Some (b - 65 + 10) else None

-- the number that digits write behind the number `high`, up to 65535
abbrev pub value_from : ℕ → ℕ → List ℕ → Option ℕ
value_from base high [] = Some high
value_from base high (b ∷ bs) = elim (digit_of base b) [
  | None ↦ None
  | Some d ↦ if nat_lt 65535 (high * base + d) then None else value_from base (high * base + d) bs
]

abbrev pub value_of : ℕ → List ℕ → Option ℕ
value_of base [] = None
value_of base (b ∷ bs) = value_from base 0 (b ∷ bs)

-- the number behind a `$`
abbrev pub behind_dollar : List ℕ → Option ℕ
behind_dollar [] = None
behind_dollar (b ∷ bs) = if b == 36 then value_of 2 bs else value_of 16 (b ∷ bs)

-- the number of a run: decimal, hexadecimal behind `$`, or binary behind `$$`
abbrev pub number_of : List ℕ → Option ℕ
number_of [] = None
number_of (b ∷ bs) = if b == 36 then behind_dollar bs else value_of 10 (b ∷ bs)

abbrev pub number_kind : Option ℕ → TokenKind
number_kind (Some n) = TokenKind.Number n
number_kind None = TokenKind.Bad BadToken.Number

-- the kind of a text or a quote that cannot be read
abbrev pub refused : TextFault → TokenKind
refused TextFault.UnknownEscape = TokenKind.Bad BadToken.UnknownEscape
refused TextFault.NoZscii = TokenKind.Bad BadToken.NoZscii
refused TextFault.BadCode = TokenKind.Bad BadToken.BadCode
refused TextFault.Memory = TokenKind.Bad BadToken.BadCode

-- the result of a call for a text or a quote that cannot be read
abbrev pub refusal : TextFault → Result TokenKind AllocError
refusal TextFault.Memory = Err (record {})
refusal f = Ok (refused f)

-- the kind of a text, if it can be read
abbrev pub read_by : (List TextItem → TokenKind) → Result (List TextItem) TextFault → TokenKind
read_by kind (Ok items) = kind items
read_by kind (Err f) = refused f

abbrev pub text_kind : CharSet → List ℕ → TokenKind
text_kind set bytes = read_by (λ _. TokenKind.Text) (text_of set Mode.Text bytes)

abbrev pub word_of : Bool → List TextItem → TokenKind
word_of is_plural items = TokenKind.Word (record { text = dictionary_bytes items; is_plural = is_plural })

-- the kind of a quote, by the sign behind its text: a single character without a sign is itself
abbrev pub quoted_kind : Sign → List TextItem → TokenKind
quoted_kind Sign.Plural items = word_of true items
quoted_kind Sign.Single items = word_of false items
quoted_kind Sign.None (TextItem.Character c ∷ []) = TokenKind.Char c
quoted_kind Sign.None items = word_of false items

abbrev pub signed_kind : CharSet → Sign → List ℕ → TokenKind
signed_kind set s bytes = read_by (quoted_kind s) (text_of set Mode.Quote bytes)

-- the last `n` bytes; and below, all bytes but these
abbrev pub last : ℕ → List ℕ → List ℕ
last n bytes = drop (length bytes - n) bytes

abbrev pub front : ℕ → List ℕ → List ℕ
front n bytes = take (length bytes - n) bytes

-- the kind of a token with these bytes between single quotes: the sign `//` or `//p` at the end makes it a word
abbrev pub quote_kind : CharSet → List ℕ → TokenKind
quote_kind set bytes = if length bytes == 0 then TokenKind.Bad BadToken.EmptyQuote else
    if bytes_eq (last 3 bytes) (47 ∷ 47 ∷ 112 ∷ []) then signed_kind set Sign.Plural (front 3 bytes) else
    if bytes_eq (last 2 bytes) (47 ∷ 47 ∷ []) then signed_kind set Sign.Single (front 2 bytes) else signed_kind set Sign.None bytes

-- the kind of a token, by its ending and the bytes that are kept of it
abbrev pub kind_of : CharSet → Ending → Kept → TokenKind
kind_of set Ending.End k = TokenKind.End
kind_of set Ending.Unfit k = TokenKind.Bad BadToken.Unfit
kind_of set (Ending.Mark m) k = TokenKind.Mark m
kind_of set (Ending.Run false) k = if k.is_cut then TokenKind.Bad BadToken.LongName else TokenKind.Name
kind_of set (Ending.Run true) k = if k.is_cut then TokenKind.Bad BadToken.Number else number_kind (number_of k.bytes)
kind_of set Ending.Unclosed k = if k.is_cut then TokenKind.Bad BadToken.TooLong else TokenKind.Bad BadToken.Unclosed
kind_of set Ending.Text k = if k.is_cut then TokenKind.Bad BadToken.TooLong else text_kind set k.bytes
kind_of set Ending.Quote k = if k.is_cut then TokenKind.Bad BadToken.TooLong else quote_kind set k.bytes

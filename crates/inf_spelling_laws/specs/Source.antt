-- A source as gaps and tokens, by its bytes alone (Designer's Manual, fourth edition, sections 1.1 to 1.5). The character set says only
-- whether 160 is a space.
use Rattle.std.specs.Prelude.{◌≡◌, ℕ, ◌==◌, nat_le, List, [], ◌∷◌, ◌++◌, Bool, true, false, not, ◌&&◌, ◌||◌, if◌then◌else◌, Option, Some, None}
use Rattle.std.specs.Prelude.{is_none}
use Rattle.std.specs.List.{list_all}
use Rattle.inf_characters.specs.declared.characters.CharSet.{CharSet}
use Rattle.inf_scanner.specs.declared.tokens.Mark.{Mark}

-- Definitions of bytes

abbrev pub ends_line : ℕ → Bool
ends_line b = (b == 10) || (b == 13)

abbrev pub is_space : CharSet → ℕ → Bool
is_space CharSet.Ascii b = (b == 32) || (b == 9) || (b == 12) || ends_line b
is_space CharSet.Latin1 b = (b == 32) || (b == 9) || (b == 12) || ends_line b || (b == 160)

abbrev pub is_decimal : ℕ → Bool
is_decimal b = nat_le 48 b && nat_le b 57

abbrev pub is_alphabetic : ℕ → Bool
is_alphabetic b = (nat_le 65 b && nat_le b 90) || (nat_le 97 b && nat_le b 122)

-- letters, digits, `_` and `$`
abbrev pub in_word : ℕ → Bool
in_word b = (is_alphabetic b || is_decimal b) || b == 95 || b == 36

abbrev pub starts : (ℕ → Bool) → List ℕ → Bool
starts test [] = false
starts test (b ∷ bytes) = test b

abbrev pub is_empty : List ℕ → Bool
is_empty [] = true
is_empty (b ∷ bytes) = false

-- A gap: spaces, and comments from `!` to the end of the line, or of the source, where nothing is behind

abbrev pub starts_gap : CharSet → ℕ → Bool
starts_gap set b = is_space set b || b == 33

abbrev pub is_gap : CharSet → Bool → List ℕ → List ℕ → Bool
is_gap set in_comment [] behind = not in_comment || is_empty behind
is_gap set true (b ∷ gap) behind = is_gap set (not (ends_line b)) gap behind
is_gap set false (b ∷ gap) behind = if b == 33 then is_gap set true gap behind else is_space set b && is_gap set false gap behind

-- Definitions of marks of one byte, and longer ones

abbrev pub short_marks : List (ℕ × Mark)
short_marks =
    (45, Mark.Minus) ∷ (43, Mark.Plus) ∷ (42, Mark.Times) ∷ (47, Mark.Divide) ∷ (37, Mark.Remainder) ∷ (38, Mark.BitAnd) ∷
    (124, Mark.BitOr) ∷ (126, Mark.BitNot) ∷ (61, Mark.Assign) ∷ (62, Mark.Greater) ∷ (60, Mark.Less) ∷ (44, Mark.Comma) ∷
    (59, Mark.Semicolon) ∷ (58, Mark.Colon) ∷ (40, Mark.OpenParenthesis) ∷ (41, Mark.CloseParenthesis) ∷ (91, Mark.OpenBracket) ∷
    (93, Mark.CloseBracket) ∷ (123, Mark.OpenBrace) ∷ (125, Mark.CloseBrace) ∷ (46, Mark.Dot) ∷ (35, Mark.Hash) ∷ (63, Mark.Question) ∷
    (64, Mark.At) ∷ []

abbrev pub long_marks : List (List ℕ × Mark)
long_marks =
    (45 ∷ 45 ∷ [], Mark.Decrement) ∷ (45 ∷ 62 ∷ [], Mark.Arrow) ∷ (45 ∷ 45 ∷ 62 ∷ [], Mark.LongArrow) ∷ (43 ∷ 43 ∷ [], Mark.Increment) ∷
    (38 ∷ 38 ∷ [], Mark.LogicalAnd) ∷ (124 ∷ 124 ∷ [], Mark.LogicalOr) ∷ (126 ∷ 126 ∷ [], Mark.LogicalNot) ∷
    (126 ∷ 61 ∷ [], Mark.NotEqual) ∷ (61 ∷ 61 ∷ [], Mark.Equal) ∷ (62 ∷ 61 ∷ [], Mark.GreaterOrEqual) ∷
    (62 ∷ 62 ∷ [], Mark.DoubleGreater) ∷ (60 ∷ 61 ∷ [], Mark.LessOrEqual) ∷ (60 ∷ 60 ∷ [], Mark.DoubleLess) ∷
    (46 ∷ 38 ∷ [], Mark.DotAnd) ∷ (46 ∷ 35 ∷ [], Mark.DotHash) ∷ (35 ∷ 35 ∷ [], Mark.DoubleHash) ∷ []

abbrev pub same : List ℕ → List ℕ → Bool
same [] [] = true
same (b ∷ bytes) (c ∷ others) = (b == c) && same bytes others
same bytes others = false

abbrev pub short_in : ℕ → List (ℕ × Mark) → Option Mark
short_in b [] = None
short_in b ((c, m) ∷ marks) = if b == c then Some m else short_in b marks

abbrev pub long_in : List ℕ → List (List ℕ × Mark) → Option Mark
long_in bytes [] = None
long_in bytes ((others, m) ∷ marks) = if same bytes others then Some m else long_in bytes marks

abbrev pub mark_of : List ℕ → Option Mark
mark_of [] = None
mark_of (b ∷ []) = short_in b short_marks
mark_of bytes = long_in bytes long_marks

-- no mark is these bytes with the next one
abbrev pub is_longest : List ℕ → List ℕ → Bool
is_longest bytes [] = true
is_longest bytes (b ∷ behind) = is_none (mark_of (bytes ++ b ∷ []))

-- Tokens: a name or a number, a mark, a text or a quote with the bytes between its quotes, a text or a quote that is not closed, a byte
-- that begins none of these, and the end of the source

pub data Token : Type 0 where
  Word : List ℕ → Token
  Sign : Mark → Token
  Text : List ℕ → Token
  Quote : List ℕ → Token
  OpenText : List ℕ → Token
  OpenQuote : List ℕ → Token
  Stray : ℕ → Token
  End : Token

-- bytes of a quote, where the one before them may be `@`: none ends the line, and a single quote stands right behind an `@` only
abbrev pub is_quoted : Bool → List ℕ → Bool
is_quoted after_at [] = true
is_quoted after_at (b ∷ bytes) = (not (ends_line b) && not (b == 39 && not after_at)) && is_quoted (b == 64) bytes

abbrev pub ends_with_at : Bool → List ℕ → Bool
ends_with_at after_at [] = after_at
ends_with_at after_at (b ∷ bytes) = ends_with_at (b == 64) bytes

abbrev pub begins_nothing : ℕ → Bool
begins_nothing b = not (in_word b || b == 34 || b == 39) && is_none (mark_of (b ∷ []))

-- a token by its span of bytes and those behind it
abbrev pub IsToken : Token → List ℕ → List ℕ → Type 0
IsToken (Word bytes) span behind =
    (span ≡ bytes) × (is_empty bytes ≡ false) × (list_all in_word bytes ≡ true) × (starts in_word behind ≡ false)
IsToken (Sign m) span behind = (mark_of span ≡ Some m) × (is_longest span behind ≡ true)
IsToken (Text bytes) span behind = (span ≡ 34 ∷ (bytes ++ 34 ∷ [])) × (list_all (λ b. not (b == 34)) bytes ≡ true)
IsToken (Quote bytes) span behind =
    (span ≡ 39 ∷ (bytes ++ 39 ∷ [])) × (is_quoted false bytes ≡ true) × (ends_with_at false bytes ≡ false)
IsToken (OpenText bytes) span behind = (span ≡ 34 ∷ bytes) × (list_all (λ b. not (b == 34)) bytes ≡ true) × (behind ≡ [])
IsToken (OpenQuote bytes) span behind =
    (span ≡ 39 ∷ bytes) × (is_quoted false bytes ≡ true) × (is_empty behind || starts ends_line behind ≡ true)
IsToken (Stray b) span behind = (span ≡ b ∷ []) × (begins_nothing b ≡ true)
IsToken End span behind = (span ≡ []) × (behind ≡ [])

-- Definitions of a token with the gap before it and the bytes behind it

pub record Part : Type 0 where
  pub gap : List ℕ
  pub token : Token
  pub span : List ℕ
  pub behind : List ℕ

pub record IsPart (set : CharSet) (rest : List ℕ) (p : Part) : Type 0 where
  pub whole : rest ≡ p.gap ++ (p.span ++ p.behind)
  pub gap_fits : is_gap set false p.gap (p.span ++ p.behind) ≡ true
  pub stops : starts (starts_gap set) (p.span ++ p.behind) ≡ false
  pub token_fits : IsToken p.token p.span p.behind

-- parts, one behind the other, up to the end of the source
abbrev pub AreParts : CharSet → List ℕ → List Part → Type 0
AreParts set rest [] = rest ≡ []
AreParts set rest (p ∷ parts) = (is_empty rest ≡ false) × IsPart set rest p × AreParts set p.behind parts

-- Tokens in little memory. The bytes of each begin where those of the token before it end.
use Rattle.std.specs.Prelude.{◌≡◌, ◌≤◌, ◌%◌, ℕ, List, [], ◌∷◌, Bool, true, false, if◌then◌else◌, nat_lt, length, drop, take}
use Rattle.inf_scanner.specs.{declared.tokens.Place.Place, declared.tokens.TokenKind.TokenKind}
use Rattle.inf_unit.specs.{Atoms.is_short, Tokens.SourceToken}
use Rattle.inf_conditionals.specs.declared.{packed.Beside.Beside, packed.Packed.Packed, packed.ShortKind.ShortKind}

-- the kind of a token in four bytes
abbrev pub short_of : TokenKind → ShortKind
short_of TokenKind.Name = ShortKind.Name
short_of (TokenKind.Number n) = ShortKind.Number n
short_of TokenKind.Text = ShortKind.Text
short_of (TokenKind.Char c) = ShortKind.Char c
short_of (TokenKind.Word w) = ShortKind.Beside
short_of (TokenKind.Mark m) = ShortKind.Mark m
short_of (TokenKind.Bad b) = ShortKind.Bad b
short_of TokenKind.End = ShortKind.End

abbrev pub short_kind : TokenKind → ℕ → ShortKind
short_kind kind count = if nat_lt 255 count then ShortKind.Beside else short_of kind

-- what stands beside a token
abbrev pub beside_of : ShortKind → TokenKind → ℕ → List Beside
beside_of ShortKind.Beside kind count = record { kind = kind; count = count } ∷ []
beside_of _ kind count = []

-- a token with these parts
abbrev pub packed_as : ShortKind → Place → Bool → ℕ → Packed
packed_as kind place is_class count = record { line = place.line; kind = kind; file = place.file; is_class = is_class; count = count % 256 }

abbrev pub packed_of : TokenKind → Place → Bool → ℕ → Packed
packed_of kind place is_class count = packed_as (short_kind kind count) place is_class count

-- the kind and the number of bytes that stand beside tokens first
abbrev pub first_beside : List Beside → TokenKind × ℕ
first_beside [] = (TokenKind.End, 0)
first_beside (b ∷ others) = (b.kind, b.count)

-- the kind and the number of bytes of a token
abbrev pub parts_of : ShortKind → ℕ → List Beside → TokenKind × ℕ
parts_of ShortKind.Name count beside = (TokenKind.Name, count)
parts_of (ShortKind.Number n) count beside = (TokenKind.Number n, count)
parts_of ShortKind.Text count beside = (TokenKind.Text, count)
parts_of (ShortKind.Char c) count beside = (TokenKind.Char c, count)
parts_of (ShortKind.Mark m) count beside = (TokenKind.Mark m, count)
parts_of (ShortKind.Bad b) count beside = (TokenKind.Bad b, count)
parts_of ShortKind.End count beside = (TokenKind.End, count)
parts_of ShortKind.Beside count beside = first_beside beside

-- what stands beside the tokens behind one of a kind
abbrev pub others_left : ShortKind → List Beside → List Beside
others_left ShortKind.Beside beside = drop 1 beside
others_left _ beside = beside

abbrev pub is_there : List Beside → Bool
is_there [] = false
is_there (b ∷ others) = true

-- Tells whether what stands beside a token of a kind is there.
abbrev pub has_kind : ShortKind → List Beside → Bool
has_kind ShortKind.Beside beside = is_there beside
has_kind _ beside = true

abbrev pub token_of : TokenKind → Packed → List ℕ → SourceToken
token_of kind p bytes = record { kind = kind; bytes = bytes; place = record { file = p.file; line = p.line }; is_class = p.is_class }

abbrev pub unpacked : List Packed → List Beside → List ℕ → List SourceToken
unpacked [] beside bytes = []
unpacked (p ∷ tokens) beside bytes =
    let s = parts_of p.kind p.count beside in
    token_of s.0 p (take s.1 bytes) ∷ unpacked tokens (others_left p.kind beside) (drop s.1 bytes)

-- a token of which all is there
pub record IsPacked (p : Packed) (beside : List Beside) (bytes : List ℕ) : Type 0 where
  pub kind : has_kind p.kind beside ≡ true
  pub there : (parts_of p.kind p.count beside).1 ≤ length bytes
  pub short : is_short (parts_of p.kind p.count beside).0 (take (parts_of p.kind p.count beside).1 bytes) ≡ true

-- tokens to which all bytes belong, and all that stands beside them
abbrev pub ArePacked : List Packed → List Beside → List ℕ → Type 0
ArePacked [] beside bytes = (beside ≡ []) × (bytes ≡ [])
ArePacked (p ∷ tokens) beside bytes =
    IsPacked p beside bytes × ArePacked tokens (others_left p.kind beside) (drop (parts_of p.kind p.count beside).1 bytes)

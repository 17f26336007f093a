-- Each source has its parts in one way, and these are the pieces of the scanner.
use Rattle.std.specs.Prelude.{◌≡◌, ℕ, List, [], ◌∷◌, ◌++◌, Bool, false, ◌||◌, ◌==◌}
use Rattle.std.specs.List.{list_any}
use Rattle.inf_characters.specs.declared.characters.CharSet.{CharSet}
use Rattle.inf_scanner.specs.{Kinds.kind_of, declared.lines.Lines.Lines, declared.scanner.Ending.Ending}
use Rattle.inf_scanner.specs.SpellingLaws.{IsSpelled, Piece, kept_of, most_of, past_all}
use Rattle.inf_spelling_laws.specs.Source.{AreParts, End, IsPart, OpenQuote, OpenText, Part, Quote, Sign, Stray, Text, Token, Word, is_decimal}
use Rattle.inf_spelling_laws.specs.Source.{is_empty, starts}

-- all bytes of parts, one behind the other
abbrev pub joined : List Part → List ℕ
joined [] = []
joined (p ∷ parts) = p.gap ++ (p.span ++ joined parts)

-- A source has parts that are all its bytes, and no others.
pub record PartsOnce (set : CharSet) (source : List ℕ) : Type 0 where
  pub parts : List Part
  pub whole : joined parts ≡ source
  pub are : AreParts set source parts
  pub no_other : (others : List Part) → AreParts set source others → others ≡ parts

abbrev pub SourcesPartOnce : Type 0
SourcesPartOnce = (set : CharSet) (source : List ℕ) → PartsOnce set source

-- a word is a number where it begins with a digit, or has a `$`
abbrev pub is_number : List ℕ → Bool
is_number bytes = starts is_decimal bytes || list_any (λ b. b == 36) bytes

-- the ending that the scanner has for a token, and the bytes that count for its kind
abbrev pub ending_of : Token → Ending
ending_of (Word bytes) = Ending.Run (is_number bytes)
ending_of (Sign m) = Ending.Mark m
ending_of (Text bytes) = Ending.Text
ending_of (Quote bytes) = Ending.Quote
ending_of (OpenText bytes) = Ending.Unclosed
ending_of (OpenQuote bytes) = Ending.Unclosed
ending_of (Stray b) = Ending.Unfit
ending_of End = Ending.End

abbrev pub bytes_of : List ℕ → Token → List ℕ
bytes_of span (Word bytes) = bytes
bytes_of span (Sign m) = span
bytes_of span (Text bytes) = bytes
bytes_of span (Quote bytes) = bytes
bytes_of span (OpenText bytes) = bytes
bytes_of span (OpenQuote bytes) = bytes
bytes_of span (Stray b) = []
bytes_of span End = []

-- the piece of the scanner that a part is
abbrev pub piece_of : CharSet → ℕ → Lines → Part → Piece
piece_of set limit lines p =
    let ending = ending_of p.token in
    let kept = kept_of (most_of limit ending) (bytes_of p.span p.token) in record {
      gap = p.gap;
      span = p.span;
      read = record {
        kind = kind_of set ending kept;
        line = (past_all p.gap lines).line;
        kept = kept;
        lines = past_all p.span (past_all p.gap lines);
        rest = p.behind;
      };
    }

-- A part of some bytes is a piece, and each piece is a part.

pub record IsPieceOf (set : CharSet) (limit : ℕ) (lines : Lines) (rest : List ℕ) (p : Piece) : Type 0 where
  pub part : Part
  pub is : IsPart set rest part
  pub same : p ≡ piece_of set limit lines part

pub record Alike (set : CharSet) (limit : ℕ) (lines : Lines) (rest : List ℕ) : Type 0 where
  pub spelled : (q : Part) → IsPart set rest q → IsSpelled set limit lines rest (piece_of set limit lines q)
  pub parted : (p : Piece) → IsSpelled set limit lines rest p → IsPieceOf set limit lines rest p

abbrev pub PartsAreSpelled : Type 0
PartsAreSpelled = (set : CharSet) (limit : ℕ) (lines : Lines) (rest : List ℕ) → is_empty rest ≡ false → Alike set limit lines rest

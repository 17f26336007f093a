-- A token as a source spells it, and tests of one.
use Rattle.std.specs.Prelude.{ℕ, List, ◌==◌, Bool, true, false, Option, Some, None}
use Rattle.inf_syntax.specs.{Atoms.mark_atom, declared.words.Keyword.Keyword}
use Rattle.inf_scanner.specs.{declared.tokens.Mark.Mark, declared.tokens.Place.Place, declared.tokens.TokenKind.TokenKind}
use Rattle.inf_report.specs.Messages.{Told, Bytes, Quote, Text, End}
use Rattle.inf_names.specs.Spellings.{Name}
use Rattle.inf_unit.specs.Atoms.{atom_of_kind, keyword_of_kind}

-- A token: its kind, its bytes (of a text or quote those between its quotes), the place of its first byte, and whether it is read
-- as the name of a class, as one may be at the front of a piece.
pub record SourceToken : Type 0 where
  pub kind : TokenKind
  pub bytes : List ℕ
  pub place : Place
  pub is_class : Bool

-- Atom by which the grammar knows a token.
abbrev pub atom_of : SourceToken → ℕ
atom_of t = atom_of_kind t.is_class t.kind t.bytes

-- Word of the grammar that a token is, if it is one.
abbrev pub keyword : SourceToken → Option Keyword
keyword t = keyword_of_kind t.kind t.bytes

-- Tells whether a token is a mark.
abbrev pub is_mark : Mark → TokenKind → Bool
is_mark m (TokenKind.Mark n) = mark_atom n == mark_atom m
is_mark m _ = false

abbrev pub is_end : TokenKind → Bool
is_end TokenKind.End = true
is_end _ = false

-- Number that a token is, if it is one.
abbrev pub number_of : TokenKind → Option ℕ
number_of (TokenKind.Number number) = Some number
number_of _ = None

-- Form in which messages name a token.
abbrev pub told_kind : TokenKind → List ℕ → Told
told_kind TokenKind.Text bytes = Text
told_kind (TokenKind.Char c) bytes = Quote bytes
told_kind (TokenKind.Word w) bytes = Quote bytes
told_kind TokenKind.End bytes = End
told_kind _ bytes = Bytes bytes

abbrev pub told : SourceToken → Told
told t = told_kind t.kind t.bytes

-- Name that a token is, if it is one.
abbrev pub name_of_kind : TokenKind → List ℕ → Place → Option Name
name_of_kind TokenKind.Name bytes place = Some (record { bytes = bytes; place = place })
name_of_kind _ bytes place = None

abbrev pub name_of : SourceToken → Option Name
name_of t = name_of_kind t.kind t.bytes t.place

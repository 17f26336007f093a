-- The tokens of a source, with their lines.
use Rattle.std.specs.Prelude.{ℕ, List}
use Rattle.inf_characters.specs.declared.characters.CharSet.{CharSet}
use Rattle.inf_scanner.specs.{Kept.Kept, Kinds.kind_of, Scanning.Found, Scanning.begun, Scanning.find, declared.lines.Lines.Lines}
use Rattle.inf_scanner.specs.{declared.scanner.State.State, declared.tokens.TokenKind.TokenKind}

-- A token that was read: its kind, the line of its first byte, its bytes that are kept, and the lines and the bytes behind it.
pub record Read : Type 0 where
  pub kind : TokenKind
  pub line : ℕ
  pub kept : Kept
  pub lines : Lines
  pub rest : List ℕ

abbrev pub read_of : CharSet → Found → Read
read_of set f =
    record { kind = kind_of set f.ending f.seen.kept; line = f.seen.first; kept = f.seen.kept; lines = f.seen.lines; rest = f.rest }

-- the next token of these bytes, which begin on this line; at the end of the source the end, again and again
abbrev pub next_token : CharSet → ℕ → Lines → List ℕ → Read
next_token set limit lines rest = read_of set (find set limit State.Gap (begun lines) rest)

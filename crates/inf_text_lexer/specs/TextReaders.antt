-- The state of a lexer of a text in memory.
use Rattle.std.specs.Prelude.{ℕ, List, false}
use Rattle.inf_characters.specs.declared.characters.CharSet.{CharSet}
use Rattle.inf_scanner.specs.{Kept.Kept, Kept.nothing_kept, Scanning.Sight, Tokens.Read, Tokens.next_token, declared.lines.Lines.Lines}
use Rattle.inf_scanner.specs.{declared.tokens.Token.Token, declared.tokens.TokenKind.TokenKind}

-- The character set, the number of bytes that a quoted token may have, the number by which places name the text, the bytes that are
-- still to come of it, the bytes of the token that was read last, and the line behind it.
pub record TextReader : Type 0 where
  pub set : CharSet
  pub limit : ℕ
  pub file : ℕ
  pub rest : List ℕ
  pub kept : Kept
  pub lines : Lines

-- the state at the front of a text that begins on line `line`
abbrev pub at_line : CharSet → ℕ → ℕ → ℕ → List ℕ → TextReader
at_line set limit file line text = record {
  set = set;
  limit = limit;
  file = file;
  rest = text;
  kept = nothing_kept;
  lines = record { line = line; after_return = false };
}

-- a token of kind `kind`, with the sight `seen` of its bytes, before the bytes `rest`
abbrev pub read_with : TokenKind → Sight → List ℕ → Read
read_with kind seen rest = record { kind = kind; line = seen.first; kept = seen.kept; lines = seen.lines; rest = rest }

-- the next token of the bytes that are still to come
abbrev pub next_of : TextReader → Read
next_of r = next_token r.set r.limit r.lines r.rest

-- the lexer behind a token of it
abbrev pub behind : Read → TextReader → TextReader
behind read r = record r { rest = read.rest; kept = read.kept; lines = read.lines }

-- the token of a text of this number
abbrev pub token_of : ℕ → Read → Token
token_of file read = record { kind = read.kind; place = record { file = file; line = read.line } }

-- The rest of a file that is still to come, and its next token.
use Rattle.std.specs.Prelude.{ℕ, List}
use Rattle.inf_characters.specs.declared.characters.CharSet.{CharSet}
use Rattle.inf_scanner.specs.{Lines.first_line, Tokens.Read, Tokens.next_token, declared.lines.Lines.Lines}
use Rattle.inf_lexer.specs.{Readers.Refuses, Readers.StaysUnfinished, declared.faults.LexFault.LexFault}

-- The rest of a file: the bytes that are still to come, the line on which they begin, the file's number, its character set, and the most
-- bytes that a text or quote may have.
pub record Cursor : Type 0 where
  pub rest : List ℕ
  pub lines : Lines
  pub file : ℕ
  pub set : CharSet
  pub limit : ℕ

-- the front of a file of this number, which has these bytes
abbrev pub front : CharSet → ℕ → ℕ → List ℕ → Cursor
front set limit file bytes = record { rest = bytes; lines = first_line; file = file; set = set; limit = limit }

-- the next token of the rest
abbrev pub read : Cursor → Read
read c = next_token c.set c.limit c.lines c.rest

-- the rest behind a token
abbrev pub behind : Cursor → Read → Cursor
behind c r = record c { rest = r.rest; lines = r.lines }

-- The rest does not end the next token where the bytes `unread`, and `past` bytes before them, are cut off.
abbrev pub Unfinished : Cursor → ℕ → List ℕ → Type 0
Unfinished c past unread = StaysUnfinished c.set c.limit c.lines c.rest past unread

-- A refusal of the next token, by its fault.
abbrev pub RefusesToken : Cursor → ℕ → List ℕ → LexFault → Type 0
RefusesToken c past unread fault = Refuses c.set c.limit c.lines c.rest past unread fault

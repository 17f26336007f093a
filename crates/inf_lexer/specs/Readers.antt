-- Lexers, and the tokens and words that they read.
use Rattle.std.specs.Prelude.{◌≡◌, ◌+◌, ◌<◌, ◌≤◌, ◌⊎◌, ℕ, List, [], ◌++◌, length, Bool, true, false, Result, Ok, Err}
use Rattle.inf_characters.specs.declared.characters.CharSet.{CharSet}
use Rattle.inf_scanner.specs.{Kept.Kept, Kept.nothing_kept, Lines.first_line, TokenLaws.is_run, Tokens.Read, Tokens.next_token}
use Rattle.inf_scanner.specs.{Scanning.begun, Scanning.find, Scanning.is_quoted, declared.lines.Lines.Lines, declared.scanner.State.State}
use Rattle.inf_scanner.specs.{declared.tokens.Token.Token, declared.tokens.TokenKind.TokenKind}
use Rattle.inf_lexer.specs.{Unread.IsAtEnd, Unread.View, declared.faults.LexFault.LexFault, declared.head.HeadPlace.HeadPlace}
use Rattle.inf_lexer.specs.Heads.{HeadRead, goes_on_at, is_word, next_head_word}

-- A lexer: the character set, the number of bytes that a quoted token may have, the number of its file, its view of the file, the
-- bytes of the token that was read last, the line behind it, and whether the lexer has refused.
pub record Reader : Type 0 where
  pub set : CharSet
  pub limit : ℕ
  pub file : ℕ
  pub window : View
  pub kept : Kept
  pub lines : Lines
  pub has_failed : Bool

-- the token that a call read, with the rest behind it
abbrev pub read_out : Token → Reader → List ℕ → Read
read_out token reader rest = record { kind = token.kind; line = token.place.line; kept = reader.kept; lines = reader.lines; rest = rest }

-- the word of a head that a call read, with the rest behind it
abbrev pub head_out : Bool → HeadPlace → List ℕ → Reader → List ℕ → HeadRead
head_out is_word place word reader rest = record { is_word = is_word; place = place; word = word; lines = reader.lines; rest = rest }

-- a lexer that has read nothing yet
abbrev pub at_front : CharSet → ℕ → ℕ → Reader
at_front set limit file = record {
  set = set;
  limit = limit;
  file = file;
  window = record { left = []; given = 0; is_over = false };
  kept = nothing_kept;
  lines = first_line;
  has_failed = false;
}

-- A lexer keeps its character set, its limit and its file, and knows whether the call was refused.
pub record Stays (before after : Reader) (is_refused : Bool) : Type 0 where
  pub set : after.set ≡ before.set
  pub limit : after.limit ≡ before.limit
  pub file : after.file ≡ before.file
  pub failed : after.has_failed ≡ is_refused

-- The bytes that a token takes, with any reader: none at the end, and a byte at least of each other token. At the end nothing more
-- is to come, and then the end is read again. Of a name or a number at most 32 bytes are kept.
pub record Took (k : TokenKind) (before after : View) (kept : Kept) : Type 0 where
  pub one : (k ≡ TokenKind.End) ⊎ (before.given + length after.left < after.given + length before.left)
  pub last : k ≡ TokenKind.End → IsAtEnd after
  pub again : IsAtEnd before → k ≡ TokenKind.End
  pub short : is_run k ≡ true → length kept.bytes ≤ 32

-- the place where a head goes on behind a call, by its answer: behind a refusal it is the one before
abbrev pub place_after : Result Bool LexFault → HeadPlace → HeadPlace
place_after (Ok is_word) from = goes_on_at is_word
place_after (Err _) from = from

-- The bytes that a word of a head takes, with any reader: one at least, where none of the word was read before.
abbrev pub TookWord : Bool → HeadPlace → View → View → Type 0
TookWord is from before after = is ≡ true → is_word from ≡ false → before.given + length after.left < after.given + length before.left

-- The bytes `bytes`, at the front of all that is still to come, end nothing where `left_of` is the rest that is left of all that
-- comes: whatever follows them, they are all taken, and one at least is taken of some bytes that may follow.
pub record EndsNothing (left_of : List ℕ → List ℕ) (bytes : List ℕ) : Type 0 where
  pub all : (behind : List ℕ) → length (left_of (bytes ++ behind)) ≤ length behind
  pub more : List ℕ
  pub takes : length (left_of (bytes ++ more)) < length more

-- The bytes `coming` that are still to come end nothing where `left_of` is the rest that is left of them, but for those that were
-- not given, `unread`, and the `past` bytes that were given past as many as a source may have.
pub record StaysOpen (left_of : List ℕ → List ℕ) (coming : List ℕ) (past : ℕ) (unread : List ℕ) : Type 0 where
  pub bytes : List ℕ
  pub beyond : List ℕ
  pub whole : coming ≡ bytes ++ (beyond ++ unread)
  pub are_past : length beyond ≡ past
  pub ends_nothing : EndsNothing left_of bytes

-- the bytes that a head leaves behind its next word, or behind its end, where it goes on at a place with some bytes
abbrev pub left_of_head : HeadPlace → Lines → List ℕ → List ℕ
left_of_head from lines bytes = (next_head_word from lines bytes).rest

-- The bytes that are still to come of a head that goes on at a place end neither its next word nor the head.
abbrev pub HeadStaysOpen : HeadPlace → Lines → List ℕ → ℕ → List ℕ → Type 0
HeadStaysOpen from lines coming past unread = StaysOpen (left_of_head from lines) coming past unread

-- The bytes that are still to come do not end the next token.
abbrev pub StaysUnfinished : CharSet → ℕ → Lines → List ℕ → ℕ → List ℕ → Type 0
StaysUnfinished set limit lines coming past unread = StaysOpen (λ bytes. (next_token set limit lines bytes).rest) coming past unread

-- A refusal with an honest reader: either the bytes at hand do not end the next token, or it begins with a quote.
abbrev pub Refuses : CharSet → ℕ → Lines → List ℕ → ℕ → List ℕ → LexFault → Type 0
Refuses set limit lines coming past unread LexFault.Read = StaysUnfinished set limit lines coming past unread
Refuses set limit lines coming past unread LexFault.Memory = is_quoted (find set limit State.Gap (begun lines) coming).ending ≡ true

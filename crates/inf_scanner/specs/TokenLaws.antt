-- The bytes that each token takes of a source, and those that are kept of it.
use Rattle.std.specs.Prelude.{◌≡◌, ℕ, ◌<◌, ◌≤◌, ◌⊎◌, List, [], length, Bool, true, false}
use Rattle.inf_characters.specs.declared.characters.CharSet.{CharSet}
use Rattle.inf_scanner.specs.{declared.lines.Lines.Lines, declared.tokens.BadToken.BadToken, declared.tokens.TokenKind.TokenKind}
use Rattle.inf_scanner.specs.Tokens.{Read, next_token}

-- tells whether a kind is a name or a number, or a run that is neither for its length or its digits
abbrev pub is_run : TokenKind → Bool
is_run TokenKind.Name = true
is_run (TokenKind.Number n) = true
is_run (TokenKind.Bad BadToken.LongName) = true
is_run (TokenKind.Bad BadToken.Number) = true
is_run _ = false

-- A token of these bytes: the end has no bytes behind it, and each other token takes at least one.
pub record Takes (bytes : List ℕ) (r : Read) : Type 0 where
  pub one : (r.kind ≡ TokenKind.End) ⊎ (length r.rest < length bytes)
  pub end : r.kind ≡ TokenKind.End → r.rest ≡ []

-- each token but the end takes at least one byte, and no byte is behind the end
abbrev pub TokensTakeBytes : Type 0
TokensTakeBytes = (set : CharSet) (limit : ℕ) (lines : Lines) (bytes : List ℕ) → Takes bytes (next_token set limit lines bytes)

-- where there are no bytes the end is read
abbrev pub NothingIsTheEnd : Type 0
NothingIsTheEnd = (set : CharSet) (limit : ℕ) (lines : Lines) → (next_token set limit lines []).kind ≡ TokenKind.End

-- at most 32 bytes are kept of a name or a number
abbrev pub RunsAreShort : Type 0
RunsAreShort = (set : CharSet) (limit : ℕ) (lines : Lines) (bytes : List ℕ)
    → is_run (next_token set limit lines bytes).kind ≡ true → length (next_token set limit lines bytes).kept.bytes ≤ 32

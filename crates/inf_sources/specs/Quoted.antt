-- Tokens that begin with a quote: where they come, and the number of bytes that are kept of them.
use Rattle.std.specs.Prelude.{◌≡◌, ◌≤◌, ℕ, length, Bool, true, false}
use Rattle.inf_scanner.specs.{Kept.Kept}
use Rattle.inf_scanner.specs.{declared.tokens.BadToken.BadToken, declared.tokens.TokenKind.TokenKind}

-- Tells whether a token is a text or a quote, or is bad for its end, its size or its characters.
abbrev pub is_quoted_kind : TokenKind → Bool
is_quoted_kind TokenKind.Text = true
is_quoted_kind (TokenKind.Char c) = true
is_quoted_kind (TokenKind.Word w) = true
is_quoted_kind (TokenKind.Bad BadToken.Unclosed) = true
is_quoted_kind (TokenKind.Bad BadToken.EmptyQuote) = true
is_quoted_kind (TokenKind.Bad BadToken.UnknownEscape) = true
is_quoted_kind (TokenKind.Bad BadToken.NoZscii) = true
is_quoted_kind (TokenKind.Bad BadToken.BadCode) = true
is_quoted_kind (TokenKind.Bad BadToken.TooLong) = true
is_quoted_kind _ = false

-- A quoted token keeps at most as many bytes as it may have.
abbrev pub KeepsFew : ℕ → TokenKind → Kept → Type 0
KeepsFew limit k kept = is_quoted_kind k ≡ true → length kept.bytes ≤ limit

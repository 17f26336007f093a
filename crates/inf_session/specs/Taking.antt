-- The taking of a token that was read.
use Rattle.std.specs.Prelude.{ℕ, List, length, nat_lt, is_none, Bool, ◌&&◌, ◌||◌, if◌then◌else◌}
use Rattle.inf_settings.specs.Bounds.{Limits}
use Rattle.inf_scanner.specs.{declared.tokens.BadToken.BadToken, declared.tokens.Place.Place, declared.tokens.TokenKind.TokenKind}
use Rattle.inf_unit.specs.Tokens.{SourceToken}
use Rattle.inf_compilation.specs.{Actions.Compilation, Actions.is_class, Context.Context}
use Rattle.inf_conditionals.specs.{Judging.judged, declared.filtered.Filtered.Filtered, declared.filtered.Site.Site}
use Rattle.inf_conditionals.specs.Open.{Conditions, silent}
use Rattle.inf_reader.specs.{Handing.judged_taken, Handing.said_told, Handing.site_of, Reading.ReaderState}

-- a token that comes to a place of the reading: at the front of a piece a name may be that of a class
abbrev pub token_at : Bool → TokenKind → List ℕ → Place → Compilation → SourceToken
token_at is_between kind bytes place w =
    record { kind = kind; bytes = bytes; place = place; is_class = is_between && is_class kind bytes w }

-- the number of bytes between the quotes of a token that has quotes: of one that is too long as many as it may have
abbrev pub quoted_of_kind : TokenKind → List ℕ → ℕ
quoted_of_kind TokenKind.Text bytes = length bytes
quoted_of_kind (TokenKind.Char c) bytes = length bytes
quoted_of_kind (TokenKind.Word w) bytes = length bytes
quoted_of_kind (TokenKind.Bad BadToken.Unclosed) bytes = length bytes
quoted_of_kind (TokenKind.Bad BadToken.EmptyQuote) bytes = length bytes
quoted_of_kind (TokenKind.Bad BadToken.UnknownEscape) bytes = length bytes
quoted_of_kind (TokenKind.Bad BadToken.NoZscii) bytes = length bytes
quoted_of_kind (TokenKind.Bad BadToken.BadCode) bytes = length bytes
quoted_of_kind (TokenKind.Bad BadToken.TooLong) bytes = length bytes
quoted_of_kind _ bytes = 0

abbrev pub quoted_bytes : SourceToken → ℕ
quoted_bytes t = quoted_of_kind t.kind t.bytes

-- the number of bytes of the longest quoted token behind a token: one that is not handed on, or is passed over behind a bad
-- one, does not count
abbrev pub quoted_behind : Site → Filtered → SourceToken → ℕ → ℕ
quoted_behind site j t quoted =
    if site.is_quiet || is_none j.token then quoted else if nat_lt quoted (quoted_bytes t) then quoted_bytes t else quoted

-- the conditionals behind a token, the reading of the next one and the compiled work, and the number of bytes of the longest quoted token
pub record Taken : Type 0 where
  pub conditions : Conditions
  pub stand : ReaderState
  pub quoted : ℕ

-- The state behind a token, which is taken as the conditionals judge it: they say what there is to tell of a condition, and
-- the reader takes the tokens that are handed on.
abbrev pub token_taken : Limits → Context → SourceToken → Conditions → ReaderState → ℕ → Taken
token_taken limits context t c s quoted =
    let site = site_of context.settings s.reading in let b = judged site s.work.output t c in
    record {
      conditions = silent b.now;
      stand = judged_taken limits context t b.judged (said_told limits b.now.said context s);
      quoted = quoted_behind site b.judged t quoted;
    }

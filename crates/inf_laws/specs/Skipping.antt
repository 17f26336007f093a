-- The skipping of a bad piece, by the tokens that conditionals hand on behind its bad token.
use Rattle.std.specs.Prelude.{◌≡◌, ◌≤◌, ℕ, List, ◌∷◌, ◌++◌, length, take, true, not, ◌||◌}
use Rattle.std.specs.List.{list_all}
use Rattle.inf_settings.specs.Bounds.{Limits}
use Rattle.inf_scanner.specs.{declared.tokens.Mark.Mark, declared.tokens.TokenKind.TokenKind}
use Rattle.inf_compilation.specs.Context.{Context}
use Rattle.inf_unit.specs.Tokens.{is_end, is_mark}
use Rattle.inf_conditionals.specs.declared.filtered.Forwarded.{Forwarded}
use Rattle.inf_reader.specs.{Handing.handed_as, Handing.skips, Reading.ReaderState, Reading.passed, declared.recovery.Recovery.Recovery}
use Rattle.inf_laws.specs.KeptTokens.{Given, Kept, Unfit, skipped, token_in}

-- Definitions of one token

-- the reading, and the compiled work, behind a token that is handed on
abbrev pub given_at : Limits → Context → Given → ReaderState → ReaderState
given_at limits context (Kept t) s = handed_as limits Forwarded.Kept context t s
given_at limits context (Unfit t) s = handed_as limits Forwarded.Unfit context t s

-- a state of reading, with the mode in which the next token is read replaced
abbrev pub at : Recovery → ReaderState → ReaderState
at m s = record s { reading = record s.reading { mode = m } }

-- A token that is passed over changes nothing else: nothing is told of it, and nothing is compiled.
abbrev pub PassedTokensDoNothing : Limits → Type 0
PassedTokensDoNothing limits = (context : Context) (g : Given) (s : ReaderState) → skips s.reading.mode ≡ true
    → given_at limits context g s ≡ at (passed s.reading.mode (token_in g).kind) s

-- the end of a source ends the passing over of tokens
abbrev pub SourcesEnd : Type 0
SourcesEnd = (m : Recovery) (token : TokenKind) → is_end token ≡ true → passed m token ≡ Recovery.Ended

-- Definitions of the tokens of a piece

-- none of these tokens is this mark or the end of the source
abbrev pub Lack : Mark → List Given → Type 0
Lack m given = list_all (λ g. not (is_mark m (token_in g).kind || is_end (token_in g).kind)) given ≡ true

-- from here tokens are passed over in one way up to a mark, which the tokens `inside` lack, and in another way behind it
pub record PassesTo (before after : Recovery) (inside : List Given) (m : Given) : Type 0 where
  pub stays : (n : ℕ) → n ≤ length inside → skipped before (take n inside) ≡ before
  pub ends : (behind : List Given) → skipped before (inside ++ m ∷ behind) ≡ skipped after behind

-- Outside of a routine all tokens are passed over up to the first semicolon, and reading goes on behind it.
abbrev pub DirectivesAreSkipped : Type 0
DirectivesAreSkipped = (inside : List Given) (semicolon : Given)
    → Lack Mark.Semicolon inside → is_mark Mark.Semicolon (token_in semicolon).kind ≡ true
    → PassesTo Recovery.SkipsDirective Recovery.Reads inside semicolon

-- In a routine all tokens are passed over up to the first closing bracket, and those behind it as outside of a routine.
abbrev pub RoutinesAreSkipped : Type 0
RoutinesAreSkipped = (inside : List Given) (bracket : Given)
    → Lack Mark.CloseBracket inside → is_mark Mark.CloseBracket (token_in bracket).kind ≡ true
    → PassesTo Recovery.SkipsRoutine Recovery.SkipsDirective inside bracket

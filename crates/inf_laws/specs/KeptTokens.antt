-- The reading of the tokens that conditionals hand on: of those of a piece the bad one is the first with which they begin none.
use Rattle.std.specs.Prelude.{◌≡◌, ℕ, List, [], ◌∷◌, ◌++◌, map, Bool, true, false, ◌&&◌, ◌||◌, Option, Some, None, if◌then◌else◌}
use Rattle.inf_settings.specs.Bounds.{Limits}
use Rattle.inf_unit.specs.Tokens.{SourceToken, atom_of, is_end}
use Rattle.inf_scanner.specs.declared.tokens.TokenKind.{TokenKind}
use Rattle.inf_syntax.specs.declared.actions.Action.{Action}
use Rattle.inf_machine.specs.{Machine.fits, Machine.taken, declared.symbols.Symbol.Symbol}
use Rattle.inf_grammar.specs.Language.{grammar, known}
use Rattle.inf_conditionals.specs.{declared.filtered.Filtered.Filtered, declared.filtered.Forwarded.Forwarded, declared.filtered.Sign.Sign}
use Rattle.inf_compilation.specs.Context.{Context}
use Rattle.inf_reader.specs.{Pieces.BeginsPiece, Pieces.IsPiece, declared.recovery.Recovery.Recovery}
use Rattle.inf_reader.specs.Handing.{hash, is_empty, judged_taken, reads}
use Rattle.inf_reader.specs.Reading.{Reading, ReaderState, between, is_mode_ended, passed, piece_begun, skip_of}
use Rattle.inf_laws.specs.BadTokens.{skip_behind}

-- Definitions of tokens that are handed on

-- A token that is handed on: one that is kept, or one that does not fit the conditional directive in which it is. The tokens of
-- conditional directives, and of sides that are left out, are not handed on.
pub data Given : Type 0 where
  Kept : (token : SourceToken) → Given
  Unfit : (token : SourceToken) → Given

abbrev pub token_in : Given → SourceToken
token_in (Kept t) = t
token_in (Unfit t) = t

-- the tokens that are handed on for a token, by the judgement of it: first a `#` that was held back before it
abbrev pub given_as : Forwarded → SourceToken → List Given
given_as Forwarded.Kept t = Kept t ∷ []
given_as Forwarded.Unfit t = Unfit t ∷ []
given_as Forwarded.Condition t = []

abbrev pub given_sign : Option Sign → List Given
given_sign None = []
given_sign (Some sign) = given_as sign.handed (hash sign.place)

abbrev pub given_token : Option Forwarded → SourceToken → List Given
given_token None t = []
given_token (Some h) t = given_as h t

abbrev pub given_of : Filtered → SourceToken → List Given
given_of j t = given_sign j.sign ++ given_token j.token t

-- Definitions of reading without a compilation

-- the reading after a token that fits, which is taken; any other token is bad
abbrev pub took_by : ℕ → Reading → Reading
took_by atom r = record { mode = r.mode; stack = (taken grammar known atom r.stack).left }

abbrev pub bad_by : TokenKind → Reading → Reading
bad_by k r = between (passed (skip_of r.stack) k)

abbrev pub judged_by : SourceToken → Reading → Reading
judged_by t r = if fits grammar known (atom_of t) r.stack then took_by (atom_of t) r else bad_by t.kind r

-- the reading after a token of a new piece, or of the one at hand
abbrev pub read_by : List (Symbol Action) → SourceToken → Reading → Reading
read_by [] t r = if is_end t.kind then record r { mode = Recovery.Ended } else judged_by t (piece_begun r)
read_by (_ ∷ _) t r = judged_by t r

abbrev pub kept_by : Recovery → SourceToken → Reading → Reading
kept_by Recovery.Reads t r = read_by r.stack t r
kept_by Recovery.Ended t r = r
kept_by skip t r = record r { mode = passed skip t.kind }

-- the reading after a token that does not fit its conditional directive: it is bad, and among tokens that are passed over it is one
-- of them
abbrev pub unfit_by : Recovery → SourceToken → Reading → Reading
unfit_by Recovery.Reads t r = bad_by t.kind r
unfit_by Recovery.Ended t r = r
unfit_by skip t r = record r { mode = passed skip t.kind }

-- the reading after a token that is handed on
abbrev pub given_to : Given → Reading → Reading
given_to (Kept t) r = kept_by r.mode t r
given_to (Unfit t) r = unfit_by r.mode t r

abbrev pub all_given_to : List Given → Reading → Reading
all_given_to [] r = r
all_given_to (g ∷ given) r = all_given_to given (given_to g r)

-- The reading goes on by the tokens that are handed on alone: neither by the messages that there are, nor by the compiled work. The
-- tokens say which names are those of classes.
abbrev pub TokensAreHandedOn : Limits → Type 0
TokensAreHandedOn limits = (context : Context) (t : SourceToken) (j : Filtered) (s : ReaderState)
    → (judged_taken limits context t j s).reading ≡ all_given_to (given_of j t) s.reading

-- Definitions of pieces

-- whether the reading is between two pieces, or at the end
abbrev pub rests : Reading → Bool
rests r = (reads r.mode && is_empty r.stack) || is_mode_ended r.mode

-- behind each token but the last a piece goes on
abbrev pub GoesBehind : List Given → Reading → Type 0
GoesBehind [] r = Unit {0}
GoesBehind (g ∷ given) r = (rests r ≡ false) × GoesBehind given (given_to g r)

abbrev pub GoesOn : List Given → Reading → Type 0
GoesOn [] r = Unit {0}
GoesOn (g ∷ given) r = GoesBehind given (given_to g r)

-- The bad token of a piece, behind tokens that begin it: one that does not fit a conditional directive, or one that is kept and
-- with which they begin no piece.
abbrev pub IsBad : List SourceToken → Given → Type 0
IsBad tokens (Kept t) = BeginsPiece (map atom_of (tokens ++ t ∷ [])) → ⊥
IsBad tokens (Unfit t) = Unit {0}

-- the way of reading behind tokens that are passed over
abbrev pub skipped : Recovery → List Given → Recovery
skipped m [] = m
skipped m (g ∷ given) = skipped (passed m (token_in g).kind) given

-- The state of the reading behind the tokens that were handed on since it was between two pieces.
pub data Stands (given : List Given) (r : Reading) : Type 0 where
  InAPiece : (tokens : List SourceToken) → given ≡ map Kept tokens → BeginsPiece (map atom_of tokens) → r.mode ≡ Recovery.Reads →
      Stands given r
  BehindAPiece : (tokens : List SourceToken) → given ≡ map Kept tokens → IsPiece (map atom_of tokens) → r ≡ between Recovery.Reads →
      Stands given r
  BehindABadToken : (tokens : List SourceToken) (bad : Given) (behind : List Given) → given ≡ map Kept tokens ++ bad ∷ behind →
      BeginsPiece (map atom_of tokens) → IsBad tokens bad → r ≡ between (skipped (skip_behind (map atom_of tokens)) (bad ∷ behind)) →
      Stands given r
  BehindTheEnd : (t : SourceToken) → given ≡ Kept t ∷ [] → is_end t.kind ≡ true → r ≡ between Recovery.Ended → Stands given r

-- The state of the reading as long as the first piece goes on: the tokens are kept and begin a piece, or they are one, and the
-- reading is behind it; or the bad one among them is the first that does not fit or with which they begin no piece, and it and those
-- behind it are passed over, as in a routine where the routine's bracket is open before it; or the file has ended before a piece.
abbrev pub KeptTokensAreRead : Type 0
KeptTokensAreRead = (given : List Given) (r : Reading) → r ≡ between Recovery.Reads → GoesOn given r → Stands given (all_given_to given r)

-- The tokens that the machine of the grammar gets, by their results among conditionals.
use Rattle.std.specs.Prelude.{List, [], ◌∷◌, codes, Bool, true, false, not, ◌&&◌, Option, Some, None}
use Rattle.inf_settings.specs.{Bounds.Limits, Settings.number_of, declared.setting.Setting.Setting, declared.settings.Settings.Settings}
use Rattle.inf_scanner.specs.{declared.tokens.Mark.Mark, declared.tokens.Place.Place, declared.tokens.TokenKind.TokenKind}
use Rattle.inf_machine.specs.declared.symbols.Symbol.{Symbol}
use Rattle.inf_syntax.specs.declared.actions.Action.{Action}
use Rattle.inf_compilation.specs.{Actions.begun_at, Context.Context, Nesting.closed_ahead}
use Rattle.inf_unit.specs.Tokens.{SourceToken}
use Rattle.inf_conditionals.specs.{Ends.with_lone, Said.Said, Said.with_right, Said.with_said, declared.filtered.Filtered.Filtered}
use Rattle.inf_conditionals.specs.{declared.filtered.Forwarded.Forwarded, declared.filtered.Sign.Sign, declared.filtered.Site.Site}
use Rattle.inf_grammar.specs.Routines.{closings}
use Rattle.inf_reader.specs.{Reading.ReaderState, Reading.Reading, Reading.bad, Reading.step, declared.recovery.Recovery.Recovery}

-- Definitions of the places in the reading at which a token comes

abbrev pub is_empty : List (Symbol Action) → Bool
is_empty [] = true
is_empty (_ ∷ _) = false

abbrev pub reads : Recovery → Bool
reads Recovery.Reads = true
reads _ = false

abbrev pub skips : Recovery → Bool
skips Recovery.SkipsRoutine = true
skips Recovery.SkipsDirective = true
skips _ = false

-- Tells whether the next token comes between the pieces of a source.
abbrev pub is_between : Reading → Bool
is_between r = reads r.mode && is_empty r.stack

-- Tells whether the next token is a further one of a piece that is read.
abbrev pub is_inside : Reading → Bool
is_inside r = reads r.mode && not (is_empty r.stack)

-- the place in the reading at which the next token comes: between the pieces, or among tokens that are passed over
abbrev pub site_of : Settings → Reading → Site
site_of settings r = record { is_between = is_between r; is_quiet = skips r.mode; longest = number_of Setting.ExpressionNodes settings }

-- Definitions of the tokens that are handed on

-- a `#` at a place, as a token
abbrev pub hash : Place → SourceToken
hash place = record { kind = TokenKind.Mark Mark.Hash; bytes = codes "#"; place = place; is_class = false }

-- the reading behind a token that does not fit a conditional: it is the bad one of the piece at hand, and is passed over where one was
-- reported before
abbrev pub unfit_in : Limits → Recovery → Context → SourceToken → ReaderState → ReaderState
unfit_in limits Recovery.Reads context t s = bad limits context t s.reading s.work
unfit_in limits _ context t s = step limits context t s.reading s.work

-- the reading behind a token that is handed on in this way; one that a condition takes is not handed on
abbrev pub handed_as : Limits → Forwarded → Context → SourceToken → ReaderState → ReaderState
handed_as limits Forwarded.Kept context t s = step limits context t s.reading s.work
handed_as limits Forwarded.Unfit context t s = unfit_in limits s.reading.mode context t s
handed_as limits Forwarded.Condition context t s = s

abbrev pub sign_taken : Limits → Option Sign → Context → ReaderState → ReaderState
sign_taken limits None context s = s
sign_taken limits (Some sign) context s = handed_as limits sign.handed context (hash sign.place) s

abbrev pub token_taken : Limits → Option Forwarded → Context → SourceToken → ReaderState → ReaderState
token_taken limits None context t s = s
token_taken limits (Some h) context t s = handed_as limits h context t s

-- The message about a condition comes before anything else that its token does; the actions of a condition without an error appear.
abbrev pub said_told : Limits → Option Said → Context → ReaderState → ReaderState
said_told limits said context s =
    record s { work = record s.work { report = with_said context.names said s.work.report; output = with_right limits said s.work.output } }

abbrev pub lone_told : Option Place → Context → ReaderState → ReaderState
lone_told None context s = s
lone_told (Some place) context s = record s { work = record s.work { report = with_lone context.names place s.work.report } }

-- A conditional directive is a unit. Before it the statements are closed that are over, whatever the next token is.
abbrev pub unit_ended : Limits → Option Place → Context → ReaderState → ReaderState
unit_ended limits None context s = s
unit_ended limits (Some place) context s =
    record s { work = begun_at limits context.names place (closed_ahead limits (closings s.reading.stack) s.work) }

-- the reading behind a token: first the `#` before the token is taken, then the token, and then a conditional directive that has ended;
-- one that has no conditional to end or to turn is reported
abbrev pub judged_taken : Limits → Context → SourceToken → Filtered → ReaderState → ReaderState
judged_taken limits context t j s = unit_ended limits j.ended context
    (lone_told j.unmatched context (token_taken limits j.token context t (sign_taken limits j.sign context s)))

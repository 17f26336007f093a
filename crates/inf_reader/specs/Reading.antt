-- The reading of a source: token by token, by the machine of the grammar. A token that fits is taken, and the actions on the way to it
-- act. One that does not is the bad token of its piece; it is reported, and tokens are passed over to the end of the piece. The unit that
-- it cuts gives nothing. Designer's Manual, fourth edition, sections 1.3, 1.4 and 1.7.
use Rattle.std.specs.Prelude.{ℕ, List, [], ◌∷◌, Bool, true, false, ◌||◌, if◌then◌else◌}
use Rattle.inf_settings.specs.{Bounds.Limits, declared.settings.Settings.Settings}
use Rattle.inf_scanner.specs.{declared.tokens.Mark.Mark, declared.tokens.TokenKind.TokenKind}
use Rattle.inf_report.specs.{Messages.Location, Messages.Message, Messages.kind_of, declared.messages.Kind.Kind}
use Rattle.inf_unit.specs.Messages.{Reported, location, with_error, with_fatal}
use Rattle.inf_unit.specs.Tokens.{SourceToken, atom_of, is_end, is_mark}
use Rattle.inf_compilation.specs.Context.{Context}
use Rattle.inf_compilation.specs.Actions.{Compilation, no_work, piece_begun as work_begun, took as work_took}
use Rattle.inf_syntax.specs.declared.actions.Action.{Action}
use Rattle.inf_machine.specs.{Machine.fits, Machine.taken, declared.symbols.Symbol.Symbol}
use Rattle.inf_grammar.specs.{Language.grammar, Language.known, Routines.is_in_routine}
use Rattle.inf_reader.specs.{Acting.all_acted, Acting.cut_at, Tests.complaint_of, declared.recovery.Recovery.Recovery}

-- The reading of a source: the way in which the next token is read, and the rest of the piece at hand that is still to come.
pub record Reading : Type 0 where
  pub mode : Recovery
  pub stack : List (Symbol Action)

-- the reading between the pieces of a source
abbrev pub between : Recovery → Reading
between m = record { mode = m; stack = [] }

-- The reading of a source, and the compilation so far.
pub record ReaderState : Type 0 where
  pub reading : Reading
  pub work : Compilation

-- the state before the first token of a source
abbrev pub begun_stand : Settings → ReaderState
begun_stand settings = record { reading = between Recovery.Reads; work = no_work settings }

abbrev pub is_mode_ended : Recovery → Bool
is_mode_ended Recovery.Ended = true
is_mode_ended _ = false

-- Tells whether reading has ended: at the end of the source or with a fatal message.
abbrev pub has_ended_at : ReaderState → Bool
has_ended_at s = s.work.report.counts.is_over || is_mode_ended s.reading.mode

-- Definitions of bad pieces

-- The way in which reading goes on behind a token that is passed over: after the next semicolon, in a routine after the first one behind
-- the next closing bracket.
abbrev pub passed_mark : Recovery → TokenKind → Recovery
passed_mark Recovery.SkipsRoutine token = if is_mark Mark.CloseBracket token then Recovery.SkipsDirective else Recovery.SkipsRoutine
passed_mark _ token = if is_mark Mark.Semicolon token then Recovery.Reads else Recovery.SkipsDirective

abbrev pub passed : Recovery → TokenKind → Recovery
passed skip token = if is_end token then Recovery.Ended else passed_mark skip token

-- the way in which tokens are passed over in a piece, which is in a routine up to where the machine expects the routine's end
abbrev pub skip_of : List (Symbol Action) → Recovery
skip_of stack = if is_in_routine stack then Recovery.SkipsRoutine else Recovery.SkipsDirective

-- Definitions of tokens

-- the messages with that about a token at a line: a text that is too long ends the compilation
abbrev pub with_complaint_of : Kind → Location → Message → Reported → Reported
with_complaint_of Kind.Fatal at m r = with_fatal at m r
with_complaint_of _ at m r = with_error at at m r

abbrev pub with_complaint : Location → Message → Reported → Reported
with_complaint at m r = with_complaint_of (kind_of m) at m r

-- The bad token of a piece is reported, and is the first that is passed over. The unit that it is in gives nothing, and a routine that it
-- is in is never finished: the part that there is of it and of its locals is left, and nothing reads it.
abbrev pub bad : Limits → Context → SourceToken → Reading → Compilation → ReaderState
bad limits context t r w =
    let c = cut_at limits context t.place w in
    record {
      reading = between (passed (skip_of r.stack) t.kind);
      work = record c { report = with_complaint (location context.names t.place) (complaint_of t) c.report };
    }

-- A token that fits is taken: first the actions on the way to it act.
abbrev pub took : Limits → Context → SourceToken → Reading → Compilation → ReaderState
took limits context t r w =
    let n = taken grammar known (atom_of t) r.stack in
    record { reading = record { mode = r.mode; stack = n.left }; work = work_took context t (all_acted limits context t.place n.actions w) }

-- the state behind a token of a piece, which is taken where it fits, and else is the bad one
abbrev pub judged : Limits → Context → SourceToken → Reading → Compilation → ReaderState
judged limits context t r w = if fits grammar known (atom_of t) r.stack then took limits context t r w else bad limits context t r w

-- the rule of the pieces
abbrev pub piece_rule : ℕ
piece_rule = 1

-- the reading of a new piece
abbrev pub piece_begun : Reading → Reading
piece_begun r = record { mode = r.mode; stack = Symbol.Rule piece_rule ∷ [] }

-- the state behind the next token, of a new piece where the stack is empty, and else of the piece at hand
abbrev pub read_at : Limits → Context → SourceToken → List (Symbol Action) → Reading → Compilation → ReaderState
read_at limits context t [] r w =
    if is_end t.kind then record { reading = record r { mode = Recovery.Ended }; work = w }
    else judged limits context t (piece_begun r) (work_begun w)
read_at limits context t (_ ∷ _) r w = judged limits context t r w

abbrev pub step_in : Limits → Recovery → Context → SourceToken → Reading → Compilation → ReaderState
step_in limits Recovery.Reads context t r w = read_at limits context t r.stack r w
step_in limits Recovery.Ended context t r w = record { reading = r; work = w }
step_in limits skip context t r w = record { reading = record r { mode = passed skip t.kind }; work = w }

-- the state behind a token
abbrev pub step : Limits → Context → SourceToken → Reading → Compilation → ReaderState
step limits context t r w = step_in limits r.mode context t r w

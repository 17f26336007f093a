-- Turns lead to the same state whether they write their messages or not.
use Rattle.std.proofs.Common.{◌≡◌, ℕ, zero, suc, List, [], ◌++◌, Bool, true, false, refl, sym, ◌∙◌, ap, append-nil, if◌then◌else◌}
use Rattle.inf_settings.specs.Bounds.{Limits}
use Rattle.inf_scanner.specs.declared.tokens.Place.{Place}
use Rattle.inf_devices.specs.Files.{Sources}
use Rattle.inf_sources.specs.Cursors.{behind, read}
use Rattle.inf_unit.specs.Tokens.{SourceToken}
use Rattle.inf_reader.specs.Handing.{is_between}
use Rattle.inf_session.specs.{Choices.Choices, Taking.Taken, Taking.token_taken}
use Rattle.inf_session.specs.Session.{State, context_of, followed, has_ended, run, stand_of, stepped, token_of, told_out, turn}
use Rattle.inf_laws.specs.KeptTurns.{turned}
use Rattle.inf_program.specs.Writing.{LinesAreWrittenAtAnyTime, silent_run, silent_turn, silent_turned, unwritten, with_lines}
use Rattle.inf_program.proofs.{Followed.followed_moves, Handed.taken_lead, Handed.token_stays, Readers.state_behind}
use Rattle.inf_program.proofs.States.{Moves, Stays, then_moves}

-- A token is taken.

comes_stays : Stays token_of
comes_stays lines told s =
    let r = read s.nesting.cursor in
    let place : Place = record { file = s.nesting.cursor.file; line = r.line } in
    token_stays (is_between s.reading) r.kind r.kept.bytes place lines s.work

-- the state behind a token that comes to this, where these lines were written
abbrev behind_token : Taken → List ℕ → State → State
behind_token n told s = record {
  nesting = record s.nesting { cursor = behind s.nesting.cursor (read s.nesting.cursor) };
  conditions = n.conditions;
  reading = n.stand.reading;
  work = n.stand.work;
  told = told;
  is_over = s.is_over;
  quoted = n.quoted;
  passed = s.passed;
}

pub stepped_moves : (limits : Limits) (o : Choices) → Moves (stepped limits o)
stepped_moves limits o = record {
  moves = λ lines told s.
      ap (λ (t : SourceToken). behind_token (token_taken limits (context_of o s) t s.conditions (state_behind lines (stand_of s)) s.quoted)
      told s) (comes_stays lines told s)
      ∙ ap (λ (n : Taken). behind_token n told s)
      (taken_lead limits (context_of o s) (token_of s) s.conditions s.quoted lines (stand_of s));
}

silent_moves : (limits : Limits) (sources : Sources) (o : Choices) → Moves (silent_turn limits sources o)
silent_moves limits sources o = then_moves (stepped limits o) (followed sources o) (stepped_moves limits o) (followed_moves sources o)

-- A turn writes its lines, and no others.

-- the lines that were written before a turn are unchanged by it
written_stay : (limits : Limits) (sources : Sources) (o : Choices) (s : State) → (silent_turn limits sources o s).told ≡ s.told
written_stay limits sources o s = ap (λ (x : State). x.told) ((silent_moves limits sources o).moves [] s.told s)

-- the state with lines that are still to be written, where none was
abbrev to_write : List ℕ → State → State
to_write lines s = record s { work = record s.work { report = record s.work.report { lines = lines } }; told = [] }

-- writing the lines does not change all lines
pub written_is_silent : (s : State) → unwritten (told_out s) ≡ unwritten s
written_is_silent s = ap (λ lines. to_write lines s) (append-nil (s.told ++ s.work.report.lines))

pub one_turn : (limits : Limits) (sources : Sources) (o : Choices) (s : State)
    → unwritten (turn limits sources o s) ≡ silent_turn limits sources o (unwritten s)
one_turn limits sources o s =
    let x = silent_turn limits sources o s in
    written_is_silent x
    ∙ (ap (λ lines. with_lines lines [] x) (written_stay limits sources o s)
    ∙ sym ((silent_moves limits sources o).moves s.told [] s))

some_turns : (limits : Limits) (sources : Sources) (o : Choices) (n : ℕ) (s : State)
    → unwritten (turned limits sources o n s) ≡ silent_turned limits sources o n (unwritten s)
some_turns limits sources o zero s = refl
some_turns limits sources o (suc n) s = some_turns limits sources o n (turn limits sources o s)
    ∙ ap (silent_turned limits sources o n) (one_turn limits sources o s)

-- the turns behind the first, where reading has ended or not
by_end : (b : Bool) (x y z : State) → unwritten y ≡ z → unwritten (if b then x else y) ≡ (if b then unwritten x else z)
by_end true x y z same = refl
by_end false x y z same = same

all_turns : (limits : Limits) (sources : Sources) (o : Choices) (n : ℕ) (s : State)
    → unwritten (run limits sources o n s) ≡ silent_run limits sources o n (unwritten s)
all_turns limits sources o zero s = refl
all_turns limits sources o (suc n) s = by_end (has_ended s) s (run limits sources o n (turn limits sources o s))
    (silent_run limits sources o n (silent_turn limits sources o (unwritten s)))
    (all_turns limits sources o n (turn limits sources o s)
    ∙ ap (silent_run limits sources o n) (one_turn limits sources o s))

pub lines_are_written_at_any_time : (limits : Limits) → LinesAreWrittenAtAnyTime limits
lines_are_written_at_any_time limits = record { one = one_turn limits; turns = some_turns limits; all = all_turns limits }

-- Messages grow where a token is read: where it fits, where it is the bad one, and where it is passed over.
use Rattle.std.proofs.Common.{Bool, List, None, [], ap, false, if◌then◌else◌, refl, true, ℕ, ◌∷◌, ◌≡◌}
use Rattle.inf_scanner.specs.declared.tokens.Place.{Place}
use Rattle.inf_settings.specs.Bounds.{Limits}
use Rattle.inf_machine.specs.{Machine.fits, Machine.taken, declared.symbols.Symbol.Symbol}
use Rattle.inf_syntax.specs.declared.actions.Action.{Action}
use Rattle.inf_grammar.specs.Language.{grammar, known}
use Rattle.inf_report.specs.{Messages.Location, Messages.Message, Messages.kind_of, declared.messages.Kind.Kind}
use Rattle.inf_unit.specs.{Messages.location, Tokens.SourceToken, Tokens.atom_of, Tokens.is_end}
use Rattle.inf_compilation.specs.{Actions.Compilation, Actions.piece_begun as work_begun, Actions.took as work_took, Context.Context}
use Rattle.inf_reader.specs.{Tests.complaint_of, declared.recovery.Recovery.Recovery}
use Rattle.inf_reader.specs.Acting.{act, acted, all_acted, cut_at}
use Rattle.inf_reader.specs.Reading.{ReaderState, Reading, bad, between, judged, passed, piece_begun, read_at, skip_of, step, step_in, took}
use Rattle.inf_reader.specs.Reading.{with_complaint, with_complaint_of}
use Rattle.inf_message_laws.specs.Growing.{Grows, with_lines_before}
use Rattle.inf_message_laws.proofs.Walked.{act_grows, cut_at_grows, took_grows}
use Rattle.inf_message_laws.proofs.Told.{Adds, error_adds, fatal_adds, nothing_grows, then_grows, told_grows}

-- the reading with lines before those of its compilation
abbrev pub state_behind : List ℕ → ReaderState → ReaderState
state_behind lines s = record s { work = with_lines_before lines s.work }

-- Reading from a compilation on does not depend on lines that were reported before, and leaves them unchanged before its own.
pub record Reads (f : Compilation → ReaderState) : Type 0 where
  pub reads : (lines : List ℕ) (w : Compilation) → f (with_lines_before lines w) ≡ state_behind lines (f w)

-- the reading in a state, by the compilation then
abbrev standing : Reading → Compilation → ReaderState
standing r w = record { reading = r; work = w }

stands : (r : Reading) (g : Compilation → Compilation) → Grows g → Reads (λ w. standing r (g w))
stands r g grow = record { reads = λ lines w. ap (standing r) (grow.grows lines w) }

either_reads : (b : Bool) (f g : Compilation → ReaderState) → Reads f → Reads g → Reads (λ w. if b then f w else g w)
either_reads true f g first second = first
either_reads false f g first second = second

-- Lemmas about bad tokens

complaint_of_adds : (k : Kind) (at : Location) (m : Message) → Adds (with_complaint_of k at m)
complaint_of_adds Kind.Fatal at m = fatal_adds at m
complaint_of_adds _ at m = error_adds at at m

complaint_adds : (at : Location) (m : Message) → Adds (with_complaint at m)
complaint_adds at m = complaint_of_adds (kind_of m) at m

-- the compilation behind a bad token
abbrev complained : Limits → Context → SourceToken → Compilation → Compilation
complained limits context t w =
    let c = cut_at limits context t.place w in
    record c { report = with_complaint (location context.names t.place) (complaint_of t) c.report }

complained_grows : (limits : Limits) (context : Context) (t : SourceToken) → Grows (complained limits context t)
complained_grows limits context t = then_grows (cut_at limits context t.place)
    (λ (w : Compilation). record w { report = with_complaint (location context.names t.place) (complaint_of t) w.report })
    (cut_at_grows limits context t.place)
    (told_grows (with_complaint (location context.names t.place) (complaint_of t))
    (complaint_adds (location context.names t.place) (complaint_of t)))

pub bad_reads : (limits : Limits) (context : Context) (t : SourceToken) (r : Reading) → Reads (bad limits context t r)
bad_reads limits context t r =
    stands (between (passed (skip_of r.stack) t.kind)) (complained limits context t) (complained_grows limits context t)

-- Lemmas about tokens that fit

acted_grows : (limits : Limits) (context : Context) (place : Place) (actions : List Action) → Grows (acted limits context place actions)
acted_grows limits context place [] = nothing_grows
acted_grows limits context place (a ∷ actions) =
    then_grows (act limits context place a) (acted limits context place actions) (act_grows limits context place a)
    (acted_grows limits context place actions)

-- no word of a statement waits any more
abbrev none_waiting : Compilation → Compilation
none_waiting w = record w { opening = None }

none_waiting_grows : Grows none_waiting
none_waiting_grows = record { grows = λ lines w. refl }

all_acted_grows : (limits : Limits) (context : Context) (place : Place) (actions : List Action)
    → Grows (all_acted limits context place actions)
all_acted_grows limits context place actions =
    then_grows none_waiting (acted limits context place actions) none_waiting_grows (acted_grows limits context place actions)

-- the compilation behind a token that fits, and the actions on the way to it
abbrev fitted : Limits → Context → SourceToken → List Action → Compilation → Compilation
fitted limits context t actions w = work_took context t (all_acted limits context t.place actions w)

fitted_grows : (limits : Limits) (context : Context) (t : SourceToken) (actions : List Action) → Grows (fitted limits context t actions)
fitted_grows limits context t actions =
    then_grows (all_acted limits context t.place actions) (work_took context t) (all_acted_grows limits context t.place actions)
    (took_grows context t)

took_reads : (limits : Limits) (context : Context) (t : SourceToken) (r : Reading) → Reads (took limits context t r)
took_reads limits context t r = stands (record { mode = r.mode; stack = (taken grammar known (atom_of t) r.stack).left })
    (fitted limits context t (taken grammar known (atom_of t) r.stack).actions)
    (fitted_grows limits context t (taken grammar known (atom_of t) r.stack).actions)

-- Lemmas about any token

judged_reads : (limits : Limits) (context : Context) (t : SourceToken) (r : Reading) → Reads (judged limits context t r)
judged_reads limits context t r = either_reads (fits grammar known (atom_of t) r.stack) (took limits context t r) (bad limits context t r)
    (took_reads limits context t r) (bad_reads limits context t r)

-- a token of a new piece
new_reads : (limits : Limits) (context : Context) (t : SourceToken) (r : Reading)
    → Reads (λ w. judged limits context t (piece_begun r) (work_begun w))
new_reads limits context t r = record { reads = λ lines w. (judged_reads limits context t (piece_begun r)).reads lines (work_begun w) }

read_at_reads : (limits : Limits) (context : Context) (t : SourceToken) (stack : List (Symbol Action)) (r : Reading)
    → Reads (read_at limits context t stack r)
read_at_reads limits context t [] r = either_reads (is_end t.kind) (standing (record r { mode = Recovery.Ended }))
    (λ (w : Compilation). judged limits context t (piece_begun r) (work_begun w))
    (stands (record r { mode = Recovery.Ended }) (λ w. w) nothing_grows) (new_reads limits context t r)
read_at_reads limits context t (symbol ∷ symbols) r = judged_reads limits context t r

step_in_reads : (limits : Limits) (m : Recovery) (context : Context) (t : SourceToken) (r : Reading) → Reads (step_in limits m context t r)
step_in_reads limits Recovery.Reads context t r = read_at_reads limits context t r.stack r
step_in_reads limits Recovery.SkipsRoutine context t r =
    stands (record r { mode = passed Recovery.SkipsRoutine t.kind }) (λ w. w) nothing_grows
step_in_reads limits Recovery.SkipsDirective context t r =
    stands (record r { mode = passed Recovery.SkipsDirective t.kind }) (λ w. w) nothing_grows
step_in_reads limits Recovery.Ended context t r = stands r (λ w. w) nothing_grows

pub step_reads : (limits : Limits) (context : Context) (t : SourceToken) (r : Reading) → Reads (step limits context t r)
step_reads limits context t r = step_in_reads limits r.mode context t r

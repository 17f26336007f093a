-- Steps behind a token move lines: an inclusion, the end of a file, and the end of a piece.
use Rattle.std.proofs.Common.{ℕ, List, [], ◌∷◌, reverse, refl, if◌then◌else◌}
use Rattle.inf_scanner.specs.declared.tokens.Place.{Place}
use Rattle.inf_devices.specs.Files.{Sources}
use Rattle.inf_report.specs.Messages.{Message, NoInclude, TooManyFiles}
use Rattle.inf_unit.specs.Directives.{Characters, End, Include, Nothing, Request}
use Rattle.inf_unit.specs.Messages.{FileNames, location, with_fatal}
use Rattle.inf_sources.specs.{declared.open_file.Conditional.Conditional, declared.open_files.Included.Included}
use Rattle.inf_sources.specs.Inclusions.{Inclusion, Opens, OpensNone, Waiting, inclusion}
use Rattle.inf_conditionals.specs.Ends.{file_ended, file_told, piece_ended, piece_told, with_all_lone, with_lone}
use Rattle.inf_conditionals.specs.Open.{Conditions}
use Rattle.inf_reader.specs.Reading.{is_mode_ended}
use Rattle.inf_session.specs.Choices.{Choices}
use Rattle.inf_session.specs.Session.{State, answered, asked_nothing, carried_out, file_closed, followed, has_ended, included, included_by}
use Rattle.inf_session.specs.Session.{is_resting, left, left_by, none_included, piece_closed, refused_with, rested}
use Rattle.inf_message_laws.proofs.Told.{Adds, fatal_adds, nothing_adds, then_adds}
use Rattle.inf_program.proofs.Handed.{lone_adds}
use Rattle.inf_program.proofs.States.{Moves, if_moves, nothing_moves, telling_moves, then_moves, with_moves}

-- Lemmas about conditionals that lack their other end

all_lone_add : (files : FileNames) (open_ones : List Conditional) → Adds (with_all_lone files open_ones)
all_lone_add files [] = nothing_adds
all_lone_add files (c ∷ cs) = then_adds (with_lone files c.place) (with_all_lone files cs) (lone_adds files c.place) (all_lone_add files cs)

piece_adds : (files : FileNames) (c : Conditions) → Adds (piece_told files c)
piece_adds files c = all_lone_add files (reverse c.inner)

file_adds : (files : FileNames) (c : Conditions) → Adds (file_told files c)
file_adds files c =
    then_adds (piece_told files c) (with_all_lone files (reverse c.among)) (piece_adds files c) (all_lone_add files (reverse c.among))

-- Lemmas about the end of a file

-- the messages at the end of the file
abbrev file_end_told : State → State
file_end_told s = record s { work = record s.work { report = file_told s.nesting.names s.conditions s.work.report } }

file_end_moves : Moves file_end_told
file_end_moves = telling_moves (λ (s : State). file_told s.nesting.names s.conditions) (λ lines told s. refl)
    (λ s. file_adds s.nesting.names s.conditions)

-- no conditional of the file is open
abbrev file_left : State → State
file_left s = record s { conditions = file_ended s.conditions }

file_left_moves : Moves file_left
file_left_moves = record { moves = λ lines told s. refl }

closed_moves : Moves file_closed
closed_moves = then_moves file_end_told file_left file_end_moves file_left_moves

left_by_moves : (waiting : List Waiting) → Moves (left_by waiting)
left_by_moves [] = nothing_moves
left_by_moves (w ∷ waiting) = record { moves = λ lines told s. refl }

left_moves : Moves left
left_moves = with_moves (λ (s : State). s.nesting.waiting) (λ (waiting : List Waiting) (s : State). left_by waiting (file_closed s))
    (λ lines told s. refl) (λ waiting. then_moves file_closed (left_by waiting) closed_moves (left_by_moves waiting))

-- Lemmas about inclusions

refused_moves : (unit : Place) (m : Message) → Moves (refused_with unit m)
refused_moves unit m = telling_moves (λ (s : State). with_fatal (location s.nesting.names unit) m) (λ lines told s. refl)
    (λ s. fatal_adds (location s.nesting.names unit) m)

none_moves : (unit : Place) (text : List ℕ) (why : Included) → Moves (none_included unit text why)
none_moves unit text Included.Entered = nothing_moves
none_moves unit text Included.NotThere = refused_moves unit (NoInclude text)
none_moves unit text Included.TooDeep = refused_moves unit TooManyFiles

included_by_moves : (sources : Sources) (o : Choices) (unit : Place) (text : List ℕ) (i : Inclusion)
    → Moves (included_by sources o unit text i)
included_by_moves sources o unit text (Opens name) = record { moves = λ lines told s. refl }
included_by_moves sources o unit text (OpensNone why) = none_moves unit text why

included_moves : (sources : Sources) (o : Choices) (unit : Place) (text : List ℕ) → Moves (included sources o unit text)
included_moves sources o unit text =
    with_moves (λ (s : State). inclusion sources o.directories text s.nesting) (included_by sources o unit text)
    (λ lines told s. refl) (included_by_moves sources o unit text)

-- Lemmas about requests of a directive

answered_moves : (asked : Request) (sources : Sources) (o : Choices) → Moves (answered asked sources o)
answered_moves (Include text unit) sources o = included_moves sources o unit text
answered_moves End sources o = record { moves = λ lines told s. refl }
answered_moves (Characters set) sources o = record { moves = λ lines told s. refl }
answered_moves Nothing sources o = nothing_moves

asked_nothing_moves : Moves asked_nothing
asked_nothing_moves = record { moves = λ lines told s. refl }

-- the answer to the request of the state
abbrev all_answered : Sources → Choices → State → State
all_answered sources o s = answered s.work.asked sources o (asked_nothing s)

all_answered_moves : (sources : Sources) (o : Choices) → Moves (all_answered sources o)
all_answered_moves sources o =
    with_moves (λ (s : State). s.work.asked) (λ (asked : Request) (s : State). answered asked sources o (asked_nothing s))
    (λ lines told s. refl)
    (λ asked. then_moves asked_nothing (answered asked sources o) asked_nothing_moves (answered_moves asked sources o))

-- the state behind a token that is not fatal
abbrev gone_on : Sources → Choices → State → State
gone_on sources o s = if is_mode_ended s.reading.mode then left s else all_answered sources o s

gone_on_moves : (sources : Sources) (o : Choices) → Moves (gone_on sources o)
gone_on_moves sources o =
    if_moves (λ (s : State). is_mode_ended s.reading.mode) left (all_answered sources o) (λ lines told s. refl) left_moves
    (all_answered_moves sources o)

carried_moves : (sources : Sources) (o : Choices) → Moves (carried_out sources o)
carried_moves sources o =
    if_moves (λ (s : State). s.work.report.counts.is_over) (λ s. s) (gone_on sources o) (λ lines told s. refl) nothing_moves
    (gone_on_moves sources o)

-- Lemmas about the end of a piece

-- the messages at the end of the piece
abbrev piece_end_told : State → State
piece_end_told s = record s { work = record s.work { report = piece_told s.nesting.names s.conditions s.work.report } }

piece_end_moves : Moves piece_end_told
piece_end_moves = telling_moves (λ (s : State). piece_told s.nesting.names s.conditions) (λ lines told s. refl)
    (λ s. piece_adds s.nesting.names s.conditions)

-- no conditional of the piece is open
abbrev piece_left : State → State
piece_left s = record s { conditions = piece_ended s.work.output.names.declared s.conditions }

piece_left_moves : Moves piece_left
piece_left_moves = record { moves = λ lines told s. refl }

piece_closed_moves : Moves piece_closed
piece_closed_moves = then_moves piece_end_told piece_left piece_end_moves piece_left_moves

-- the state behind a token with which reading has not ended
abbrev at_rest : State → State
at_rest s = if is_resting s then piece_closed s else s

at_rest_moves : Moves at_rest
at_rest_moves = if_moves is_resting piece_closed (λ s. s) (λ lines told s. refl) piece_closed_moves nothing_moves

pub rested_moves : Moves rested
rested_moves = if_moves has_ended (λ s. s) at_rest (λ lines told s. refl) nothing_moves at_rest_moves

pub followed_moves : (sources : Sources) (o : Choices) → Moves (followed sources o)
followed_moves sources o = then_moves (carried_out sources o) rested (carried_moves sources o) rested_moves

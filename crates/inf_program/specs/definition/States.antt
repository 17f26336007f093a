-- The state of a reading between two tokens: the files that are open, the sides of conditionals, and all that was compiled so far; and what
-- happens behind a token. A directive may ask for a file, or that reading ends; where the end of an included file was read, reading goes on
-- in the file that includes it; and behind a directive the sides are over that were opened inside of it. In the text of a routine that the
-- compiler supplies, only the last of these happens.
use Rattle.std.specs.Prelude.{◌≡◌, ℕ, List, [], ◌∷◌, map, Bool, ◌&&◌, ◌||◌, true, false, if◌then◌else◌}
use Rattle.inf_scanner.specs.declared.tokens.Place.{Place}
use Rattle.inf_devices.specs.Files.{Sources}
use Rattle.inf_letters.specs.Letters.{set_of}
use Rattle.inf_report.specs.Messages.{Message, NoInclude, TooManyFiles}
use Rattle.inf_sources.specs.{Choosing.nesting_with, Heading.past_head, declared.open_file.Conditional.Conditional}
use Rattle.inf_sources.specs.{declared.open_files.Included.Included}
use Rattle.inf_sources.specs.Inclusions.{Inclusion, Nesting, Opens, OpensNone, Waiting, inclusion, main_opened, resumed, with_opened}
use Rattle.inf_unit.specs.Directives.{Characters, End, Include, Nothing, Request}
use Rattle.inf_unit.specs.Messages.{location, with_fatal}
use Rattle.inf_compilation.specs.{Actions.Compilation, Context.Context}
use Rattle.inf_conditional_sides.specs.Ends.{file_told_by, inner_only, piece_told_by}
use Rattle.inf_conditional_sides.specs.Sides.{Side, Sides, has_none, no_sides, only_between, outer_sides, piece_ended}
use Rattle.inf_reader.specs.{Handing.is_between, declared.recovery.Recovery.Recovery}
use Rattle.inf_reader.specs.Reading.{Reading, has_ended_at, is_mode_ended}
use Rattle.inf_session.specs.{Choices.Choices, Choices.most_quoted, Session.begun_with}

-- The files that are open, each with the bytes that are still to come of it; the sides of conditionals in the innermost; the number of
-- names that were declared before the directive at hand, and the most tokens that a condition had; whether tokens are read, or passed
-- over; all that was compiled, with the messages; whether a directive ended reading; and whether the text of a supplied routine is read.
pub record State : Type 0 where
  pub nesting : Nesting
  pub sides : Sides
  pub declared : ℕ
  pub most_tokens : ℕ
  pub reading : Reading
  pub work : Compilation
  pub is_over : Bool
  pub is_supplied : Bool

-- the state before the first token of the main source of a name: behind its head
abbrev pub start : Sources → Choices → List ℕ → State
start sources o name =
    let nesting = past_head (main_opened (set_of o.letters) (most_quoted o) sources name) in
    let s = begun_with o nesting.names in
    record {
      nesting = nesting;
      sides = no_sides;
      declared = 0;
      most_tokens = 0;
      reading = s.reading;
      work = s.work;
      is_over = false;
      is_supplied = false;
    }

-- what is compiled depends on the names of the files, the character set of the innermost, and the settings
abbrev pub context_of : Choices → State → Context
context_of o s = record { names = s.nesting.names; set = s.nesting.cursor.set; settings = o.settings }

-- Nothing is read behind the end of the main source, a fatal message, or a directive that ends all.
abbrev pub has_ended : State → Bool
has_ended s = s.is_over || has_ended_at (record { reading = s.reading; work = s.work })

-- Definitions of files

-- the conditionals that are open between the directives of a file, by their sides
abbrev pub conditionals_of : List Side → List Conditional
conditionals_of sides = map (λ (x : Side). record { place = x.place; is_second = x.is_second }) (only_between sides)

-- The state where the conditionals that are open in a file are told, at its end.
abbrev pub file_closed : State → State
file_closed s =
    record s {
      sides = record s.sides { sides = [] };
      work = record s.work { report = file_told_by s.nesting.names s.sides s.work.report };
    }

-- The state where an included file is closed then, and reading goes on in the one that includes it, as that was.
abbrev pub left_by : List Waiting → State → State
left_by [] s = s
left_by (w ∷ waiting) s = record s {
  nesting = resumed (w ∷ waiting) s.nesting;
  sides = record s.sides { sides = outer_sides w.conditionals };
  reading = record s.reading { mode = Recovery.Reads };
  work = record s.work { is_system = w.is_system };
}

abbrev pub left : State → State
left s = left_by s.nesting.waiting (file_closed s)

-- the state with a fatal message, at the place of the unit that asks for a file
abbrev pub refused_with : Place → Message → State → State
refused_with unit m s = record s { work = record s.work { report = with_fatal (location s.nesting.names unit) m s.work.report } }

-- the state where the reason is told why no file is opened for a text
abbrev pub none_included : Place → List ℕ → Included → State → State
none_included unit text Included.Entered s = s
none_included unit text Included.NotThere s = refused_with unit (NoInclude text) s
none_included unit text Included.TooDeep s = refused_with unit TooManyFiles s

-- the state in a file that was entered: no side is open between its directives, and no routine may be replaced yet
abbrev pub file_begun : State → State
file_begun s =
    record s { sides = record s.sides { sides = inner_only s.sides.sides }; work = record s.work { is_system = false } }

-- the state where the file that an inclusion opens is the innermost, and is read by the character set of the one that includes it
abbrev pub included_by : Sources → Choices → Place → List ℕ → Inclusion → State → State
included_by sources o unit text (Opens name) s =
    file_begun (record s {
      nesting = with_opened s.nesting.cursor.set (most_quoted o) sources (conditionals_of s.sides.sides) s.work.is_system name s.nesting;
    })
included_by sources o unit text (OpensNone why) s = none_included unit text why s

-- the state where the file that the text of an inclusion names is entered, for a unit at a place
abbrev pub included : Sources → Choices → Place → List ℕ → State → State
included sources o unit text s = included_by sources o unit text (inclusion sources o.directories text s.nesting) s

-- Definitions of requests of directives

-- the state in which nothing is asked any more
abbrev pub asked_nothing : State → State
asked_nothing s = record s { work = record s.work { asked = Nothing } }

-- the state after a request of a directive to the reading
abbrev pub answered : Request → Sources → Choices → State → State
answered (Include text unit) sources o s = included sources o unit text s
answered End sources o s = record s { is_over = true }
answered (Characters set) sources o s = record s { nesting = nesting_with set s.nesting }
answered Nothing sources o s = s

-- the state behind a token of a file: behind a fatal message nothing is done, and at the end of a file nothing is asked
abbrev pub carried_out : Sources → Choices → State → State
carried_out sources o s =
    if s.work.report.counts.is_over then s else
    if is_mode_ended s.reading.mode then left s else answered s.work.asked sources o (asked_nothing s)

-- the state behind a token, where in the text of a supplied routine nothing is done
abbrev pub handled : Sources → Choices → State → State
handled sources o s = if s.is_supplied then s else carried_out sources o s

-- No directive asks for anything that is done.
abbrev pub AsksNothing : State → Type 0
AsksNothing s = s.is_supplied ≡ false → s.work.asked ≡ Nothing

-- Definitions of the end of a directive

-- whether the reading is between two directives, and in no conditional one
abbrev pub is_resting : State → Bool
is_resting s = is_between s.reading && has_none s.sides.texts

-- The state where the conditionals that are open in a directive are told, behind its end.
abbrev pub piece_closed : State → State
piece_closed s = record s {
  sides = piece_ended s.sides;
  declared = s.work.output.names.declared;
  work = record s.work { report = piece_told_by s.nesting.names s.sides s.work.report };
}

abbrev pub rested : State → State
rested s = if has_ended s then s else if is_resting s then piece_closed s else s

-- the state where reading goes on behind a token
abbrev pub followed : Sources → Choices → State → State
followed sources o s = rested (handled sources o s)

-- The states to which some turns of reading lead, and the lines that they write.
use Rattle.std.specs.Prelude.{◌≡◌, ℕ, ◌-◌, ◌<◌, ◌⊎◌, List, ◌++◌, map, Option, false}
use Rattle.inf_settings.specs.Bounds.{Limits}
use Rattle.inf_scanner.specs.declared.tokens.Place.{Place}
use Rattle.inf_devices.specs.{Files.Openings, Files.Sources, Sinks.Takes}
use Rattle.inf_lexer.specs.Unread.{unread}
use Rattle.inf_sources.specs.{Cursors.Cursor, Cursors.Unfinished, declared.faults.IncludeFault.IncludeFault}
use Rattle.inf_sources.specs.Inclusions.{Nesting, OpenedInVain, OpensTooMany, cursors, inclusion, innermost_name}
use Rattle.inf_sources.specs.Open.{Open, files_of, lexers, opened_since}
use Rattle.inf_unit.specs.Directives.{Include}
use Rattle.inf_reader.specs.Reading.{is_mode_ended}
use Rattle.inf_session.specs.{Choices.Choices, Session.State, Session.has_ended, Session.run, Session.stepped}
use Rattle.inf_ending.specs.Delivered.{IsFront}

-- One step of reading leads from the state before to the state now, whatever was written before, and wrote these lines.
pub record Writes (step : State → State) (was now : List ℕ → State) (old new : Option (List ℕ)) : Type 0 where
  pub lines : List ℕ
  pub takes : Takes old new lines
  pub same : (told : List ℕ) → now (told ++ lines) ≡ step (was told)

-- A step of reading was given up, and wrote no more than a front of the lines that the step writes.
pub record CutsShort (step : State → State) (was : List ℕ → State) (old new : Option (List ℕ)) : Type 0 where
  pub front : List ℕ
  pub takes : Takes old new front
  pub begins : (told : List ℕ) → IsFront (told ++ front) (step (was told)).told

-- The lines that were written are all that some reading writes, whatever was written before.
pub record WroteAll (step : State → State) (was : List ℕ → State) (old new : Option (List ℕ)) : Type 0 where
  pub lines : List ℕ
  pub takes : Takes old new lines
  pub same : (told : List ℕ) → (step (was told)).told ≡ told ++ lines

-- The sources that have been opened are all that some reading opens.
abbrev pub OpensAll : (State → State) → (List ℕ → State) → List (List ℕ) → Type 0
OpensAll step was openings = (told : List ℕ) → openings ≡ (step (was told)).nesting.openings

-- Where a step of reading was given up, the sources that have been opened are those before the step, or all that the step opens.
abbrev pub OpensWithin : (State → State) → (List ℕ → State) → List (List ℕ) → Type 0
OpensWithin step was openings = OpensAll (λ s. s) was openings ⊎ OpensAll step was openings

-- Reading was given up in a token, where these files are open: the bytes that were given of the innermost file do not end the
-- token, but for those past as many as a source may have. The device failed, or the source has too many bytes.
pub record StopsInToken (failed : Type 0) (sources : Sources) (s : State) (start now : Openings) (files : Open) (name : List ℕ) : Type 0
  where
    pub cause : failed ⊎ (16777216 < files.lexer.window.given)
    pub not_ended : Unfinished s.nesting.cursor (files.lexer.window.given - 16777216) (unread sources now)
    pub goes_on : files.lexer.window.is_over ≡ false
    pub openings : opened_since start now ≡ s.nesting.openings
    pub names : files.nest.names ≡ s.nesting.names
    pub numbers : files_of (lexers files) ≡ map (λ (c : Cursor). c.file) (cursors s.nesting)
    pub name_is : name ≡ innermost_name s.nesting

-- A file that an inclusion names could not be opened, or is one more than can be numbered.
pub record NotTried (failed : Type 0) (sources : Sources) (directories : List (List ℕ)) (text : List ℕ) (n : Nesting)
    (openings : List (List ℕ)) : Type 0 where
  pub cause : failed ⊎ OpensTooMany (inclusion sources directories text n) n openings
  pub openings_are : OpenedInVain IncludeFault.Device (inclusion sources directories text n) n openings

-- Reading was given up behind a token that ends a directive, which asks for a file with the name `name`.
pub record StopsAtInclusion (failed : Type 0) (sources : Sources) (o : Choices) (s : State) (openings : List (List ℕ)) (name : List ℕ) :
    Type 0 where
  pub unit : Place
  pub asks : s.work.asked ≡ Include name unit
  pub reads : is_mode_ended s.reading.mode ≡ false
  pub goes_on : s.work.report.counts.is_over ≡ false
  pub not_tried : NotTried failed sources o.directories name s.nesting openings

-- The next token was not read, or the file for which it asks was not entered.
abbrev pub StopsFor : Limits → Type 0 → Sources → Choices → State → Openings → Openings → Open → List ℕ → Type 0
StopsFor limits failed sources o s start now files name =
    StopsInToken failed sources s start now files name ⊎ StopsAtInclusion failed sources o (stepped limits o s) (opened_since start now)
    name

-- Reading was given up for the file with the name `name`: the lines that were written are all that `turns` turns write, and behind
-- them reading stops for this file.
pub record GivenUp (limits : Limits) (failed : Type 0) (sources : Sources) (o : Choices) (was : List ℕ → State) (old new : Option (List ℕ))
    (start now : Openings) (files : Open) (name : List ℕ) : Type 0 where
  pub turns : ℕ
  pub wrote : WroteAll (run limits sources o turns) was old new
  pub goes_on : (told : List ℕ) → has_ended (run limits sources o turns (was told)) ≡ false
  pub stops : (told : List ℕ) → StopsFor limits failed sources o (run limits sources o turns (was told)) start now files name

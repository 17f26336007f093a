-- The messages, the result and the openings of a compilation.
use Rattle.std.specs.Prelude.{◌≡◌, ℕ, ◌+◌, ◌-◌, ◌<◌, ◌≤◌, ◌⊎◌, List, [], ◌∷◌, get_or, slice_get, unwrap_or, length, map, drop, false}
use Rattle.std.specs.Prelude.{Option, Some, None, min, option_map, ◌++◌}
use Rattle.inf_settings.specs.Bounds.{limits_of, Limits}
use Rattle.inf_devices.specs.{Sinks.Takes, declared.files.Files.Ghosts as Files}
use Rattle.inf_devices.specs.Files.{Opening, Openings, Rose, Sources, last_count, most_source_bytes, opened}
use Rattle.inf_lexer.specs.{Unread.unread, Unread.unread_of, declared.head.HeadPlace.HeadPlace}
use Rattle.inf_scanner.specs.Lines.{first_line}
use Rattle.inf_session.specs.{Choices.Choices, Standing.state, Veneer.supplied, declared.session.Session.Session}
use Rattle.inf_session.specs.Leading.{CutsShort, GivenUp, StopsAtInclusion, Writes}
use Rattle.inf_session.specs.Session.{IsRead, State, has_ended, run, start, stepped}
use Rattle.inf_ending.specs.{Delivered.Delivers, Delivered.IsFront, Ending.Outcome, declared.compiled.Compiled.Compiled}
use Rattle.inf_sources.specs.{Cursors.Cursor, Cursors.Unfinished, Heading.HeadAt, Heading.StopsInHead, Heading.head_front}
use Rattle.inf_sources.specs.{Inclusions.Nesting, Inclusions.cursors, Inclusions.innermost_name}
use Rattle.inf_sources.specs.Open.{Each, IsFrontOf, IsGiven, IsNested, Open, files_of, lexers, nesting, opened_since}
use Rattle.inf_compile.specs.Outcome.{IsOutcome, ending_of}

-- The files that are open, the inner ones first, are those of openings behind the first `n`, each under the name of its number; and each
-- was opened behind those around it.
abbrev pub AreAt : ℕ → ℕ → List (List ℕ) → List Opening → List ℕ → List ℕ → Type 0
AreAt n bound names all places [] = Unit {0}
AreAt n bound names all [] (f ∷ files) = ⊥
AreAt n bound names all (p ∷ places) (f ∷ files) =
    ((n ≤ p) × (p < bound)) × ((slice_get names f ≡ Some (get_or all p (opened [])).name) × AreAt n p names all places files)

-- the numbers of the files that are open
abbrev pub numbers_of : Nesting → List ℕ
numbers_of n = map (λ (c : Cursor). c.file) (cursors n)

-- Of each open file at most 4,096 bytes were given ahead of its rest.
abbrev pub AreNear : Sources → List Opening → List ℕ → List Cursor → Type 0
AreNear sources all places [] = Unit {0}
AreNear sources all [] (c ∷ cursors) = ⊥
AreNear sources all (p ∷ places) (c ∷ cursors) =
    (length (get_or all p (opened [])).given + length c.rest ≤ length (unwrap_or (sources (get_or all p (opened [])).name) []) + 4096)
    × AreNear sources all places cursors

-- The openings behind those that were there before are those of the reading, in its order, each once; all were closed again. A front of
-- its source was given of each, and of the files that were open at the end at most 4,096 bytes behind the tokens that were read.
pub record WereOpened (sources : Sources) (o : Choices) (name : List ℕ) (old new : Openings) : Type 0 where
  pub final : State
  pub is_read : IsRead (limits_of o.settings) sources o (start sources o name) final
  pub names : map (λ (p : Opening). p.name) (drop (length old.all) new.all) ≡ final.nesting.openings
  pub closed : new.open_places ≡ old.open_places
  pub each : Each (IsGiven sources) (length old.all) new.all
  pub places : List ℕ
  pub at : AreAt (length old.all) (length new.all) final.nesting.names new.all places (numbers_of final.nesting)
  pub near : AreNear sources new.all places (cursors final.nesting)

-- The openings are those of the reading; none where the main source is not there.
abbrev pub OpenedBy : Option (List ℕ) → Sources → Choices → List ℕ → Openings → Openings → Type 0
OpenedBy None sources o name old new = new ≡ old
OpenedBy (Some source) sources o name old new = WereOpened sources o name old new

-- Where reading was given up, the openings behind those that were there before are those of some number of turns from the start, in their
-- order, each once; all were closed again, and of each a front of its source was given.
pub record OpenedSome (sources : Sources) (o : Choices) (name : List ℕ) (old new : Openings) : Type 0 where
  pub turns : ℕ
  pub names : opened_since old new ≡ (run (limits_of o.settings) sources o turns (start sources o name)).nesting.openings
  pub closed : new.open_places ≡ old.open_places
  pub each : Each (IsFrontOf sources) (length old.all) new.all

-- Nothing was opened, or the openings are those of a part of the reading.
abbrev pub OpenedPart : Sources → Choices → List ℕ → Openings → Openings → Type 0
OpenedPart sources o name old new = (new ≡ old) ⊎ OpenedSome sources o name old new

-- The messages, the result and the openings are those of the main source of this name.
pub record Comes (sources : Sources) (o : Choices) (serial name : List ℕ) (old new : Openings) (before after : Option (List ℕ))
    (c : Compiled) : Type 0 where
  pub ending : Outcome
  pub is_outcome : IsOutcome sources o serial name ending
  pub delivers : Delivers ending c before after
  pub opened : OpenedBy (sources name) sources o name old new

-- A front of the messages of the outcome was written.
pub record Begins (sources : Sources) (o : Choices) (serial name : List ℕ) (before after : Option (List ℕ)) : Type 0 where
  pub front : List ℕ
  pub takes : Takes before after front
  pub begins : (e : Outcome) → IsOutcome sources o serial name e → IsFront front e.messages

-- Reading went on from here to its end, and story, status and messages are those of its ending; these files are still open.
pub record Concludes (limits : Limits) (sources : Sources) (o : Choices) (serial : List ℕ) (s : State) (start now : Openings) (f : Open)
    (before after : Option (List ℕ)) (c : Compiled) : Type 0 where
  pub final : State
  pub is_read : IsRead limits sources o s final
  pub delivers : Delivers (ending_of limits o serial final) c before after
  pub nested : IsNested start now f
  pub nesting_is : nesting sources start now f ≡ final.nesting

-- Behind the reading of the source these lines were written; the messages with them, the story and the status are those of its ending.
pub record Ends (limits : Limits) (o : Choices) (serial : List ℕ) (was : List ℕ → State) (c : Compiled) (before after : Option (List ℕ)) :
    Type 0 where
  pub lines : List ℕ
  pub takes : Takes before after lines
  pub messages : (told : List ℕ) → (ending_of limits o serial (was told)).messages ≡ told ++ lines
  pub story : (told : List ℕ) → option_map (λ v. v.items) c.story ≡ (ending_of limits o serial (was told)).story
  pub status : (told : List ℕ) → c.status ≡ (ending_of limits o serial (was told)).status

-- A front of the messages of the ending was written.
pub record BreaksOff (limits : Limits) (o : Choices) (serial : List ℕ) (was : List ℕ → State) (before after : Option (List ℕ)) :
    Type 0 where
  pub front : List ℕ
  pub takes : Takes before after front
  pub begins : (told : List ℕ) → IsFront (told ++ front) (ending_of limits o serial (was told)).messages

-- The rest of the veneer was read, whatever the files are, and its messages were written; or a front of those.
unfoldable pub SuppliesAll : {B : Type 0} → Limits → Choices → Session B → Session B → Option (List ℕ) → Option (List ℕ) → Type 0
SuppliesAll limits o was now before after = (sources : Sources) → (start opened : Openings) →
    Writes (supplied limits o) (state sources start opened was) (state sources start opened now) before after

unfoldable pub SuppliesPart : {B : Type 0} → Limits → Choices → Session B → Option (List ℕ) → Option (List ℕ) → Type 0
SuppliesPart limits o was before after = (sources : Sources) → (start opened : Openings) →
    CutsShort (supplied limits o) (state sources start opened was) before after

-- The compilation ends, or breaks off, whatever the files are.
unfoldable pub EndsAll : {B : Type 0} → Limits → Choices → List ℕ → Session B → Compiled → Option (List ℕ) → Option (List ℕ) → Type 0
EndsAll limits o serial was c before after = (sources : Sources) → (start opened : Openings) →
    Ends limits o serial (state sources start opened was) c before after

unfoldable pub BreaksOffAll : {B : Type 0} → Limits → Choices → List ℕ → Session B → Option (List ℕ) → Option (List ℕ) → Type 0
BreaksOffAll limits o serial was before after = (sources : Sources) → (start opened : Openings) →
    BreaksOff limits o serial (state sources start opened was) before after

-- Reading was given up, and a front of the messages of the ending was written.
pub record Stops (limits : Limits) (sources : Sources) (o : Choices) (serial : List ℕ) (s : State) (before after : Option (List ℕ)) : Type 0
  where
    pub front : List ℕ
    pub takes : Takes before after front
    pub begins : (final : State) → IsRead limits sources o s final → IsFront front (ending_of limits o serial final).messages

-- Reading, or that of the veneer behind it, was given up: a front was written of the messages that come before those of the ending.
pub record StopsEarly (limits : Limits) (sources : Sources) (o : Choices) (s : State) (before after : Option (List ℕ)) : Type 0 where
  pub front : List ℕ
  pub takes : Takes before after front
  pub begins : (final : State) → IsRead limits sources o s final → IsFront front (supplied limits o final).told

-- Reading was given up in a token of the innermost file: the bytes given of its opening, which was not read out, do not end the token; of
-- a source that has too many bytes, those that it may have do not. The openings are those of the reading up to there.
pub record StopsReading (failed : Type 0) (sources : Sources) (s : State) (old new : Openings) (told : List ℕ) : Type 0 where
  pub place : ℕ
  pub places : List ℕ
  pub at : AreAt (length old.all) (length new.all) s.nesting.names new.all (place ∷ places) (numbers_of s.nesting)
  pub openings : opened_since old new ≡ s.nesting.openings
  pub cause : failed ⊎ (most_source_bytes < length (get_or new.all place (opened [])).given)
  pub not_ended : Unfinished s.nesting.cursor (length (get_or new.all place (opened [])).given - most_source_bytes)
      (unread_of sources (get_or new.all place (opened [])))
  pub goes_on : (get_or new.all place (opened [])).is_read_out ≡ false
  pub name_is : told ≡ innermost_name s.nesting

-- All messages were written that come with some number of turns from the start, which do not end reading. Behind them the next token
-- could not be read; or that token asks for a file, which could not be opened, or is one more than can be numbered, and was closed again.
pub record HeardTurns (limits : Limits) (failed : Type 0) (sources : Sources) (o : Choices) (s : State) (old new : Openings)
    (before after : Option (List ℕ)) (told : List ℕ) : Type 0 where
  pub turns : ℕ
  pub takes : Takes before after (run limits sources o turns s).told
  pub goes_on : has_ended (run limits sources o turns s) ≡ false
  pub stops : StopsReading failed sources (run limits sources o turns s) old new told
      ⊎ StopsAtInclusion failed sources o (stepped limits o (run limits sources o turns s)) (opened_since old new) told

-- The main source could not be opened, and nothing was written.
pub record HeardNothing (failed : Type 0) (name : List ℕ) (old new : Openings) (before after : Option (List ℕ)) (told : List ℕ) : Type 0
  where
    pub cause : failed
    pub opened : new ≡ old
    pub takes : Takes before after []
    pub name_is : told ≡ name

-- the front of the main source of a name, where its head begins
abbrev pub main_front : Sources → List ℕ → HeadAt
main_front sources name = record { place = HeadPlace.Line; lines = first_line; rest = unwrap_or (sources name) [] }

-- Reading was given up in the head of the main source, which alone was opened, and nothing was written: the bytes given of its opening,
-- which was not read out, do not end the head; of a source that has too many bytes, those that it may have do not.
pub record HeardInHead (failed : Type 0) (sources : Sources) (name : List ℕ) (old new : Openings)
    (before after : Option (List ℕ)) (told : List ℕ) : Type 0 where
  pub openings : opened_since old new ≡ name ∷ []
  pub cause : failed ⊎ (most_source_bytes < length (get_or new.all (length old.all) (opened [])).given)
  pub not_ended : StopsInHead (main_front sources name) (length (get_or new.all (length old.all) (opened [])).given - most_source_bytes)
      (unread_of sources (get_or new.all (length old.all) (opened [])))
  pub goes_on : (get_or new.all (length old.all) (opened [])).is_read_out ≡ false
  pub takes : Takes before after []
  pub name_is : told ≡ name

-- The messages that were written where a file, of the name that is reported, was not read, and the cause.
abbrev pub Heard : Type 0 → Sources → Choices → List ℕ → Openings → Openings → Option (List ℕ) → Option (List ℕ) → List ℕ → Type 0
Heard failed sources o name old new before after told = HeardNothing failed name old new before after told
    ⊎ (HeardInHead failed sources name old new before after told
    ⊎ HeardTurns (limits_of o.settings) failed sources o (start sources o name) old new before after told)

-- Nothing was read of the files before; the head of the innermost was not read, and nothing was written: the bytes given of that file do
-- not end the head; of a source that has too many bytes, those that it may have do not. The device failed, or the source has too many
-- bytes.
pub record GivenUpInHead (failed : Type 0) (sources : Sources) (was : Nesting) (old new : Option (List ℕ)) (start now : Openings)
    (files : Open) (name : List ℕ) : Type 0 where
  pub takes : Takes old new []
  pub cause : failed ⊎ (16777216 < files.lexer.window.given)
  pub not_ended : StopsInHead (head_front was.cursor) (files.lexer.window.given - 16777216) (unread sources now)
  pub goes_on : files.lexer.window.is_over ≡ false
  pub openings : opened_since start now ≡ was.openings
  pub names : files.nest.names ≡ was.names
  pub numbers : files_of (lexers files) ≡ numbers_of was
  pub name_is : name ≡ innermost_name was

-- Reading was given up in the head, or behind the head, which leads to this state.
abbrev pub GivenUpFrom : Limits → Type 0 → Sources → Choices → Nesting → (List ℕ → State) → Option (List ℕ) → Option (List ℕ) → Openings →
    Openings → Open → List ℕ → Type 0
GivenUpFrom limits failed sources o was begun old new start now files name =
    GivenUpInHead failed sources was old new start now files name ⊎ GivenUp limits failed sources o begun old new start now files name

-- A file could not be opened or read, with any reader, between two moments: the device failed, or the reader gave more bytes of one opening
-- than a source may have, and the count of these rose or is at its last value; or more names were opened so far than can be numbered.
abbrev pub IsUnread : {S : Type 0} → Files S → S → S → Type 0
IsUnread f old new = Rose (f.faults old) (f.faults new) ⊎ ((min ((f.counts old).too_long + 1) last_count ≤ (f.counts new).too_long)
    ⊎ (65536 ≤ length (f.opened new)))

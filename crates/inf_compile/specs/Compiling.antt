-- The bytes that a compilation leaves in its devices.
use Rattle.std.specs.Prelude.{◌≡◌, ℕ, ◌<◌, ◌==◌, List, length, take, if◌then◌else◌, Option, Some, None, string_bytes}
use Rattle.inf_devices.specs.{Files.Sources, Sinks.Takes}
use Rattle.inf_command.specs.{FileNames.source_name, Words.Choice}
use Rattle.inf_session.specs.Choices.{Choices}
use Rattle.inf_ending.specs.{Delivered.EndsClean, Ending.Outcome, declared.compiled.Status.Status, declared.faults.Fault.Fault}
use Rattle.inf_compile.specs.{Chosen.chosen_for, Outcome.IsOutcome}

-- the choices of a reading, by the words of a command: with them the head of the source that they name, among these sources, decides
-- each matter that they leave open
abbrev pub chosen_by : Sources → Choice → Choices
chosen_by sources c = chosen_for sources (source_name c.source) c

-- An empty word names no file: with it no source is there.
abbrev pub no_sources : Sources
no_sources name = None

abbrev pub named_by : List ℕ → Sources → Sources
named_by word sources = if length word == 0 then no_sources else sources

-- the bytes that a story's sink took: those of the story, or none at all
abbrev pub TakesStory : Option (List ℕ) → Option (List ℕ) → Option (List ℕ) → Type 0
TakesStory None old new = new ≡ old
TakesStory (Some story) old new = Takes old new story

-- the first n bytes of a story, which has more
abbrev pub TakesPart : Option (List ℕ) → ℕ → Option (List ℕ) → Option (List ℕ) → Type 0
TakesPart None n old new = ⊥
TakesPart (Some story) n old new = (n < length story) × Takes old new (take n story)

-- a statement about want of memory alone
abbrev pub IfMemory : Fault → Type 0 → Type 0
IfMemory Fault.Memory P = P
IfMemory (Fault.Read name) P = Unit {0}
IfMemory Fault.Messages P = Unit {0}
IfMemory (Fault.Story n) P = Unit {0}

-- a fault of the story's sink alone
abbrev pub OnlyStory : Fault → (ℕ → Type 0) → Type 0
OnlyStory (Fault.Story n) P = P n
OnlyStory Fault.Memory P = ⊥
OnlyStory (Fault.Read name) P = ⊥
OnlyStory Fault.Messages P = ⊥

-- a fault of reading, with the name that it tells, one of writing messages, and one of the story, with the bytes that were written, have
-- their causes
abbrev pub HasCause : Fault → (List ℕ → Type 0) → Type 0 → (ℕ → Type 0) → Type 0
HasCause Fault.Memory reading writing telling = Unit {0}
HasCause (Fault.Read name) reading writing telling = reading (string_bytes name)
HasCause Fault.Messages reading writing telling = writing
HasCause (Fault.Story n) reading writing telling = telling n

-- A sink took this much of a story of some compiled work, of which no error and no fatal error was counted; the messages that were taken
-- end with the last ones of this work.
pub record TakesClean (serial : List ℕ) (took : List ℕ → Type 0) (old new : Option (List ℕ)) : Type 0 where
  pub story : List ℕ
  pub is_taken : took story
  pub ends : EndsClean serial (Some story) old new

-- Status, messages and story are those of the outcome of the main source of a name: both sinks took just these bytes.
pub record Compiles (sources : Sources) (o : Choices) (serial name : List ℕ) (status : Status)
    (messages_old messages_new story_old story_new : Option (List ℕ)) : Type 0 where
  pub ending : Outcome
  pub is_outcome : IsOutcome sources o serial name ending
  pub status_is : status ≡ ending.status
  pub messages : Takes messages_old messages_new ending.messages
  pub story : TakesStory ending.story story_old story_new

-- All messages of the outcome were taken, and the first n bytes of its story, which has more.
pub record DeliversPart (sources : Sources) (o : Choices) (serial name : List ℕ) (n : ℕ)
    (messages_old messages_new story_old story_new : Option (List ℕ)) : Type 0 where
  pub ending : Outcome
  pub is_outcome : IsOutcome sources o serial name ending
  pub messages : Takes messages_old messages_new ending.messages
  pub story : TakesPart ending.story n story_old story_new

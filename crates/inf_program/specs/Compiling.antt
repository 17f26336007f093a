-- The bytes that a compilation leaves in its devices, by the outcome that the program of its source gives.
use Rattle.std.specs.Prelude.{◌≡◌, ℕ, List, Option}
use Rattle.inf_devices.specs.{Files.Sources, Sinks.Takes}
use Rattle.inf_session.specs.Choices.{Choices}
use Rattle.inf_ending.specs.{Delivered.IsFront, Ending.Outcome, declared.compiled.Status.Status}
use Rattle.inf_compile.specs.Compiling.{TakesPart, TakesStory}
use Rattle.inf_program.specs.definition.Written.{IsWritten}

-- Status, messages and story are those of the outcome of the main source of a name: both sinks took just these bytes.
pub record Compiles (sources : Sources) (o : Choices) (serial name : List ℕ) (status : Status)
    (messages_old messages_new story_old story_new : Option (List ℕ)) : Type 0 where
  pub ending : Outcome
  pub is_written : IsWritten sources o serial name ending
  pub status_is : status ≡ ending.status
  pub messages : Takes messages_old messages_new ending.messages
  pub story : TakesStory ending.story story_old story_new

-- A front of the messages of the outcome was written.
pub record Begins (sources : Sources) (o : Choices) (serial name : List ℕ) (before after : Option (List ℕ)) : Type 0 where
  pub front : List ℕ
  pub takes : Takes before after front
  pub begins : (e : Outcome) → IsWritten sources o serial name e → IsFront front e.messages

-- All messages of the outcome were taken, and the first n bytes of its story, which has more.
pub record DeliversPart (sources : Sources) (o : Choices) (serial name : List ℕ) (n : ℕ)
    (messages_old messages_new story_old story_new : Option (List ℕ)) : Type 0 where
  pub ending : Outcome
  pub is_written : IsWritten sources o serial name ending
  pub messages : Takes messages_old messages_new ending.messages
  pub story : TakesPart ending.story n story_old story_new

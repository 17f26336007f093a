-- The messages that are written, and the result, at the end of a compilation.
use Rattle.std.specs.Prelude.{◌≡◌, ℕ, ◌≤◌, List, ◌++◌, Option, option_map, IsSome, true}
use Rattle.inf_settings.specs.Bounds.{Limits}
use Rattle.inf_unit.specs.Messages.{FileNames}
use Rattle.inf_compilation.specs.Actions.{Compilation}
use Rattle.inf_report.specs.Reports.{closing}
use Rattle.inf_devices.specs.{Sinks.Takes, declared.sinks.Sink.Ghosts as Sink}
use Rattle.inf_ending.specs.{declared.compiled.Compiled.Compiled, declared.compiled.Status.Status}
use Rattle.inf_ending.specs.Ending.{Outcome, counted, finished, is_clean}

-- The first list is a front of the second.
pub record IsFront (front whole : List ℕ) : Type 0 where
  pub rest : List ℕ
  pub is_cut : whole ≡ front ++ rest

-- All messages were written, and story and status are those of the ending.
pub record Delivers (e : Outcome) (c : Compiled) (old new : Option (List ℕ)) : Type 0 where
  pub messages : Takes old new e.messages
  pub story : option_map (λ v. v.items) c.story ≡ e.story
  pub status : c.status ≡ e.status

-- The lines that were written are a front of some lines.
pub record TakesFront (lines : List ℕ) (old new : Option (List ℕ)) : Type 0 where
  pub front : List ℕ
  pub takes : Takes old new front
  pub begins : IsFront front lines

-- A sink took some lines behind those that it took before, and each failure is counted.
pub record Appends {S : Type 0} (m : Sink S) (old new : S) : Type 0 where
  pub lines : List ℕ
  pub takes : Takes (m.taken old) (m.taken new) lines
  pub failures : m.failures old ≤ m.failures new

-- The compiled work `w` has this story: no error and no fatal error was counted of it. The lines that a sink took end with the last ones of
-- this work, of which the very last is the closing line of a compilation without an error.
pub record EndsCleanOf (limits : Limits) (serial : List ℕ) (files : FileNames) (w : Compilation) (story old new : Option (List ℕ)) : Type 0
  where
    pub counts_none : is_clean (counted limits files w) ≡ true
    pub is_story : (finished limits serial files w).story ≡ story
    pub has_story : IsSome story
    pub before : List ℕ
    pub front : List ℕ
    pub warnings : ℕ
    pub takes : Takes old new (front ++ closing 0 warnings)
    pub last : front ++ closing 0 warnings ≡ before ++ (finished limits serial files w).messages

-- The story is that of some compiled work of which no error and no fatal error was counted, and whose last lines are the last ones that a
-- sink took.
pub record EndsClean (serial : List ℕ) (story old new : Option (List ℕ)) : Type 0 where
  pub limits : Limits
  pub files : FileNames
  pub work : Compilation
  pub clean : EndsCleanOf limits serial files work story old new

-- the bytes of a story, if there is one
abbrev pub story_in : Compiled → Option (List ℕ)
story_in c = option_map (λ v. v.items) c.story

-- A success has the story of some compiled work of which no error was counted.
abbrev pub SucceedsClean : List ℕ → Compiled → Option (List ℕ) → Option (List ℕ) → Type 0
SucceedsClean serial c old new = c.status ≡ Status.Success → EndsClean serial (story_in c) old new

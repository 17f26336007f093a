-- Calls of which one hands on what another promised at a fault, and of devices that claim nothing.
use Rattle.std.proofs.Common.{◌≡◌, ℕ, List, Option, Some, None, Result, Ok, Err, IfErr, IfOk, IsErr, OnErr, OnOk, MatchResult, option_map}
use Rattle.std.proofs.Common.{ap, refl, subst, sym, ◌∙◌}
use Rattle.inf_devices.specs.{Files.Openings, Files.Rose, Files.Sources, declared.files.Files.Ghosts as Files, declared.sinks.Sink.Ghosts as Sink}
use Rattle.inf_session.specs.{Choices.Choices, Session.start}
use Rattle.inf_settings.specs.Bounds.{limits_of}
use Rattle.inf_ending.specs.{Delivered.story_in, Faults.Caused, Faults.IfRead, Faults.IfStory, Faults.UnlessMessages, Faults.UnlessRead}
use Rattle.inf_ending.specs.{Faults.UnlessStory, declared.compiled.Compiled.Compiled, declared.compiled.Status.Status}
use Rattle.inf_ending.specs.{declared.faults.Fault.Fault}
use Rattle.inf_compile.specs.Comes.{Heard, IsUnread, OpenedPart, StopsEarly}
use Rattle.inf_compile.specs.Compiling.{HasCause, IfMemory, OnlyStory, TakesStory}
use Rattle.inf_compile.specs.Promised.{GivesUp, LeavesDevices}

-- the parts of what is promised at a fault, by a result
pub gives_up : {T : Type 0} (failed : Type 0) (s : Sources) (o : Choices) (name : List ℕ) (old new : Openings)
    (before after : Option (List ℕ)) (r : Result T Fault) → OnErr r (OpenedPart s o name old new) →
    IfErr r (λ f. IfMemory f (StopsEarly (limits_of o.settings) s o (start s o name) before after)) →
    IfErr r (λ f. IfRead f (λ told. Heard failed s o name old new before after told)) →
    IfErr r (λ f. GivesUp failed s o name old new before after f)
gives_up failed s o name old new before after (Ok x) opened early heard = tt
gives_up failed s o name old new before after (Err f) opened early heard = record { opened = opened; early = early; heard = heard }

-- Lemmas about a fault of the story alone

story_unread : (f : Fault) (P : ℕ → Type 0) (Q : List ℕ → Type 0) → OnlyStory f P → IfRead f Q
story_unread (Fault.Story n) P Q only = tt
story_unread Fault.Memory P Q only = absurd only
story_unread (Fault.Read name) P Q only = absurd only
story_unread Fault.Messages P Q only = absurd only

pub never_read : {T : Type 0} (r : Result T Fault) (P : ℕ → Type 0) (Q : List ℕ → Type 0) → IfErr r (λ f. OnlyStory f P) →
    IfErr r (λ f. IfRead f Q)
never_read (Ok x) P Q only = tt
never_read (Err f) P Q only = story_unread f P Q only

story_caused : (f : Fault) (P A : ℕ → Type 0) (Q : List ℕ → Type 0) (R : Type 0) → OnlyStory f (λ n. A n × P n) → HasCause f Q R A
story_caused (Fault.Story n) P A Q R only = only.0
story_caused Fault.Memory P A Q R only = absurd only
story_caused (Fault.Read name) P A Q R only = absurd only
story_caused Fault.Messages P A Q R only = absurd only

pub if_story_caused : {T : Type 0} (r : Result T Fault) (P A : ℕ → Type 0) (Q : List ℕ → Type 0) (R : Type 0) →
    IfErr r (λ f. OnlyStory f (λ n. A n × P n)) → IfErr r (λ f. HasCause f Q R A)
if_story_caused (Ok x) P A Q R only = tt
if_story_caused (Err f) P A Q R only = story_caused f P A Q R only

story_alone : (f : Fault) (P : ℕ → Type 0) (A : Type 0) → OnlyStory f P → UnlessStory f A
story_alone (Fault.Story n) P A only = tt
story_alone Fault.Memory P A only = absurd only
story_alone (Fault.Read name) P A only = absurd only
story_alone Fault.Messages P A only = absurd only

pub if_story_alone : {T : Type 0} (r : Result T Fault) (P : ℕ → Type 0) (A : Type 0) → IfErr r (λ f. OnlyStory f P) →
    IfErr r (λ f. UnlessStory f A)
if_story_alone (Ok x) P A only = tt
if_story_alone (Err f) P A only = story_alone f P A only

-- no story was written with an error
pub untold_with_errors : (r : Result Status Fault) (c : Compiled) {old new : Option (List ℕ)} → IfOk r (λ s. s ≡ c.status) →
    OnOk r (TakesStory (story_in c) old new) → (c.status ≡ Status.Errors → c.story ≡ None) → r ≡ Ok Status.Errors → new ≡ old
untold_with_errors (Ok s) c {old} {new} is takes none e =
    subst (λ (x : Option (List ℕ)). TakesStory x old new) (ap (option_map (λ v. v.items)) (none (sym is ∙ ap same e))) takes
  where
    same : Result Status Fault → Status
    same (Ok x) = x
    same (Err f) = Status.Errors
untold_with_errors (Err f) c is takes none e = cc

-- Lemmas about a call that was refused before a story was begun

no_story : (f : Fault) (P : List ℕ → Type 0) (Q : Type 0) (A : ℕ → Type 0) → Caused f P Q → HasCause f P Q A
no_story Fault.Memory P Q A cause = tt
no_story (Fault.Read name) P Q A cause = cause
no_story Fault.Messages P Q A cause = cause
no_story (Fault.Story n) P Q A cause = absurd cause

no_part : (f : Fault) (P : List ℕ → Type 0) (Q : Type 0) (A : ℕ → Type 0) → Caused f P Q → IfStory f A
no_part Fault.Memory P Q A cause = tt
no_part (Fault.Read name) P Q A cause = tt
no_part Fault.Messages P Q A cause = tt
no_part (Fault.Story n) P Q A cause = absurd cause

always : (f : Fault) {A : Type 0} → A → UnlessStory f A
always Fault.Memory holds = holds
always (Fault.Read name) holds = holds
always Fault.Messages holds = holds
always (Fault.Story n) holds = tt

pub refused_leaves : {S M W : Type 0} {f : Files S} {m : Sink M} {w : Sink W} {old new : S} {before after : M} (was : W) {serial : List ℕ}
    (r : Result Status Fault) → IsErr r → IfErr r (λ x. Caused x (λ name. IsUnread f old new) (Rose (m.failures before) (m.failures after))) →
    IfErr r (λ x. UnlessRead x (f.faults new ≡ f.faults old)) → IfErr r (λ x. UnlessMessages x (m.failures after ≡ m.failures before)) →
    LeavesDevices f m w old new before after was was serial r
refused_leaves was (Ok x) is caused seen quiet = cc
refused_leaves was (Err x) is caused seen quiet = record {
  errors = λ e. refl;
  clean = no_part x _ _ _ caused;
  seen = (tt, seen);
  quiet = (tt, quiet);
  fault = no_story x _ _ _ caused;
  untouched = always x (refl, refl);
}

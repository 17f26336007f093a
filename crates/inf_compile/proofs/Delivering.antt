-- The bytes that a story's sink takes of a compiled story.
use Rattle.std.proofs.Common.{Result, Ok, Err, IfOk, IfErr, OnOk, MatchResult, option_map, ◌≡◌, ◌==◌, inl, inr, ℕ, true, false, cond}
use Rattle.std.proofs.Common.{List, [], ◌∷◌, codes, length, Option, Some, None, refl, ap, subst, sym, ◌∙◌}
use Rattle.std.proofs.Math.Dec.{eqb-suc-zero}
use Rattle.inf_devices.specs.{Files.Openings, Files.Sources, Sinks.Takes}
use Rattle.inf_session.specs.{Choices.Choices, Session.State}
use Rattle.inf_compile.specs.Comes.{Begins, Comes, OpenedBy, OpenedPart}
use Rattle.inf_compile.specs.Compiling.{Compiles, HasCause, OnlyStory, TakesClean, TakesPart, TakesStory, named_by}
use Rattle.inf_compile.specs.Compiling.{IfMemory, no_sources}
use Rattle.inf_ending.specs.{Ending.Outcome, Ending.missing, Faults.IfRead, Faults.IfStory, Faults.UnlessStory}
use Rattle.inf_ending.specs.{declared.compiled.Compiled.Compiled, declared.compiled.Status.Status, declared.faults.Fault.Fault}
use Rattle.inf_ending.specs.Delivered.{IsFront, EndsClean, SucceedsClean, TakesFront, story_in}
use Rattle.inf_session.proofs.Leadings.{front_same}
use Rattle.inf_compile.proofs.OutcomeLaws.{outcomes_are_unique}
use Rattle.inf_command.specs.FileNames.{source_name}

-- All messages are a front of those of the outcome, which is the only one.
pub begins_whole : (s : Sources) (o p : Choices) (serial name other : List ℕ) (old new : Openings) (before after : Option (List ℕ))
    (c : Compiled) → o ≡ p → name ≡ other → Comes s o serial name old new before after c → Begins s p serial other before after
begins_whole s o p serial name other old new before after c same named k =
    subst (λ (x : Choices). Begins s x serial other before after) same
    (subst (λ (n : List ℕ). Begins s o serial n before after) named (record {
      front = k.ending.messages;
      takes = k.delivers.messages;
      begins = λ e outcome. subst (λ (x : Outcome). IsFront k.ending.messages x.messages)
          (outcomes_are_unique s o serial name k.ending e k.is_outcome outcome) (front_same k.ending.messages);
    }))

-- All openings of the reading are those of its turns.
opened_by : (x : Option (List ℕ)) (s : Sources) (o : Choices) (name : List ℕ) (old new : Openings) → OpenedBy x s o name old new →
    OpenedPart s o name old new
opened_by None s o name old new same = inl same
opened_by (Some source) s o name old new w = inr (record {
  turns = w.is_read.turns;
  names = w.names ∙ ap (λ (t : State). t.nesting.openings) (sym w.is_read.leads);
  closed = w.closed;
  each = λ i le lt. (w.each i le lt).is_cut;
})

pub opened_whole : (s : Sources) (o p : Choices) (serial name other : List ℕ) (old new : Openings) (before after : Option (List ℕ))
    (c : Compiled) → o ≡ p → name ≡ other → Comes s o serial name old new before after c → OpenedPart s p other old new
opened_whole s o p serial name other old new before after c same named k = subst (λ (x : Choices). OpenedPart s x other old new) same
    (subst (λ (n : List ℕ). OpenedPart s o n old new) named (opened_by (s name) s o name old new k.opened))

-- where a story came, whole or in part, it is that of some work of which no error was counted
pub clean_where_delivered : (serial : List ℕ) (P : ℕ → Type 0) (r : Result Status Fault) (c : Compiled)
    (before after story_old story_new : Option (List ℕ)) → IfOk r (λ s. s ≡ c.status) → OnOk r (TakesStory (story_in c) story_old story_new)
    → IfErr r (λ fault. OnlyStory fault (λ n. P n × TakesPart (story_in c) n story_old story_new)) →
    (c.status ≡ Status.Errors → c.story ≡ None) → SucceedsClean serial c before after
    → MatchResult r (λ s. s ≡ Status.Success → TakesClean serial (λ bytes. Takes story_old story_new bytes) before after)
    (λ fault. IfStory fault (λ n. TakesClean serial (λ bytes. TakesPart (Some bytes) n story_old story_new) before after))
clean_where_delivered serial P (Ok s) c before after story_old story_new is whole told none clean = λ success.
    with_story (story_in c) whole (clean (sym is ∙ success))
  where
    with_story : (o : Option (List ℕ)) → TakesStory o story_old story_new → EndsClean serial o before after
        → TakesClean serial (λ bytes. Takes story_old story_new bytes) before after
    with_story None taken ends = let never : false ≡ true = ends.clean.has_story in cc
    with_story (Some bytes) taken ends = record { story = bytes; is_taken = taken; ends = ends }
clean_where_delivered serial P (Err Fault.Memory) c before after story_old story_new is whole told none clean = tt
clean_where_delivered serial P (Err (Fault.Read name)) c before after story_old story_new is whole told none clean = tt
clean_where_delivered serial P (Err Fault.Messages) c before after story_old story_new is whole told none clean = tt
clean_where_delivered serial P (Err (Fault.Story n)) c before after story_old story_new is whole told none clean = by_status c.status refl
  where
    with_part : (o : Option (List ℕ)) → TakesPart o n story_old story_new → EndsClean serial o before after
        → TakesClean serial (λ bytes. TakesPart (Some bytes) n story_old story_new) before after
    with_part None taken ends = absurd taken
    with_part (Some bytes) taken ends = record { story = bytes; is_taken = taken; ends = ends }

    by_status : (s : Status) → c.status ≡ s → TakesClean serial (λ bytes. TakesPart (Some bytes) n story_old story_new) before after
    by_status Status.Success e = with_part (story_in c) told.1 (clean e)
    by_status Status.Errors e =
        absurd (subst (λ (o : Option (List ℕ)). TakesPart o n story_old story_new) (ap (option_map (λ v. v.items)) (none e)) told.1)

-- An empty word names no file

pub named_all : (word : List ℕ) (s : Sources) → (length word == 0) ≡ false → named_by word s ≡ s
named_all word s e = ap (λ b. cond b no_sources s) e

pub all_named : (P : Sources → Type 0) (word : List ℕ) (s : Sources) → (length word == 0) ≡ false → P s → P (named_by word s)
all_named P word s e p = subst P (sym (named_all word s e)) p

no_bytes : (b : ℕ) (word : List ℕ) → (length (b ∷ word) == 0) ≡ true → ⊥
no_bytes b word e = let never : false ≡ true = sym (eqb-suc-zero (length word)) ∙ e in cc

-- status and messages are those of a source that is not there, and no story comes
pub refused_compiles : (word date : List ℕ) (s : Sources) (o : Choices) (r : Status) (before after story_old story_new : Option (List ℕ)) →
    (length word == 0) ≡ true → r ≡ Status.Errors
    → Takes before after (missing (codes ".inf")).messages → story_new ≡ story_old → Compiles (named_by word s) o date (source_name word) r
    before after story_old story_new
refused_compiles [] date s o r before after story_old story_new e is takes same =
    record { ending = missing (codes ".inf"); is_outcome = refl; status_is = is; messages = takes; story = same }
refused_compiles (b ∷ word) date s o r before after story_old story_new e is takes same = absurd (no_bytes b word e)

pub refused_begins : (word date : List ℕ) (s : Sources) (o : Choices) (before after : Option (List ℕ)) → (length word == 0) ≡ true
    → TakesFront (missing (codes ".inf")).messages before after → Begins (named_by word s) o date (source_name word) before after
refused_begins [] date s o before after e t = record {
  front = t.front;
  takes = t.takes;
  begins = λ x outcome. subst (λ (y : Outcome). IsFront t.front y.messages) (sym outcome) t.begins;
}
refused_begins (b ∷ word) date s o before after e t = absurd (no_bytes b word e)

-- no fault of it is one of reading or of the story
pub none_read : (fault : Fault) (writing : Type 0) (P : List ℕ → Type 0) → HasCause fault (λ name. ⊥) writing (λ n. ⊥) → IfRead fault P
none_read Fault.Memory writing P cause = tt
none_read (Fault.Read name) writing P cause = absurd cause
none_read Fault.Messages writing P cause = tt
none_read (Fault.Story n) writing P cause = tt

pub none_told : (fault : Fault) (writing : Type 0) (P : ℕ → Type 0) → HasCause fault (λ name. ⊥) writing (λ n. ⊥) → IfStory fault P
none_told Fault.Memory writing P cause = tt
none_told (Fault.Read name) writing P cause = tt
none_told Fault.Messages writing P cause = tt
none_told (Fault.Story n) writing P cause = absurd cause

pub more_caused : (fault : Fault) (writing : Type 0) (P : List ℕ → Type 0) (Q : ℕ → Type 0) → HasCause fault (λ name. ⊥) writing (λ n. ⊥) →
    HasCause fault P writing Q
more_caused Fault.Memory writing P Q cause = tt
more_caused (Fault.Read name) writing P Q cause = absurd cause
more_caused Fault.Messages writing P Q cause = cause
more_caused (Fault.Story n) writing P Q cause = absurd cause

pub unfailed_always : (fault : Fault) (story : Option (List ℕ)) (failures : ℕ) → UnlessStory fault ((story ≡ story) × (failures ≡ failures))
unfailed_always Fault.Memory story failures = (refl, refl)
unfailed_always (Fault.Read name) story failures = (refl, refl)
unfailed_always Fault.Messages story failures = (refl, refl)
unfailed_always (Fault.Story n) story failures = tt

no_success : (r : Status) (P : Type 0) → r ≡ Status.Errors → r ≡ Status.Success → P
no_success r P is success = let never : Status.Errors ≡ Status.Success = sym is ∙ success in cc

-- An empty word ends in no success.
pub none_clean : (r : Result Status Fault) (writing A : Type 0) (B : ℕ → Type 0) → IfOk r (λ s. s ≡ Status.Errors) →
    IfErr r (λ fault. HasCause fault (λ name. ⊥) writing (λ n. ⊥)) → MatchResult r (λ s. s ≡ Status.Success → A) (λ fault. IfStory fault B)
none_clean (Ok s) writing A B is cause = λ success. no_success s A is success
none_clean (Err fault) writing A B is cause = none_told fault writing B cause

-- a fault of the story alone is no want of memory

story_only : (f : Fault) (P : ℕ → Type 0) (A : Type 0) → OnlyStory f P → IfMemory f A
story_only Fault.Memory P A only = absurd only
story_only (Fault.Read name) P A only = tt
story_only Fault.Messages P A only = tt
story_only (Fault.Story n) P A only = tt

pub never_story : {T : Type 0} (r : Result T Fault) (P : ℕ → Type 0) (A : Type 0) → IfErr r (λ f. OnlyStory f P) → IfErr r (λ f. IfMemory f A)
never_story (Ok x) P A only = tt
never_story (Err f) P A only = story_only f P A only

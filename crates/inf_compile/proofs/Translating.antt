-- The outcome of a translation, and the state in which it leaves its devices.
use Rattle.std.proofs.Common.{◌≡◌, ℕ, zero, List, Option, Result, Err, refl}
use Rattle.inf_devices.specs.{Files.Openings, Files.Sources, declared.files.Files.Ghosts as Files, declared.sinks.Sink.Ghosts as Sink}
use Rattle.inf_sources.specs.{Calls.Went, Open.Open, Open.opened_since}
use Rattle.inf_session.specs.{Choices.Choices, Session.State}
use Rattle.inf_ending.specs.declared.{compiled.Compiled.Compiled, faults.Fault.Fault}
use Rattle.inf_settings.specs.Bounds.{Limits}
use Rattle.inf_compile.specs.Translated.{Leaves, Translated}
use Rattle.inf_compile.proofs.{Concluding.early_none, Concluding.stops_none, Telling.if_read_more}

-- memory lacked before anything was read
pub translated_none : {limits : Limits} {s : Sources} {o : Choices} {serial : List ℕ} {was : List ℕ → State} {start now : Openings}
    {f : Open} {old : Option (List ℕ)} {unread : List ℕ → Type 0} →
    ((told : List ℕ) → opened_since start now ≡ (was told).nesting.openings) →
    Translated limits s o serial was start now f old old unread (Err Fault.Memory)
translated_none opened = record {
  concludes = tt;
  stops = stops_none _ _ _ _ _ _;
  early = early_none _ _ _ _ _;
  heard = tt;
  opened = (zero, opened);
}

pub leaves_none : {S M : Type 0} {f : Files S} {m : Sink M} {old new : S} {before after : Open} {told : M} {serial : List ℕ} →
    Went f old new before after → f.faults new ≡ f.faults old → Leaves f m old new before after told told serial (Err Fault.Memory)
leaves_none went seen = record { went = went; fits = tt; seen = (tt, seen); errors = tt; clean = tt; fault = tt; quiet = (tt, refl) }

-- more is told of a file that was not read
pub heard_more : {limits : Limits} {s : Sources} {o : Choices} {serial : List ℕ} {was : List ℕ → State} {start now : Openings} {f : Open}
    {before after : Option (List ℕ)} {P Q : List ℕ → Type 0} {r : Result Compiled Fault} → ((name : List ℕ) → P name → Q name) →
    Translated limits s o serial was start now f before after P r → Translated limits s o serial was start now f before after Q r
heard_more {P = P} {Q = Q} {r = r} more t = record {
  concludes = t.concludes;
  stops = t.stops;
  early = t.early;
  heard = if_read_more r P Q more t.heard;
  opened = t.opened;
}

-- Turns as calls make them: of their parts, behind one another, and given up.
use Rattle.std.proofs.Common.{◌≡◌, inl, inr, ℕ, suc, zero, ◌+◌, List, ◌++◌, Option, None, false, refl, sym, ap, subst, ◌∙◌}
use Rattle.inf_settings.specs.Bounds.{Limits}
use Rattle.inf_devices.specs.{Files.Openings, Files.Sources, Sinks.Takes}
use Rattle.inf_devices.specs.declared.{files.Files.Ghosts as Files, sinks.Sink.Ghosts as Sink}
use Rattle.inf_sources.specs.Open.{opened_since}
use Rattle.inf_session.specs.{Choices.Choices, Standing.state, declared.session.Session.Session}
use Rattle.inf_session.specs.Leading.{OpensAll, StopsFor, StopsAtInclusion, Writes}
use Rattle.inf_session.specs.Promises.{Breaking, Promised, RunBreaks, StepIs, Stops, TurnBreaks, at_inclusion, in_token}
use Rattle.inf_session.specs.Session.{State, followed, has_ended, is_parted, part, run, stepped, told_out, turn}
use Rattle.inf_ending.specs.{Delivered.IsFront, declared.faults.Fault.Fault}
use Rattle.inf_session.proofs.Leadings.{cuts_in, cuts_nothing, cuts_on, opens_on, run_begins, run_more, run_sum, stops_at_more, stops_more}
use Rattle.inf_session.proofs.Leadings.{part_more, part_one, run_going, still_going, turn_begins, writes_as, writes_on, wrote_on}
use Rattle.inf_session.proofs.Promises.{promised_then, read_more}

-- the state behind a token and what it asks for
abbrev pub turning : Limits → Sources → Choices → State → State
turning limits sources o s = followed sources o (stepped limits o s)

-- the turns of a part so far, of which there is one at least
abbrev pub PartSoFar : (limits : Limits) (sources : Sources) (o : Choices) (was now : List ℕ → State) (old new : Option (List ℕ)) → Type 0
PartSoFar limits sources o was now old new =
    (turns : ℕ) × (Writes (part limits sources o (suc turns)) was now old new × Writes (run limits sources o (suc turns)) was now old new)

pub part_begins : (limits : Limits) (sources : Sources) (o : Choices) {was now : List ℕ → State} {old new : Option (List ℕ)}
    → ((told : List ℕ) → has_ended (was told) ≡ false) → Writes (turn limits sources o) was now old new
    → PartSoFar limits sources o was now old new
part_begins limits sources o {was = was} going w = (
  zero,
  (
    writes_as (λ told. sym (part_one limits sources o (was told) (going told))) w,
    writes_as (λ told. sym (run_going limits sources o zero (was told) (going told))) w,
  ),
)

pub part_goes : (limits : Limits) (sources : Sources) (o : Choices) {was mid now : List ℕ → State} {old between new : Option (List ℕ)}
    → ((told : List ℕ) → has_ended (was told) ≡ false) → ((told : List ℕ) → is_parted (mid told) ≡ false)
    → PartSoFar limits sources o was mid old between → Writes (turn limits sources o) mid now between new
    → PartSoFar limits sources o was now old new
part_goes limits sources o {was = was} {mid = mid} going open_still (n, (p, r)) w = (
  suc n,
  (
    writes_on (λ told. part_more limits sources o n (was told) (going told)
        (ap is_parted (sym (p.same told)) ∙ open_still (told ++ p.lines))) p w,
    writes_on (λ told. run_more limits sources o (suc n) (was told)
        (ap has_ended (sym (r.same told)) ∙ still_going (mid (told ++ r.lines)) (open_still (told ++ r.lines)))) r w,
  ),
)

-- A token was taken, and what it asks for was done.
pub token_followed : {R B : Type 0} {f : Files R} {a b c : R} {x y z : Session B} {K L : Breaking} {P : Type 0} (n : Limits)
    → Promised f a b x y None (StepIs f (λ s. stepped n) a b x y) K P → Promised f b c y z None (StepIs f followed b c y z) L ⊥
    → Promised f a c x z None (StepIs f (turning n) a c x z) (λ failed s t begin e. ⊥) ⊥
token_followed n p q =
    promised_then p q (λ s t begin first more told. more told ∙ ap (followed s t) (first told)) (λ rose s t begin. tt) (λ any. any)

-- No turn was made.
pub none_breaks : {R M B : Type 0} {f : Files R} {m : Sink M} {limits : Limits} {sources : Sources} {o : Choices} {start : Openings} {a : R}
    {x z : Session B} {old : M} {failed : Type 0} → RunBreaks f m limits a a old old x z failed sources o start Fault.Memory
none_breaks {m = m} {limits = limits} {sources = sources} {o = o} {old = old} = record {
  turns = zero;
  cut = cuts_nothing (m.taken old) (λ told. refl) (run_begins limits sources o zero);
  others = zero;
  opened = λ told. refl;
  unread = tt;
}

module _ {R M B : Type 0} {f : Files R} {m : Sink M} {limits : Limits} {sources : Sources} {o : Choices} {start : Openings} {a b : R}
    {x : Session B} where
  -- A turn was given up in its token, or behind it, before the messages.
  pub token_breaks : {y : Session B} {old : M} {failed : Type 0} {e : Fault}
      → Stops f (λ s c. stepped limits c) in_token a b x y failed sources o start e
      → TurnBreaks f m limits a b old old x y failed sources o start e
  token_breaks {old = old} {e = e} h = record {
    cut = cuts_nothing (m.taken old) (λ told. refl) (turn_begins limits sources o);
    opened = elim h.opened [ inl before ↦ inl before | inr there ↦ inl there ];
    unread = read_more e (λ name stops. (refl, λ told. inl (stops told))) h.unread;
  }

  pub following_breaks : {c : R} {y z : Session B} {old : M} {later failed : Type 0} {e : Fault}
      → StepIs f (λ s c. stepped limits c) a b x y sources o start → Stops f followed at_inclusion b c y z later sources o start e
      → (later → failed) → TurnBreaks f m limits a c old old x z failed sources o start e
  following_breaks {c = c} {old = old} {later = later} {e = e} first h more = record {
    cut = cuts_nothing (m.taken old) (λ told. refl) (turn_begins limits sources o);
    opened = elim h.opened [
      | inl before ↦ inl (λ told. before told ∙ ap (λ (s : State). s.nesting.openings) (first told))
      | inr there ↦ inr (λ told. there told ∙ ap (λ (s : State). (followed sources o s).nesting.openings) (first told))
    ];
    unread = read_more e (λ name stops. (
      refl,
      λ told. inr (stops_at_more more
          (subst (λ (s : State). StopsAtInclusion later sources o s (opened_since start (f.openings c)) name) (first told) (stops told))),
    )) h.unread;
  }

  -- The messages of a turn were written in part.
  pub messages_break : {z : Session B} {old new : M} {front : List ℕ} {failed : Type 0} (y : Session B)
      → StepIs f (turning limits) a b x y sources o start → Takes (m.taken old) (m.taken new) front
      → IsFront front y.progress.work.report.lines → TurnBreaks f m limits a b old new x z failed sources o start Fault.Messages
  messages_break y step takes front = record {
    cut = cuts_in (λ told. sym (ap (λ (s : State). (told_out s).told) (step told))) takes front;
    opened = inr (λ told. ap (λ (s : State). s.nesting.openings) (step told));
    unread = tt;
  }

  -- A turn behind others was given up.
  pub turn_breaks : {c : R} {y z : Session B} {old between new : M} {later failed : Type 0} {e : Fault} (n : ℕ)
      → TurnBreaks f m limits b c between new y z later sources o start e
      → Writes (run limits sources o n) (state sources start (f.openings a) x) (state sources start (f.openings b) y) (m.taken old)
      (m.taken between) → ((told : List ℕ) → has_ended (state sources start (f.openings b) y told) ≡ false) → (later → failed)
      → RunBreaks f m limits a c old new x z failed sources o start e
  turn_breaks {c = c} {y = y} {z = z} {old = old} {between = between} {new = new} {later = later} {failed = failed} {e = e} n h w going
      more_failed = record {
        turns = suc n;
        cut = cuts_on more w h.cut;
        others = opened.0;
        opened = opened.1;
        unread = read_more e (λ name stops. record {
          turns = n;
          wrote = record {
            lines = w.lines;
            takes = subst (λ (x : Option (List ℕ)). Takes (m.taken old) x w.lines) (sym stops.0) w.takes;
            same = λ told. ap (λ (s : State). s.told) (sym (w.same told));
          };
          goes_on = λ told. goes told;
          stops = λ told.
              stops_more limits later failed sources o (run limits sources o n (was told)) start now z.open_files name more_failed
              (subst (λ (s : State). StopsFor limits later sources o s start now z.open_files name) (w.same told)
              (stops.1 (told ++ w.lines)));
        }) h.unread;
      }
    where
      was : List ℕ → State
      was = state sources start (f.openings a) x

      now : Openings
      now = f.openings c

      goes : (told : List ℕ) → has_ended (run limits sources o n (was told)) ≡ false
      goes told = ap has_ended (sym (w.same told)) ∙ going (told ++ w.lines)

      more : (told : List ℕ) → run limits sources o (suc n) (was told) ≡ turn limits sources o (run limits sources o n (was told))
      more told = run_more limits sources o n (was told) (goes told)

      opened : (k : ℕ) × OpensAll (run limits sources o k) was (opened_since start now)
      opened = elim h.opened as (λ _. (k : ℕ) × OpensAll (run limits sources o k) was (opened_since start now)) [
        | inl before ↦ (n, opens_on (run limits sources o n) (λ s. s) (λ told. refl) w before)
        | inr there ↦ (suc n, opens_on (run limits sources o (suc n)) (turn limits sources o) more w there)
      ]

  -- Turns behind others were given up.
  pub run_breaks : {c : R} {y z : Session B} {old between new : M} {later failed : Type 0} {e : Fault} (n : ℕ)
      → Writes (run limits sources o n) (state sources start (f.openings a) x) (state sources start (f.openings b) y) (m.taken old)
      (m.taken between) → RunBreaks f m limits b c between new y z later sources o start e → (later → failed)
      → RunBreaks f m limits a c old new x z failed sources o start e
  run_breaks {c = c} {y = y} {z = z} {later = later} {failed = failed} {e = e} n w h more_failed = record {
    turns = n + h.turns;
    cut = cuts_on (sum h.turns) w h.cut;
    others = n + h.others;
    opened = opens_on (run limits sources o (n + h.others)) (run limits sources o h.others) (sum h.others) w h.opened;
    unread = read_more e (λ name g. record {
      turns = n + g.turns;
      wrote = wrote_on (sum g.turns) w g.wrote;
      goes_on = λ told. ap has_ended (behind g.turns told) ∙ g.goes_on (told ++ w.lines);
      stops = λ told.
          stops_more limits later failed sources o (run limits sources o (n + g.turns) (was told)) start now z.open_files name more_failed
          (subst (λ (s : State). StopsFor limits later sources o s start now z.open_files name) (sym (behind g.turns told))
          (g.stops (told ++ w.lines)));
    }) h.unread;
  } where
    was : List ℕ → State
    was = state sources start (f.openings a) x

    now : Openings
    now = f.openings c

    sum : (k : ℕ) (told : List ℕ) → run limits sources o (n + k) (was told) ≡ run limits sources o k (run limits sources o n (was told))
    sum k told = run_sum limits sources o n k (was told)

    behind : (k : ℕ) (told : List ℕ) →
        run limits sources o (n + k) (was told) ≡ run limits sources o k (state sources start (f.openings b) y (told ++ w.lines))
    behind k told = sum k told ∙ ap (run limits sources o k) (sym (w.same told))

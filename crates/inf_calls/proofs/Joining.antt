-- Calls of a session that follow one another: a part that is read, and what the call makes of it.
use Rattle.std.proofs.Common.{◌≡◌, inl, inr, ℕ, zero, ◌<◌, ◌≤◌, List, [], ◌++◌, length, false, Option, Result, Ok, Err}
use Rattle.std.proofs.Common.{refl, sym, ap, subst, ◌∙◌, append-nil}
use Rattle.std.specs.Bool.{⊤}
use Rattle.inf_settings.specs.Bounds.{Limits}
use Rattle.inf_devices.specs.{Files.Openings, Files.Rose, Files.Sources, Sinks.Takes, declared.files.Files.Ghosts as Files}
use Rattle.inf_devices.specs.declared.sinks.Sink.{Ghosts as Sink}
use Rattle.inf_lexer.proofs.Candidates.{rose_earlier}
use Rattle.inf_sources.specs.{Calls.IsUnreadable, Calls.Went, Open.Open, Open.opened_since}
use Rattle.inf_session.specs.{Choices.Choices, Choices.chosen, Choices.most_quoted, Leading.GivenUp, Leading.StopsFor}
use Rattle.inf_session.specs.Session.{State, has_ended, run}
use Rattle.inf_reader.specs.declared.progress.Progress.{Progress}
use Rattle.inf_session.specs.{Standing.ended}
use Rattle.inf_session.specs.{Standing.state, declared.session.Session.Session, declared.setup.Setup.Setup}
use Rattle.inf_ending.specs.{Delivered.Appends, Delivered.IsFront, Faults.Caused}
use Rattle.inf_ending.specs.{Faults.IfRead, Faults.UnlessMessages, declared.faults.Fault.Fault}
use Rattle.inf_ending.proofs.{Delivering.appends_then, Delivering.takes_none, Quiet.unless_more}
use Rattle.inf_session.proofs.Promises.{caused_more, read_more}
use Rattle.inf_calls.specs.Answers.{Adds, Answers, Ends, EndsCut, EndsText, Fails, HasCause, IfFailure, IfLost, ReadFails, Reads, Stays}
use Rattle.inf_calls.specs.Answers.{is_lost}
use Rattle.inf_output.specs.declared.operands.Simple.{Simple}
use Rattle.inf_calls.specs.Calls.{Answered, and_then, done}
use Rattle.inf_calls.specs.declared.faults.UnitFault.{UnitFault}
use Rattle.inf_calls.proofs.Calling.{call_answers, call_failed, call_then, cut_then, opens_all}

pub if_failure : (fault : UnitFault) (P Q : Fault → Type 0) → ((f : Fault) → P f → Q f) → IfFailure fault P → IfFailure fault Q
if_failure (UnitFault.Lost f) P Q h p = h f p
if_failure UnitFault.Syntax P Q h p = p
if_failure (UnitFault.Semantic f) P Q h p = p
if_failure UnitFault.Wrong P Q h p = p
if_failure UnitFault.Fatal P Q h p = p

pub if_failures : (fault : UnitFault) (P Q R : Fault → Type 0) → ((f : Fault) → P f → Q f → R f) → IfFailure fault P → IfFailure fault Q →
    IfFailure fault R
if_failures (UnitFault.Lost f) P Q R h p q = h f p q
if_failures UnitFault.Syntax P Q R h p q = p
if_failures (UnitFault.Semantic f) P Q R h p q = p
if_failures UnitFault.Wrong P Q R h p q = p
if_failures UnitFault.Fatal P Q R h p q = p

pub if_lost : {T : Type 0} (answer : Result T UnitFault) (P Q : Fault → Type 0) → ((f : Fault) → P f → Q f) → IfLost answer P →
    IfLost answer Q
if_lost (Ok v) P Q h p = p
if_lost (Err fault) P Q h p = if_failure fault P Q h p

pub if_both : {T : Type 0} (answer : Result T UnitFault) (P Q R : Fault → Type 0) → ((f : Fault) → P f → Q f → R f) → IfLost answer P →
    IfLost answer Q → IfLost answer R
if_both (Ok v) P Q R h p q = p
if_both (Err fault) P Q R h p q = if_failures fault P Q R h p q

pub never_read : (fault : Fault) (Q : Type 0) → Caused fault (λ name. ⊥) Q → IfRead fault (λ name. ⊥)
never_read Fault.Memory Q c = c
never_read (Fault.Read name) Q c = c
never_read Fault.Messages Q c = tt
never_read (Fault.Story n) Q c = absurd c

-- the end of a unit has no part of the files
pub caused_here : {R M B T : Type 0} (f : Files R) (m : Sink M) (was is : R) (old between new : M) (before mid after : Session B)
    (answer : Result T UnitFault) → m.failures old ≤ m.failures between
    → IfLost answer (λ fault. Caused fault (λ name. ⊥) (Rose (m.failures between) (m.failures new)))
    → HasCause f m was is old new before after answer
caused_here f m was is old between new before mid after answer more c =
    if_lost answer (λ fault. Caused fault (λ name. ⊥) (Rose (m.failures between) (m.failures new)))
    (λ fault. Caused fault (λ name. IsUnreadable f was is before.open_files after.open_files) (Rose (m.failures old) (m.failures new)))
    (λ fault. caused_more fault (λ name never. absurd never) (rose_earlier (m.failures old) (m.failures between) (m.failures new) more)) c

pub adds_then : {M T : Type 0} (m : Sink M) (old between new : M) (answer : Result T UnitFault) → Appends m old between →
    m.failures between ≡ m.failures old → Adds m between new answer → Adds m old new answer
adds_then m old between new answer a quiet b = (
  appends_then m old between new a b.0,
  (
    (λ here. b.1.0 here ∙ quiet),
    if_lost answer (λ fault. UnlessMessages fault (m.failures new ≡ m.failures between))
        (λ fault. UnlessMessages fault (m.failures new ≡ m.failures old))
        (λ fault. unless_more fault (m.failures new ≡ m.failures between) (m.failures new ≡ m.failures old) (λ e. e ∙ quiet)) b.1.1,
  ),
)

-- the end of a unit leaves the files and the choices alone
pub stays_here : {R B S T : Type 0} (f : Files R) (was is : R) (before mid after : Session B) (v : S) (answer : Result T UnitFault) →
    Stays {T = S} f was is before mid (Ok v) → after.open_files ≡ mid.open_files → after.setup ≡ mid.setup
    → Stays f was is before after answer
stays_here f was is before mid after v answer s files setup = record {
  went = subst (λ (x : Open). Went f was is before.open_files x) (sym files) s.went;
  is_open = subst (λ (x : Open). length x.outer < f.depth is) (sym files) s.is_open;
  set = ap (λ (x : Open). x.nest.limit) files ∙ s.set ∙ ap (λ (x : Setup). most_quoted (chosen x)) (sym setup);
  setup = setup ∙ s.setup;
  goes = λ _. ap (λ (x : Open). x.lexer.has_failed) files ∙ s.goes refl;
  fits = λ _. s.fits refl;
}

module _ {R M B : Type 0} (f : Files R) (m : Sink M) (limits : Limits) (was is : R) (old between new : M) (before mid after : Session
    B) where
  pub reads_failed : {S T : Type 0} (begin : State → State) (call : Sources → Choices → ℕ → State → Answered S) (next : S → State →
      Answered T) (fault : UnitFault) → Reads f m limits begin call was is old new before after (Err fault)
      → Reads f m limits begin (λ sources o turns s. and_then (call sources o turns s) next) was is old new before after (Err fault)
  reads_failed begin call next fault r = λ going honest start nested kept.
      let x = r going honest start nested kept in
      let c = call (f.sources was) (chosen before.setup) x.0 in (
        x.0,
        (
          call_failed c next (state (f.sources was) start (f.openings was) before) (state (f.sources was) start (f.openings is) after) fault
              (m.taken old) (m.taken new) x.1.0,
          x.1.1,
        ),
      )

  pub answers_failed : {S T : Type 0} (begin : State → State) (call : Sources → Choices → ℕ → State → Answered S)
      (next : Choices → S → State → Answered T) (fault : UnitFault) → Reads f m limits begin call was is old new before after (Err fault)
      → Answers f m (λ sources o turns s. and_then (call sources o turns s) (next o)) was is old new before after (Err fault)
  answers_failed begin call next fault r = λ going honest start nested kept.
      let x = r going honest start nested kept in
      let o = chosen before.setup in (
        x.0,
        call_failed (call (f.sources was) o x.0) (next o) (state (f.sources was) start (f.openings was) before)
            (state (f.sources was) start (f.openings is) after) fault (m.taken old) (m.taken new) x.1.0,
      )

  pub answers_then : {S T : Type 0} (begin : State → State) (call : Sources → Choices → ℕ → State → Answered S)
      (next : Choices → S → State → Answered T) (v : S) (answer : Result T UnitFault) → mid.setup ≡ before.setup
      → Reads f m limits begin call was is old between before mid (Ok v) → Ends m (next (chosen mid.setup) v) between new mid after answer
      → Answers f m (λ sources o turns s. and_then (call sources o turns s) (next o)) was is old new before after answer
  answers_then begin call next v answer setup r e = λ going honest start nested kept.
      let x = r going honest start nested refl in let o = chosen before.setup in
      let ends : Ends m (next o v) between new mid after answer =
      subst (λ (s : Setup). Ends m (next (chosen s) v) between new mid after answer) setup e in (
        x.0,
        call_then (call (f.sources was) o x.0) (next o) (state (f.sources was) start (f.openings was) before)
            (state (f.sources was) start (f.openings is) mid) (state (f.sources was) start (f.openings is) after) v answer (m.taken old)
            (m.taken between) (m.taken new) x.1.0 (ends (f.sources was) start (f.openings is) kept),
      )

  pub fails_first : {T : Type 0} (begin : State → State) (call : Sources → Choices → ℕ → State → Answered T) (fault : UnitFault) →
      ReadFails {T = T} f m limits begin was is old new before after (Err fault)
      → Fails f m limits begin call was is old new before after (Err fault)
  fails_first begin call fault r = λ going honest start nested.
      if_failure fault _ _ (λ fault failed. inl failed) (r going honest start nested)

  pub fails_then : {S T : Type 0} (begin : State → State) (call : Sources → Choices → ℕ → State → Answered S)
      (next : Choices → S → State → Answered T) (v : S) (answer : Result T UnitFault) (Q : Type 0) → mid.setup ≡ before.setup
      → Reads f m limits begin call was is old between before mid (Ok v)
      → EndsCut m (next (chosen mid.setup) v) between new mid answer → IfLost answer (λ fault. Caused fault (λ name. ⊥) Q)
      → Fails f m limits begin (λ sources o turns s. and_then (call sources o turns s) (next o)) was is old new before after answer
  fails_then begin call next v answer Q setup r e cause = λ going honest start nested.
      let x = r going honest start nested refl in let o = chosen before.setup in
      let now = state (f.sources was) start (f.openings is) mid in
      let cuts : EndsCut m (next o v) between new mid answer =
      subst (λ (s : Setup). EndsCut m (next (chosen s) v) between new mid answer) setup e in
      if_both answer _ _ _ (λ fault cut c. inr (record {
        turns = x.0;
        cut = cut_then (call (f.sources was) o x.0) (next o) (state (f.sources was) start (f.openings was) before) now v (m.taken old)
            (m.taken between) (m.taken new) x.1.0 cut;
        opened = opens_all (λ s. run limits (f.sources was) o x.0 (begin s)) (state (f.sources was) start (f.openings was) before) now
            (m.taken old) (m.taken between) (opened_since start (f.openings is)) x.1.1 (λ told. refl);
        unread = never_read fault Q c;
      })) (cuts (f.sources was) start (f.openings is)) cause

  -- an answer about the state behind a part
  pub reads_at : {S T : Type 0} (begin : State → State) (call : Sources → Choices → ℕ → State → Answered S)
      (next : S → State → Answered T) (v : S) (answer : Result T UnitFault) → ((sources : Sources) → (start now : Openings)
      → (told : List ℕ) → (state sources start now after told, answer) ≡ next v (state sources start now after told))
      → Reads f m limits begin call was is old new before after (Ok v)
      → Reads f m limits begin (λ sources o turns s. and_then (call sources o turns s) next) was is old new before after answer
  reads_at begin call next v answer h r = λ going honest start nested kept.
      let x = r going honest start nested refl in
      let now = state (f.sources was) start (f.openings is) after in (
        x.0,
        (
          call_then (call (f.sources was) (chosen before.setup) x.0) next (state (f.sources was) start (f.openings was) before) now now v
              answer (m.taken old) (m.taken new) (m.taken new) x.1.0
              (call_answers (next v) now answer (m.taken new) (λ told. h (f.sources was) start (f.openings is) told)),
          x.1.1,
        ),
      )

  pub reads_answers : {T : Type 0} (begin : State → State) (call : Sources → Choices → ℕ → State → Answered T) (answer : Result T UnitFault)
      → Reads f m limits begin call was is old new before after answer → Answers f m call was is old new before after answer
  reads_answers begin call answer r = λ going honest start nested kept.
      let x = r going honest start nested kept in (x.0, x.1.0)

  -- a part that is read from another state on
  pub reads_from : {T : Type 0} (p : Progress B) (begin first : State → State) (call : Sources → Choices → ℕ → State → Answered T)
      (answer : Result T UnitFault) → (ended before ≡ false → ended (record before { progress = p }) ≡ false) → ((sources : Sources)
      → (start now : Openings) → (told : List ℕ) → state sources start now (record before { progress = p }) told
      ≡ first (state sources start now before told))
      → Reads f m limits begin call was is old new (record before { progress = p }) after answer
      → Reads f m limits (λ s. begin (first s)) (λ sources o turns s. call sources o turns (first s)) was is old new before after answer
  reads_from p begin first call answer e h r = λ going honest start nested kept.
      let x = r (e going) honest start nested kept in let o = chosen before.setup in
      let is_first = h (f.sources was) start (f.openings was) in (
        x.0,
        (
          record {
            lines = x.1.0.lines;
            takes = x.1.0.takes;
            same = λ told. x.1.0.same told ∙ ap (call (f.sources was) o x.0) (is_first told);
          },
          record {
            lines = x.1.1.lines;
            takes = x.1.1.takes;
            same = λ told. x.1.1.same told ∙ ap (λ s. run limits (f.sources was) o x.0 (begin s)) (is_first told);
          },
        ),
      )

  pub fails_from : {T : Type 0} (p : Progress B) (begin first : State → State) (answer : Result T UnitFault) →
      (ended before ≡ false → ended (record before { progress = p }) ≡ false) → ((sources : Sources)
      → (start now : Openings) → (told : List ℕ) → state sources start now (record before { progress = p }) told
      ≡ first (state sources start now before told))
      → ReadFails f m limits begin was is old new (record before { progress = p }) after answer
      → ReadFails f m limits (λ s. begin (first s)) was is old new before after answer
  fails_from p begin first answer e h r = λ going honest start nested.
      let o = chosen before.setup in let sources = f.sources was in let is_first = h sources start (f.openings was) in
      if_lost answer _ _ (λ fault x. record {
        turns = x.turns;
        cut = record {
          front = x.cut.front;
          takes = x.cut.takes;
          begins = λ told. subst (λ (s : State). IsFront (told ++ x.cut.front) (run limits sources o x.turns (begin s)).told) (is_first
              told) (x.cut.begins told);
        };
        others = x.others;
        opened = λ told. x.opened told ∙ ap (λ s. (run limits sources o x.others (begin s)).nesting.openings) (is_first told);
        unread = read_more fault (λ name y. record {
          turns = y.turns;
          wrote = record {
            lines = y.wrote.lines;
            takes = y.wrote.takes;
            same = λ told. ap (λ s. (run limits sources o y.turns (begin s)).told) (sym (is_first told)) ∙ y.wrote.same told;
          };
          goes_on = λ told. ap (λ s. has_ended (run limits sources o y.turns (begin s))) (sym (is_first told)) ∙ y.goes_on told;
          stops = λ told. subst (λ (s : State). StopsFor limits (Rose (f.faults was) (f.faults is)) sources o
              (run limits sources o y.turns (begin s)) start (f.openings is) after.open_files name) (is_first told) (y.stops told);
        }) x.unread;
      }) (r (e going) honest start nested)

  -- a session that has failed before it read anything
  pub fails_at_once : {T : Type 0} (begin : State → State) (answer : Result T UnitFault) → m.taken new ≡ m.taken old → is ≡ was
      → ((s : State) → (begin s).told ≡ s.told) → ((s : State) → (begin s).nesting ≡ s.nesting)
      → IfLost answer (λ fault. fault ≡ Fault.Memory) → ReadFails f m limits begin was is old new before after answer
  fails_at_once begin answer quiet same told_same nesting_same memory = λ going honest start nested.
      let sources = f.sources was in let o = chosen before.setup in
      let first = state sources start (f.openings was) before in
      let Unread : Fault → Type 0 = λ fault. IfRead fault (λ name. GivenUp limits (Rose (f.faults was) (f.faults is)) sources o
      (λ told. begin (first told)) (m.taken old) (m.taken new) start (f.openings is) after.open_files name) in
      if_lost answer _ _ (λ fault is_memory. record {
        turns = zero;
        cut = record {
          front = [];
          takes = subst (λ (taken : Option (List ℕ)). Takes (m.taken old) taken []) (sym quiet) (takes_none (m.taken old));
          begins = λ told. record { rest = []; is_cut = told_same _ ∙ sym (append-nil told) ∙ sym (append-nil (told ++ [])) };
        };
        others = zero;
        opened = λ told. ap (λ r. opened_since start (f.openings r)) same ∙ ap (λ n. n.openings) (sym (nesting_same _));
        unread = subst Unread (sym is_memory) tt;
      }) memory

-- a condition has the answer of its expression, without an operand

pub done_lost : (answer : Result (Option Simple) UnitFault) → is_lost (done answer) ≡ is_lost answer
done_lost (Ok left) = refl
done_lost (Err fault) = refl

pub done_if : (answer : Result (Option Simple) UnitFault) (P : Fault → Type 0) → IfLost answer P → IfLost (done answer) P
done_if (Ok left) P p = tt
done_if (Err fault) P p = p

module _ {R M B : Type 0} (f : Files R) (m : Sink M) (limits : Limits) (was is : R) (old new : M) (before after : Session B)
    (answer : Result (Option Simple) UnitFault) (result : Result ⊤ UnitFault) (is_done : result ≡ done answer) where
  done_answers : (call : Sources → Choices → ℕ → State → Answered (Option Simple)) → Answers f m call was is old new before after answer
      → Answers f m (λ sources o turns s. ((call sources o turns s).0, done (call sources o turns s).1)) was is old new before after result
  done_answers call r = λ going honest start nested kept.
      let x = r going honest start nested (sym (done_lost answer) ∙ ap is_lost (sym is_done) ∙ kept) in (
        x.0,
        record {
          lines = x.1.lines;
          takes = x.1.takes;
          same = λ told. ap (λ a. (state (f.sources was) start (f.openings is) after (told ++ x.1.lines), a)) is_done
              ∙ ap (λ (a : Answered (Option Simple)). (a.0, done a.1)) (x.1.same told);
        },
      )

  done_fails : (begin : State → State) (call : Sources → Choices → ℕ → State → Answered (Option Simple))
      → Fails f m limits begin call was is old new before after answer
      → Fails f m limits begin (λ sources o turns s. ((call sources o turns s).0, done (call sources o turns s).1)) was is old new before
      after result
  done_fails begin call r =
      let both : Sources → Choices → ℕ → State → Answered ⊤ =
      λ sources o turns s. ((call sources o turns s).0, done (call sources o turns s).1) in
      subst (λ (a : Result ⊤ UnitFault). Fails f m limits begin both was is old new before after a) (sym is_done)
      (λ going honest start nested. done_if answer _ (if_lost answer _ _ (λ fault x. elim x [
        | inl y ↦ inl y
        | inr y ↦ inr (record { turns = y.turns; cut = y.cut; opened = y.opened; unread = y.unread })
      ]) (r going honest start nested)))

  pub done_stays : Stays f was is before after answer → Stays f was is before after result
  done_stays s =
      let same : is_lost result ≡ is_lost answer = ap is_lost is_done ∙ done_lost answer in
      record {
        went = s.went;
        is_open = s.is_open;
        set = s.set;
        setup = s.setup;
        goes = λ here. s.goes (sym same ∙ here);
        fits = λ here. s.fits (sym same ∙ here);
      }

  done_fault : HasCause f m was is old new before after answer → HasCause f m was is old new before after result
  done_fault c = subst (λ (a : Result ⊤ UnitFault). HasCause f m was is old new before after a) (sym is_done) (done_if answer _ c)

  done_adds : Adds m old new answer → Adds m old new result
  done_adds a =
      let same : is_lost result ≡ is_lost answer = ap is_lost is_done ∙ done_lost answer in
      let P : Fault → Type 0 = λ fault. UnlessMessages fault (m.failures new ≡ m.failures old) in
      (a.0, ((λ here. a.1.0 (sym same ∙ here)), subst (λ (a : Result ⊤ UnitFault). IfLost a P) (sym is_done) (done_if answer P a.1.1)))

  pub done_called : (begin : State → State) (call : Sources → Choices → ℕ → State → Answered (Option Simple))
      → EndsText f m limits begin call was is old new before after answer
      → EndsText f m limits begin (λ sources o turns s. ((call sources o turns s).0, done (call sources o turns s).1)) was is old new before
      after result
  done_called begin call c = record {
    answers = done_answers call c.answers;
    lost = done_fails begin call c.lost;
    fault = done_fault c.fault;
    adds = done_adds c.adds;
    again = λ fault r. let x = c.again fault r in (is_done ∙ ap done x.0, x.1);
  }

-- Promises of calls of a session: of one behind another, and of a call that asks no file for anything.
use Rattle.std.proofs.Common.{◌≡◌, ◌<◌, ℕ, Bool, true, false, List, Option, Some, None, Result, Ok, Err, IfErr, IfNone, IfSome, OnOk}
use Rattle.std.proofs.Common.{IsErr, IsErrAnd, IsTrue, MatchOption}
use Rattle.std.proofs.Common.{length, refl, sym, ap, subst, ◌∙◌, arith}
use Rattle.std.proofs.lemmas.Option.{IfSome_then}
use Rattle.inf_devices.specs.Files.{Openings, Rose, Sources}
use Rattle.inf_devices.specs.declared.{files.Files.Ghosts as Files, sinks.Sink.Ghosts as Sink}
use Rattle.inf_lexer.proofs.Candidates.{rose_earlier}
use Rattle.inf_sources.specs.{Calls.Honestly, Calls.IsUnreadable, Calls.StaysFit, Calls.Went, Open.Open}
use Rattle.inf_sources.proofs.Calls.{fit_none, fit_then, unreadable_then, went_as, went_none, went_then}
use Rattle.inf_ending.specs.Faults.{Caused, IfRead, UnlessMessages, UnlessRead, fault_of}
use Rattle.inf_ending.specs.declared.faults.{Fault.Fault, Halt.Halt}
use Rattle.inf_ending.proofs.Delivering.{appends_none, appends_then}
use Rattle.inf_session.specs.{Choices.Choices, Choices.chosen, Choices.most_quoted, Standing.IsSet}
use Rattle.inf_session.specs.declared.{session.Session.Session, session.Step.Step, setup.Setup.Setup}
use Rattle.inf_session.specs.Promises.{Breaking, Making, Promised, Stepped, Wrote, fault_in, halt_in}

-- Lemmas about a fault, if there is one

pub none_then : {P Q : Type 0} (fault : Option Fault) → IfNone fault P → (P → Q) → IfNone fault Q
none_then None p h = h p
none_then (Some e) p h = tt

-- what holds where there is no fault, by two facts of that case
none_both : (P Q : Type 0) (fault : Option Fault) → IfNone fault (P → Q) → IfNone fault P → IfNone fault Q
none_both P Q None h p = h p
none_both P Q (Some e) h p = tt

some_both : (P Q : Fault → Type 0) (fault : Option Fault) → IfSome fault (λ e. P e → Q e) → IfSome fault P → IfSome fault Q
some_both P Q None h p = tt
some_both P Q (Some e) h p = h p

pub none_any : {P : Type 0} (fault : Option Fault) → P → IfNone fault P
none_any None p = p
none_any (Some e) p = tt

pub some_any : {P : Fault → Type 0} (fault : Option Fault) → ((e : Fault) → P e) → IfSome fault P
some_any None h = tt
some_any (Some e) h = h e

pub caused_more : {P Q : List ℕ → Type 0} {A B : Type 0} (e : Fault) → ((name : List ℕ) → P name → Q name) → (A → B) → Caused e P A →
    Caused e Q B
caused_more Fault.Memory h k p = tt
caused_more (Fault.Read name) h k p = h _ p
caused_more Fault.Messages h k p = k p
caused_more (Fault.Story n) h k p = p

pub read_more : {P Q : List ℕ → Type 0} (e : Fault) → ((name : List ℕ) → P name → Q name) → IfRead e P → IfRead e Q
read_more Fault.Memory h p = tt
read_more (Fault.Read name) h p = h _ p
read_more Fault.Messages h p = tt
read_more (Fault.Story n) h p = tt

pub unless_read : {P : Type 0} (e : Fault) → P → UnlessRead e P
unless_read Fault.Memory p = p
unless_read (Fault.Read name) p = tt
unless_read Fault.Messages p = p
unless_read (Fault.Story n) p = p

pub unless_read_more : {P Q : Type 0} (e : Fault) → (P → Q) → UnlessRead e P → UnlessRead e Q
unless_read_more Fault.Memory h p = h p
unless_read_more (Fault.Read name) h p = tt
unless_read_more Fault.Messages h p = h p
unless_read_more (Fault.Story n) h p = h p

seen_any : {P : Type 0} (fault : Option Fault) → P → MatchOption fault P (λ e. UnlessRead e P)
seen_any None p = p
seen_any (Some e) p = unless_read e p

seen_more : {P Q : Type 0} (fault : Option Fault) → (P → Q) → MatchOption fault P (λ e. UnlessRead e P) →
    MatchOption fault Q (λ e. UnlessRead e Q)
seen_more None h p = h p
seen_more (Some e) h p = unless_read_more e h p

unless_messages : {P : Type 0} (e : Fault) → P → UnlessMessages e P
unless_messages Fault.Memory p = p
unless_messages (Fault.Read name) p = p
unless_messages Fault.Messages p = tt
unless_messages (Fault.Story n) p = p

unless_messages_more : {P Q : Type 0} (e : Fault) → (P → Q) → UnlessMessages e P → UnlessMessages e Q
unless_messages_more Fault.Memory h p = h p
unless_messages_more (Fault.Read name) h p = h p
unless_messages_more Fault.Messages h p = tt
unless_messages_more (Fault.Story n) h p = h p

quiet_any : {P : Type 0} (fault : Option Fault) → P → MatchOption fault P (λ e. UnlessMessages e P)
quiet_any None p = p
quiet_any (Some e) p = unless_messages e p

quiet_more : {P Q : Type 0} (fault : Option Fault) → (P → Q) → MatchOption fault P (λ e. UnlessMessages e P) →
    MatchOption fault Q (λ e. UnlessMessages e Q)
quiet_more None h p = h p
quiet_more (Some e) h p = unless_messages_more e h p

-- the fault of an answer that is known
pub told_halt : {T : Type 0} (r : Result T Halt) (halt : Halt) (lost : Option Fault) → IsErrAnd r (λ h. h ≡ halt)
    → Some (fault_of halt lost) ≡ halt_in r lost
told_halt (Ok x) halt lost told = absurd told
told_halt (Err h) halt lost told = ap (λ (g : Halt). Some (fault_of g lost)) (sym told)

-- a turn that was given up for want of memory alone
pub memory_alone : {T : Type 0} (r : Result T Halt) (lost other : Option Fault) → IfErr r (λ halt. halt ≡ Halt.Memory)
    → halt_in r lost ≡ halt_in r other
memory_alone (Ok x) lost other h = refl
memory_alone (Err halt) lost other h = ap (λ (g : Halt). Some (fault_of g lost)) h ∙ ap (λ (g : Halt). Some (fault_of g other)) (sym h)

pub told_fault : {T : Type 0} (r : Result T Fault) (fault : Fault) → IsErrAnd r (λ e. e ≡ fault) → Some fault ≡ fault_in r
told_fault (Ok x) fault told = absurd told
told_fault (Err e) fault told = ap (λ (g : Fault). Some g) (sym told)

pub on_ok_any : {T E P : Type 0} (r : Result T E) → P → OnOk r P
on_ok_any (Ok x) p = p
on_ok_any (Err e) p = tt

-- what goes on without a fault goes on with an answer that is none
pub goes_on : {T : Type 0} (P Q : Type 0) (r : Result T Fault) → P → IfNone (fault_in r) (P → Q) → OnOk r Q
goes_on P Q (Ok x) p h = h p
goes_on P Q (Err e) p h = tt

-- Lemmas about what was written

pub wrote_none : {M : Type 0} {m : Sink M} {old : M} (fault : Option Fault) → Wrote m old old fault
wrote_none {m = m} {old = old} fault = record { appends = appends_none m old; quiet = quiet_any fault refl }

pub wrote_then : {M : Type 0} {m : Sink M} {a b c : M} {fault : Option Fault} → Wrote m a b None → Wrote m b c fault → Wrote m a c fault
wrote_then {m = m} {a = a} {b = b} {c = c} {fault = fault} p q = record {
  appends = appends_then m a b c p.appends q.appends;
  quiet = quiet_more fault (λ later. later ∙ p.quiet) q.quiet;
}

pub wrote_as : {M : Type 0} {m : Sink M} {a b : M} {fault other : Option Fault} → fault ≡ other → Wrote m a b fault → Wrote m a b other
wrote_as {m = m} {a = a} {b = b} e p = subst (λ (x : Option Fault). Wrote m a b x) e p

-- a step that was given up
pub stepped_lost : {R M B : Type 0} {is_over : Session B → Bool} {left : Session B → ℕ} {was is : R} {old new : M}
    {before after : Session B}
    (answer : Result Step Fault) → IsErr answer → is_over before ≡ false → Stepped is_over left was is old new before after answer
stepped_lost (Ok x) lost going = cc
stepped_lost (Err e) lost going = record {
  parted = tt;
  came = tt;
  ends = tt;
  again = λ over. let never : false ≡ true = sym going ∙ over in cc;
  bounded = λ b. tt;
  falls = tt;
}

-- Lemmas about calls

-- files are open still
pub still_open : {S : Type 0} {f : Files S} {a b : S} {x y : Open} → Went f a b x y → length x.outer < f.depth a
    → length y.outer < f.depth b
still_open w is_open = omega (arith, w.depth, is_open)

module _ {R B : Type 0} {f : Files R} where
  -- The fault may be given by an equal one.
  pub promised_as : {a b : R} {x y : Session B} {fault other : Option Fault} {comes : Making} {breaks : Breaking} {U : Type 0}
      → fault ≡ other → Promised f a b x y fault comes breaks U → Promised f a b x y other comes breaks U
  promised_as {a = a} {b = b} {x = x} {y = y} {comes = comes} {breaks = breaks} {U = U} e p =
      subst (λ (z : Option Fault). Promised f a b x y z comes breaks U) e p

  -- One call behind another, which had no fault: what the second comes to, and where it breaks off, is told from the start of the first.
  pub promised_then : {a b c : R} {x y z : Session B} {fault : Option Fault} {first next comes : Making} {other stops breaks : Breaking}
      {P Q U : Type 0} → Promised f a b x y None first other P → Promised f b c y z fault next stops Q
      → ((sources : Sources) (o : Choices) (start : Openings) → IfNone fault (first sources o start → next sources o start → comes sources o
      start)) → ((Rose (f.faults b) (f.faults c) → Rose (f.faults a) (f.faults c)) → (sources : Sources) (o : Choices) (start : Openings) →
      IfSome fault (λ e. first sources o start → stops (Rose (f.faults b) (f.faults c)) sources o start e
      → breaks (Rose (f.faults a) (f.faults c)) sources o start e)) → (Q → U) → Promised f a c x z fault comes breaks U
  promised_then {a = a} {b = b} {c = c} {x = x} {y = y} {z = z} {fault = fault} {first = first} {next = next} {stops = stops} p q h k u =
      let still : IsTrue (f.is_honest a) → IsTrue (f.is_honest b) = λ honest. subst (λ t. IsTrue t) (sym p.went.honesty) honest in
      let rose : Rose (f.faults b) (f.faults c) → Rose (f.faults a) (f.faults c) =
      λ r. rose_earlier (f.faults a) (f.faults b) (f.faults c) p.went.faults r in
      let there : (P : Sources → Choices → Type 0) → P (f.sources b) (chosen y.setup) → P (f.sources a) (chosen x.setup) = λ P held.
      subst (λ (o : Choices). P (f.sources a) o) (ap chosen p.setup) (subst (λ (s : Sources). P s (chosen y.setup)) p.went.sources held) in
      record {
        made = λ honest start nested.
            let s = f.sources a in let o = chosen x.setup in
            none_both _ _ fault (none_then fault (h s o start) (λ g. g (p.made honest start nested)))
            (there (λ sources o. IfNone fault (next sources o start)) (q.made (still honest) start (p.went.nested honest start nested)));
        broken = λ honest start nested.
            let s = f.sources a in let o = chosen x.setup in
            some_both _ _ fault (IfSome_then fault (k rose s o start) (λ e g. g (p.made honest start nested)))
            (there (λ sources o. IfSome fault (stops (Rose (f.faults b) (f.faults c)) sources o start))
            (q.broken (still honest) start (p.went.nested honest start nested)));
        went = went_then f a b c x.open_files y.open_files z.open_files p.went q.went;
        setup = q.setup ∙ p.setup;
        set = λ s. q.set (p.set s);
        goes = none_then fault q.goes (λ g s. g (p.goes s));
        fits = none_then fault q.fits (λ fit. fit_then f a b c x.open_files y.open_files p.went p.fits fit);
        seen = seen_more fault (λ later. later ∙ p.seen) q.seen;
        cause = IfSome_then fault q.cause (λ e cause. caused_more e
            (λ name why. unreadable_then f a b c x.open_files y.open_files z.open_files p.went why) u cause);
      }

  -- A call by other words.
  pub promised_so : {a b : R} {x y : Session B} {fault : Option Fault} {first comes : Making} {stops breaks : Breaking} {P U : Type 0}
      → Promised f a b x y fault first stops P
      → ((sources : Sources) (o : Choices) (start : Openings) → IfNone fault (first sources o start → comes sources o start))
      → ((failed : Type 0) (sources : Sources) (o : Choices) (start : Openings) →
      IfSome fault (λ e. stops failed sources o start e → breaks failed sources o start e))
      → (P → U) → Promised f a b x y fault comes breaks U
  promised_so {a = a} {b = b} {x = x} {fault = fault} p h k u = record {
    made = λ honest start nested. none_both _ _ fault (h (f.sources a) (chosen x.setup) start) (p.made honest start nested);
    broken = λ honest start nested.
        some_both _ _ fault (k (Rose (f.faults a) (f.faults b)) (f.sources a) (chosen x.setup) start) (p.broken honest start nested);
    went = p.went;
    setup = p.setup;
    set = p.set;
    goes = p.goes;
    fits = p.fits;
    seen = p.seen;
    cause = IfSome_then fault p.cause (λ e cause. caused_more e (λ name why. why) u cause);
  }

  -- No file is asked for anything behind a call without a fault, and open files and choices stay.
  pub promised_on : {a b : R} {x y z : Session B} {first comes : Making} {other breaks : Breaking} {P U : Type 0} (fault : Option Fault)
      → Promised f a b x y None first other P → z.open_files ≡ y.open_files → z.setup ≡ y.setup
      → ((sources : Sources) (o : Choices) (start : Openings) → IfNone fault (first sources o start → comes sources o start))
      → ((failed : Type 0) (sources : Sources) (o : Choices) (start : Openings) →
      IfSome fault (λ e. first sources o start → breaks failed sources o start e))
      → IfSome fault (λ e. Caused e (λ name. ⊥) U) → Promised f a b x z fault comes breaks U
  promised_on {a = a} {b = b} {x = x} {y = y} {z = z} fault p files setup h k cause = record {
    made = λ honest start nested. none_then fault (h (f.sources a) (chosen x.setup) start) (λ g. g (p.made honest start nested));
    broken = λ honest start nested. IfSome_then fault (k (Rose (f.faults a) (f.faults b)) (f.sources a) (chosen x.setup) start)
        (λ e g. g (p.made honest start nested));
    went = went_as f a b x.open_files y.open_files z.open_files files p.went;
    setup = setup ∙ p.setup;
    set = λ s. is_set (p.set s);
    goes = none_any fault (λ s. ap (λ (o : Open). o.lexer.has_failed) files ∙ p.goes s);
    fits = none_any fault p.fits;
    seen = seen_any fault p.seen;
    cause = IfSome_then fault cause (λ e c. caused_more e (λ name never. absurd never) (λ w. w) c);
  } where
    is_set : IsSet y → IsSet z
    is_set s = subst (λ (o : Open). o.nest.limit ≡ most_quoted (chosen z.setup)) (sym files)
        (subst (λ (c : Setup). y.open_files.nest.limit ≡ most_quoted (chosen c)) (sym setup) s)

  -- No file is asked for anything in a call.
  pub promised_here : {a : R} {x z : Session B} {comes : Making} {breaks : Breaking} {U : Type 0} (fault : Option Fault)
      → z.open_files ≡ x.open_files → z.setup ≡ x.setup
      → ((sources : Sources) (o : Choices) (start : Openings) → IfNone fault (comes sources o start))
      → ((failed : Type 0) (sources : Sources) (o : Choices) (start : Openings) → IfSome fault (breaks failed sources o start))
      → IfSome fault (λ e. Caused e (λ name. ⊥) U) → Promised f a a x z fault comes breaks U
  promised_here {a = a} {x = x} {z = z} {comes = comes} {breaks = breaks} fault files setup h k cause =
      let nothing : Promised f a a x x None (λ s o start. Unit {0}) (λ failed s o start e. ⊥) ⊥ = record {
        made = λ honest start nested. tt;
        broken = λ honest start nested. tt;
        went = went_none f a x.open_files;
        setup = refl;
        set = λ s. s;
        goes = λ s. s;
        fits = fit_none f a x.open_files;
        seen = refl;
        cause = tt;
      } in
      promised_on fault nothing files setup (λ s o start. none_then fault (h s o start) (λ c any. c))
      (λ failed s o start. IfSome_then fault (k failed s o start) (λ e b any. b)) cause

  -- The open files stay the same up to a call.
  pub promised_from : {a b : R} {x y z : Session B} {fault : Option Fault} {first comes : Making} {stops breaks : Breaking} {P U : Type 0}
      → y.open_files ≡ x.open_files → y.setup ≡ x.setup → Promised f a b y z fault first stops P
      → ((sources : Sources) (o : Choices) (start : Openings) → IfNone fault (first sources o start → comes sources o start))
      → ((failed : Type 0) (sources : Sources) (o : Choices) (start : Openings) →
      IfSome fault (λ e. stops failed sources o start e → breaks failed sources o start e))
      → (P → U) → Promised f a b x z fault comes breaks U
  promised_from {a = a} {b = b} {x = x} {y = y} {fault = fault} files setup q h k u =
      let first : Promised f a a x y None (λ s o start. Unit {0}) (λ failed s o start e. ⊥) ⊥ =
      promised_here None files setup (λ s o start. tt) (λ failed s o start. tt) tt in
      promised_then first q (λ s o start. none_then fault (h s o start) (λ g any. g))
      (λ rose s o start. IfSome_then fault (k (Rose (f.faults a) (f.faults b)) s o start) (λ e g any. g)) u

  -- These hold whatever the fault is.
  pub promised_all : {a b : R} {x y : Session B} {fault : Option Fault} {first comes : Making} {stops breaks : Breaking} {P U : Type 0}
      → Promised f a b x y fault first stops P
      → ((sources : Sources) (o : Choices) (start : Openings) → first sources o start → comes sources o start)
      → ((failed : Type 0) (sources : Sources) (o : Choices) (start : Openings) (e : Fault) → stops failed sources o start e
      → breaks failed sources o start e) → (P → U) → Promised f a b x y fault comes breaks U
  promised_all {fault = fault} p h k u =
      promised_so p (λ s o start. none_any fault (h s o start)) (λ failed s o start. some_any fault (k failed s o start)) u

  pub promised_from_all : {a b : R} {x y z : Session B} {fault : Option Fault} {first comes : Making} {stops breaks : Breaking}
      {P U : Type 0} → y.open_files ≡ x.open_files → y.setup ≡ x.setup → Promised f a b y z fault first stops P
      → ((sources : Sources) (o : Choices) (start : Openings) → first sources o start → comes sources o start)
      → ((failed : Type 0) (sources : Sources) (o : Choices) (start : Openings) (e : Fault) → stops failed sources o start e
      → breaks failed sources o start e) → (P → U) → Promised f a b x z fault comes breaks U
  promised_from_all {fault = fault} files setup p h k u =
      promised_from files setup p (λ s o start. none_any fault (h s o start)) (λ failed s o start. some_any fault (k failed s o start)) u

  pub promised_here_all : {a : R} {x z : Session B} {comes : Making} {breaks : Breaking} {U : Type 0} (fault : Option Fault)
      → z.open_files ≡ x.open_files → z.setup ≡ x.setup → ((sources : Sources) (o : Choices) (start : Openings) → comes sources o start)
      → ((failed : Type 0) (sources : Sources) (o : Choices) (start : Openings) (e : Fault) → breaks failed sources o start e)
      → IfSome fault (λ e. Caused e (λ name. ⊥) U) → Promised f a a x z fault comes breaks U
  promised_here_all fault files setup h k cause = promised_here fault files setup (λ s o start. none_any fault (h s o start))
      (λ failed s o start. some_any fault (k failed s o start)) cause

  -- Calls on the open files alone.
  pub promised_went : {a b : R} {x y : Session B} {comes : Making} {breaks : Breaking} {U : Type 0}
      → Went f a b x.open_files y.open_files → y.setup ≡ x.setup → y.open_files.nest.limit ≡ x.open_files.nest.limit
      → (x.open_files.lexer.has_failed ≡ false → y.open_files.lexer.has_failed ≡ false) → StaysFit f a b x.open_files
      → f.faults b ≡ f.faults a → Honestly f a x.open_files (λ start. comes (f.sources a) (chosen x.setup) start)
      → Promised f a b x y None comes breaks U
  promised_went went setup limit goes fits seen made = record {
    made = made;
    broken = λ honest start nested. tt;
    went = went;
    setup = setup;
    set = λ s. limit ∙ s ∙ ap (λ (c : Setup). most_quoted (chosen c)) (sym setup);
    goes = goes;
    fits = fits;
    seen = seen;
    cause = tt;
  }

  pub promised_failed : {a b : R} {x y : Session B} {comes : Making} {breaks : Breaking} {U : Type 0} {e : Fault}
      → Went f a b x.open_files y.open_files → y.setup ≡ x.setup → y.open_files.nest.limit ≡ x.open_files.nest.limit
      → UnlessRead e (f.faults b ≡ f.faults a) → Caused e (λ name. IsUnreadable f a b x.open_files y.open_files) U
      → Honestly f a x.open_files (λ start. breaks (Rose (f.faults a) (f.faults b)) (f.sources a) (chosen x.setup) start e)
      → Promised f a b x y (Some e) comes breaks U
  promised_failed went setup limit seen cause broken = record {
    made = λ honest start nested. tt;
    broken = broken;
    went = went;
    setup = setup;
    set = λ s. limit ∙ s ∙ ap (λ (c : Setup). most_quoted (chosen c)) (sym setup);
    goes = tt;
    fits = tt;
    seen = seen;
    cause = cause;
  }

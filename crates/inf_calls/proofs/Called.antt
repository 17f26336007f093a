-- Calls by all that they promise: behind a fault, where no text can be read, and where an answer has come.
use Rattle.std.proofs.Common.{◌≡◌, Bool, true, false, ◌||◌, if◌then◌else◌, Result, Ok, Err, refl, sym, ap, subst, ◌∙◌}
use Rattle.std.specs.Bool.{⊤}
use Rattle.inf_devices.specs.{declared.files.Files.Ghosts as Files, declared.sinks.Sink.Ghosts as Sink}
use Rattle.inf_reader.specs.Reading.{is_mode_ended}
use Rattle.inf_session.specs.{Standing.ended, Standing.is_fatal, declared.session.Session.Session}
use Rattle.inf_ending.specs.declared.faults.Fault.{Fault}
use Rattle.inf_ending.proofs.Delivering.{appends_none}
use Rattle.inf_calls.specs.Answers.{Adds, Called, HasCause, IfFailure, IfLost, is_failure, is_lost, refusal}
use Rattle.inf_calls.specs.declared.faults.UnitFault.{UnitFault}

abbrev error_of : {T : Type 0} → Result T UnitFault → UnitFault
error_of (Ok v) = UnitFault.Wrong
error_of (Err fault) = fault

refused : Bool → Bool → Result ⊤ UnitFault
refused fatal done = if fatal then Err UnitFault.Fatal else if done then Err UnitFault.Syntax else Ok tt

never_by : (over fatal done : Bool) (fault : UnitFault) → refused fatal done ≡ Err fault → (over || (fatal || done)) ≡ false → ⊥
unfolding refused
never_by true fatal done fault r going = cc
never_by false true done fault r going = cc
never_by false false true fault r going = cc
never_by false false false fault r going = cc

-- Where no text can be read, reading has ended.
pub refused_never : {B : Type 0} (s : Session B) (fault : UnitFault) → refusal s ≡ Err fault → ended s ≡ false → ⊥
unfolding refused
refused_never s fault r going = never_by s.is_over (is_fatal s) (is_mode_ended s.progress.reader.mode) fault r going

-- Such a refusal is no failure of the session.
refused_here : (fatal done : Bool) (fault : UnitFault) → refused fatal done ≡ Err fault → is_failure fault ≡ false
unfolding refused
refused_here true done fault r = ap is_failure (ap error_of (sym r))
refused_here false true fault r = ap is_failure (ap error_of (sym r))
refused_here false false fault r = cc

if_none : (fault : UnitFault) (P : Fault → Type 0) → is_failure fault ≡ false → IfFailure fault P
if_none (UnitFault.Lost f) P h = cc
if_none UnitFault.Syntax P h = tt
if_none (UnitFault.Semantic f) P h = tt
if_none UnitFault.Wrong P h = tt
if_none UnitFault.Fatal P h = tt

none_lost : {T : Type 0} (answer : Result T UnitFault) (P : Fault → Type 0) → is_lost answer ≡ false → IfLost answer P
none_lost (Ok v) P h = tt
none_lost (Err fault) P h = if_none fault P h

-- A text can be read where one was looked for.
pub not_refused : {B : Type 0} (s : Session B) (v : ⊤) (fault : UnitFault) → Ok v ≡ refusal s → refusal s ≡ Err fault → ⊥
not_refused s v fault r e = let never : Ok v ≡ Err fault = r ∙ e in cc

pub called_refused : {R M B T : Type 0} {A C : Type 0} (f : Files R) (m : Sink M) (was : R) (old : M) (s : Session B) (fault : UnitFault)
    (answer : Result T UnitFault) → refusal s ≡ Err fault → answer ≡ Err fault → A → C → Called A C f m was was old old s s answer
unfolding refused
called_refused f m was old s fault answer r e leads fails =
    let here : is_failure fault ≡ false = refused_here (is_fatal s) (is_mode_ended s.progress.reader.mode) fault r in
    let kept : is_lost answer ≡ false = ap is_lost e ∙ here in
    record {
      answers = leads;
      lost = fails;
      fault = none_lost answer _ kept;
      adds = (appends_none m old, ((λ _. refl), none_lost answer _ kept));
      again = λ other o. (e ∙ ap (λ (g : UnitFault). Err g) (ap error_of (sym r ∙ o)), (refl, (refl, refl)));
    }

module _ {R M B S T : Type 0} {A C A' C' : Type 0} (f : Files R) (m : Sink M) (was is : R) (old new : M) (before after : Session B) where
  -- Behind a fault of a call nothing follows.
  pub called_failed : (fault : UnitFault) (answer : Result T UnitFault) → answer ≡ Err fault → A' → C'
      → Called {T = S} A C f m was is old new before after (Err fault) → Called A' C' f m was is old new before after answer
  called_failed fault answer e leads fails c = record {
    answers = leads;
    lost = fails;
    fault = subst (λ (a : Result T UnitFault). HasCause f m was is old new before after a) (sym e) c.fault;
    adds = subst (λ (a : Result T UnitFault). Adds m old new a) (sym e) c.adds;
    again = λ other o.
        let x = c.again other o in (e ∙ ap (λ (g : UnitFault). Err g) (ap error_of x.0), x.1);
  }

  -- Behind an answer of a call there is another, with which the session goes on.
  pub called_told : (v : S) (answer : Result T UnitFault) → is_lost answer ≡ false → A' → C'
      → Called {T = S} A C f m was is old new before after (Ok v) → Called A' C' f m was is old new before after answer
  called_told v answer kept leads fails c = record {
    answers = leads;
    lost = fails;
    fault = none_lost answer _ kept;
    adds = (c.adds.0, ((λ _. c.adds.1.0 refl), none_lost answer _ kept));
    again = λ other o. let never = (c.again other o).0 in cc;
  }

-- Behind an answer of a call nothing was refused.
pub went_on : {R M B S : Type 0} {A C : Type 0} (f : Files R) (m : Sink M) (was is : R) (old new : M) (before after : Session B) (v : S)
    (fault : UnitFault) → Called {T = S} A C f m was is old new before after (Ok v) → refusal before ≡ Err fault → ⊥
went_on f m was is old new before after v fault c r = let never = (c.again fault r).0 in cc

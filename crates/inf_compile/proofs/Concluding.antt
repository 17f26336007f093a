-- The bytes written up to the end of a compilation, or up to where it was given up.
use Rattle.std.proofs.Common.{◌≡◌, ℕ, ◌+◌, ◌≤◌, List, [], ◌∷◌, ◌++◌, length, length-append, map, reverse, get_or, unwrap_or, cond, drop}
use Rattle.std.proofs.Common.{Bool, true, false, Option, Some, None, arith, Result, Ok, Err, IfOk, IfErr, OnErr, refl, sym, ap, subst, ◌∙◌}
use Rattle.std.proofs.Common.{append_assoc, IfNone, IfSome, IsErrOf, OnOk}
use Rattle.inf_settings.specs.Bounds.{limits_of, Limits}
use Rattle.inf_devices.specs.{Files.Opening, Files.Openings, Files.Sources, Files.opened, Sinks.Takes}
use Rattle.inf_lexer.specs.{Readers.Reader, Unread.View, Unread.innermost_place, Unread.unread_of}
use Rattle.inf_sources.specs.{Cursors.Cursor, declared.open_file.OpenFile.OpenFile}
use Rattle.inf_sources.specs.Inclusions.{Nesting, cursors, cursors_of}
use Rattle.inf_sources.specs.Open.{AllGiven, AreNested, AreTracked, Each, Fits, IsCounted, IsFrontOf, IsGiven, IsNested, Open, closed_to}
use Rattle.inf_sources.specs.Open.{cursor_of, files_of, lexers, lexers_of, nesting, rest_of, waiting_at}
use Rattle.inf_sources.proofs.Places.{files_are, innermost_of, last_of}
use Rattle.inf_conditionals.specs.Open.{Conditions, no_conditions}
use Rattle.inf_compilation.specs.{Actions.Compilation, Works.work as work_of}
use Rattle.inf_unit.specs.Messages.{FileNames}
use Rattle.inf_reader.specs.{Reading.ReaderState, Standing.standing}
use Rattle.inf_session.specs.{Choices.Choices, Promises.fault_in, Standing.state, Veneer.supplied, declared.session.Session.Session}
use Rattle.inf_session.specs.Leading.{CutsShort, Writes}
use Rattle.inf_session.specs.Session.{IsRead, State, begun_with, first_state, has_ended, run, start}
use Rattle.inf_ending.specs.{Delivered.Delivers, Delivered.IsFront, Delivered.TakesFront, Ending.Outcome, Ending.finished, Ending.missing}
use Rattle.inf_ending.specs.{Faults.Caused, Faults.IfRead, declared.compiled.Compiled.Compiled, declared.faults.Fault.Fault}
use Rattle.inf_session.proofs.{Leadings.end_begins, Leadings.front_more, Leadings.front_same, Leadings.front_then, Leadings.same_end}
use Rattle.inf_session.proofs.{Supplying.supplied_begins}
use Rattle.inf_ending.proofs.Delivering.{takes_none, takes_then}
use Rattle.inf_compile.specs.Comes.{AreAt, AreNear, Begins, BreaksOff, BreaksOffAll, Comes, Concludes, Ends, EndsAll, OpenedBy, Stops}
use Rattle.inf_compile.specs.Comes.{StopsEarly, SuppliesAll, SuppliesPart, WereOpened, numbers_of}
use Rattle.inf_compile.specs.Compiling.{IfMemory}
use Rattle.inf_compile.specs.Outcome.{IsCompiled, IsOutcomeOf, ending_of}

-- fronts of two texts behind the same text are fronts
front_behind : (xs ys zs : List ℕ) → IsFront ys zs → IsFront (xs ++ ys) (xs ++ zs)
front_behind xs ys zs f = record { rest = f.rest; is_cut = ap (λ l. xs ++ l) f.is_cut ∙ sym (append_assoc xs ys f.rest) }

-- the end is that by equal names of files and an equal compilation
pub finished_as : (limits : Limits) (serial : List ℕ) (s : State) (names : FileNames) (w : Compilation) → s.nesting.names ≡ names
    → s.work ≡ w → finished limits serial s.nesting.names s.work ≡ finished limits serial names w
finished_as limits serial s names w named made =
    ap (λ (ns : FileNames). finished limits serial ns s.work) named ∙ ap (λ (x : Compilation). finished limits serial names x) made

-- behind the read part of the veneer, the last messages were written
pub ends : (limits : Limits) (o : Choices) (serial : List ℕ) (was now : List ℕ → State) (old mid new : Option (List ℕ)) (e : Outcome)
    (c : Compiled) → Writes (supplied limits o) was now old mid → ((told : List ℕ) → (now told).told ≡ told)
    → ((told : List ℕ) → finished limits serial (now told).nesting.names (now told).work ≡ e) → Delivers e c mid new
    → Ends limits o serial was c old new
ends limits o serial was now old mid new e c w told_is last d =
    let here = λ (told : List ℕ). now (told ++ w.lines) in
    let final : (told : List ℕ) → finished limits serial (supplied limits o (was told)).nesting.names
    (supplied limits o (was told)).work ≡ e =
    λ told. ap (λ (v : State). finished limits serial v.nesting.names v.work) (sym (w.same told)) ∙ last (told ++ w.lines) in
    record {
      lines = w.lines ++ e.messages;
      takes = takes_then old mid new w.lines e.messages w.takes d.messages;
      messages = λ told. ap (λ (e : Outcome). (supplied limits o (was told)).told ++ e.messages) (final told)
          ∙ ap (λ (v : State). v.told ++ e.messages) (sym (w.same told)) ∙ ap (λ l. l ++ e.messages) (told_is (told ++ w.lines))
          ∙ append_assoc told w.lines e.messages;
      story = λ told. d.story ∙ ap (λ (e : Outcome). e.story) (sym (final told));
      status = λ told. d.status ∙ ap (λ (e : Outcome). e.status) (sym (final told));
    }

-- behind the read part of the veneer, the last messages were not all written
pub breaks_off_last : (limits : Limits) (o : Choices) (serial : List ℕ) (was now : List ℕ → State) (old mid new : Option (List ℕ))
    (e : Outcome) → Writes (supplied limits o) was now old mid → ((told : List ℕ) → (now told).told ≡ told)
    → ((told : List ℕ) → finished limits serial (now told).nesting.names (now told).work ≡ e) → TakesFront e.messages mid new
    → BreaksOff limits o serial was old new
breaks_off_last limits o serial was now old mid new e w told_is last t =
    let final : (told : List ℕ) → finished limits serial (supplied limits o (was told)).nesting.names
    (supplied limits o (was told)).work ≡ e =
    λ told. ap (λ (v : State). finished limits serial v.nesting.names v.work) (sym (w.same told)) ∙ last (told ++ w.lines) in
    record {
      front = w.lines ++ t.front;
      takes = takes_then old mid new w.lines t.front w.takes t.takes;
      begins = λ told.
          let whole : (supplied limits o (was told)).told ≡ told ++ w.lines =
          ap (λ (v : State). v.told) (sym (w.same told)) ∙ told_is (told ++ w.lines) in
          subst (λ (e : Outcome). IsFront (told ++ (w.lines ++ t.front)) ((supplied limits o (was told)).told ++ e.messages))
          (sym (final told)) (subst (λ l. IsFront (told ++ (w.lines ++ t.front)) (l ++ e.messages)) (sym whole)
          (subst (λ l. IsFront l ((told ++ w.lines) ++ e.messages)) (append_assoc told w.lines t.front)
          (front_behind (told ++ w.lines) t.front e.messages t.begins)));
    }

-- the messages of the veneer were not all written
pub breaks_off : (limits : Limits) (o : Choices) (serial : List ℕ) (was : List ℕ → State) (old new : Option (List ℕ))
    → CutsShort (supplied limits o) was old new → BreaksOff limits o serial was old new
breaks_off limits o serial was old new cut = record {
  front = cut.front;
  takes = cut.takes;
  begins = λ told.
      let v = supplied limits o (was told) in
      front_then {ys = v.told} (cut.begins told) (front_more v.told (finished limits serial v.nesting.names v.work).messages);
}

-- the veneer is supplied whatever the files are
pub supplies_all : {B T : Type 0} (r : Result T Fault) (limits : Limits) (o : Choices) (was now : Session B) (old new : Option (List ℕ))
    → ((sources : Sources) → (start opened : Openings) → IfNone (fault_in r) (Writes (supplied limits o) (state sources start opened was)
    (state sources start opened now) old new)) → OnOk r (SuppliesAll limits o was now old new)
unfolding SuppliesAll
supplies_all (Ok x) limits o was now old new h = h
supplies_all (Err fault) limits o was now old new h = tt

pub supplies_part : {B T : Type 0} (r : Result T Fault) (limits : Limits) (o : Choices) (was : Session B) (old new : Option (List ℕ))
    → ((sources : Sources) → (start opened : Openings) → IfSome (fault_in r) (λ e.
    CutsShort (supplied limits o) (state sources start opened was) old new)) → OnErr r (SuppliesPart limits o was old new)
unfolding SuppliesPart
supplies_part (Ok x) limits o was old new h = tt
supplies_part (Err fault) limits o was old new h = h

pub ends_all : {B : Type 0} (limits : Limits) (o : Choices) (serial : List ℕ) (was now : Session B) (old mid new : Option (List ℕ))
    (c : Compiled) → SuppliesAll limits o was now old mid
    → Delivers (finished limits serial now.open_files.nest.names (work_of now.progress.work)) c mid new
    → EndsAll limits o serial was c old new
unfolding SuppliesAll EndsAll
ends_all limits o serial was now old mid new c s d = λ sources start opened.
    ends limits o serial (state sources start opened was) (state sources start opened now) old mid new
    (finished limits serial now.open_files.nest.names (work_of now.progress.work)) c (s sources start opened) (λ told. refl)
    (λ told. finished_as limits serial (state sources start opened now told) now.open_files.nest.names (work_of now.progress.work) refl
    refl) d

pub breaks_off_all : {B : Type 0} (limits : Limits) (o : Choices) (serial : List ℕ) (was now : Session B) (old mid new : Option (List ℕ))
    → SuppliesAll limits o was now old mid
    → TakesFront (finished limits serial now.open_files.nest.names (work_of now.progress.work)).messages mid new
    → BreaksOffAll limits o serial was old new
unfolding SuppliesAll BreaksOffAll
breaks_off_all limits o serial was now old mid new s t = λ sources start opened.
    breaks_off_last limits o serial (state sources start opened was) (state sources start opened now) old mid new
    (finished limits serial now.open_files.nest.names (work_of now.progress.work)) (s sources start opened) (λ told. refl)
    (λ told. finished_as limits serial (state sources start opened now told) now.open_files.nest.names (work_of now.progress.work) refl
    refl) t

pub breaks_off_part : {B : Type 0} (limits : Limits) (o : Choices) (serial : List ℕ) (was : Session B) (old new : Option (List ℕ))
    → SuppliesPart limits o was old new → BreaksOffAll limits o serial was old new
unfolding SuppliesPart BreaksOffAll
breaks_off_part limits o serial was old new s = λ sources start opened.
    breaks_off limits o serial (state sources start opened was) old new (s sources start opened)

pub ends_at : {B E : Type 0} (r : Result Compiled E) (limits : Limits) (o : Choices) (serial : List ℕ) (was : Session B)
    (old new : Option (List ℕ)) (sources : Sources) (start opened : Openings) → IfOk r (λ c. EndsAll limits o serial was c old new)
    → IfOk r (λ c. Ends limits o serial (state sources start opened was) c old new)
unfolding EndsAll
ends_at (Ok c) limits o serial was old new sources start opened h = h sources start opened
ends_at (Err fault) limits o serial was old new sources start opened h = tt

pub breaks_off_at : {B E : Type 0} (r : Result Compiled E) (limits : Limits) (o : Choices) (serial : List ℕ) (was : Session B)
    (old new : Option (List ℕ)) (sources : Sources) (start opened : Openings) → OnErr r (BreaksOffAll limits o serial was old new)
    → OnErr r (BreaksOff limits o serial (state sources start opened was) old new)
unfolding BreaksOffAll
breaks_off_at (Ok c) limits o serial was old new sources start opened h = tt
breaks_off_at (Err fault) limits o serial was old new sources start opened h = h sources start opened

-- behind reading to the end, the messages of the ending were written
pub concludes : (limits : Limits) (sources : Sources) (o : Choices) (serial : List ℕ) (was now : List ℕ → State) (start after : Openings)
    (f : Open) (old mid new : Option (List ℕ)) (turns : ℕ) (c : Compiled)
    → Writes (run limits sources o turns) was now old mid → ((told : List ℕ) → has_ended (now told) ≡ true)
    → IsNested start after f → ((told : List ℕ) → (now told).nesting ≡ nesting sources start after f) → Ends limits o serial now c mid new
    → Concludes limits sources o serial (was []) start after f old new c
concludes limits sources o serial was now start after f old mid new turns c w over nested files d = record {
  final = now w.lines;
  is_read = record { turns = turns; leads = sym (w.same []); ends = over w.lines };
  delivers = record {
    messages = subst (λ l. Takes old new l) (sym (d.messages w.lines)) (takes_then old mid new w.lines d.lines w.takes d.takes);
    story = d.story w.lines;
    status = d.status w.lines;
  };
  nested = nested;
  nesting_is = sym (files w.lines);
}

-- reading was given up, and a front of the messages was written
pub stops_reading : (limits : Limits) (sources : Sources) (o : Choices) (serial : List ℕ) (was : List ℕ → State) (old new : Option (List ℕ))
    (turns : ℕ) → CutsShort (run limits sources o turns) was old new → Stops limits sources o serial (was []) old new
stops_reading limits sources o serial was old new turns cut = record {
  front = cut.front;
  takes = cut.takes;
  begins = λ final read.
      let s = was [] in
      let some : IsFront (run limits sources o turns s).told final.told =
      subst (λ (t : State). IsFront (run limits sources o turns s).told t.told) read.leads
      (end_begins limits sources o turns read.turns s (ap has_ended read.leads ∙ read.ends)) in
      let v = supplied limits o final in
      front_then {ys = final.told} (front_then {ys = (run limits sources o turns s).told} (cut.begins []) some)
      (front_then {ys = v.told} (supplied_begins limits o final)
      (front_more v.told (finished limits serial v.nesting.names v.work).messages));
}

-- where nothing was written, a front of the messages was
pub stops_none : (limits : Limits) (sources : Sources) (o : Choices) (serial : List ℕ) (s : State) (old : Option (List ℕ))
    → Stops limits sources o serial s old old
stops_none limits sources o serial s old = record {
  front = [];
  takes = takes_none old;
  begins = λ final read. record { rest = (ending_of limits o serial final).messages; is_cut = refl };
}

-- the source was read, and the messages behind its reading were not all written
pub stops_ending : (limits : Limits) (sources : Sources) (o : Choices) (serial : List ℕ) (was now : List ℕ → State)
    (old mid new : Option (List ℕ)) (turns : ℕ)
    → Writes (run limits sources o turns) was now old mid → ((told : List ℕ) → has_ended (now told) ≡ true)
    → BreaksOff limits o serial now mid new → Stops limits sources o serial (was []) old new
stops_ending limits sources o serial was now old mid new turns w over t = record {
  front = w.lines ++ t.front;
  takes = takes_then old mid new w.lines t.front w.takes t.takes;
  begins = λ final read.
      let s = was [] in let here : run limits sources o turns s ≡ now w.lines = sym (w.same []) in
      let same : now w.lines ≡ final =
      sym here ∙ same_end limits sources o turns read.turns s (ap has_ended here ∙ over w.lines) (ap has_ended read.leads ∙ read.ends)
      ∙ read.leads in
      subst (λ (x : State). IsFront (w.lines ++ t.front) (ending_of limits o serial x).messages) same (t.begins w.lines);
}

-- Lemmas for the case that the messages of the veneer were not all written, or nothing behind them

pub supplies_early : {B : Type 0} (limits : Limits) (o : Choices) (was now : Session B) (old new : Option (List ℕ))
    → SuppliesAll limits o was now old new → SuppliesPart limits o was old new
unfolding SuppliesAll SuppliesPart
supplies_early limits o was now old new all = λ sources start opened.
    let w = all sources start opened in
    record {
      front = w.lines;
      takes = w.takes;
      begins = λ told. subst (λ (t : State). IsFront (told ++ w.lines) t.told) (w.same told) (front_same (told ++ w.lines));
    }

pub early_reading : (limits : Limits) (sources : Sources) (o : Choices) (was : List ℕ → State) (old new : Option (List ℕ)) (turns : ℕ)
    → CutsShort (run limits sources o turns) was old new → StopsEarly limits sources o (was []) old new
early_reading limits sources o was old new turns cut = record {
  front = cut.front;
  takes = cut.takes;
  begins = λ final read.
      let s = was [] in
      let some : IsFront (run limits sources o turns s).told final.told =
      subst (λ (t : State). IsFront (run limits sources o turns s).told t.told) read.leads
      (end_begins limits sources o turns read.turns s (ap has_ended read.leads ∙ read.ends)) in
      let v = supplied limits o final in
      front_then {ys = final.told} (front_then {ys = (run limits sources o turns s).told} (cut.begins []) some)
      (supplied_begins limits o final);
}

pub early_none : (limits : Limits) (sources : Sources) (o : Choices) (s : State) (old : Option (List ℕ))
    → StopsEarly limits sources o s old old
early_none limits sources o s old = record {
  front = [];
  takes = takes_none old;
  begins = λ final read. record { rest = (supplied limits o final).told; is_cut = refl };
}

pub early_ending : {B : Type 0} (limits : Limits) (sources : Sources) (o : Choices) (was : List ℕ → State) (session : Session B)
    (start opened : Openings) (old mid new : Option (List ℕ)) (turns : ℕ)
    → Writes (run limits sources o turns) was (state sources start opened session) old mid
    → ((told : List ℕ) → has_ended (state sources start opened session told) ≡ true)
    → SuppliesPart limits o session mid new → StopsEarly limits sources o (was []) old new
unfolding SuppliesPart
early_ending limits sources o was session start opened old mid new turns w over part =
    let now = state sources start opened session in let t = part sources start opened in
    record {
      front = w.lines ++ t.front;
      takes = takes_then old mid new w.lines t.front w.takes t.takes;
      begins = λ final read.
          let s = was [] in let here : run limits sources o turns s ≡ now w.lines = sym (w.same []) in
          let same : now w.lines ≡ final =
          sym here ∙ same_end limits sources o turns read.turns s (ap has_ended here ∙ over w.lines) (ap has_ended read.leads ∙ read.ends)
          ∙ read.leads in
          subst (λ (x : State). IsFront (w.lines ++ t.front) (supplied limits o x).told) same (t.begins w.lines);
    }

-- Lemmas about want of memory

pub memory_any : (f : Fault) (A : Type 0) → A → IfMemory f A
memory_any Fault.Memory A holds = holds
memory_any (Fault.Read name) A holds = tt
memory_any Fault.Messages A holds = tt
memory_any (Fault.Story n) A holds = tt

memory_more : (f : Fault) (A B : Type 0) → (A → B) → IfMemory f A → IfMemory f B
memory_more Fault.Memory A B h holds = h holds
memory_more (Fault.Read name) A B h holds = tt
memory_more Fault.Messages A B h holds = tt
memory_more (Fault.Story n) A B h holds = tt

pub if_memory_any : {T : Type 0} (r : Result T Fault) (A : Type 0) → A → IfErr r (λ f. IfMemory f A)
if_memory_any (Ok x) A holds = tt
if_memory_any (Err f) A holds = memory_any f A holds

pub if_memory_more : {T : Type 0} (r : Result T Fault) (A B : Type 0) → (A → B) → IfErr r (λ f. IfMemory f A) → IfErr r (λ f. IfMemory f B)
if_memory_more (Ok x) A B h holds = tt
if_memory_more (Err f) A B h holds = memory_more f A B h holds

pub if_memory : {T : Type 0} (r : Result T Fault) (A : Type 0) → (IsErrOf r Fault.Memory → A) → IfErr r (λ f. IfMemory f A)
if_memory (Ok x) A h = tt
if_memory (Err Fault.Memory) A h = h refl
if_memory (Err (Fault.Read name)) A h = tt
if_memory (Err Fault.Messages) A h = tt
if_memory (Err (Fault.Story n)) A h = tt

-- messages that could not be written are no want of memory
pub never_memory : {T : Type 0} (r : Result T Fault) (A : Type 0) → IfErr r (λ f. f ≡ Fault.Messages) → IfErr r (λ f. IfMemory f A)
never_memory (Ok x) A only = tt
never_memory (Err f) A only = subst (λ (x : Fault). IfMemory x A) (sym only) tt

-- a fault that is none of reading has no name
unread_none : (f : Fault) (P : List ℕ → Type 0) (Q : Type 0) → Caused f (λ name. ⊥) Q → IfRead f P
unread_none Fault.Memory P Q c = tt
unread_none (Fault.Read name) P Q c = absurd c
unread_none Fault.Messages P Q c = tt
unread_none (Fault.Story n) P Q c = tt

pub if_read_none : {T : Type 0} (r : Result T Fault) (P : List ℕ → Type 0) (Q : Type 0) → IfErr r (λ f. Caused f (λ name. ⊥) Q) →
    IfErr r (λ f. IfRead f P)
if_read_none (Ok x) P Q c = tt
if_read_none (Err f) P Q c = unread_none f P Q c

-- a statement that holds at a fault leads to another one
pub on_err_leads : {T E : Type 0} (r : Result T E) (P Q : Type 0) → (P → Q) → OnErr r P → OnErr r Q
on_err_leads (Ok x) P Q h p = tt
on_err_leads (Err f) P Q h p = h p

pub if_ok_always : {T E : Type 0} (r : Result T E) (A : Type 0) → A → IfOk r (λ x. A)
if_ok_always (Ok x) A a = a
if_ok_always (Err fault) A a = tt

pub if_ok_both : {T E : Type 0} (r : Result T E) (P Q : T → Type 0) → IfOk r P → IfOk r Q → IfOk r (λ x. P x × Q x)
if_ok_both (Ok x) P Q p q = (p, q)
if_ok_both (Err fault) P Q p q = tt

-- Lemmas about a main source that is there

outcome_of : (x : Option (List ℕ)) (s : Sources) (o : Choices) (serial name : List ℕ) (e : Outcome) → (x ≡ None → ⊥) →
    IsCompiled s o serial name e → IsOutcomeOf x s o serial name e
outcome_of None s o serial name e there c = absurd (there refl)
outcome_of (Some source) s o serial name e there c = c

compiled_of : (x : Option (List ℕ)) (s : Sources) (o : Choices) (serial name : List ℕ) (e : Outcome) → (x ≡ None → ⊥) →
    IsOutcomeOf x s o serial name e → IsCompiled s o serial name e
compiled_of None s o serial name e there c = absurd (there refl)
compiled_of (Some source) s o serial name e there c = c

opened_of : (x : Option (List ℕ)) (s : Sources) (o : Choices) (name : List ℕ) (old new : Openings) → (x ≡ None → ⊥) →
    WereOpened s o name old new → OpenedBy x s o name old new
opened_of None s o name old new there w = absurd (there refl)
opened_of (Some source) s o name old new there w = w

-- the bytes in view of an open file are those given of it and not taken
near_one : (s : Sources) (o : Opening) (view : View) → IsFrontOf s o → IsCounted s o view →
    length o.given + length (rest_of s o view) ≤ length (unwrap_or (s o.name) []) + 4096
near_one s o view front counted = by_over view.is_over refl where
  whole : length (unwrap_or (s o.name) []) ≡ length o.given + length (unread_of s o)
  whole = ap length front ∙ omega (arith, length-append o.given (unread_of s o))

  by_over : (b : Bool) → view.is_over ≡ b → length o.given + length (rest_of s o view) ≤ length (unwrap_or (s o.name) []) + 4096
  by_over true e =
      let rest : rest_of s o view ≡ view.left ++ [] = ap (λ (b : Bool). view.left ++ cond b [] (unread_of s o)) e in
      omega (arith, whole, counted.window, ap length rest, length-append view.left [])
  by_over false e =
      let rest : rest_of s o view ≡ view.left ++ unread_of s o = ap (λ (b : Bool). view.left ++ cond b [] (unread_of s o)) e in
      omega (arith, whole, counted.window, ap length rest, length-append view.left (unread_of s o))

near_places : (s : Sources) (n : ℕ) (names : List (List ℕ)) (all : List Opening) (places : List ℕ) (files : List OpenFile) →
    Each (IsFrontOf s) n all → (bound : ℕ)
    → bound ≤ length all → AreNested bound places (lexers_of files) → AreTracked s n names all places (lexers_of files)
    → AreNear s all places (cursors_of (waiting_at s all places files))
near_places s n names all [] [] each bound le nested tracked = tt
near_places s n names all (p ∷ places) [] each bound le nested tracked = tt
near_places s n names all [] (f ∷ files) each bound le nested tracked = absurd tracked
near_places s n names all (p ∷ places) (f ∷ files) each bound le nested tracked = (
  near_one s (get_or all p (opened [])) f.lexer.window (each p tracked.0.behind (omega (arith, nested.0, le))) tracked.0.counted,
  near_places s n names all places files each p (omega (arith, nested.0, le)) nested.1 tracked.1,
)

-- of the innermost file and those that wait at most 4,096 bytes were given ahead
near_all : (s : Sources) (old now : Openings) (f : Open) → IsNested old now f → AllGiven s (length old.all) now f
    → AreNear s now.all (reverse now.open_places) (cursors (nesting s old now f))
near_all s old now f n g =
    let at = innermost_of (length now.all) (reverse now.open_places) f.lexer (lexers_of (reverse f.outer)) n.nested in
    let place : innermost_place now ≡ at.place = last_of now.open_places at.place at.rest at.is in
    let nested : AreNested (length now.all) (at.place ∷ at.rest) (lexers f) =
    subst (λ (ps : List ℕ). AreNested (length now.all) ps (lexers f)) at.is n.nested in
    let tracked : AreTracked s (length old.all) f.nest.names now.all (at.place ∷ at.rest) (lexers f) =
    subst (λ (ps : List ℕ). AreTracked s (length old.all) f.nest.names now.all ps (lexers f)) at.is g.tracked in
    let first : cursor_of f.lexer (rest_of s (get_or now.all at.place (opened [])) f.lexer.window) ≡ (nesting s old now f).cursor =
    ap (λ (i : ℕ). cursor_of f.lexer (rest_of s (get_or now.all i (opened [])) f.lexer.window)) (sym place) in
    let waiting : List Cursor = cursors_of (waiting_at s now.all at.rest (reverse f.outer)) in
    let near : AreNear s now.all (at.place ∷ at.rest)
    (cursor_of f.lexer (rest_of s (get_or now.all at.place (opened [])) f.lexer.window) ∷ waiting) = (
      near_one s (get_or now.all at.place (opened [])) f.lexer.window (g.each at.place tracked.0.behind nested.0) tracked.0.counted,
      near_places s (length old.all) f.nest.names now.all at.rest (reverse f.outer) g.each at.place (omega (arith, nested.0)) nested.1
          tracked.1,
    ) in
    subst (λ (ps : List ℕ). AreNear s now.all ps (cursors (nesting s old now f))) (sym at.is)
    (subst (λ (ps : List ℕ). AreNear s now.all (at.place ∷ at.rest)
    ((nesting s old now f).cursor ∷ cursors_of (waiting_at s now.all (drop 1 ps) (reverse f.outer)))) (sym at.is)
    (subst (λ (c : Cursor). AreNear s now.all (at.place ∷ at.rest) (c ∷ waiting)) first near))

-- the openings of open files are at their places
at_places : (s : Sources) (n bound : ℕ) (names : List (List ℕ)) (all : List Opening) (places : List ℕ) (readers : List Reader) →
    AreNested bound places readers → AreTracked s n names all places readers → AreAt n bound names all places (files_of readers)
at_places s n bound names all places [] nested tracked = tt
at_places s n bound names all [] (r ∷ readers) nested tracked = absurd nested
at_places s n bound names all (p ∷ places) (r ∷ readers) nested tracked =
    ((tracked.0.behind, nested.0), (tracked.0.named, at_places s n p names all places readers nested.1 tracked.1))

pub at_all : (s : Sources) (old now : Openings) (f : Open) → IsNested old now f → AllGiven s (length old.all) now f
    → AreAt (length old.all) (length now.all) f.nest.names now.all (reverse now.open_places) (files_of (lexers f))
at_all s old now f n g = at_places s (length old.all) (length now.all) f.nest.names now.all (reverse now.open_places)
    (lexers f) n.nested g.tracked

pub comes_of : (s : Sources) (o : Choices) (serial name : List ℕ) (old now new : Openings) (f : Open) (was : State)
    (before after : Option (List ℕ)) (c : Compiled)
    → (s name ≡ None → ⊥) → was ≡ start s o name → new ≡ closed_to old now → AllGiven s (length old.all) now f → Each Fits (length old.all)
    now.all → Concludes (limits_of o.settings) s o serial was old now f before after c → Comes s o serial name old new before after c
comes_of s o serial name old now new f was before after c there begun closed given fit k =
    let n : ℕ = length old.all in
    let read : IsRead (limits_of o.settings) s o (start s o name) k.final =
    subst (λ (x : State). IsRead (limits_of o.settings) s o x k.final) begun k.is_read in
    let all : new.all ≡ now.all = ap (λ (p : Openings). p.all) closed in
    let at : AreAt n (length now.all) f.nest.names now.all (reverse now.open_places) (numbers_of (nesting s old now f)) =
    subst (λ (fs : List ℕ). AreAt n (length now.all) f.nest.names now.all (reverse now.open_places) fs)
    (sym (files_are s old now f k.nested)) (at_all s old now f k.nested given) in
    record {
      ending = ending_of (limits_of o.settings) o serial k.final;
      is_outcome = outcome_of (s name) s o serial name (ending_of (limits_of o.settings) o serial k.final) there
          (record { final = k.final; is_read = read; is_ending = refl });
      delivers = k.delivers;
      opened = opened_of (s name) s o name old new there (record {
        final = k.final;
        is_read = read;
        names = ap (λ (p : Openings). map (λ (q : Opening). q.name) (drop n p.all)) closed ∙ ap (λ (x : Nesting). x.openings) k.nesting_is;
        closed = ap (λ (p : Openings). p.open_places) closed;
        each = subst (λ (xs : List Opening). Each (IsGiven s) n xs) (sym all)
            (λ i le lt. record { is_cut = given.each i le lt; fits = fit i le lt });
        places = reverse now.open_places;
        at = subst (λ (x : Nesting). AreAt n (length new.all) x.names new.all (reverse now.open_places) (numbers_of x)) k.nesting_is
            (subst (λ (xs : List Opening). AreAt n (length xs) f.nest.names xs (reverse now.open_places) (numbers_of (nesting s old now f)))
            (sym all) at);
        near = subst (λ (x : Nesting). AreNear s new.all (reverse now.open_places) (cursors x)) k.nesting_is
            (subst (λ (xs : List Opening). AreNear s xs (reverse now.open_places)
            (cursors (nesting s old now f))) (sym all) (near_all s old now f k.nested given));
      });
    }

pub begins_of : (s : Sources) (o : Choices) (serial name : List ℕ) (was : State) (before after : Option (List ℕ))
    → (s name ≡ None → ⊥) → was ≡ start s o name → Stops (limits_of o.settings) s o serial was before after → Begins s o serial name before
    after
begins_of s o serial name was before after there begun k = record {
  front = k.front;
  takes = k.takes;
  begins = λ e outcome.
      let c = compiled_of (s name) s o serial name e there outcome in
      subst (λ (x : Outcome). IsFront k.front x.messages) (sym c.is_ending)
      (k.begins c.final (subst (λ (x : State). IsRead (limits_of o.settings) s o x c.final) (sym begun) c.is_read));
}

-- a front of the one message was written for a main source that is not there
pub begins_missing : (sources : Sources) (o : Choices) (serial name : List ℕ) (old new : Option (List ℕ)) (lines : List ℕ)
    → sources name ≡ None → lines ≡ (missing name).messages → TakesFront lines old new → Begins sources o serial name old new
begins_missing sources o serial name old new lines absent is t = record {
  front = t.front;
  takes = t.takes;
  begins = λ e outcome.
      let same : e ≡ missing name = subst (λ (x : Option (List ℕ)). IsOutcomeOf x sources o serial name e) absent outcome in
      subst (λ l. IsFront t.front l) (is ∙ ap (λ (x : Outcome). x.messages) (sym same)) t.begins;
}

-- nothing is written before a main source is open
pub begins_none : (sources : Sources) (o : Choices) (serial name : List ℕ) (old : Option (List ℕ)) → Begins sources o serial name old old
begins_none sources o serial name old = record {
  front = [];
  takes = takes_none old;
  begins = λ e outcome. record { rest = e.messages; is_cut = refl };
}

-- a session before its first token
pub begun_is : {B : Type 0} (s : Sources) (o : Choices) (old now : Openings) (n : Nesting) (x : Session B) (told : List ℕ) →
    nesting s old now x.open_files ≡ n
    → standing x.progress ≡ begun_with o x.open_files.nest.names → x.is_over ≡ false → x.conditionals ≡ no_conditions → x.quoted
    ≡ 0 → x.passed ≡ 0 → state s old now x told ≡ first_state o n told
begun_is s o old now n x told files at going none unquoted unpassed =
    let front = begun_with o n.names in
    let stands : standing x.progress ≡ front = at ∙ ap (λ (m : Nesting). begun_with o m.names) files in
    ap (λ (m : Nesting). made m x.conditionals (standing x.progress) x.is_over x.quoted x.passed) files
    ∙ ap (λ (p : ReaderState). made n x.conditionals p x.is_over x.quoted x.passed) stands
    ∙ ap (λ (b : Bool). made n x.conditionals front b x.quoted x.passed) going
    ∙ ap (λ (c : Conditions). made n c front false x.quoted x.passed) none
    ∙ ap (λ (k : ℕ). made n no_conditions front false k x.passed) unquoted ∙ ap (λ (k : ℕ). made n no_conditions front false 0 k) unpassed
  where
    made : Nesting → Conditions → ReaderState → Bool → ℕ → ℕ → State
    made m c p b q k = record {
      nesting = m;
      conditions = c;
      reading = p.reading;
      work = p.work;
      told = told;
      is_over = b;
      quoted = q;
      passed = k;
    }

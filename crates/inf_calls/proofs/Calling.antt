-- Calls that follow one another: the second goes on from the state and the answer of the first.
use Rattle.std.proofs.Common.{◌≡◌, ◌⊎◌, inl, inr, ℕ, List, [], ◌++◌, Bool, true, false, Option, Some, None, is_none, Result, Ok, Err}
use Rattle.std.proofs.Common.{refl, sym, ap, subst, ◌∙◌, append_assoc, append-nil, IsTrue}
use Rattle.inf_settings.specs.Bounds.{Limits}
use Rattle.inf_devices.specs.{Files.Openings, Files.Sources, Sinks.Takes}
use Rattle.inf_session.specs.{Choices.Choices, Session.State, Session.part, Session.run}
use Rattle.inf_session.specs.Leading.{CutsShort, OpensAll, Writes}
use Rattle.inf_session.proofs.Leadings.{front_same}
use Rattle.inf_ending.specs.Delivered.{IsFront}
use Rattle.inf_ending.proofs.Delivering.{takes_none, takes_then}
use Rattle.inf_calls.specs.Answers.{Calls}
use Rattle.inf_calls.specs.Calls.{Answered, and_then, part_read, told_more, waiting}
use Rattle.inf_calls.specs.declared.faults.UnitFault.{UnitFault}

-- a part with its answer
pub part_calls : (limits : Limits) (sources : Sources) (o : Choices) (turns : ℕ) (was now : List ℕ → State) (old new : Option (List ℕ))
    (errors : ℕ) (answer : Result Bool UnitFault) → ((told : List ℕ) → (was told).work.report.counts.errors ≡ errors)
    → ((told : List ℕ) → answer ≡ told_more errors (now told)) → Writes (part limits sources o turns) was now old new
    → Calls (part_read limits sources o turns) was now answer old new
part_calls limits sources o turns was now old new errors answer e a w = record {
  lines = w.lines;
  takes = w.takes;
  same = λ told.
      let r = part limits sources o turns (was told) in
      ap (λ x. (now (told ++ w.lines), x)) (a (told ++ w.lines)) ∙ ap (λ (s : State). (s, told_more errors s)) (w.same told)
      ∙ ap (λ n. (r, told_more n r)) (sym (e told));
}

-- behind a fault nothing follows
pub call_failed : {S T : Type 0} (call : State → Answered S) (next : S → State → Answered T) (was now : List ℕ → State) (f : UnitFault)
    (old new : Option (List ℕ)) → Calls call was now (Err f) old new → Calls (λ s. and_then (call s) next) was now (Err f) old new
call_failed call next was now f old new c =
    record { lines = c.lines; takes = c.takes; same = λ told. ap (λ a. and_then a next) (c.same told) }

pub call_then : {S T : Type 0} (call : State → Answered S) (next : S → State → Answered T) (was mid now : List ℕ → State) (v : S)
    (answer : Result T UnitFault) (old between new : Option (List ℕ)) → Calls call was mid (Ok v) old between
    → Calls (next v) mid now answer between new → Calls (λ s. and_then (call s) next) was now answer old new
call_then call next was mid now v answer old between new a b = record {
  lines = a.lines ++ b.lines;
  takes = takes_then old between new a.lines b.lines a.takes b.takes;
  same = λ told. ap (λ t. (now t, answer)) (sym (append_assoc told a.lines b.lines)) ∙ b.same (told ++ a.lines) ∙ ap (λ x. and_then x next)
      (a.same told);
}

-- a step that writes nothing, and has an answer for the state
pub call_answers : {T : Type 0} (next : State → Answered T) (now : List ℕ → State) (answer : Result T UnitFault) (old : Option (List ℕ)) →
    ((told : List ℕ) → (now told, answer) ≡ next (now told)) → Calls next now now answer old old
call_answers next now answer old h =
    record { lines = []; takes = takes_none old; same = λ told. ap (λ t. (now t, answer)) (append-nil told) ∙ h told }

-- the second of two calls is cut short
pub cut_then : {S T : Type 0} (call : State → Answered S) (next : S → State → Answered T) (was mid : List ℕ → State) (v : S)
    (old between new : Option (List ℕ)) → Calls call was mid (Ok v) old between → CutsShort (λ s. (next v s).0) mid between new
    → CutsShort (λ s. (and_then (call s) next).0) was old new
cut_then {S = S} call next was mid v old between new a b = record {
  front = a.lines ++ b.front;
  takes = takes_then old between new a.lines b.front a.takes b.takes;
  begins = λ told. subst (λ front. IsFront front (and_then (call (was told)) next).0.told) (append_assoc told a.lines b.front)
      (subst (λ (x : Answered S). IsFront ((told ++ a.lines) ++ b.front) (and_then x next).0.told) (a.same told) (b.begins (told ++
      a.lines)));
}

-- what was opened behind some turns
pub opens_all : (step : State → State) (was now : List ℕ → State) (old new : Option (List ℕ)) (openings : List (List ℕ)) →
    Writes step was now old new → ((told : List ℕ) → openings ≡ (now told).nesting.openings) → OpensAll step was openings
opens_all step was now old new openings w o = λ told. o (told ++ w.lines) ∙ ap (λ (s : State). s.nesting.openings) (w.same told)

-- whether a text waits for its end
pub waits_not : (held : Option ℕ) → is_none held ≡ true → Err UnitFault.Syntax ≡ waiting held
waits_not None h = refl
waits_not (Some n) h = cc

pub waits : (held : Option ℕ) → is_none held ≡ false → Ok tt ≡ waiting held
waits None h = cc
waits (Some n) h = refl

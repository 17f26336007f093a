-- The end of a unit: what was carried out, the messages that are written, and the answer.
use Rattle.std.proofs.Common.{◌≡◌, ℕ, List, [], ◌++◌, Bool, true, false, cond, Option, Result, Ok, Err}
use Rattle.std.proofs.Common.{refl, sym, ap, subst, ◌∙◌, append-nil}
use Rattle.std.specs.Bool.{⊤}
use Rattle.inf_alone.specs.declared.ending.{Ended.Ended, Told.Told}
use Rattle.inf_session.specs.{Leading.CutsShort, Session.State, Session.told_out}
use Rattle.inf_ending.specs.{Delivered.IsFront, declared.faults.Fault.Fault}
use Rattle.inf_ending.proofs.Delivering.{takes_none}
use Rattle.inf_calls.specs.Answers.{Calls, IfLost}
use Rattle.inf_calls.specs.Calls.{Answered, and_then, answering, constant_answer, expression_answer}
use Rattle.inf_calls.specs.Calls.{tell, then_by}
use Rattle.inf_calls.specs.declared.faults.UnitFault.{UnitFault}

-- what is told changes no state
keeps_by : {T : Type 0} (answer : Result T UnitFault) (s : State) (b : Bool) →
    (then_by (answering answer) s (cond b (Err UnitFault.Fatal) (Ok tt))).0 ≡ s
keeps_by answer s true = refl
keeps_by answer s false = refl

keeps : {T : Type 0} (answer : Result T UnitFault) (s : State) → (and_then (tell s) (answering answer)).0 ≡ told_out s
keeps answer s = keeps_by answer (told_out s) s.work.report.counts.is_over

module _ {E T : Type 0} (carry : State → State × E) (answer : E → Result T UnitFault) where
  pub carried_calls : (e : E) (was mid now : List ℕ → State) (v : Result ⊤ UnitFault) (r : Result T UnitFault) (old new : Option (List ℕ)) →
      ((s : State) → (s, r) ≡ then_by (answering (answer e)) s v) → ((told : List ℕ) → (mid told, e) ≡ carry (was told))
      → Calls tell mid now v old new → Calls (λ s. let c = carry s in and_then (tell c.0) (answering (answer c.1))) was now r old new
  carried_calls e was mid now v r old new h carried c = record {
    lines = c.lines;
    takes = c.takes;
    same = λ told. h (now (told ++ c.lines)) ∙ ap (λ (x : Answered ⊤). and_then x (answering (answer e))) (c.same told)
        ∙ ap (λ (x : State × E). and_then (tell x.0) (answering (answer x.1))) (carried told);
  }

  pub carried_cut : (e : E) (was mid : List ℕ → State) (old new : Option (List ℕ)) → ((told : List ℕ) → (mid told, e) ≡ carry (was told))
      → CutsShort (λ s. (tell s).0) mid old new
      → CutsShort (λ s. (let c = carry s in and_then (tell c.0) (answering (answer c.1))).0) was old new
  carried_cut e was mid old new carried c = record {
    front = c.front;
    takes = c.takes;
    begins = λ told.
        subst (λ (x : State × E). IsFront (told ++ c.front) (and_then (tell x.0) (answering (answer x.1))).0.told) (carried told)
        (subst (λ (s : State). IsFront (told ++ c.front) s.told) (sym (keeps (answer e) (mid told))) (c.begins told));
  }

  pub none_cut : (was : List ℕ → State) (old : Option (List ℕ)) → ((s : State) → (carry s).0.told ≡ s.told)
      → ((told : List ℕ) → (was told).told ≡ told)
      → CutsShort (λ s. (let c = carry s in and_then (tell c.0) (answering (answer c.1))).0) was old old
  none_cut was old same named = record {
    front = [];
    takes = takes_none old;
    begins = λ told.
        let c = carry (was told) in
        record {
          rest = c.0.work.report.lines;
          is_cut = ap (λ (s : State). s.told) (keeps (answer c.1) c.0) ∙ ap (λ l. l ++ c.0.work.report.lines)
              (same (was told) ∙ named told ∙ sym (append-nil told));
        };
  }

pub never_lost : (e : Ended) (P : Fault → Type 0) → IfLost (expression_answer e) P
never_lost (Ended.Wrong f) P = tt
never_lost (Ended.Laid left) P = tt

pub never_lost_constant : (t : Told) (P : Fault → Type 0) → IfLost (constant_answer t) P
never_lost_constant (Told.Wrong f) P = tt
never_lost_constant (Told.Is v) P = tt

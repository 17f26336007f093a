-- Steps of a whole reading that neither depend on the lines of its messages nor on those that were written.
use Rattle.std.proofs.Common.{◌≡◌, ℕ, List, Bool, true, false, refl, ◌∙◌, ap, if◌then◌else◌}
use Rattle.inf_unit.specs.Messages.{Reported}
use Rattle.inf_session.specs.Session.{State}
use Rattle.inf_message_laws.specs.Growing.{told_before}
use Rattle.inf_message_laws.proofs.Told.{Adds}
use Rattle.inf_program.specs.Writing.{with_lines}

-- A step of a reading leaves lines that were reported before it unchanged before its own, and those that were written, too.
pub record Moves (f : State → State) : Type 0 where
  pub moves : (lines told : List ℕ) (s : State) → f (with_lines lines told s) ≡ with_lines lines told (f s)

-- A value of the state depends on no line.
abbrev pub Stays : {A : Type 0} → (State → A) → Type 0
Stays x = (lines told : List ℕ) (s : State) → x (with_lines lines told s) ≡ x s

pub nothing_moves : Moves (λ s. s)
nothing_moves = record { moves = λ lines told s. refl }

pub then_moves : (f g : State → State) → Moves f → Moves g → Moves (λ s. g (f s))
then_moves f g first second = record { moves = λ lines told s. ap g (first.moves lines told s) ∙ second.moves lines told (f s) }

pub with_moves : {A : Type 0} (x : State → A) (f : A → State → State) → Stays x → ((a : A) → Moves (f a)) → Moves (λ s. f (x s) s)
with_moves x f stays each = record {
  moves = λ lines told s. ap (λ a. f a (with_lines lines told s)) (stays lines told s) ∙ (each (x s)).moves lines told s;
}

either_moves : (b : Bool) (f g : State → State) → Moves f → Moves g → Moves (λ s. if b then f s else g s)
either_moves true f g first second = first
either_moves false f g first second = second

pub if_moves : (b : State → Bool) (f g : State → State) → Stays b → Moves f → Moves g → Moves (λ s. if b s then f s else g s)
if_moves b f g stays first second =
    with_moves b (λ (c : Bool) (s : State). if c then f s else g s) stays (λ c. either_moves c f g first second)

-- the state with another report, and with other lines that were written
abbrev with_report : List ℕ → Reported → State → State
with_report told r s = record s { work = record s.work { report = r }; told = told }

-- the state with a change of its report, which depends on values that stay
pub telling_moves : (tell : State → Reported → Reported) → Stays tell → ((s : State) → Adds (tell s))
    → Moves (λ s. record s { work = record s.work { report = tell s s.work.report } })
telling_moves tell stays each = record {
  moves = λ lines told s. ap (λ (t : Reported → Reported). with_report told (t (told_before lines s.work.report)) s) (stays lines told s)
      ∙ ap (λ (r : Reported). with_report told r s) ((each s).adds lines s.work.report);
}

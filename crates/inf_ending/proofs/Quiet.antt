-- Failures to write messages are not told as anything else.
use Rattle.std.proofs.Common.{◌≡◌, ℕ, refl, ◌∙◌, subst, Result, Ok, Err, IfErr, IsErr}
use Rattle.inf_ending.specs.{declared.faults.Fault.Fault}
use Rattle.inf_ending.specs.Faults.{HidesNoFailure, UnlessMessages}

unless_any : (f : Fault) (A : Type 0) → A → UnlessMessages f A
unless_any Fault.Memory A holds = holds
unless_any (Fault.Read name) A holds = holds
unless_any Fault.Messages A holds = tt
unless_any (Fault.Story n) A holds = holds

pub unless_more : (f : Fault) (A B : Type 0) → (A → B) → UnlessMessages f A → UnlessMessages f B
unless_more Fault.Memory A B h holds = h holds
unless_more (Fault.Read name) A B h holds = h holds
unless_more Fault.Messages A B h holds = tt
unless_more (Fault.Story n) A B h holds = h holds

-- where nothing was written, no failure to write is hidden
pub hides_none : {T : Type 0} (r : Result T Fault) (n : ℕ) → HidesNoFailure r n n
hides_none (Ok x) n = (refl, tt)
hides_none (Err f) n = (tt, unless_any f (n ≡ n) refl)

-- where a refused call comes behind others that counted no failure, no failure to write is hidden
pub hides_behind : {T : Type 0} (r : Result T Fault) (first before now : ℕ) → IsErr r → before ≡ first
    → IfErr r (λ f. UnlessMessages f (now ≡ before)) → HidesNoFailure r first now
hides_behind (Ok x) first before now is same hides = cc
hides_behind (Err f) first before now is same hides = (tt, unless_more f (now ≡ before) (now ≡ first) (λ later. later ∙ same) hides)

-- a call behind others that counted no failure
pub hides_then : {T : Type 0} (r : Result T Fault) (first before now : ℕ) → before ≡ first → HidesNoFailure r before now →
    HidesNoFailure r first now
hides_then r first before now same hides = let P : ℕ → Type 0 = λ n. HidesNoFailure r n now in subst P same hides

-- a call that writes nothing, behind others that counted no failure
pub hides_always : {T : Type 0} (r : Result T Fault) (first now : ℕ) → now ≡ first → HidesNoFailure r first now
hides_always r first now same = hides_then r first now now same (hides_none r now)

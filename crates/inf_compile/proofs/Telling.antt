-- Faults of calls, by results.
use Rattle.std.proofs.Common.{◌≡◌, ℕ, List, ◌∙◌, subst, Result, Ok, Err, IfErr, IsErr}
use Rattle.inf_ending.specs.declared.faults.Fault.{Fault}
use Rattle.inf_ending.specs.Faults.{Caused, IfRead, TellsEachRead, UnlessRead}
use Rattle.inf_session.proofs.Promises.{caused_more, read_more, unless_read, unless_read_more}

pub if_caused_more : {T : Type 0} (r : Result T Fault) (P Q : List ℕ → Type 0) (A B : Type 0) → ((name : List ℕ) → P name → Q name) →
    (A → B) → IfErr r (λ f. Caused f P A) → IfErr r (λ f. Caused f Q B)
if_caused_more (Ok x) P Q A B h k p = tt
if_caused_more (Err f) P Q A B h k p = caused_more f h k p

pub if_read_more : {T : Type 0} (r : Result T Fault) (P Q : List ℕ → Type 0) → ((name : List ℕ) → P name → Q name) →
    IfErr r (λ f. IfRead f P) → IfErr r (λ f. IfRead f Q)
if_read_more (Ok x) P Q h p = tt
if_read_more (Err f) P Q h p = read_more f h p

-- no source failed
pub tells_none : {T : Type 0} (r : Result T Fault) (before now : ℕ) → now ≡ before → TellsEachRead r before now
tells_none (Ok x) before now same = (same, tt)
tells_none (Err f) before now same = (tt, unless_read f same)

-- a call behind others in which no source failed
pub tells_then : {T : Type 0} (r : Result T Fault) (first before now : ℕ) → before ≡ first → TellsEachRead r before now →
    TellsEachRead r first now
tells_then r first before now same tells = let P : ℕ → Type 0 = λ n. TellsEachRead r n now in subst P same tells

-- a refused call behind others in which no source failed
pub tells_behind : {T : Type 0} (r : Result T Fault) (first before now : ℕ) → IsErr r → before ≡ first
    → IfErr r (λ f. UnlessRead f (now ≡ before)) → TellsEachRead r first now
tells_behind (Ok x) first before now is same tells = cc
tells_behind (Err f) first before now is same tells = (tt, unless_read_more f (λ later. later ∙ same) tells)

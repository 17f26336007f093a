-- Statements behind one another, and the turns of a loop.
use Rattle.std.proofs.Common.{◌≡◌, ℕ, suc, Option, Some, Bool, true, false, refl, ◌∙◌, ap, ◌||◌, if◌then◌else◌}
use Rattle.inf_interpreter.specs.Machine.{Store, ◌then◌}
use Rattle.inf_control_laws.specs.Control.{Done, Effect, Outcome, Returned, Truth, behind_turn, both_run, followed_by, if_run, while_run}

-- the end of an effect, of a condition, and of a call
abbrev pub comes_to : Outcome → Store → Option (Outcome × Store)
comes_to r s = Some (r, s)

abbrev pub is_found : Store → Bool → Option (Bool × Store)
is_found s b = Some (b, s)

abbrev pub returns_with : ℕ → Store → Option (ℕ × Store)
returns_with n s = Some (n, s)

pub or_false : (b : Bool) → (b || false) ≡ b
or_false true = refl
or_false false = refl

-- Lemmas about statements behind one another

pub both_by : (first second : Effect) (s : Store) (m : Option (Outcome × Store)) → first s ≡ m →
    both_run first second s ≡ (m then λ r. followed_by second r.0 r.1)
both_by first second s m e = ap (λ (o : Option (Outcome × Store)). o then λ r. followed_by second r.0 r.1) e

pub both_done : (first second : Effect) (s t : Store) → first s ≡ comes_to Done t → both_run first second s ≡ second t
both_done first second s t e = both_by first second s (comes_to Done t) e

pub both_returns : (first second : Effect) (s t : Store) (n : ℕ) → first s ≡ comes_to (Returned n) t →
    both_run first second s ≡ comes_to (Returned n) t
both_returns first second s t n e = both_by first second s (comes_to (Returned n) t) e

pub both_same : (first other second : Effect) (s t : Store) → first s ≡ other t → both_run first second s ≡ both_run other second t
both_same first other second s t e = both_by first second s (other t) e

-- the run of an `if` whose condition is known, with others behind it
pub if_by : (holds : Truth) (body : Effect) (s : Store) (b : Bool) → holds s ≡ is_found s b →
    if_run holds body s ≡ (if b then body s else comes_to Done s)
if_by holds body s b e = ap (λ (o : Option (Bool × Store)). o then λ p. if p.0 then body p.1 else Some (Done, p.1)) e

pub guard_passes : (holds : Truth) (body rest : Effect) (s : Store) → holds s ≡ is_found s false →
    both_run (if_run holds body) rest s ≡ rest s
guard_passes holds body rest s e = both_done (if_run holds body) rest s s (if_by holds body s false e)

pub guard_does : (holds : Truth) (body rest : Effect) (s t : Store) → holds s ≡ is_found s true → body s ≡ comes_to Done t →
    both_run (if_run holds body) rest s ≡ rest t
guard_does holds body rest s t e f = both_done (if_run holds body) rest s t (if_by holds body s true e ∙ f)

pub guard_returns : (holds : Truth) (body rest : Effect) (s t : Store) (n : ℕ) → holds s ≡ is_found s true →
    body s ≡ comes_to (Returned n) t → both_run (if_run holds body) rest s ≡ comes_to (Returned n) t
guard_returns holds body rest s t n e f = both_returns (if_run holds body) rest s t n (if_by holds body s true e ∙ f)

-- Lemmas about turns of a loop

while_by : (holds : Truth) (body : Effect) (turns : ℕ) (s : Store) (b : Bool) → holds s ≡ is_found s b → while_run holds body (suc turns) s
    ≡ (if b then (body s then λ r. behind_turn (while_run holds body turns) r.0 r.1) else comes_to Done s)
while_by holds body turns s b e = ap (λ (o : Option (Bool × Store)). o then λ p.
    if p.0 then (body p.1 then λ r. behind_turn (while_run holds body turns) r.0 r.1) else Some (Done, p.1)) e

turn_by : (holds : Truth) (body : Effect) (turns : ℕ) (s : Store) (m : Option (Outcome × Store)) → body s ≡ m →
    (body s then λ r. behind_turn (while_run holds body turns) r.0 r.1) ≡ (m then λ r. behind_turn (while_run holds body turns) r.0 r.1)
turn_by holds body turns s m e = ap (λ (o : Option (Outcome × Store)). o then λ r. behind_turn (while_run holds body turns) r.0 r.1) e

pub while_ends : (holds : Truth) (body : Effect) (turns : ℕ) (s : Store) → holds s ≡ is_found s false →
    while_run holds body (suc turns) s ≡ comes_to Done s
while_ends holds body turns s e = while_by holds body turns s false e

pub while_turns : (holds : Truth) (body : Effect) (turns : ℕ) (s t : Store) → holds s ≡ is_found s true → body s ≡ comes_to Done t →
    while_run holds body (suc turns) s ≡ while_run holds body turns t
while_turns holds body turns s t e f = while_by holds body turns s true e ∙ turn_by holds body turns s (comes_to Done t) f

pub while_returns : (holds : Truth) (body : Effect) (turns : ℕ) (s t : Store) (n : ℕ) → holds s ≡ is_found s true →
    body s ≡ comes_to (Returned n) t → while_run holds body (suc turns) s ≡ comes_to (Returned n) t
while_returns holds body turns s t n e f = while_by holds body turns s true e ∙ turn_by holds body turns s (comes_to (Returned n) t) f

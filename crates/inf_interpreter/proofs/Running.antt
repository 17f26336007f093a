-- One step of the machine, and many.
use Rattle.std.proofs.Common.{◌≡◌, ℕ, suc, ◌∷◌, Option, Some, None, Bool, false, refl, ◌∙◌, ap, sym, subst}
use Rattle.inf_opcode.specs.declared.instructions.Label.{Label}
use Rattle.inf_output.specs.declared.items.Item.{Item}
use Rattle.inf_interpreter.specs.Machine.{World, State, Place, Machine, ◌then◌, run, stepped}
use Rattle.inf_interpreter.specs.Claims.{Comes, Kept}

-- Lemmas about results that may be missing

pub got : {A : Type 0} → A → Option A → A
got a None = a
got a (Some b) = b

pub same_some : {A : Type 0} {a b : A} → Some a ≡ Some b → a ≡ b
unfolding got
same_some {A} {a} {b} e = ap (got a) e

pub none_some : {A : Type 0} {B : Type 0} {a : A} → None ≡ Some a → B
none_some e = absurd (cc e)

pub opened : {A B : Type 0} (m : Option A) (f : A → Option B) (b : B) → (m then f) ≡ Some b →
    (a : A) × (m ≡ Some a) × (f a ≡ Some b)
opened None f b e = none_some e
opened (Some a) f b e = (a, refl, e)

-- Lemmas about steps

pub here : (w : World) (at : Label → Place) (from : Place) (s : State) → Comes w at from s from s
here w at from s = record { steps = λ k. (k, refl) }

pub comes_then : {w : World} {at : Label → Place} {a b c : Place} {s t u : State} → Comes w at a s b t → Comes w at b t c u →
    Comes w at a s c u
comes_then x y = record { steps = λ k. let j = y.steps k in let i = x.steps j.0 in (i.0, i.1 ∙ j.1) }

pub by_item : (w : World) (at : Label → Place) (item : Item) (rest : Place) (s : State) (m : Machine) → stepped w at item rest s ≡ Some m →
    Comes w at (item ∷ rest) s m.0 m.1
by_item w at item rest s m e = record { steps = λ k. (suc k, ap (λ o. o then λ m. run w at k m.0 m.1) e) }

-- an item at a place
pub stepping : (w : World) (at : Label → Place) (item : Item) (from rest : Place) (s : State) (m : Machine) → from ≡ item ∷ rest →
    stepped w at item rest s ≡ Some m → Comes w at from s m.0 m.1
stepping w at item from rest s m place e = subst (λ f. Comes w at f s m.0 m.1) (sym place) (by_item w at item rest s m e)

-- variable 255 over pieces of code, and where nothing is said of it
pub kept_here : (k : Bool) (n : ℕ) → Kept k n n
kept_here k n = record { same = λ e. refl }

pub kept_then : (k : Bool) (a b c : ℕ) → Kept k a b → Kept k b c → Kept k a c
kept_then k a b c p q = record { same = λ e. q.same e ∙ p.same e }

pub not_kept : {a b : ℕ} → Kept false a b
not_kept = record { same = λ e. absurd (cc e) }

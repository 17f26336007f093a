-- Choices: tests, and the first of two things.
use Rattle.std.proofs.Common.{◌≡◌, cond, ◌||◌, Bool, true, false, Option, None, Some, refl}

-- the first of two values, each of which there may be
abbrev pub either : {A : Type 0} → Option A → Option A → Option A
either (Some x) later = Some x
either None later = later

pub either-none : {A : Type 0} (o : Option A) → either o None ≡ o
either-none None = refl
either-none (Some x) = refl

pub cond-again : {A : Type 0} (b : Bool) (x other more : A) → cond b x more ≡ cond b x (cond b other more)
cond-again true x other more = refl
cond-again false x other more = refl

pub cond-swap : {A : Type 0} (a b : Bool) (x y z : A) → (a ≡ true → b ≡ true → ⊥) → cond a x (cond b y z) ≡ cond b y (cond a x z)
cond-swap true true x y z apart = absurd (apart refl refl)
cond-swap true false x y z apart = refl
cond-swap false true x y z apart = refl
cond-swap false false x y z apart = refl

pub or-false : (b : Bool) → (b || false) ≡ b
or-false true = refl
or-false false = refl

pub or-assoc : (a b c : Bool) → (a || (b || c)) ≡ ((a || b) || c)
or-assoc true b c = refl
or-assoc false b c = refl

-- a test that another one implies adds nothing to it
pub or-known : (a b : Bool) → (b ≡ true → a ≡ true) → a ≡ (a || b)
or-known true b is = refl
or-known false true is = is refl
or-known false false is = refl

pub or-swap : (a b c : Bool) → (a || (b || c)) ≡ ((b || a) || c)
or-swap true true c = refl
or-swap true false c = refl
or-swap false true c = refl
or-swap false false c = refl

-- Behind a call the caller has its locals, whatever the routine wrote to its own.
use Rattle.std.proofs.Common.{◌≡◌, ℕ, ◌-◌, List, Bool, true, false, refl, ◌∙◌, ap, sym, ◌==◌, if◌then◌else◌}
use Rattle.std.proofs.lemmas.Bool.{both_ways, eqb-true, false_from_ne_true}
use mathlib.Core.Path.{fun_ext}
use Rattle.inf_interpreter.specs.Machine.{Store, with_variable}
use Rattle.inf_veneer_laws.specs.Running.{argument, entered, is_local, left}

abbrev with_variables : (ℕ → ℕ) → Store → Store
with_variables f s = record s { variables = f }

other_variable : (v k : ℕ) → is_local k ≡ true → is_local v ≡ false → (v == k) ≡ false
other_variable v k known other = false_from_ne_true (v == k) (λ e. both_ways (is_local v) other (ap is_local (eqb-true v k e) ∙ known))

only_false : (b : Bool) (x y z : ℕ) → (b ≡ false → y ≡ z) → (if b then x else y) ≡ (if b then x else z)
only_false true x y z h = refl
only_false false x y z h = h refl

same_either : (b : Bool) (x y : ℕ) → (if b then x else (if b then y else x)) ≡ x
same_either true x y = refl
same_either false x y = refl

pub local_left : (s t : Store) (k n : ℕ) → is_local k ≡ true → left s (with_variable k n t) ≡ left s t
local_left s t k n known =
    let same : (left s (with_variable k n t)).variables ≡ (left s t).variables =
    fun_ext (λ v. only_false (is_local v) (s.variables v) (if v == k then n else t.variables v) (t.variables v)
    (λ other. ap (λ (b : Bool). if b then n else t.variables v) (other_variable v k known other))) in
    ap (λ (f : ℕ → ℕ). with_variables f t) same

pub entered_left : (ns : List ℕ) (s : Store) → left s (entered ns s) ≡ s
entered_left ns s =
    let same : (left s (entered ns s)).variables ≡ s.variables =
    fun_ext (λ v. same_either (is_local v) (s.variables v) (argument ns (v - 1))) in
    ap (λ (f : ℕ → ℕ). with_variables f s) same

-- one local that was written since the call began
pub one_local : (ns : List ℕ) (s : Store) (k n : ℕ) → is_local k ≡ true → left s (with_variable k n (entered ns s)) ≡ s
one_local ns s k n known = local_left s (entered ns s) k n known ∙ entered_left ns s

-- Lemmas about variables that are no locals

swapped : (b c : Bool) (x y z : ℕ) → (b ≡ true → c ≡ false) →
    (if b then x else (if c then y else z)) ≡ (if c then y else (if b then x else z))
swapped true true x y z h = absurd (both_ways true (h refl) refl)
swapped true false x y z h = refl
swapped false c x y z h = refl

outer_variable : (v g : ℕ) → is_local g ≡ false → is_local v ≡ true → (v == g) ≡ false
outer_variable v g outer known =
    false_from_ne_true (v == g) (λ e. both_ways (is_local g) outer (sym (ap is_local (eqb-true v g e)) ∙ known))

pub global_left : (s t : Store) (g n : ℕ) → is_local g ≡ false → left s (with_variable g n t) ≡ with_variable g n (left s t)
global_left s t g n outer =
    let same : (left s (with_variable g n t)).variables ≡ (with_variable g n (left s t)).variables =
    fun_ext (λ v. swapped (is_local v) (v == g) (s.variables v) n (t.variables v) (outer_variable v g outer)) in
    ap (λ (f : ℕ → ℕ). with_variables f t) same

inner_gone : (b : Bool) (x y z : ℕ) → (if b then x else (if b then y else z)) ≡ (if b then x else z)
inner_gone true x y z = refl
inner_gone false x y z = refl

pub entered_gone : (ns : List ℕ) (s t : Store) → left s (entered ns t) ≡ left s t
entered_gone ns s t =
    let same : (left s (entered ns t)).variables ≡ (left s t).variables =
    fun_ext (λ v. inner_gone (is_local v) (s.variables v) (argument ns (v - 1)) (t.variables v)) in
    ap (λ (f : ℕ → ℕ). with_variables f t) same

pub left_twice : (s t u : Store) → left s (left t u) ≡ left s u
left_twice s t u =
    let same : (left s (left t u)).variables ≡ (left s u).variables =
    fun_ext (λ v. inner_gone (is_local v) (s.variables v) (t.variables v) (u.variables v)) in
    ap (λ (f : ℕ → ℕ). with_variables f u) same

same_both : (b : Bool) (x : ℕ) → (if b then x else x) ≡ x
same_both true x = refl
same_both false x = refl

pub self_left : (s : Store) → left s s ≡ s
self_left s =
    let same : (left s s).variables ≡ s.variables = fun_ext (λ v. same_both (is_local v) (s.variables v)) in
    ap (λ (f : ℕ → ℕ). with_variables f s) same

-- A variable that is no local is the same where two stores differ in locals alone.
pub outside : (l s t : Store) (v : ℕ) → is_local v ≡ false → left l s ≡ left l t → s.variables v ≡ t.variables v
outside l s t v outer e = sym (ap (λ (b : Bool). if b then l.variables v else s.variables v) outer) ∙ ap (λ (u : Store). u.variables v) e
    ∙ ap (λ (b : Bool). if b then l.variables v else t.variables v) outer

-- The store that a call begins with has none of the caller's locals.
pub entered_alike : (ns : List ℕ) (s t : Store) → entered ns (left t s) ≡ entered ns s
entered_alike ns s t =
    let same : (entered ns (left t s)).variables ≡ (entered ns s).variables =
    fun_ext (λ v. inner_gone (is_local v) (argument ns (v - 1)) (t.variables v) (s.variables v)) in
    ap (λ (f : ℕ → ℕ). with_variables f s) same

first_stays : (b : Bool) (x y z : ℕ) → (if b then (if b then x else y) else z) ≡ (if b then x else (if b then y else z))
first_stays true x y z = refl
first_stays false x y z = refl

pub left_through : (s t u : Store) → left (left t s) u ≡ left t (left s u)
left_through s t u =
    let same : (left (left t s) u).variables ≡ (left t (left s u)).variables =
    fun_ext (λ v. first_stays (is_local v) (t.variables v) (s.variables v) (u.variables v)) in
    ap (λ (f : ℕ → ℕ). with_variables f u) same

-- Parts of an instruction: those that are no leaves are pushed, and its operands read them all.
use Rattle.std.proofs.Common.{◌≡◌, ℕ, List, [], ◌∷◌, Option, Some, None, Bool, true, false, refl, ◌∙◌, ap, sym, subst}
use Rattle.std.specs.Prelude.{map, nat_lt, ◌==◌, ◌||◌, if◌then◌else◌}
use Rattle.inf_opcode.specs.declared.instructions.Label.{Label}
use Rattle.inf_opcode.specs.declared.instructions.Operand.TheVariants.{Large, Small}
use Rattle.inf_expressions.specs.declared.operators.Operand.{Operand}
use Rattle.inf_output.specs.{Operands.written, Output.Code, declared.operands.Simple.Simple}
use Rattle.inf_templates.specs.Parts.{Part, SP, evaluated, evaluated_by, operand_by, operands, simple, worked_out}
use Rattle.inf_interpreter.specs.Machine.{World, Store, State, Place, ◌then◌, and_first, operand_value, operand_values, popped}
use Rattle.inf_interpreter.specs.Claims.{Claim, Comes, Kept, state}
use Rattle.inf_meaning_laws.specs.Values.{Arg, Worked, Is, Reads, is_own, read, settled, settled_all, values, worked_all, worked_by}
use Rattle.inf_interpreter.proofs.Laying.{Always, nothing_, so, then_}
use Rattle.inf_interpreter.proofs.Running.{comes_then, here, kept_here, kept_then, none_some, opened, same_some}

abbrev pub leaf_simple : Option Operand → Option Simple
leaf_simple None = None
leaf_simple (Some x) = Some (simple x)

abbrev pub Pushes : Bool → World → (Store → Option (ℕ × Store)) → Claim
Pushes keeps w value at from to =
    (stack : List ℕ) (temp : ℕ) (s : Store) (n : ℕ) (t : Store) → value s ≡ Some (n, t) →
    (left : ℕ) × Kept keeps temp left × Comes w at from (state stack temp s) to (state (n ∷ stack) left t)

-- A part of the code belongs to a part of the expression: both are one leaf, or the code pushes the value.
pub record IsPart (keeps : Bool) (w : World) (p : Part) (a : Arg) : Type 0 where
  pub operand : p.operand ≡ leaf_simple a.leaf
  pub pushes : a.leaf ≡ None → Always w (p.value SP) (Pushes keeps w a.value)

abbrev pub AreParts : Bool → World → List Part → List Arg → Type 0
AreParts keeps w [] [] = Unit {0}
AreParts keeps w (p ∷ parts) (a ∷ args) = IsPart keeps w p a × AreParts keeps w parts args
AreParts keeps w _ _ = ⊥

-- values that were worked out lie on the stack, and leaves do not
abbrev pub with_worked : Worked → List ℕ → List ℕ
with_worked (Is n) stack = n ∷ stack
with_worked (Reads x) stack = stack

abbrev pub with_all_worked : List Worked → List ℕ → List ℕ
with_all_worked [] stack = stack
with_all_worked (a ∷ all) stack = with_worked a (with_all_worked all stack)

abbrev pub Works : Bool → World → Option Operand → (Store → Option (ℕ × Store)) → Claim
Works keeps w leaf value at from to =
    (stack : List ℕ) (temp : ℕ) (s : Store) (a : Worked) (t : Store) → worked_by leaf value s ≡ Some (a, t) →
    (left : ℕ) × Kept keeps temp left × Comes w at from (state stack temp s) to (state (with_worked a stack) left t)

abbrev pub WorksAll : Bool → World → List Arg → Claim
WorksAll keeps w args at from to =
    (stack : List ℕ) (temp : ℕ) (s : Store) (all : List Worked) (t : Store) → worked_all args s ≡ Some (all, t) →
    (left : ℕ) × Kept keeps temp left × Comes w at from (state stack temp s) to (state (with_all_worked all stack) left t)

stays : (w : World) (at : Label → Place) (from to : Place) (s t : State) → from ≡ to → s ≡ t → Comes w at from s to t
stays w at from to s t e f = subst (λ p. Comes w at from s p t) e (subst (λ u. Comes w at from s from u) f (here w at from s))

works_by : {keeps : Bool} (w : World) (leaf : Option Operand) (value : Store → Option (ℕ × Store)) (c : Code) →
    (leaf ≡ None → Always w c (Pushes keeps w value)) → Always w (evaluated_by (leaf_simple leaf) c) (Works keeps w leaf value)
works_by {keeps} w (Some x) value c h = so (λ at from to e stack temp s a t f. let g = same_some f in
    (temp, kept_here keeps temp, stays w at from to _ _ e (λ i. state (with_worked ((g i).0) stack) temp (g i).1))) nothing_
works_by {keeps} w None value c h = so (λ at from to p stack temp s a t f.
    let o = opened (value s) (λ p. Some (Is p.0, p.1)) (a, t) f in
    let g = same_some o.2 in
    let r = p stack temp s o.0.0 o.0.1 o.1 in
    (r.0, r.1, subst (λ x. Comes w at from (state stack temp s) to (state (with_worked x.0 stack) r.0 x.1)) g r.2)) (h refl)

works : {keeps : Bool} (w : World) (p : Part) (a : Arg) → IsPart keeps w p a → Always w (worked_out p) (Works keeps w a.leaf a.value)
works {keeps} w p a h = subst (λ o. Always w (evaluated_by o (p.value SP)) (Works keeps w a.leaf a.value)) (sym h.operand)
    (works_by {keeps = keeps} w a.leaf a.value (p.value SP) h.pushes)

pub works_all : {keeps : Bool} (w : World) (parts : List Part) (args : List Arg) → AreParts keeps w parts args →
    Always w (evaluated parts) (WorksAll keeps w args)
works_all {keeps} w [] [] h = so (λ at from to e stack temp s all t f. let g = same_some f in
    (temp, kept_here keeps temp, stays w at from to _ _ e (λ i. state (with_all_worked (g i).0 stack) temp (g i).1))) nothing_
works_all w [] (a ∷ args) h = absurd h
works_all w (p ∷ parts) [] h = absurd h
works_all {keeps} w (p ∷ parts) (a ∷ args) h = so (λ at from to e stack temp s all t f.
    let o = opened (worked_all args s) (λ p. worked_by a.leaf a.value p.1 then λ q. Some (q.0 ∷ p.0, q.1)) (all, t) f in
    let q = opened (worked_by a.leaf a.value o.0.1) (λ q. Some (q.0 ∷ o.0.0, q.1)) (all, t) o.2 in
    let g = same_some q.2 in
    let r = e.1 stack temp s o.0.0 o.0.1 o.1 in
    let r' = e.2 (with_all_worked o.0.0 stack) r.0 o.0.1 q.0.0 q.0.1 q.1 in (
      r'.0,
      kept_then keeps temp r.0 r'.0 r.1 r'.1,
      subst (λ x. Comes w at from (state stack temp s) to (state (with_all_worked x.0 stack) r'.0 x.1)) g (comes_then r.2 r'.2),
    ))
    (then_ (works_all {keeps = keeps} w parts args h.1) (works {keeps = keeps} w p a h.0))

-- Operands: the simple operand of each part

abbrev pub simple_of : Worked → Simple
simple_of (Is n) = Simple.Variable SP
simple_of (Reads x) = simple x

operand_is : (w : World) (o : Option Simple) (leaf : Option Operand) (value : Store → Option (ℕ × Store)) (s : Store) (a : Worked)
    (t : Store) →
    o ≡ leaf_simple leaf → worked_by leaf value s ≡ Some (a, t) → operand_by o ≡ simple_of a
operand_is w o None value s a t e f =
    let p = opened (value s) (λ p. Some (Is p.0, p.1)) (a, t) f in
    ap operand_by e ∙ ap (λ x. simple_of x.0) (same_some p.2)
operand_is w o (Some x) value s a t e f = ap operand_by e ∙ ap (λ x. simple_of x.0) (same_some f)

pub operands_are : (keeps : Bool) (w : World) (parts : List Part) (args : List Arg) → AreParts keeps w parts args →
    (s : Store) (all : List Worked) (t : Store) → worked_all args s ≡ Some (all, t) → operands parts ≡ map simple_of all
operands_are keeps w [] [] h s all t f = ap (λ x. map simple_of x.0) (same_some f)
operands_are keeps w [] (a ∷ args) h s all t f = absurd h
operands_are keeps w (p ∷ parts) [] h s all t f = absurd h
operands_are keeps w (p ∷ parts) (a ∷ args) h s all t f =
    let o = opened (worked_all args s) (λ p. worked_by a.leaf a.value p.1 then λ q. Some (q.0 ∷ p.0, q.1)) (all, t) f in
    let q = opened (worked_by a.leaf a.value o.0.1) (λ q. Some (q.0 ∷ o.0.0, q.1)) (all, t) o.2 in
    let first = operand_is w p.operand a.leaf a.value o.0.1 q.0.0 q.0.1 h.0.operand q.1 in
    let others = operands_are keeps w parts args h.1 s o.0.0 o.0.1 o.1 in
    ap (λ x. x ∷ operands parts) first ∙ ap (λ x. simple_of q.0.0 ∷ x) others ∙ ap (λ x. map simple_of x.0) (same_some q.2)

-- a leaf is read by the machine as by the expression
known : (w : World) (s : State) (n : ℕ) (b : Bool) → operand_value w (if b then Small n else Large n) s ≡ Some (n, s)
known w s n true = refl
known w s n false = refl

read_number : {A : Type 0} (x : Bool) (c : A) (n : A) → (if x then None else Some c) ≡ Some n → c ≡ n
read_number true c n e = none_some e
read_number false c n e = same_some e

no_variable : {B : Type 0} (x y : Bool) (a b c : B) (n m : ℕ) → (if x || y then None else Some n) ≡ Some m →
    (if x then a else if y then b else c) ≡ c
no_variable true y a b c n m e = none_some e
no_variable false true a b c n m e = none_some e
no_variable false false a b c n m e = refl

pub looked_up : (w : World) (x : Operand) (s : State) (n : ℕ) → read w x s.store ≡ Some n →
    operand_value w (written (simple x)) s ≡ Some (n, s)
looked_up w (Operand.Known m) s n e = known w s m (nat_lt m 256) ∙ ap (λ k. Some (k, s)) (same_some e)
looked_up w (Operand.Variable v) s n e =
    no_variable (v == 0) (v == 255) (popped s.stack s) (Some (s.temp, s)) (Some (s.store.variables v, s)) (s.store.variables v) n e
    ∙ ap (λ k. Some (k, s)) (read_number (is_own v) (s.store.variables v) n e)
looked_up w (Operand.Later t) s n e = ap (λ k. Some (k, s)) (same_some e)
looked_up w (Operand.Function f) s n e = none_some e
looked_up w Operand.Unknown s n e = none_some e

first_looked_up : (w : World) (a : Worked) (stack : List ℕ) (temp : ℕ) (s : Store) (n : ℕ) → settled w a s ≡ Some n →
    operand_value w (written (simple_of a)) (state (with_worked a stack) temp s) ≡ Some (n, state stack temp s)
first_looked_up w (Is m) stack temp s n e = ap (λ k. Some (k, state stack temp s)) (same_some e)
first_looked_up w (Reads x) stack temp s n e = looked_up w x (state stack temp s) n e

-- All operands are read in the order of the parts, and the numbers that they pushed are taken away.
pub all_looked_up : (w : World) (all : List Worked) (stack : List ℕ) (temp : ℕ) (s : Store) (ns : List ℕ) → settled_all w all s ≡ Some ns →
    operand_values w (map written (map simple_of all)) (state (with_all_worked all stack) temp s) ≡ Some (ns, state stack temp s)
all_looked_up w [] stack temp s ns e = ap (λ k. Some (k, state stack temp s)) (same_some e)
all_looked_up w (a ∷ all) stack temp s ns e =
    let o = opened (settled w a s) (λ n. settled_all w all s then λ ns. Some (n ∷ ns)) ns e in
    let q = opened (settled_all w all s) (λ ns. Some (o.0 ∷ ns)) ns o.2 in
    ap (λ m. m then λ p. and_first p.0 (operand_values w (map written (map simple_of all)) p.1))
    (first_looked_up w a (with_all_worked all stack) temp s o.0 o.1)
    ∙ ap (and_first o.0) (all_looked_up w all stack temp s q.0 q.1)
    ∙ ap (λ k. Some (k, state stack temp s)) (same_some q.2)

-- Parts are worked out, and behind that an instruction reads them.
abbrev pub Looks : Bool → World → List Arg → List Simple → Claim
Looks keeps w args all at from to =
    (stack : List ℕ) (temp : ℕ) (s : Store) (ns : List ℕ) (t : Store) → values w args s ≡ Some (ns, t) →
    (left : ℕ)
    × Kept keeps temp left
    × (now : State)
    × (now.temp ≡ left)
    × (operand_values w (map written all) now ≡ Some (ns, state stack left t))
    × Comes w at from (state stack temp s) to now

pub looks : {keeps : Bool} (w : World) (parts : List Part) (args : List Arg) → AreParts keeps w parts args →
    Always w (evaluated parts) (Looks keeps w args (operands parts))
looks {keeps} w parts args h = so (λ at from to f stack temp s ns t e.
    let o = opened (worked_all args s) (λ p. settled_all w p.0 p.1 then λ ns. Some (ns, p.1)) (ns, t) e in
    let q = opened (settled_all w o.0.0 o.0.1) (λ ns. Some (ns, o.0.1)) (ns, t) o.2 in
    let r = f stack temp s o.0.0 o.0.1 o.1 in
    let now = state (with_all_worked o.0.0 stack) r.0 o.0.1 in
    let up = all_looked_up w o.0.0 stack r.0 o.0.1 q.0 q.1 in
    let ops = operands_are keeps w parts args h s o.0.0 o.0.1 o.1 in (
      r.0,
      r.1,
      now,
      refl,
      subst (λ l. operand_values w (map written l) now ≡ Some (ns, state stack r.0 t)) (sym ops)
          (up ∙ ap (λ x. Some (x.0, state stack r.0 x.1)) (same_some q.2)),
      r.2,
    )) (works_all {keeps = keeps} w parts args h)

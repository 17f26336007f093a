-- Assignments and steps.
use Rattle.std.proofs.Common.{arith, ◌≡◌, ◌≤◌, ℕ, List, [], ◌∷◌, ◌++◌, Option, Some, None, Bool, true, false, refl, ◌∙◌, ap, sym, subst}
use Rattle.std.proofs.lemmas.Bool.{eq-eqb}
use Rattle.std.specs.Prelude.{length, not, ◌+◌, ◌==◌, ◌||◌, if◌then◌else◌}
use Rattle.inf_settings.specs.Bounds.{Limits}
use Rattle.inf_opcode.specs.{declared.instructions.Label.Label, declared.opcodes.Opcode.Opcode}
use Rattle.inf_expressions.specs.{Trees.Leaf, declared.operators.Binary.Binary, declared.operators.Direction.Direction}
use Rattle.inf_expressions.specs.{declared.operators.Operand.Operand, declared.operators.Unary.Unary}
use Rattle.inf_output.specs.Output.{Code, nothing, ◌▸◌}
use Rattle.inf_templates.specs.Parts.{Part, call_routine, evaluated, is, load, operands, put, simple}
use Rattle.inf_templates.specs.Meaning.{Meaning, InMemory, meaning, part}
use Rattle.inf_templates.specs.Meaning as code
use Rattle.inf_interpreter.specs.Machine.{World, Store, State, Place, ◌then◌, given, with_variable}
use Rattle.inf_interpreter.specs.Claims.{Comes, Kept, state}
use Rattle.inf_meaning_laws.specs.Values.{forgotten, Width, Bytes, Words, Properties, Named, Element, Arg, Sense, Taker, answer, arg}
use Rattle.inf_meaning_laws.specs.Values.{is_own, leaf_value, nobody, number, sense}
use Rattle.inf_meaning_laws.specs.Laws.{GivesNothing, GivesValue, taken, taker}
use Rattle.inf_meaning_laws.specs.Values as values
use Rattle.inf_interpreter.proofs.Laying.{Always, so, then_}
use Rattle.inf_interpreter.proofs.Running.{comes_then, kept_here, none_some, opened, same_some}
use Rattle.inf_meaning_laws.proofs.{Groups.same_length, Supplying.supplied_means, Supplying.writes_property, Working.AreParts}
use Rattle.inf_meaning_laws.proofs.{Working.IsPart}
use Rattle.inf_meaning_laws.proofs.Instructions.{given_taken, left_as, finish, load_, step_, writes_}
use Rattle.inf_meaning_laws.proofs.Meant.{memory_of, part_of, leaf_put, leaf_alone, simple_part, valued_means, Means}

pub taken_own : (v n : ℕ) (stack : List ℕ) (left : ℕ) (s : Store) → is_own v ≡ false → taken v n stack left s ≡ state stack left s
taken_own v n stack left s e = ap (λ b. if b then given v n (state stack left s) else state stack left s) e

pub taker_own : (v : ℕ) → is_own v ≡ false → with_variable v ≡ taker v
taker_own v e = ap (λ b. if b then nobody else with_variable v) (sym e)

-- a variable that an expression may name takes the value while it is laid
pub goes_to : {keeps : Bool} (w : World) (value : Taker → Store → Option (ℕ × Store)) (v : ℕ) → is_own v ≡ false →
    (at : Label → Place) (from to : Place) → GivesValue keeps w value v at from to →
    (stack : List ℕ) (temp : ℕ) (s : Store) (n : ℕ) (t : Store) → value (with_variable v) s ≡ Some (n, t) →
    (left : ℕ) × Kept keeps temp left × Comes w at from (state stack temp s) to (state stack left t)
goes_to {keeps} w value v own at from to h stack temp s n t e =
    let r = h stack temp s n t (ap (λ take. value take s) (sym (taker_own v own)) ∙ e) in
    (r.0, r.1, subst (λ u. Comes w at from (state stack temp s) to u) (taken_own v n stack r.0 t own) r.2)

pub assigned_value : {keeps : Bool} (w : World) (limits : Limits) (v : ℕ) (own : Bool) → is_own v ≡ own → (m : Meaning) (a : Sense) →
    Means keeps w limits m a → (d : ℕ) →
    Always w (m.value v ▸ load limits v d) (GivesValue keeps w (values.assigned w (values.aim_at v own) a).value d)
assigned_value {keeps} w limits v true own m a h d =
    so (λ at from to p stack temp s n t e. none_some e) (then_ (h.value v) (load_ w limits v d))
assigned_value {keeps} w limits v false own m a h d = so (λ at from to p stack temp s n t e.
    let o = opened (a.value (with_variable v) s) (λ p. answer (taker d) (p.1.variables v) p.1) (n, t) e in
    let r = goes_to w a.value v own at from p.0 p.1 stack temp s o.0.0 o.0.1 o.1 in
    finish keeps w at from to (state stack temp s) d (o.0.1.variables v) n stack temp r.0 o.0.1 t r.1
    (comes_then r.2 (p.2 (state stack r.0 o.0.1) own)) o.2)
    (then_ (h.value v) (load_ w limits v d))

pub assigned_alone : {keeps : Bool} (w : World) (limits : Limits) (v : ℕ) (own : Bool) → is_own v ≡ own → (m : Meaning) (a : Sense) →
    Means keeps w limits m a →
    Always w (m.value v) (GivesNothing w (forgotten (values.assigned w (values.aim_at v own) a).value))
assigned_alone {keeps} w limits v true own m a h = so (λ at from to p stack temp s t e. none_some e) (h.value v)
assigned_alone {keeps} w limits v false own m a h = so (λ at from to p stack temp s t e.
    let f = opened ((values.assigned w (Named v) a).value nobody s) (λ p. Some p.1) t e in
    let o = opened (a.value (with_variable v) s) (λ p. answer nobody (p.1.variables v) p.1) f.0 f.1 in
    let r = goes_to w a.value v own at from to p stack temp s o.0.0 o.0.1 o.1 in
    (r.0, subst (λ u. Comes w at from (state stack temp s) to (state stack r.0 u)) (ap (λ x. x.1) (same_some o.2) ∙ same_some f.2) r.2))
    (h.value v)

-- Anything may be laid for an expression without a meaning.
pub silent : {keeps : Bool} (w : World) (limits : Limits) (value : Taker → Store → Option (ℕ × Store)) (c : ℕ → Code) (alone : Code) →
    ((d : ℕ) → Always w (c d) (GivesValue keeps w value d)) → Always w alone (GivesNothing w (forgotten value)) →
    Means keeps w limits (code.valued limits c alone) values.no_value
silent {keeps} w limits value c alone h k =
    valued_means w limits (λ take s. None) c alone (λ d. so (λ at from to p stack temp s n t e. none_some e) (h d))
    (so (λ at from to p stack temp s t e. none_some e) k)

pub silent_leaf : {keeps : Bool} (w : World) (limits : Limits) (x : Operand) →
    Means keeps w limits (code.valued limits (λ d. put limits (simple x) d) nothing) values.no_value
silent_leaf {keeps} w limits x =
    silent w limits (leaf_value w x) (λ d. put limits (simple x) d) nothing (leaf_put w limits x) (leaf_alone w x)

pub assigned_valued : (w : World) (v : ℕ) (own : Bool) (a : Sense) →
    values.valued (values.assigned w (values.aim_at v own) a).value ≡ values.assigned w (values.aim_at v own) a
assigned_valued w v true a = refl
assigned_valued w v false a = refl

pub silent_assigned : {keeps : Bool} (w : World) (limits : Limits) (m : Meaning) (a : Sense) → Means keeps w limits m a →
    Means keeps w limits (code.valued limits (λ d. m.value d) m.alone) values.no_value
silent_assigned {keeps} w limits m a h =
    valued_means w limits (λ take s. None) (λ d. m.value d) m.alone (λ d. so (λ at from to p stack temp s n t e. none_some e) (h.value d))
    (so (λ at from to p stack temp s t e. none_some e) h.alone)

pub assign_means : {keeps : Bool} (w : World) (limits : Limits) (x : Operand) (m : Meaning) (a : Sense) → Means keeps w limits m a →
    Means keeps w limits (code.two limits Binary.Assign (meaning limits (Leaf x)) m) (values.two w Binary.Assign (sense w (Leaf x)) a)
unfolding code.assign_value code.assign_alone
assign_means {keeps} w limits (Operand.Variable v) m a h =
    subst (λ e. Means keeps w limits (code.valued limits (λ d. m.value v ▸ load limits v d) (m.value v)) e)
    (assigned_valued w v (is_own v) a)
    (valued_means w limits (values.assigned w (values.aim_at v (is_own v)) a).value (λ d. m.value v ▸ load limits v d) (m.value v)
    (assigned_value w limits v (is_own v) refl m a h) (assigned_alone w limits v (is_own v) refl m a h))
assign_means {keeps} w limits other m a h = silent_assigned w limits m a h

-- Elements of arrays and properties of objects
pub are_joined : (keeps : Bool) (w : World) (ps : List Part) (args : List Arg) (qs : List Part) (others : List Arg) →
    AreParts keeps w ps args → AreParts keeps w qs others → AreParts keeps w (ps ++ qs) (args ++ others)
are_joined keeps w [] [] qs others h k = k
are_joined keeps w [] (b ∷ args) qs others h k = absurd h
are_joined keeps w (p ∷ ps) [] qs others h k = absurd h
are_joined keeps w (p ∷ ps) (b ∷ args) qs others h k = (h.0, are_joined keeps w ps args qs others h.1 k)

pub joined_length : (args others : List Arg) → length (args ++ others) ≡ length args + length others
joined_length [] others = omega arith
joined_length (a ∷ args) others = let e = joined_length args others in omega (arith, e)

-- the routine that assigns a value and answers it, and the one that steps it
setter_is : (width : Width) → code.setter (memory_of width) ≡ values.setter width
setter_is Bytes = refl
setter_is other = refl

stepper_is : (width : Width) → code.stepper (memory_of width) ≡ values.stepper width
stepper_is Bytes = refl
stepper_is other = refl

element_alone : (keeps : Bool) (w : World) (limits : Limits) (width : Width) (ps : List Part) (args : List Arg) →
    AreParts keeps w ps args → length ps ≤ 7 →
    Always w (evaluated ps ▸ code.stored limits (memory_of width) (operands ps)) (GivesNothing w (values.element_assigned w width args))
element_alone keeps w limits Bytes ps args h few = writes_ keeps w limits Opcode.Storeb (values.with_element w Bytes) ps args refl h
element_alone keeps w limits Words ps args h few = writes_ keeps w limits Opcode.Storew (values.with_element w Words) ps args refl h
element_alone keeps w limits Properties ps args h few = writes_property keeps w limits ps args h few

pub element_means : (keeps : Bool) (w : World) (limits : Limits) (width : Width) (args : List Arg) (n : Meaning) (b : Sense) →
    b.aim ≡ Element width args → length args ≡ 2 → (m : Meaning) (a : Sense) → Means keeps w limits n b → Means keeps w limits m a →
    Means false w limits (code.two limits Binary.Assign n m) (values.assigned w (Element width args) a)
unfolding code.assign_value code.assign_alone
element_means keeps w limits width args n b e two m a k h =
    let q = k.aims width args e in
    let ps = q.0 ++ part m ∷ [] in
    let all = args ++ arg a ∷ [] in
    let are = are_joined keeps w q.0 args (part m ∷ []) (arg a ∷ []) q.2 (part_of w limits m a h, tt) in
    let long = joined_length args (arg a ∷ []) in
    let same = same_length keeps w ps all are in
    let few : length ps ≤ 7 = omega (arith, long, same, two) in
    let alone = element_alone keeps w limits width ps all are few in
    subst (λ t. Means false w limits (code.valued limits (code.assigned_value limits t m) (code.assigned_alone limits t m))
    (values.assigned w (Element width args) a)) (sym q.1)
    (subst (λ v. Means false w limits (code.valued limits (λ d. call_routine limits v ps (Some d))
    (code.assigned_alone limits (InMemory (memory_of width) q.0) m)) (values.assigned w (Element width args) a)) (sym (setter_is width))
    (let c = supplied_means keeps w limits (values.setter width) ps all are few in
    record { operand = c.operand; first = c.first; others = c.others; value = c.value; alone = alone; aims = c.aims; branch = c.branch }))

-- the size of a step, and whether it answers the new value
by_part : {keeps : Bool} (w : World) (how : Direction) → IsPart keeps w (is (code.by how)) (number (values.step_by how))
by_part w Direction.Up = simple_part w (Operand.Known 1) (λ s. Some (1, s))
by_part w Direction.Down = simple_part w (Operand.Known 65535) (λ s. Some (65535, s))

abbrev pub new_of : Bool → ℕ
new_of true = 1
new_of false = 0

new_part : {keeps : Bool} (w : World) (before : Bool) → IsPart keeps w (is (code.leaves_new before)) (number (new_of before))
new_part w true = simple_part w (Operand.Known 1) (λ s. Some (1, s))
new_part w false = simple_part w (Operand.Known 0) (λ s. Some (0, s))

pub element_steps : (keeps : Bool) (w : World) (limits : Limits) (before : Bool) (how : Direction) (width : Width) (args : List Arg)
    (n : Meaning) (b : Sense) → b.aim ≡ Element width args → length args ≡ 2 → Means keeps w limits n b →
    Means false w limits (code.stepped limits before how n) (values.element_stepped w (new_of before) how width args)
unfolding code.step_value code.step_alone
element_steps keeps w limits before how width args n b e two k =
    let q = k.aims width args e in
    let added = is (code.by how) ∷ is (code.leaves_new before) ∷ [] in
    let others = number (values.step_by how) ∷ number (new_of before) ∷ [] in
    let ps = q.0 ++ added in
    let all = args ++ others in
    let are = are_joined keeps w q.0 args added others q.2 (by_part w how, (new_part w before, tt)) in
    let long = joined_length args others in
    let same = same_length keeps w ps all are in
    let few : length ps ≤ 7 = omega (arith, long, same, two) in
    subst (λ t. Means false w limits (code.valued limits (code.stepped_value limits before how t n)
    (code.stepped_alone limits before how t n)) (values.element_stepped w (new_of before) how width args)) (sym q.1)
    (subst (λ v. Means false w limits (code.called limits (call_routine limits v ps))
    (values.element_stepped w (new_of before) how width args)) (sym (stepper_is width))
    (supplied_means keeps w limits (values.stepper width) ps all are few))

-- Lemmas about steps
pub before_valued : (w : World) (how : Direction) (v : ℕ) (own : Bool) →
    values.valued (values.stepped_before w how (values.aim_at v own)).value ≡ values.stepped_before w how (values.aim_at v own)
before_valued w how v true = refl
before_valued w how v false = refl

pub behind_valued : (w : World) (how : Direction) (v : ℕ) (own : Bool) →
    values.valued (values.stepped_behind w how (values.aim_at v own)).value ≡ values.stepped_behind w how (values.aim_at v own)
behind_valued w how v true = refl
behind_valued w how v false = refl

pub same_number : (n : ℕ) → (n == n) ≡ true
same_number n = eq-eqb n n refl

pub stepped_is : (how : Direction) (v : ℕ) (s : Store) → (values.with_step how v s).variables v ≡ values.next how v s
stepped_is how v s = ap (λ b. if b then values.next how v s else s.variables v) (same_number v)

pub before_value : {keeps : Bool} (w : World) (limits : Limits) (how : Direction) (v : ℕ) (own : Bool) → is_own v ≡ own → (d : ℕ) →
    Always w (code.stepping limits how v ▸ load limits v d) (GivesValue keeps w (values.stepped_before w how (values.aim_at v own)).value d)
before_value {keeps} w limits how v true own d =
    so (λ at from to p stack temp s n t e. none_some e) (then_ (step_ w limits how v) (load_ w limits v d))
before_value {keeps} w limits how v false own d = so (λ at from to p stack temp s n t e.
    let u = values.with_step how v s in
    finish keeps w at from to (state stack temp s) d (u.variables v) n stack temp temp u t (kept_here keeps temp)
    (comes_then (p.1 (state stack temp s) own) (p.2 (state stack temp u) own))
    (ap (λ m. answer (taker d) m u) (stepped_is how v s) ∙ e))
    (then_ (step_ w limits how v) (load_ w limits v d))

-- a step behind the value is made on the store that has taken it
abbrev pub taken_by : Bool → Bool → ℕ → ℕ → List ℕ → ℕ → Store → State
taken_by x y d n stack left s =
    if x || y then (if x then state (n ∷ stack) left s else if y then state stack n s else state stack left (with_variable d n s))
    else state stack left s

pub step_taken_by : (x y : Bool) (how : Direction) (v : ℕ) (d n : ℕ) (stack : List ℕ) (left : ℕ) (s : Store) →
    (record (taken_by x y d n stack left s) { store = values.with_step how v (taken_by x y d n stack left s).store })
    ≡ taken_by x y d n stack left (if (x || y) || not (x || y) then values.with_step how v s else s)
step_taken_by true y how v d n stack left s = refl
step_taken_by false true how v d n stack left s = refl
step_taken_by false false how v d n stack left s = refl

pub always_left : (z : Bool) (a b : Store) → (if z || not z then a else b) ≡ a
always_left true a b = refl
always_left false a b = refl

pub step_taken : (how : Direction) (v : ℕ) (d n : ℕ) (stack : List ℕ) (left : ℕ) (s : Store) →
    (record (taken d n stack left s) { store = values.with_step how v (taken d n stack left s).store })
    ≡ taken d n stack left (values.with_step how v s)
step_taken how v d n stack left s = step_taken_by (d == 0) (d == 255) how v d n stack left s
    ∙ ap (λ t. taken d n stack left t) (always_left (is_own d) (values.with_step how v s) s)

pub behind_value : {keeps : Bool} (w : World) (limits : Limits) (how : Direction) (v : ℕ) (own : Bool) → is_own v ≡ own → (d : ℕ) →
    Always w (load limits v d ▸ code.stepping limits how v) (GivesValue keeps w (values.stepped_behind w how (values.aim_at v own)).value d)
behind_value {keeps} w limits how v true own d =
    so (λ at from to p stack temp s n t e. none_some e) (then_ (load_ w limits v d) (step_ w limits how v))
behind_value {keeps} w limits how v false own d = so (λ at from to p stack temp s n t e.
    let x = s.variables v in
    let mid = taken d x stack temp (taker d x s) in
    let c = left_as (given_taken d x stack temp s) (p.1 (state stack temp s) own) in (
      temp,
      kept_here keeps temp,
      subst (λ y. Comes w at from (state stack temp s) to (taken d y.0 stack temp y.1)) (same_some e)
          (left_as (step_taken how v d x stack temp (taker d x s)) (comes_then c (p.2 mid own))),
    ))
    (then_ (load_ w limits v d) (step_ w limits how v))

pub step_alone : (w : World) (limits : Limits) (how : Direction) (v : ℕ) (own : Bool) → is_own v ≡ own →
    Always w (code.stepping limits how v) (GivesNothing w (forgotten (values.stepped_before w how (values.aim_at v own)).value))
step_alone w limits how v true own = so (λ at from to p stack temp s t e. none_some e) (step_ w limits how v)
step_alone w limits how v false own = so (λ at from to p stack temp s t e.
    (temp, subst (λ u. Comes w at from (state stack temp s) to (state stack temp u)) (same_some e) (p (state stack temp s) own)))
    (step_ w limits how v)

pub step_alone_behind : (w : World) (limits : Limits) (how : Direction) (v : ℕ) (own : Bool) → is_own v ≡ own →
    Always w (code.stepping limits how v) (GivesNothing w (forgotten (values.stepped_behind w how (values.aim_at v own)).value))
step_alone_behind w limits how v true own = so (λ at from to p stack temp s t e. none_some e) (step_ w limits how v)
step_alone_behind w limits how v false own = so (λ at from to p stack temp s t e.
    (temp, subst (λ u. Comes w at from (state stack temp s) to (state stack temp u)) (same_some e) (p (state stack temp s) own)))
    (step_ w limits how v)

pub before_means : {keeps : Bool} (w : World) (limits : Limits) (how : Direction) (x : Operand) →
    Means keeps w limits (code.one limits (Unary.Before how) (meaning limits (Leaf x))) (values.one w (Unary.Before how) (sense w (Leaf x)))
unfolding code.step_value code.step_alone
before_means {keeps} w limits how (Operand.Variable v) =
    subst (λ e. Means keeps w limits (code.valued limits (λ d. code.stepping limits how v ▸ load limits v d)
    (code.stepping limits how v)) e)
    (before_valued w how v (is_own v))
    (valued_means w limits (values.stepped_before w how (values.aim_at v (is_own v))).value
    (λ d. code.stepping limits how v ▸ load limits v d)
    (code.stepping limits how v) (before_value w limits how v (is_own v) refl) (step_alone w limits how v (is_own v) refl))
before_means {keeps} w limits how (Operand.Known n) = silent_leaf w limits (Operand.Known n)
before_means {keeps} w limits how (Operand.Later n) = silent_leaf w limits (Operand.Later n)
before_means {keeps} w limits how (Operand.Function n) = silent_leaf w limits (Operand.Function n)
before_means {keeps} w limits how Operand.Unknown = silent_leaf w limits Operand.Unknown

pub behind_means : {keeps : Bool} (w : World) (limits : Limits) (how : Direction) (x : Operand) →
    Means keeps w limits (code.one limits (Unary.Behind how) (meaning limits (Leaf x))) (values.one w (Unary.Behind how) (sense w (Leaf x)))
unfolding code.step_value code.step_alone
behind_means {keeps} w limits how (Operand.Variable v) =
    subst (λ e. Means keeps w limits (code.valued limits (λ d. load limits v d ▸ code.stepping limits how v)
    (code.stepping limits how v)) e)
    (behind_valued w how v (is_own v))
    (valued_means w limits (values.stepped_behind w how (values.aim_at v (is_own v))).value
    (λ d. load limits v d ▸ code.stepping limits how v)
    (code.stepping limits how v) (behind_value w limits how v (is_own v) refl) (step_alone_behind w limits how v (is_own v) refl))
behind_means {keeps} w limits how (Operand.Known n) = silent_leaf w limits (Operand.Known n)
behind_means {keeps} w limits how (Operand.Later n) = silent_leaf w limits (Operand.Later n)
behind_means {keeps} w limits how (Operand.Function n) = silent_leaf w limits (Operand.Function n)
behind_means {keeps} w limits how Operand.Unknown = silent_leaf w limits Operand.Unknown

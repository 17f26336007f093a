-- Values, conditions and leaves: their code does in each use what they mean.
use Rattle.std.proofs.Common.{◌≡◌, ℕ, List, [], ◌∷◌, Option, Some, None, Bool, true, false, refl, ap, subst, not, ◌==◌, if◌then◌else◌}
use Rattle.inf_settings.specs.Bounds.{Limits}
use Rattle.inf_opcode.specs.{declared.instructions.Label.Label, declared.opcodes.Opcode.Opcode}
use Rattle.inf_expressions.specs.{Numbers.same, Trees.Leaf, declared.operators.Binary.Binary, declared.operators.Operand.Operand}
use Rattle.inf_expressions.specs.{declared.operators.Operation.Operation}
use Rattle.inf_output.specs.{Output.Code, Output.nothing, declared.operands.Simple.Simple}
use Rattle.inf_templates.specs.{Meaning.InMemory, Meaning.Meaning, Meaning.meaning, Meaning.part, declared.tasks.Memory.Memory}
use Rattle.inf_templates.specs.Parts.{Part, SP, TEMP, is, jump_zero, put, simple, worked}
use Rattle.inf_templates.specs.Meaning as code
use Rattle.inf_interpreter.specs.Machine.{World, Store, State, Computes, ◌then◌, action_of}
use Rattle.inf_interpreter.specs.Claims.{Comes, state}
use Rattle.inf_meaning_laws.specs.Values.{forgotten, Width, Bytes, Words, Properties, Aim, Nowhere, Named, Element, Arg, Sense, Taker}
use Rattle.inf_meaning_laws.specs.Values.{answer, arg, is_not_zero, is_own, leaf_value, nobody, read, sense}
use Rattle.inf_meaning_laws.specs.Laws.{Branches, GivesNothing, GivesValue, taker}
use Rattle.inf_meaning_laws.specs.Values as values
use Rattle.inf_interpreter.proofs.Laying.{Always, jumped_, nothing_, so}
use Rattle.inf_interpreter.proofs.Running.{here, kept_here, none_some, opened, same_some}
use Rattle.inf_meaning_laws.proofs.Working.{AreParts, IsPart, leaf_simple, looked_up}
use Rattle.inf_meaning_laws.proofs.Instructions.{computed_of, computes_, finish, jump_comes, jump_zero_, moved, put_, truth_, truth_value}
use Rattle.inf_meaning_laws.proofs.Instructions.{without, zero_tested}

abbrev pub memory_of : Width → Memory
memory_of Bytes = Memory.Byte
memory_of Words = Memory.Word
memory_of Properties = Memory.Property

-- The claims about the code and the meaning of a tree together, use by use.
pub record Means (keeps : Bool) (w : World) (limits : Limits) (m : Meaning) (e : Sense) : Type 0 where
  pub operand : m.operand ≡ leaf_simple e.leaf
  pub first : IsPart keeps w m.first e.first
  pub others : AreParts keeps w m.others e.others
  pub value : (d : ℕ) → Always w (m.value d) (GivesValue keeps w e.value d)
  pub alone : Always w m.alone (GivesNothing w e.alone)
  pub aims : (width : Width) (args : List Arg) → e.aim ≡ Element width args →
      (ps : List Part) × (m.target ≡ InMemory (memory_of width) ps) × AreParts keeps w ps args
  pub branch : (sense : Bool) (label : Label) → Always w (m.branch sense label) (Branches keeps w e.truth sense label)

pub no_leaf : {A : Type 0} {B : Type 0} {a : A} → Some a ≡ None → B
no_leaf e = absurd (cc e)

pub part_of : {keeps : Bool} (w : World) (limits : Limits) (m : Meaning) (e : Sense) → Means keeps w limits m e →
    IsPart keeps w (part m) (arg e)
part_of {keeps} w limits m e h = record { operand = h.operand; pushes = λ _. h.value SP }

pub simple_part : {keeps : Bool} (w : World) (x : Operand) (value : Store → Option (ℕ × Store)) →
    IsPart keeps w (is (simple x)) (record { leaf = Some x; value = value })
simple_part {keeps} w x value = record { operand = refl; pushes = no_leaf }

-- Leaves: a branch on a number that is known is a jump or nothing

pub jumped_by : (w : World) (limits : Limits) (b : Bool) (label : Label) →
    Always w (code.jump_if limits b label) (λ at from to. (s : State) → Comes w at from s (if b then at label else to) s)
jumped_by w limits true label = so (λ at from to place s. jump_comes w at label from to s place) (jumped_ limits label)
jumped_by w limits false label = so (λ at from to e s. moved e (here w at from s)) nothing_

pub truth_of_sense : (sense b : Bool) → (if sense then b else not b) ≡ same b sense
truth_of_sense true true = refl
truth_of_sense true false = refl
truth_of_sense false true = refl
truth_of_sense false false = refl

pub tested_leaf : {keeps : Bool} (w : World) (limits : Limits) (x : Operand) (sense : Bool) (label : Label) →
    Always w (jump_zero limits (simple x) sense label) (Branches keeps w (λ s. is_not_zero (leaf_value w x nobody s)) sense label)
tested_leaf {keeps} w limits x sense label = so (λ at from to h stack temp s b t e.
    let o = opened (leaf_value w x nobody s) (λ p. Some (not (p.0 == 0), p.1)) (b, t) e in
    let q = opened (read w x s) (λ n. answer nobody n s) o.0 o.1 in
    let c = h (state stack temp s) q.0 (state stack temp s) (looked_up w x (state stack temp s) q.0 q.1) in (
      temp,
      kept_here keeps temp,
      subst (λ y. Comes w at from (state stack temp s) (if same y.0 sense then at label else to) (state stack temp y.1)) (same_some o.2)
          (subst (λ y. Comes w at from (state stack temp s) (if same (not (y.0 == 0)) sense then at label else to) (state stack temp y.1))
          (same_some q.2) c),
    )) (jump_zero_ w limits (simple x) sense label)

pub known_leaf : {keeps : Bool} (w : World) (limits : Limits) (x : Operand) (n : ℕ) → ((s : Store) (m : ℕ) → read w x s ≡ Some m → n ≡ m) →
    (sense : Bool) (label : Label) →
    Always w (code.leaf_branch limits (Simple.Known n) sense label)
    (Branches keeps w (λ s. is_not_zero (leaf_value w x nobody s)) sense label)
known_leaf {keeps} w limits x n is_n sense label = so (λ at from to h stack temp s b t e.
    let o = opened (leaf_value w x nobody s) (λ p. Some (not (p.0 == 0), p.1)) (b, t) e in
    let q = opened (read w x s) (λ n. answer nobody n s) o.0 o.1 in
    let c = moved (ap (λ b. if b then at label else to) (truth_of_sense sense (not (n == 0)))) (h (state stack temp s)) in
    let c' = moved (ap (λ m. if same (not (m == 0)) sense then at label else to) (is_n s q.0 q.1)) c in (
      temp,
      kept_here keeps temp,
      subst (λ y. Comes w at from (state stack temp s) (if same y.0 sense then at label else to) (state stack temp y.1)) (same_some o.2)
          (subst (λ y. Comes w at from (state stack temp s) (if same (not (y.0 == 0)) sense then at label else to) (state stack temp y.1))
          (same_some q.2) c'),
    ))
    (jumped_by w limits (if sense then code.is_true n else not (code.is_true n)) label)

pub leaf_branches : {keeps : Bool} (w : World) (limits : Limits) (x : Operand) (sense : Bool) (label : Label) →
    Always w (code.leaf_branch limits (simple x) sense label) (Branches keeps w (λ s. is_not_zero (leaf_value w x nobody s)) sense label)
leaf_branches {keeps} w limits (Operand.Known n) sense label =
    known_leaf {keeps = keeps} w limits (Operand.Known n) n (λ s m e. same_some e) sense label
leaf_branches {keeps} w limits (Operand.Variable v) sense label = tested_leaf {keeps = keeps} w limits (Operand.Variable v) sense label
leaf_branches {keeps} w limits (Operand.Later t) sense label = tested_leaf {keeps = keeps} w limits (Operand.Later t) sense label
leaf_branches {keeps} w limits (Operand.Function f) sense label =
    known_leaf {keeps = keeps} w limits (Operand.Function f) 0 (λ s m e. none_some e) sense label
leaf_branches {keeps} w limits Operand.Unknown sense label =
    known_leaf {keeps = keeps} w limits Operand.Unknown 0 (λ s m e. none_some e) sense label

pub leaf_put : {keeps : Bool} (w : World) (limits : Limits) (x : Operand) (d : ℕ) →
    Always w (put limits (simple x) d) (GivesValue keeps w (leaf_value w x) d)
leaf_put {keeps} w limits x d = so (λ at from to h stack temp s n t e.
    let q = opened (read w x s) (λ n. answer (taker d) n s) (n, t) e in
    finish keeps w at from to (state stack temp s) d q.0 n stack temp temp s t (kept_here keeps temp)
    (h (state stack temp s) q.0 (looked_up w x (state stack temp s) q.0 q.1)) q.2)
    (put_ w limits (simple x) d)

pub leaf_alone : (w : World) (x : Operand) → Always w nothing (GivesNothing w (forgotten (leaf_value w x)))
leaf_alone w x = so (λ at from to place stack temp s t e.
    let o = opened (leaf_value w x nobody s) (λ p. Some p.1) t e in
    let q = opened (read w x s) (λ n. answer nobody n s) o.0 o.1 in (
      temp,
      subst (λ u. Comes w at from (state stack temp s) to (state stack temp u)) (same_some o.2)
          (subst (λ y. Comes w at from (state stack temp s) to (state stack temp y.1)) (same_some q.2)
          (moved place (here w at from (state stack temp s)))),
    )) nothing_

pub no_element : {B : Type 0} {width : Width} {args : List Arg} → Nowhere ≡ Element width args → B
no_element e = absurd (cc e)

pub no_element_by : {B : Type 0} {width : Width} {args : List Arg} (v : ℕ) (own : Bool) → values.aim_at v own ≡ Element width args → B
no_element_by v true e = absurd (cc e)
no_element_by v false e = absurd (cc e)

pub leaf_no_element : {B : Type 0} {width : Width} {args : List Arg} (x : Operand) → values.leaf_aim x ≡ Element width args → B
leaf_no_element (Operand.Variable v) e = no_element_by v (is_own v) e
leaf_no_element other e = no_element e

pub leaf_means : {keeps : Bool} (w : World) (limits : Limits) (x : Operand) →
    Means keeps w limits (meaning limits (Leaf x)) (sense w (Leaf x))
leaf_means {keeps} w limits x = record {
  operand = refl;
  first = record { operand = refl; pushes = no_leaf };
  others = tt;
  value = leaf_put {keeps = keeps} w limits x;
  alone = leaf_alone w x;
  aims = λ width args e. leaf_no_element x e;
  branch = leaf_branches {keeps = keeps} w limits x;
}

-- Values, by their code into a variable and their code as a statement
pub valued_means : {keeps : Bool} (w : World) (limits : Limits) (value : Taker → Store → Option (ℕ × Store)) (c : ℕ → Code) (alone : Code) →
    ((d : ℕ) → Always w (c d) (GivesValue keeps w value d)) → Always w alone (GivesNothing w (forgotten value)) →
    Means keeps w limits (code.valued limits c alone) (values.valued value)
valued_means {keeps} w limits value c alone h k = record {
  operand = refl;
  first = record { operand = refl; pushes = λ _. h SP };
  others = tt;
  value = h;
  alone = k;
  aims = λ width args e. no_element e;
  branch = λ sense label. zero_tested w limits value (c SP) (h SP) sense label;
}

-- as a statement the value is stored in variable 255
pub stored_means : {keeps : Bool} (w : World) (limits : Limits) (value : Taker → Store → Option (ℕ × Store)) (c : ℕ → Code) →
    ((d : ℕ) → Always w (c d) (GivesValue keeps w value d)) → Means keeps w limits (code.valued limits c (c TEMP)) (values.valued value)
stored_means {keeps} w limits value c h = valued_means w limits value c (c TEMP) h (so (without w value) (h TEMP))

pub condition_means : {keeps : Bool} (w : World) (limits : Limits) (holds : Store → Option (Bool × Store)) (branch : Bool → Label → Code) →
    ((sense : Bool) (label : Label) → Always w (branch sense label) (Branches keeps w holds sense label)) →
    Means keeps w limits (code.condition limits branch) (values.condition holds)
condition_means {keeps} w limits holds branch h = record {
  operand = refl;
  first = record { operand = refl; pushes = λ _. truth_ w limits holds branch h SP };
  others = tt;
  value = truth_ w limits holds branch h;
  alone = so (without w (truth_value holds)) (truth_ w limits holds branch h TEMP);
  aims = λ width args e. no_element e;
  branch = h;
}

pub computed_means : {keeps : Bool} (w : World) (limits : Limits) (op : Opcode) (f : Store → List ℕ → Option ℕ) (ps : List Part)
    (args : List Arg) →
    action_of w op ≡ Computes f → AreParts keeps w ps args → Means keeps w limits (code.computed limits op ps) (values.computed w f args)
computed_means {keeps} w limits op f ps args act h =
    stored_means w limits (computed_of w f args) (λ d. worked limits op ps (Some d) None) (computes_ w limits op f ps args act h)

pub operation_acts : (w : World) (o : Operation) → action_of w (code.operation_opcode o) ≡ Computes (values.operation_of o)
operation_acts w Operation.Add = refl
operation_acts w other = refl

abbrev pub width_of : Aim → Width
width_of Nowhere = Bytes
width_of (Named v) = Bytes
width_of (Element width args) = width

abbrev pub args_of : Aim → List Arg
args_of Nowhere = []
args_of (Named v) = []
args_of (Element width args) = args

pub element_parts : {keeps : Bool} (w : World) (o : Operation) (ps : List Part) (args : List Arg) → AreParts keeps w ps args →
    (width : Width) (given_args : List Arg) →
    values.element_of o args ≡ Element width given_args →
    (qs : List Part) × (code.operation_target o ps ≡ InMemory (memory_of width) qs) × AreParts keeps w qs given_args
element_parts {keeps} w Operation.Byte ps args h width given_args e =
    (ps, ap (λ a. InMemory (memory_of (width_of a)) ps) e, subst (λ l. AreParts keeps w ps l) (ap args_of e) h)
element_parts {keeps} w Operation.Word ps args h width given_args e =
    (ps, ap (λ a. InMemory (memory_of (width_of a)) ps) e, subst (λ l. AreParts keeps w ps l) (ap args_of e) h)
element_parts {keeps} w other ps args h width given_args e = no_element e

pub operation_means : {keeps : Bool} (w : World) (limits : Limits) (o : Operation) (m n : Meaning) (a b : Sense) →
    Means keeps w limits m a → Means keeps w limits n b →
    Means keeps w limits (code.two limits (Binary.Operation o) m n) (values.two w (Binary.Operation o) a b)
operation_means {keeps} w limits o m n a b h k =
    let ps = part m ∷ part n ∷ [] in
    let args = arg a ∷ arg b ∷ [] in
    let are : AreParts keeps w ps args = (part_of w limits m a h, (part_of w limits n b k, tt)) in
    let c = computed_means w limits (code.operation_opcode o) (values.operation_of o) ps args (operation_acts w o) are in
    record {
      operand = c.operand;
      first = c.first;
      others = c.others;
      value = c.value;
      alone = c.alone;
      aims = λ width l e. element_parts w o ps args are width l e;
      branch = c.branch;
    }

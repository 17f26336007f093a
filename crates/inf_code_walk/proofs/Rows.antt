-- The code of expressions is made of pieces: a lemma for each row of `Meaning`.
use Rattle.std.specs.Prelude.{if◌then◌else◌, length, nat_lt, not, take, ◌+◌, ◌==◌, ◌⊎◌}
use Rattle.std.proofs.lemmas.Bool.{cases_eq, eq-eqb, ne_eqb}
use Rattle.std.proofs.Common.{Bool, List, None, Option, Some, [], ap, arith, false, inl, inr, refl, subst, suc, sym, true, zero, ℕ, ◌++◌}
use Rattle.std.proofs.Common.{◌∙◌, ◌∷◌, ◌≡◌, ◌≤◌}
use Rattle.inf_area.specs.declared.targets.Target.{Target}
use Rattle.inf_expressions.specs.{Trees.Leaf, Trees.One, Trees.Tree, Trees.Two, declared.operators.Binary.Binary}
use Rattle.inf_expressions.specs.{declared.operators.Direction.Direction, declared.operators.Operand.Operand}
use Rattle.inf_expressions.specs.{declared.operators.Operation.Operation, declared.operators.PropertyPart.PropertyPart}
use Rattle.inf_expressions.specs.{declared.operators.Test.Test, declared.operators.Unary.Unary}
use Rattle.inf_settings.specs.Bounds.{Limits}
use Rattle.inf_opcode.specs.{declared.instructions.Branch.Branch, declared.instructions.Label.Label, declared.opcodes.Opcode.Opcode}
use Rattle.inf_output.specs.{declared.operands.Simple.Simple, declared.veneer.Veneer.Veneer}
use Rattle.inf_output.specs.Output.{Code, instruction, naming, to, ◌▸◌}
use Rattle.inf_templates.specs.declared.tasks.Memory.{Memory}
use Rattle.inf_templates.specs.Meaning.{InMemory, InVariable, Meaning, Nowhere, Target as Goal, part, parts}
use Rattle.inf_templates.specs.Parts.{Part, SP, TEMP, call, call_opcode, call_routine, calling, evaluated, evaluated_by, is, jump_zero}
use Rattle.inf_templates.specs.Parts.{load, operand_by, operand_of, operands, put, simple, worked}
use Rattle.inf_code_walk.specs.Made.{AllMeet, As, Asks, Handed, Instructs, IsAmong, Jumps, LeafMeets, Made, Marks, MaybeMeets, Meets, Names}
use Rattle.inf_code_walk.specs.Made.{Nothing, Then, TreeMade, TreeMeets, TreesAreMade, TreesMeet, Wide, branch_labels, leaf_targets, times}
use Rattle.inf_code_walk.specs.Made.{tree_targets}
use Rattle.inf_templates.specs.Meaning as code

-- Numbers in lists, and pieces of code put together

pub times_joined : (n : ℕ) (a b : List ℕ) → times n (a ++ b) ≡ times n a + times n b
times_joined n [] b = omega arith
times_joined n (m ∷ a) b = go (if n == m then 1 else 0) (times_joined n a b)
  where
    go : (x : ℕ) → times n (a ++ b) ≡ times n a + times n b → x + times n (a ++ b) ≡ (x + times n a) + times n b
    go x e = omega (arith, e)

pub times_first : (n : ℕ) (ms : List ℕ) → times n (n ∷ ms) ≡ suc (times n ms)
times_first n ms =
    let e : 1 + times n ms ≡ suc (times n ms) = omega arith in ap (λ b. (if b then 1 else 0) + times n ms) (eq-eqb n n refl) ∙ e

pub times_other : (n m : ℕ) (ms : List ℕ) → (n ≡ m → ⊥) → times n (m ∷ ms) ≡ times n ms
times_other n m ms h =
    let e : 0 + times n ms ≡ times n ms = omega arith in ap (λ b. (if b then 1 else 0) + times n ms) (ne_eqb n m h) ∙ e

pub has_first : (l : ℕ) (needs : List ℕ) → 1 ≤ times l (l ∷ needs)
has_first l needs = let e = times_first l needs in omega (arith, e)

pub has_later : (l m : ℕ) (needs : List ℕ) → 1 ≤ times l needs → 1 ≤ times l (m ∷ needs)
has_later l m needs h = go (if l == m then 1 else 0)
  where
    go : (x : ℕ) → 1 ≤ x + times l needs
    go x = omega (arith, h)

-- a number of a list of one is that one, which is among others
pub one_needed : (needs : List ℕ) (l n : ℕ) → 1 ≤ times l needs → 1 ≤ times n (l ∷ []) → 1 ≤ times n needs
one_needed needs l n has h = go (cases_eq n l)
  where
    go : (n ≡ l) ⊎ (n ≡ l → ⊥) → 1 ≤ times n needs
    go (inl same) = subst (λ k. 1 ≤ times k needs) (sym same) has
    go (inr other) = let e = times_other n l [] other in absurd (omega (arith, e, h))

pub two_needed : (needs : List ℕ) (l m n : ℕ) → 1 ≤ times l needs → 1 ≤ times m needs → 1 ≤ times n (l ∷ m ∷ []) → 1 ≤ times n needs
two_needed needs l m n has also h = go (cases_eq n l)
  where
    go : (n ≡ l) ⊎ (n ≡ l → ⊥) → 1 ≤ times n needs
    go (inl same) = subst (λ k. 1 ≤ times k needs) (sym same) has
    go (inr other) = let e = times_other n l (m ∷ []) other in one_needed needs m n also (omega (arith, e, h))

-- two numbers in the other order
pub turned_times : (n a b : ℕ) → times n (a ∷ b ∷ []) ≡ times n (b ∷ a ∷ [])
turned_times n a b = go (if n == a then 1 else 0) (if n == b then 1 else 0)
  where
    go : (x y : ℕ) → x + (y + 0) ≡ y + (x + 0)
    go x y = omega arith

-- Pieces of code

-- code that needs no label; one label, which is among others; and two such labels
pub free : {limits : Limits} {L : Target → Type 0} {c : Code} {needs given : List ℕ} → Made limits L c [] given →
    Made limits L c needs given
free m = Wide (λ n h. absurd (omega (arith, h))) m

pub at_one : {limits : Limits} {L : Target → Type 0} {c : Code} {l : ℕ} {needs given : List ℕ} → 1 ≤ times l needs
    → Made limits L c (l ∷ []) given → Made limits L c needs given
at_one {limits} {L} {c} {l} {needs} {given} has m = Wide (λ n h. one_needed needs l n has h) m

pub at_two : {limits : Limits} {L : Target → Type 0} {c : Code} {l m : ℕ} {needs given : List ℕ} → 1 ≤ times l needs → 1 ≤ times m needs
    → Made limits L c (l ∷ m ∷ []) given → Made limits L c needs given
at_two {limits} {L} {c} {l} {m} {needs} {given} has also f = Wide (λ n h. two_needed needs l m n has also h) f

-- code that needs the first of two labels, or the second
pub at_first : {limits : Limits} {L : Target → Type 0} {c : Code} {l m : ℕ} {given : List ℕ} → Made limits L c (l ∷ []) given
    → Made limits L c (l ∷ m ∷ []) given
at_first {limits} {L} {c} {l} {m} {given} f = at_one (has_first l (m ∷ [])) f

pub at_second : {limits : Limits} {L : Target → Type 0} {c : Code} {l m : ℕ} {given : List ℕ} → Made limits L c (m ∷ []) given
    → Made limits L c (l ∷ m ∷ []) given
at_second {limits} {L} {c} {l} {m} {given} f = at_one (has_later m l (m ∷ []) (has_first m [])) f

-- code that is given no label, and code that needs none either, with other code behind it
pub behind : {limits : Limits} {L : Target → Type 0} {c d : Code} {needs b : List ℕ} → Made limits L c needs [] → Made limits L d needs b
    → Made limits L (c ▸ d) needs b
behind f g = Then {a = []} f g

pub before : {limits : Limits} {L : Target → Type 0} {c d : Code} {needs b : List ℕ} → Made limits L c [] [] → Made limits L d needs b
    → Made limits L (c ▸ d) needs b
before f g = behind (free f) g

-- one of two pieces, by a test
pub either_made : {limits : Limits} {L : Target → Type 0} {c d : Code} {needs given : List ℕ} (b : Bool) → Made limits L c needs given
    → Made limits L d needs given → Made limits L (if b then c else d) needs given
either_made true f g = f
either_made false f g = g

-- two labels that are given in the other order
pub turned : {limits : Limits} {L : Target → Type 0} {c : Code} {needs : List ℕ} (a b : ℕ) → Made limits L c needs (a ∷ b ∷ [])
    → Made limits L c needs (b ∷ a ∷ [])
turned a b f = As (λ n. turned_times n a b) f

-- Rows

module _ (limits : Limits) (L : Target → Type 0) where
  abbrev pub Built : Code → List ℕ → List ℕ → Type 0
  Built = Made limits L

  -- Lemmas about parts, meanings and goals of assignments
  pub record PartMade (p : Part) : Type 0 where
    pub operand : MaybeMeets L p.operand
    pub value : (d : ℕ) → Built (p.value d) [] []

  abbrev pub PartsMade : List Part → Type 0
  PartsMade [] = Unit {0}
  PartsMade (p ∷ ps) = PartMade p × PartsMade ps

  abbrev pub GoalMade : Goal → Type 0
  GoalMade (InMemory m ps) = PartsMade ps
  GoalMade _ = Unit {0}

  pub record MeaningMade (m : Meaning) : Type 0 where
    pub operand : MaybeMeets L m.operand
    pub target : GoalMade m.target
    pub first : PartMade m.first
    pub others : PartsMade m.others
    pub value : (d : ℕ) → Built (m.value d) [] []
    pub alone : Built m.alone [] []
    pub branch : (sense : Bool) (label : Label) → Built (m.branch sense label) (label.number ∷ []) []

  pub is_made : (x : Simple) → Meets L x → PartMade (is x)
  is_made x h = record { operand = h; value = λ d. Nothing }

  pub part_made : (m : Meaning) → MeaningMade m → PartMade (part m)
  part_made m h = record { operand = h.operand; value = h.value }

  joined : (ps qs : List Part) → PartsMade ps → PartsMade qs → PartsMade (ps ++ qs)
  joined [] qs h k = k
  joined (p ∷ ps) qs h k = (h.0, joined ps qs h.1 k)

  pub operand_meets : (x : Option Simple) → MaybeMeets L x → Meets L (operand_by x)
  operand_meets None h = tt
  operand_meets (Some s) h = h

  meet : (ps : List Part) → PartsMade ps → AllMeet L (operands ps)
  meet [] h = tt
  meet (p ∷ ps) h = (operand_meets p.operand h.0.operand, meet ps h.1)

  take_meet : (n : ℕ) (all : List Simple) → AllMeet L all → AllMeet L (take n all)
  take_meet zero all h = tt
  take_meet (suc n) [] h = tt
  take_meet (suc n) (s ∷ all) h = (h.0, take_meet n all h.1)

  one_evaluated : (o : Option Simple) (c : Code) → Built c [] [] → Built (evaluated_by o c) [] []
  one_evaluated None c h = h
  one_evaluated (Some x) c h = Nothing

  evaluates : (ps : List Part) → PartsMade ps → Built (evaluated ps) [] []
  evaluates [] h = Nothing
  evaluates (p ∷ ps) h = before (evaluates ps h.1) (one_evaluated p.operand (p.value SP) (h.0.value SP))

  pub worked_made : (op : Opcode) (ps : List Part) → PartsMade ps → (store : Option ℕ) (branch : Option Branch)
      → Built (worked limits op ps store branch) (branch_labels branch) []
  worked_made op ps h store branch = before (evaluates ps h) (Instructs op (operands ps) store branch (meet ps h))

  put_by : (x : Simple) (d : ℕ) (b : Bool) → Meets L x
      → Built (if b then instruction limits Opcode.Push (x ∷ []) None None else naming limits Opcode.Store d (x ∷ []) None None) [] []
  put_by x d true h = Instructs Opcode.Push (x ∷ []) None None (h, tt)
  put_by x d false h = Names Opcode.Store d (x ∷ []) None None (h, tt)

  puts : (x : Simple) → Meets L x → (d : ℕ) → Built (put limits x d) [] []
  puts x h d = put_by x d (d == SP) h

  loads : (v d : ℕ) → Built (load limits v d) [] []
  loads v d = Names Opcode.Load v [] (Some d) None tt

  zero_jumps : (x : Simple) → Meets L x → (sense : Bool) (label : Label) → Built (jump_zero limits x sense label) (label.number ∷ []) []
  zero_jumps x h sense label = Instructs Opcode.Jz (x ∷ []) None (to (not sense) label) (h, tt)

  given_calls : (r : Simple) (all : List Simple) (store : Option ℕ) → Meets L r → AllMeet L all → Built (calling limits r all store) [] []
  unfolding calling
  given_calls r all store h k = Instructs (call_opcode store (length (take 7 all))) (r ∷ take 7 all) store None (h, take_meet 7 all k)

  pub call_made : (f : Part) (ps : List Part) → PartMade f → PartsMade ps → (store : Option ℕ) → Built (call limits f ps store) [] []
  call_made f ps h k store =
      before (evaluates (f ∷ ps) (h, k)) (given_calls (operand_of f) (operands ps) store (operand_meets f.operand h.operand) (meet ps k))

  pub ask_made : (v : Veneer) (ps : List Part) → PartsMade ps → (store : Option ℕ) → Built (call_routine limits v ps store) [] []
  ask_made v ps h store = before (evaluates ps h) (Asks v (operands ps) store (meet ps h))

  -- Lemmas about values and conditions

  valued : (value : ℕ → Code) (alone : Code) → ((d : ℕ) → Built (value d) [] []) → Built alone [] [] →
      MeaningMade (code.valued limits value alone)
  valued value alone h k = record {
    operand = tt;
    target = tt;
    first = record { operand = tt; value = h };
    others = tt;
    value = h;
    alone = k;
    branch = λ sense label. before (h SP) (zero_jumps (Simple.Variable SP) tt sense label);
  }

  called : (c : Option ℕ → Code) → ((store : Option ℕ) → Built (c store) [] []) → MeaningMade (code.called limits c)
  called c h = valued (λ d. c (Some d)) (c None) (λ d. h (Some d)) (h None)

  truth : (branch : Bool → Label → Code) → ((sense : Bool) (label : Label) → Built (branch sense label) (label.number ∷ []) []) → (d : ℕ)
      → Built (code.truth limits branch d) [] []
  truth branch h d = Handed λ fails. Handed λ last. turned fails.number last.number (behind (at_second (h false fails))
      (before (puts (Simple.Known 1) tt d)
      (behind (at_first (Jumps last))
      (Then {a = fails.number ∷ []} {b = last.number ∷ []} (Marks fails) (before (puts (Simple.Known 0) tt d) (Marks last))))))

  condition : (branch : Bool → Label → Code) → ((sense : Bool) (label : Label) → Built (branch sense label) (label.number ∷ []) [])
      → MeaningMade (code.condition limits branch)
  condition branch h = record {
    operand = tt;
    target = tt;
    first = record { operand = tt; value = truth branch h };
    others = tt;
    value = truth branch h;
    alone = truth branch h TEMP;
    branch = h;
  }

  computed : (op : Opcode) (ps : List Part) → PartsMade ps → MeaningMade (code.computed limits op ps)
  computed op ps h =
      valued (λ d. worked limits op ps (Some d) None) (worked limits op ps (Some TEMP) None) (λ d. worked_made op ps h (Some d) None)
      (worked_made op ps h (Some TEMP) None)

  -- Lemmas about leaves

  jumped_if : (b : Bool) (label : Label) → Built (code.jump_if limits b label) (label.number ∷ []) []
  jumped_if true label = Jumps label
  jumped_if false label = Nothing

  leaf_branch : (x : Simple) → Meets L x → (sense : Bool) (label : Label) →
      Built (code.leaf_branch limits x sense label) (label.number ∷ []) []
  leaf_branch (Simple.Known n) h sense label = jumped_if (if sense then code.is_true n else not (code.is_true n)) label
  leaf_branch (Simple.Variable v) h sense label = zero_jumps (Simple.Variable v) tt sense label
  leaf_branch (Simple.Later t) h sense label = zero_jumps (Simple.Later t) h sense label

  leaf_target : (x : Simple) → GoalMade (code.leaf_target x)
  leaf_target (Simple.Known n) = tt
  leaf_target s = tt

  leaf : (x : Simple) → Meets L x → MeaningMade (code.leaf limits x)
  leaf x h = record {
    operand = h;
    target = leaf_target x;
    first = record { operand = h; value = puts x h };
    others = tt;
    value = puts x h;
    alone = Nothing;
    branch = leaf_branch x h;
  }

  -- Lemmas about assignments and steps

  stored : (m : Memory) (all : List Simple) → AllMeet L all → Built (code.stored limits m all) [] []
  stored Memory.Byte all h = Instructs Opcode.Storeb all None None h
  stored Memory.Word all h = Instructs Opcode.Storew all None None h
  stored Memory.Property all h = Asks Veneer.WriteProperty all None h

  with_value : (ps : List Part) (a : Meaning) → PartsMade ps → MeaningMade a → PartsMade (ps ++ part a ∷ [])
  with_value ps a k h = joined ps (part a ∷ []) k (part_made a h, tt)

  assigned_value : (t : Goal) → GoalMade t → (a : Meaning) → MeaningMade a → (d : ℕ) → Built (code.assigned_value limits t a d) [] []
  assigned_value Nowhere k a h d = h.value d
  assigned_value (InVariable v) k a h d = before (h.value v) (loads v d)
  assigned_value (InMemory m ps) k a h d = ask_made (code.setter m) (ps ++ part a ∷ []) (with_value ps a k h) (Some d)

  assigned_alone : (t : Goal) → GoalMade t → (a : Meaning) → MeaningMade a → Built (code.assigned_alone limits t a) [] []
  assigned_alone Nowhere k a h = h.alone
  assigned_alone (InVariable v) k a h = h.value v
  assigned_alone (InMemory m ps) k a h =
      let all = with_value ps a k h in
      before (evaluates (ps ++ part a ∷ []) all) (stored m (operands (ps ++ part a ∷ [])) (meet (ps ++ part a ∷ []) all))

  assigns : (v a : Meaning) → MeaningMade v → MeaningMade a → MeaningMade (code.two limits Binary.Assign v a)
  unfolding code.assign_value code.assign_alone
  assigns v a h k =
      valued (code.assigned_value limits v.target a) (code.assigned_alone limits v.target a) (assigned_value v.target h.target a k)
      (assigned_alone v.target h.target a k)

  stepping : (how : Direction) (v : ℕ) → Built (code.stepping limits how v) [] []
  stepping Direction.Up v = Names Opcode.Inc v [] None None tt
  stepping Direction.Down v = Names Opcode.Dec v [] None None tt

  by_meets : (how : Direction) → Meets L (code.by how)
  by_meets Direction.Up = tt
  by_meets Direction.Down = tt

  new_meets : (is_before : Bool) → Meets L (code.leaves_new is_before)
  new_meets true = tt
  new_meets false = tt

  in_memory : (is_before : Bool) (how : Direction) (m : Memory) (ps : List Part) → PartsMade ps → (store : Option ℕ)
      → Built (code.step_in_memory limits is_before how m ps store) [] []
  in_memory is_before how m ps k store =
      let more = is (code.by how) ∷ is (code.leaves_new is_before) ∷ [] in
      ask_made (code.stepper m) (ps ++ more)
      (joined ps more k (is_made (code.by how) (by_meets how), (is_made (code.leaves_new is_before) (new_meets is_before), tt))) store

  stepped_value : (is_before : Bool) (how : Direction) (t : Goal) → GoalMade t → (a : Meaning) → MeaningMade a → (d : ℕ)
      → Built (code.stepped_value limits is_before how t a d) [] []
  stepped_value is_before how Nowhere k a h d = h.value d
  stepped_value true how (InVariable v) k a h d = before (stepping how v) (loads v d)
  stepped_value false how (InVariable v) k a h d = before (loads v d) (stepping how v)
  stepped_value is_before how (InMemory m ps) k a h d = in_memory is_before how m ps k (Some d)

  stepped_alone : (is_before : Bool) (how : Direction) (t : Goal) → GoalMade t → (a : Meaning) → MeaningMade a
      → Built (code.stepped_alone limits is_before how t a) [] []
  stepped_alone is_before how Nowhere k a h = h.alone
  stepped_alone is_before how (InVariable v) k a h = stepping how v
  stepped_alone is_before how (InMemory m ps) k a h = in_memory is_before how m ps k None

  steps : (is_before : Bool) (how : Direction) (a : Meaning) → MeaningMade a → MeaningMade (code.stepped limits is_before how a)
  unfolding code.step_value code.step_alone
  steps is_before how a h = valued (code.stepped_value limits is_before how a.target a) (code.stepped_alone limits is_before how a.target a)
      (stepped_value is_before how a.target h.target a h) (stepped_alone is_before how a.target h.target a h)

  -- Lemmas about calls, and objects that an instruction finds

  called_by : (t : Goal) → GoalMade t → (f : Meaning) → MeaningMade f → (ps : List Part) → PartsMade ps → (store : Option ℕ)
      → Built (code.called_by limits t f ps store) [] []
  called_by (InMemory Memory.Property qs) k f h ps l store = ask_made Veneer.CallProperty (qs ++ ps) (joined qs ps k l) store
  called_by other k f h ps l store = call_made (part f) ps (part_made f h) l store

  calls_of : (f : Meaning) → MeaningMade f → (ps : List Part) → PartsMade ps → MeaningMade (code.called limits (code.call_of limits f ps))
  unfolding code.call_of
  calls_of f h ps l = called (code.called_by limits f.target f ps) (called_by f.target h.target f h ps l)

  related : (op : Opcode) (p : Part) → PartMade p → (d : ℕ) → Built (code.related limits op p d) [] []
  unfolding code.related
  related op p h d = Handed λ next. behind (worked_made op (p ∷ []) (h, tt) (Some d) (to true next)) (Marks next)

  -- Lemmas about conditions

  both : (a b : Meaning) → MeaningMade a → MeaningMade b → (sense : Bool) (label : Label)
      → Built (code.both limits a b sense label) (label.number ∷ []) []
  both a b h k sense label =
      Handed λ over. behind (at_first (h.branch (not sense) over)) (behind (at_second (k.branch sense label)) (Marks over))

  either : (a b : Meaning) → MeaningMade a → MeaningMade b → (sense : Bool) (label : Label)
      → Built (code.either a b sense label) (label.number ∷ []) []
  either a b h k sense label = behind (h.branch sense label) (k.branch sense label)

  ands : (a b : Meaning) → MeaningMade a → MeaningMade b → (sense : Bool) (label : Label)
      → Built (code.and_branch limits a b sense label) (label.number ∷ []) []
  unfolding code.and_branch
  ands a b h k true label = both a b h k true label
  ands a b h k false label = either a b h k false label

  ors : (a b : Meaning) → MeaningMade a → MeaningMade b → (sense : Bool) (label : Label)
      → Built (code.or_branch limits a b sense label) (label.number ∷ []) []
  unfolding code.or_branch
  ors a b h k true label = either a b h k true label
  ors a b h k false label = both a b h k false label

  -- Lemmas about tests

  asking : (v : Veneer) (all : List Simple) → AllMeet L all → (sense : Bool) (label : Label)
      → Built (code.asking limits v all sense label) (label.number ∷ []) []
  asking v all h sense label = before (Asks v all (Some SP) h) (zero_jumps (Simple.Variable SP) tt sense label)

  compared : (t : Test) (all : List Simple) → AllMeet L all → (sense : Bool) (label : Label)
      → Built (code.compared limits t all sense label) (label.number ∷ []) []
  compared Test.Equal all h sense label = Instructs Opcode.Je all None (to sense label) h
  compared Test.Less all h sense label = Instructs Opcode.Jl all None (to sense label) h
  compared Test.Greater all h sense label = Instructs Opcode.Jg all None (to sense label) h
  compared Test.AtMost all h sense label = Instructs Opcode.Jg all None (to (not sense) label) h
  compared Test.AtLeast all h sense label = Instructs Opcode.Jl all None (to (not sense) label) h
  compared Test.Has all h sense label = Instructs Opcode.TestAttr all None (to sense label) h
  compared Test.In all h sense label = Instructs Opcode.Jin all None (to sense label) h
  compared Test.OfClass all h sense label = asking Veneer.OfClass all h sense label
  compared Test.Provides all h sense label = asking Veneer.Provides all h sense label

  tested : (t : Test) (ps : List Part) → PartsMade ps → (sense : Bool) (label : Label)
      → Built (code.tested limits t ps sense label) (label.number ∷ []) []
  tested t ps h sense label = before (evaluates ps h) (compared t (operands ps) (meet ps h) sense label)

  threes : (x : Simple) → Meets L x → (ps : List Part) → PartsMade ps → (sense : Bool) (label there : Label)
      → Built (code.triple_tests limits x ps sense label there) (label.number ∷ there.number ∷ []) []
  unfolding code.triple_tests
  threes x m [] h sense label there = Nothing
  threes x m (b ∷ []) h sense label there = at_first (tested Test.Equal (is x ∷ b ∷ []) (is_made x m, h) sense label)
  threes x m (b ∷ c ∷ []) h sense label there = at_first (tested Test.Equal (is x ∷ b ∷ c ∷ []) (is_made x m, h) sense label)
  threes x m (b ∷ c ∷ d ∷ []) h sense label there = at_first (tested Test.Equal (is x ∷ b ∷ c ∷ d ∷ []) (is_made x m, h) sense label)
  threes x m (b ∷ c ∷ d ∷ e ∷ others) h sense label there =
      behind (at_second (tested Test.Equal (is x ∷ b ∷ c ∷ d ∷ []) (is_made x m, (h.0, (h.1.0, (h.1.1.0, tt)))) true there))
      (threes x m (e ∷ others) h.1.1.1 sense label there)

  ones : (t : Test) (x : Simple) → Meets L x → (ps : List Part) → PartsMade ps → (sense : Bool) (label there : Label)
      → Built (code.single_tests limits t x ps sense label there) (label.number ∷ there.number ∷ []) []
  unfolding code.single_tests
  ones t x m [] h sense label there = Nothing
  ones t x m (b ∷ []) h sense label there = at_first (tested t (is x ∷ b ∷ []) (is_made x m, h) sense label)
  ones t x m (b ∷ c ∷ others) h sense label there =
      behind (at_second (tested t (is x ∷ b ∷ []) (is_made x m, (h.0, tt)) true there)) (ones t x m (c ∷ others) h.1 sense label there)

  groups : (three : Bool) (t : Test) (x : Simple) → Meets L x → (ps : List Part) → PartsMade ps → (sense : Bool) (label there : Label)
      → Built (if three then code.triple_tests limits x ps sense label there else code.single_tests limits t x ps sense label there)
      (label.number ∷ there.number ∷ []) []
  groups true t x m ps h sense label there = threes x m ps h sense label there
  groups false t x m ps h sense label there = ones t x m ps h sense label there

  tests : (t : Test) (x : Simple) → Meets L x → (ps : List Part) → PartsMade ps → (sense : Bool) (label there : Label)
      → Built (code.tests limits t x ps sense label there) (label.number ∷ there.number ∷ []) []
  unfolding code.tests
  tests t x m ps h sense label there = groups (code.takes_three t) t x m ps h sense label there

  kept : (is_kept : Bool) (t : Test) (a : Meaning) → MeaningMade a → (ps : List Part) → PartsMade ps → (sense : Bool) (label there : Label)
      → Built (code.kept_tests limits is_kept t a ps sense label there) (label.number ∷ there.number ∷ []) []
  kept true t a h ps k sense label there = before (h.value TEMP) (tests t (Simple.Variable TEMP) tt ps k sense label there)
  kept false t a h ps k sense label there = before (evaluates (part a ∷ ps) (part_made a h, k))
      (at_first (compared t (take (code.most_compared t) (operands (part a ∷ ps)))
      (take_meet (code.most_compared t) (operands (part a ∷ ps)) (meet (part a ∷ ps) (part_made a h, k))) sense label))

  tested_by : (o : Option Simple) → MaybeMeets L o → (t : Test) (a : Meaning) → MeaningMade a → (ps : List Part) → PartsMade ps
      → (sense : Bool) (label there : Label)
      → Built (code.tests_by limits o t a ps sense label there) (label.number ∷ there.number ∷ []) []
  tested_by (Some x) m t a h ps k sense label there = tests t x m ps k sense label there
  tested_by None m t a h ps k sense label there = kept (nat_lt (code.group t) (length ps)) t a h ps k sense label there

  either_needed : (sense : Bool) (label over : Label) (needs : List ℕ) → 1 ≤ times label.number needs → 1 ≤ times over.number needs
      → 1 ≤ times (if sense then label else over).number needs
  either_needed true label over needs has also = has
  either_needed false label over needs has also = also

  test_branches : (t : Test) (a b : Meaning) → MeaningMade a → MeaningMade b → (sense : Bool) (label : Label)
      → Built (code.test_branch limits t a b sense label) (label.number ∷ []) []
  unfolding code.test_branch
  test_branches t a b h k sense label = Handed λ over.
      let there = if sense then label else over in
      let needs = over.number ∷ label.number ∷ [] in
      let has = has_later label.number over.number (label.number ∷ []) (has_first label.number []) in
      behind
      (at_two {l = label.number} {m = there.number} {needs = needs} has
      (either_needed sense label over needs has (has_first over.number (label.number ∷ [])))
      (tested_by a.operand h.operand t a h (parts b) (k.first, k.others) sense label there))
      (Marks over)

  -- Lemmas about all rows

  operation_target : (o : Operation) (ps : List Part) → PartsMade ps → GoalMade (code.operation_target o ps)
  operation_target Operation.Byte ps h = h
  operation_target Operation.Word ps h = h
  operation_target _ ps h = tt

  property_target : (how : PropertyPart) (ps : List Part) → PartsMade ps → GoalMade (code.property_target how ps)
  property_target PropertyPart.Value ps h = h
  property_target PropertyPart.Address ps h = tt
  property_target PropertyPart.Length ps h = tt

  aimed : (m : Meaning) (t : Goal) → GoalMade t → MeaningMade m → MeaningMade (record m { target = t })
  aimed m t k h = record {
    operand = h.operand;
    target = k;
    first = h.first;
    others = h.others;
    value = h.value;
    alone = h.alone;
    branch = h.branch;
  }

  one : (op : Unary) (a : Meaning) → MeaningMade a → MeaningMade (code.one limits op a)
  one Unary.Negate a h = computed Opcode.Sub (is (Simple.Known 0) ∷ part a ∷ []) (is_made (Simple.Known 0) tt, (part_made a h, tt))
  one Unary.Not a h = condition (λ sense label. a.branch (not sense) label) (λ sense label. h.branch (not sense) label)
  one (Unary.Single s) a h = computed (code.single_opcode s) (part a ∷ []) (part_made a h, tt)
  one (Unary.Before s) a h = steps true s a h
  one (Unary.Behind s) a h = steps false s a h
  one (Unary.Relative r) a h =
      let find = code.related limits (code.related_opcode r) (part a) in
      let finds = related (code.related_opcode r) (part a) (part_made a h) in valued find (find TEMP) finds (finds TEMP)
  one Unary.Children a h =
      called (call_routine limits Veneer.Children (part a ∷ [])) (ask_made Veneer.Children (part a ∷ []) (part_made a h, tt))
  one Unary.Call f h = calls_of f h [] tt
  one Unary.Indirect list h = called (call limits list.first list.others) (call_made list.first list.others h.first h.others)

  two : (op : Binary) (a b : Meaning) → MeaningMade a → MeaningMade b → MeaningMade (code.two limits op a b)
  two (Binary.Operation o) a b h k =
      let ps = part a ∷ part b ∷ [] in
      let all : PartsMade ps = (part_made a h, (part_made b k, tt)) in
      aimed (code.computed limits (code.operation_opcode o) ps) (code.operation_target o ps) (operation_target o ps all)
      (computed (code.operation_opcode o) ps all)
  two (Binary.Property p) a b h k =
      let ps = part a ∷ part b ∷ [] in
      let all : PartsMade ps = (part_made a h, (part_made b k, tt)) in
      aimed (code.called limits (call_routine limits (code.reader p) ps)) (code.property_target p ps) (property_target p ps all)
      (called (call_routine limits (code.reader p) ps) (ask_made (code.reader p) ps all))
  two (Binary.Test t) a b h k = condition (code.test_branch limits t a b) (test_branches t a b h k)
  two (Binary.Fails t) a b h k =
      condition (λ sense. code.test_branch limits t a b (not sense)) (λ sense. test_branches t a b h k (not sense))
  two Binary.Assign a b h k = assigns a b h k
  two Binary.Comma a b h k =
      valued (λ d. a.alone ▸ b.value d) (a.alone ▸ b.value TEMP) (λ d. before h.alone (k.value d)) (before h.alone (k.value TEMP))
  two Binary.And a b h k = condition (code.and_branch limits a b) (ands a b h k)
  two Binary.Or a b h k = condition (code.or_branch limits a b) (ors a b h k)
  two Binary.Call a b h k = calls_of a h (parts b) (k.first, k.others)
  two Binary.Then a b h k =
      let v = valued a.value a.alone h.value h.alone in record {
        operand = tt;
        target = tt;
        first = part_made a h;
        others = (k.first, k.others);
        value = v.value;
        alone = v.alone;
        branch = v.branch;
      }
  two Binary.To a b h k = valued a.value a.alone h.value h.alone

  leaf_meets : (x : Operand) → LeafMeets L x → Meets L (simple x)
  leaf_meets (Operand.Later t) h = h
  leaf_meets x h = tt

  pub meaning_made : (t : Tree) → TreeMeets L t → MeaningMade (code.meaning limits t)
  meaning_made (Leaf x) h = leaf (simple x) (leaf_meets x h)
  meaning_made (One op a) h = one op (code.meaning limits a) (meaning_made a h)
  meaning_made (Two op a b) h = two op (code.meaning limits a) (code.meaning limits b) (meaning_made a h.0) (meaning_made b h.1)

pub tree_made : (limits : Limits) (L : Target → Type 0) (t : Tree) → TreeMeets L t → TreeMade limits L t
tree_made limits L t h = let m = meaning_made limits L t h in record { value = m.value; alone = m.alone; branch = m.branch }

-- Premises that the leaves of a tree meet

leaf_by : (L : Target → Type 0) (x : Operand) → ((t : Target) → IsAmong (leaf_targets x) t → L t) → LeafMeets L x
leaf_by L (Operand.Later t) all = all t (inl refl)
leaf_by L x all = tt

in_first : (a b : List Target) (t : Target) → IsAmong a t → IsAmong (a ++ b) t
in_first [] b t h = elim h [ ]
in_first (u ∷ a) b t (inl is) = inl is
in_first (u ∷ a) b t (inr later) = inr (in_first a b t later)

in_second : (a b : List Target) (t : Target) → IsAmong b t → IsAmong (a ++ b) t
in_second [] b t h = h
in_second (u ∷ a) b t h = inr (in_second a b t h)

-- a tree meets a premise that holds of all its targets, so it meets any that holds of all targets
pub tree_by : (L : Target → Type 0) (e : Tree) → ((t : Target) → IsAmong (tree_targets e) t → L t) → TreeMeets L e
tree_by L (Leaf x) all = leaf_by L x all
tree_by L (One op a) all = tree_by L a all
tree_by L (Two op a b) all = (
  tree_by L a (λ t h. all t (in_first (tree_targets a) (tree_targets b) t h)),
  tree_by L b (λ t h. all t (in_second (tree_targets a) (tree_targets b) t h)),
)

abbrev pub Any : Target → Type 0
Any t = Unit {0}

pub any_tree : (e : Tree) → TreeMeets Any e
any_tree e = tree_by Any e (λ t h. tt)

pub any_trees : (trees : List Tree) → TreesMeet Any trees
any_trees [] = tt
any_trees (e ∷ trees) = (any_tree e, any_trees trees)

pub trees_are_made : TreesAreMade
trees_are_made limits e = tree_made limits (IsAmong (tree_targets e)) e (tree_by (IsAmong (tree_targets e)) e (λ t h. h))

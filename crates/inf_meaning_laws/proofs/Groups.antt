-- Tests with any number of alternatives, by groups.
use Rattle.std.proofs.Common.{arith, ◌≡◌, ◌≤◌, ℕ, suc, List, [], ◌∷◌, Option, Some, None, Bool, refl, ◌∙◌, ap, sym, subst, true, false}
use Rattle.std.proofs.lemmas.Bool.{ltb-false}
use Rattle.std.specs.Prelude.{length, if◌then◌else◌, nat_lt}
use Rattle.inf_settings.specs.Bounds.{Limits}
use Rattle.inf_opcode.specs.declared.instructions.Label.{Label}
use Rattle.inf_expressions.specs.{Numbers.same, declared.operators.Operand.Operand, declared.operators.Test.Test}
use Rattle.inf_output.specs.{Output.Code, Output.marked, Output.◌▸◌, declared.operands.Simple.Simple}
use Rattle.inf_templates.specs.Parts.{Part, TEMP, is, simple, evaluated, operands}
use Rattle.inf_templates.specs.Meaning.{Meaning, part}
use Rattle.inf_templates.specs.Meaning as code
use Rattle.inf_interpreter.specs.Machine.{State, World, Store, Place, ◌then◌}
use Rattle.inf_interpreter.specs.Claims.{Comes, state, Claim, Kept}
use Rattle.inf_meaning_laws.specs.{Covered.CoversTest, Laws.Branches}
use Rattle.inf_meaning_laws.specs.Values.{Arg, Sense, arg, nobody, either, compares_three, together, by_threes, one_by_one, in_groups}
use Rattle.inf_meaning_laws.specs.Values.{number}
use Rattle.inf_meaning_laws.specs.Values as values
use Rattle.inf_interpreter.proofs.Laying.{Always, labelled, marked_, so, then_}
use Rattle.inf_interpreter.proofs.Running.{opened, same_some, comes_then, kept_then, not_kept}
use Rattle.inf_meaning_laws.proofs.{Called.operands_length, Called.taken_whole, Instructions.moved, Instructions.pass, Meant.Means}
use Rattle.inf_meaning_laws.proofs.{Meant.part_of, Meant.simple_part, Working.AreParts, Working.leaf_simple}
use Rattle.inf_meaning_laws.proofs.Compared.{BranchesBy, instructed, compares, kept_instructs}

-- Groups of alternatives to a first operand, in front of a label that those which hold jump to where they decide that nothing is branched

-- the first operand `x` has the value of a part, which may be the number of variable 255
pub record Stays (keeps : Bool) (w : World) (limits : Limits) (x : Simple) (a : ℕ → Arg) : Type 0 where
  pub same : (temp left : ℕ) → Kept keeps temp left → a left ≡ a temp
  pub tests : (t : Test) → CoversTest keeps t → (ps : List Part) (args : List Arg) → AreParts keeps w ps args → length ps ≤ 3 →
      (sense : Bool) (label : Label) →
      Always w (code.tested limits t (is x ∷ ps) sense label) (BranchesBy keeps w (λ temp. values.tested w t (a temp ∷ args)) sense label)

leaf_stays : (keeps : Bool) (w : World) (limits : Limits) (x : Operand) (value : Store → Option (ℕ × Store)) →
    Stays keeps w limits (simple x) (λ temp. record { leaf = Some x; value = value })
leaf_stays keeps w limits x value = record {
  same = λ temp left k. refl;
  tests = λ t d ps args h few sense label.
      compares {keeps = keeps} w limits t d (is (simple x) ∷ ps) (record { leaf = Some x; value = value } ∷ args)
      (simple_part {keeps = keeps} w x value, h) (omega (arith, few)) sense label;
}

temp_stays : (w : World) (limits : Limits) → Stays true w limits (Simple.Variable TEMP) number
temp_stays w limits = record {
  same = λ temp left k. ap number (k.same refl);
  tests = λ t d ps args h few sense label.
      instructed true w limits t d (is (Simple.Variable TEMP) ∷ ps) (λ temp. number temp ∷ args) (kept_instructs w limits ps args h)
      sense label;
}

abbrev Over : Label → Claim → Claim
Over over P at from to = (at over ≡ to) × P at from to

last_group : {keeps : Bool} (w : World) (limits : Limits) (c : Code) (holds : ℕ → Store → Option (Bool × Store)) (sense : Bool)
    (label over : Label) → Always w c (BranchesBy keeps w holds sense label) →
    Always w (c ▸ marked limits over) (Over over (BranchesBy keeps w holds sense label))
last_group {keeps} w limits c holds sense label over h = so (λ at from to p. (
  p.2.1,
  λ stack temp s b t e.
      let q = p.1 stack temp s b t e in
      (q.0, q.1, pass w at from p.0 to over label (state stack temp s) (state stack q.0 t) (same b sense) p.2 q.2),
)) (then_ h (marked_ limits over))

-- one group holds, and jumps to the label or over the others; or the others decide
either_by : (w : World) (at : Label → Place) (from m to : Place) (label over : Label) (start now : State) (sense : Bool) → at over ≡ to →
    Comes w at from start (at (if sense then label else over)) now → Comes w at from start (if same true sense then at label else to) now
either_by w at from m to label over start now true e c = c
either_by w at from m to label over start now false e c = moved e c

two_groups : {keeps : Bool} (w : World) (limits : Limits) (c d : Code) (first others : ℕ → Store → Option (Bool × Store)) (sense : Bool)
    (label over : Label) → ((temp left : ℕ) → Kept keeps temp left → others left ≡ others temp) →
    Always w c (BranchesBy keeps w first true (if sense then label else over)) →
    Always w d (Over over (BranchesBy keeps w others sense label)) →
    Always w (c ▸ d) (Over over (BranchesBy keeps w (λ temp. either (first temp) (others temp)) sense label))
two_groups {keeps} w limits c d first others sense label over stays h k = so (λ at from to p. (
  p.2.0,
  λ stack temp s b t e.
      let o = opened (first temp s) (λ p. if p.0 then Some (true, p.1) else others temp p.1) (b, t) e in
      let q = p.1 stack temp s o.0.0 o.0.1 o.1 in
      go at from p.0 to p.2.0 p.2.1 stack temp s o.0.0 o.0.1 q.0 q.1 q.2 b t o.2,
)) (then_ h k)
  where
    go : (at : Label → Place) (from m to : Place) → at over ≡ to → BranchesBy keeps w others sense label at m to → (stack : List ℕ)
        (temp : ℕ)
        (s : Store) (x : Bool) (u : Store) (left : ℕ) → Kept keeps temp left →
        Comes w at from (state stack temp s) (if same x true then at (if sense then label else over) else m) (state stack left u) →
        (b : Bool) (t : Store) → (if x then Some (true, u) else others temp u) ≡ Some (b, t) →
        (left' : ℕ) × Kept keeps temp left' × Comes w at from (state stack temp s) (if same b sense then at label else to)
        (state stack left' t)
    go at from m to there g stack temp s true u left k c b t e = (
      left,
      k,
      subst (λ y. Comes w at from (state stack temp s) (if same y.0 sense then at label else to) (state stack left y.1)) (same_some e)
          (either_by w at from m to label over (state stack temp s) (state stack left u) sense there c),
    )
    go at from m to there g stack temp s false u left k c b t e =
        let r = g stack left u b t (ap (λ f. f u) (stays temp left k) ∙ e) in
        (r.0, kept_then keeps temp left r.0 k r.1, comes_then c r.2)

threes_ : {keeps : Bool} (w : World) (limits : Limits) (x : Simple) (a : ℕ → Arg) → Stays keeps w limits x a →
    (p : Part) (others : List Part)
    (args : List Arg) → AreParts keeps w (p ∷ others) args → (sense : Bool) (label over : Label) →
    Always w (code.triple_tests limits x (p ∷ others) sense label (if sense then label else over) ▸ marked limits over)
    (Over over (BranchesBy keeps w (λ temp. by_threes w (a temp) args) sense label))
unfolding code.triple_tests
threes_ {keeps} w limits x a g p [] (b ∷ []) h sense label over =
    last_group {keeps = keeps} w limits (code.tested limits Test.Equal (is x ∷ p ∷ []) sense label) (λ temp. by_threes w (a temp)
    (b ∷ [])) sense label over
    (g.tests Test.Equal tt (p ∷ []) (b ∷ []) h (omega arith) sense label)
threes_ {keeps} w limits x a g p (p1 ∷ []) (b ∷ b1 ∷ []) h sense label over =
    last_group {keeps = keeps} w limits (code.tested limits Test.Equal (is x ∷ p ∷ p1 ∷ []) sense label) (λ temp. by_threes w (a temp)
    (b ∷ b1 ∷ []))
    sense label over (g.tests Test.Equal tt (p ∷ p1 ∷ []) (b ∷ b1 ∷ []) h (omega arith) sense label)
threes_ {keeps} w limits x a g p (p1 ∷ p2 ∷ []) (b ∷ b1 ∷ b2 ∷ []) h sense label over =
    last_group {keeps = keeps} w limits (code.tested limits Test.Equal (is x ∷ p ∷ p1 ∷ p2 ∷ []) sense label)
    (λ temp. by_threes w (a temp) (b ∷ b1 ∷ b2 ∷ [])) sense label over (g.tests Test.Equal tt (p ∷ p1 ∷ p2 ∷ [])
    (b ∷ b1 ∷ b2 ∷ []) h (omega arith) sense label)
threes_ {keeps} w limits x a g p (p1 ∷ p2 ∷ p3 ∷ others) (b ∷ b1 ∷ b2 ∷ b3 ∷ args) h sense label over =
    two_groups {keeps = keeps} w limits (code.tested limits Test.Equal (is x ∷ p ∷ p1 ∷ p2 ∷ []) true (if sense then label else over))
    (code.triple_tests limits x (p3 ∷ others) sense label (if sense then label else over) ▸ marked limits over)
    (λ temp. values.tested w Test.Equal (a temp ∷ b ∷ b1 ∷ b2 ∷ [])) (λ temp. by_threes w (a temp) (b3 ∷ args)) sense label over
    (λ temp left k. ap (λ y. by_threes w y (b3 ∷ args)) (g.same temp left k))
    (g.tests Test.Equal tt (p ∷ p1 ∷ p2 ∷ []) (b ∷ b1 ∷ b2 ∷ []) (h.0, (h.1.0, (h.1.1.0, tt))) (omega arith) true
    (if sense then label else over))
    (threes_ {keeps = keeps} w limits x a g p3 others (b3 ∷ args) h.1.1.1 sense label over)
threes_ w limits x a g p others [] h sense label over = absurd h
threes_ w limits x a g p [] (b ∷ b1 ∷ args) h sense label over = absurd h.1
threes_ w limits x a g p (p1 ∷ others) (b ∷ []) h sense label over = absurd h.1
threes_ w limits x a g p (p1 ∷ []) (b ∷ b1 ∷ b2 ∷ args) h sense label over = absurd h.1.1
threes_ w limits x a g p (p1 ∷ p2 ∷ others) (b ∷ b1 ∷ []) h sense label over = absurd h.1.1
threes_ w limits x a g p (p1 ∷ p2 ∷ []) (b ∷ b1 ∷ b2 ∷ b3 ∷ args) h sense label over = absurd h.1.1.1
threes_ w limits x a g p (p1 ∷ p2 ∷ p3 ∷ others) (b ∷ b1 ∷ b2 ∷ []) h sense label over = absurd h.1.1.1

ones_ : {keeps : Bool} (w : World) (limits : Limits) (t : Test) → CoversTest keeps t → (x : Simple) (a : ℕ → Arg) →
    Stays keeps w limits x a →
    (p : Part) (others : List Part) (args : List Arg) → AreParts keeps w (p ∷ others) args → (sense : Bool) (label over : Label) →
    Always w (code.single_tests limits t x (p ∷ others) sense label (if sense then label else over) ▸ marked limits over)
    (Over over (BranchesBy keeps w (λ temp. one_by_one w t (a temp) args) sense label))
unfolding code.single_tests
ones_ {keeps} w limits t d x a g p [] (b ∷ []) h sense label over =
    last_group {keeps = keeps} w limits (code.tested limits t (is x ∷ p ∷ []) sense label) (λ temp. one_by_one w t (a temp)
    (b ∷ [])) sense label over
    (g.tests t d (p ∷ []) (b ∷ []) h (omega arith) sense label)
ones_ {keeps} w limits t d x a g p (p1 ∷ others) (b ∷ b1 ∷ args) h sense label over =
    two_groups {keeps = keeps} w limits (code.tested limits t (is x ∷ p ∷ []) true (if sense then label else over))
    (code.single_tests limits t x (p1 ∷ others) sense label (if sense then label else over) ▸ marked limits over)
    (λ temp. values.tested w t (a temp ∷ b ∷ [])) (λ temp. one_by_one w t (a temp) (b1 ∷ args)) sense label over
    (λ temp left k. ap (λ y. one_by_one w t y (b1 ∷ args)) (g.same temp left k))
    (g.tests t d (p ∷ []) (b ∷ []) (h.0, tt) (omega arith) true (if sense then label else over))
    (ones_ {keeps = keeps} w limits t d x a g p1 others (b1 ∷ args) h.1 sense label over)
ones_ w limits t d x a g p others [] h sense label over = absurd h
ones_ w limits t d x a g p [] (b ∷ b1 ∷ args) h sense label over = absurd h.1
ones_ w limits t d x a g p (p1 ∷ others) (b ∷ []) h sense label over = absurd h.1

three_is_equal : (t : Test) → code.takes_three t ≡ values.compares_three t
three_is_equal Test.Equal = refl
three_is_equal other = refl

groups_ : {keeps : Bool} (w : World) (limits : Limits) (t : Test) → CoversTest keeps t → (x : Simple) (a : ℕ → Arg) →
    Stays keeps w limits x a →
    (p : Part) (others : List Part) (args : List Arg) → AreParts keeps w (p ∷ others) args → (sense : Bool) (label over : Label) →
    Always w (code.tests limits t x (p ∷ others) sense label (if sense then label else over) ▸ marked limits over)
    (Over over (BranchesBy keeps w (λ temp. in_groups (compares_three t) w t (a temp) args) sense label))
unfolding code.tests
groups_ {keeps} w limits Test.Equal d x a g p others args h sense label over =
    threes_ {keeps = keeps} w limits x a g p others args h sense label over
groups_ {keeps} w limits Test.Less d x a g p others args h how label over =
    ones_ {keeps = keeps} w limits Test.Less d x a g p others args h how label over
groups_ {keeps} w limits Test.Greater d x a g p others args h how label over =
    ones_ {keeps = keeps} w limits Test.Greater d x a g p others args h how label over
groups_ {keeps} w limits Test.AtMost d x a g p others args h how label over =
    ones_ {keeps = keeps} w limits Test.AtMost d x a g p others args h how label over
groups_ {keeps} w limits Test.AtLeast d x a g p others args h how label over =
    ones_ {keeps = keeps} w limits Test.AtLeast d x a g p others args h how label over
groups_ {keeps} w limits Test.Has d x a g p others args h how label over =
    ones_ {keeps = keeps} w limits Test.Has d x a g p others args h how label over
groups_ {keeps} w limits Test.In d x a g p others args h how label over =
    ones_ {keeps = keeps} w limits Test.In d x a g p others args h how label over
groups_ {keeps} w limits Test.OfClass d x a g p others args h how label over =
    ones_ {keeps = keeps} w limits Test.OfClass d x a g p others args h how label over
groups_ {keeps} w limits Test.Provides d x a g p others args h how label over =
    ones_ {keeps = keeps} w limits Test.Provides d x a g p others args h how label over

-- A value that is no leaf: one instruction takes all alternatives, or it is kept in variable 255.
pub same_length : (keeps : Bool) (w : World) (ps : List Part) (args : List Arg) → AreParts keeps w ps args → length args ≡ length ps
same_length keeps w [] [] h = refl
same_length keeps w [] (a ∷ args) h = absurd h
same_length keeps w (p ∷ ps) [] h = absurd h
same_length keeps w (p ∷ ps) (a ∷ args) h = ap suc (same_length keeps w ps args h.1)

group_is : (t : Test) → code.group t ≡ together t
group_is t = ap (λ b. if b then 3 else 1) (three_is_equal t)

most_is : (t : Test) → code.most_compared t ≡ suc (together t)
most_is Test.Equal = refl
most_is other = refl

few_together : (b : Bool) → (if b then 3 else 1) ≤ 3
few_together true = omega arith
few_together false = omega arith

at_once : {keeps : Bool} (w : World) (limits : Limits) (t : Test) → CoversTest keeps t → (m : Meaning) (a : Sense) →
    Means keeps w limits m a →
    (ps : List Part) (args : List Arg) → AreParts keeps w ps args → length ps ≤ together t → (sense : Bool) (label : Label) →
    Always w (code.tested_at_once limits t (part m) ps sense label) (Branches keeps w (values.tested w t (arg a ∷ args)) sense label)
at_once {keeps} w limits t d m a h ps args k few sense label =
    subst (λ l. Always w (evaluated (part m ∷ ps) ▸ code.compared limits t l sense label) (Branches keeps w (values.tested w t
    (arg a ∷ args)) sense label))
    (sym (taken_whole (operands (part m ∷ ps)) (code.most_compared t) (fits)))
    (compares {keeps = keeps} w limits t d (part m ∷ ps) (arg a ∷ args) (part_of w limits m a h, k)
    (let most : together t ≤ 3 = few_together (compares_three t) in omega (arith, most, few)) sense label)
  where
    fits : length (operands (part m ∷ ps)) ≤ code.most_compared t
    fits =
        let all = operands_length (part m ∷ ps) in
        let most = most_is t in
        omega (arith, all, most, few)

passed : {keeps : Bool} (w : World) (limits : Limits) (c : Code) (holds : Store → Option (Bool × Store)) (how : Bool) (label over : Label) →
    Always w c (Branches keeps w holds how label) → Always w (c ▸ marked limits over) (Branches keeps w holds how label)
passed {keeps} w limits c holds how label over h = so (λ at from to p. λ stack temp s r u g.
    let q = p.1 stack temp s r u g in
    (q.0, q.1, pass w at from p.0 to over label (state stack temp s) (state stack q.0 u) (same r how) p.2 q.2))
    (then_ h (marked_ limits over))

-- the value is put into variable 255, which the test and all alternatives keep
kept_tests_ : {keeps : Bool} (w : World) (limits : Limits) (t : Test) → CoversTest true t → (m : Meaning) (a : Sense) →
    Means keeps w limits m a →
    (p : Part) (others : List Part) (args : List Arg) → AreParts true w (p ∷ others) args → (sense : Bool) (label over : Label) →
    Always w (code.kept_tests limits true t m (p ∷ others) sense label (if sense then label else over) ▸ marked limits over)
    (Branches false w (values.worked_first true w t a args) sense label)
kept_tests_ {keeps} w limits t d m a h p others args k sense label over = so (λ at from to q stack temp s b u e.
    let o = opened (a.value nobody s) (λ p. in_groups (compares_three t) w t (number p.0) args p.1) (b, u) e in
    let r = q.1 stack temp s o.0.0 o.0.1 o.1 in
    let z = q.2.1 stack o.0.0 o.0.1 b u o.2 in
    (z.0, not_kept, comes_then r.2 z.2))
    (regrouped (m.value TEMP) (code.tests limits t (Simple.Variable TEMP) (p ∷ others) sense label (if sense then label else over)) over
    (then_ (h.value TEMP) (groups_ {keeps = true} w limits t d (Simple.Variable TEMP) number
    (temp_stays w limits) p others args k sense label over)))
  where
    regrouped : {P : Claim} (c d : Code) (l : Label) → Always w (c ▸ (d ▸ marked limits l)) P → Always w ((c ▸ d) ▸ marked limits l) P
    regrouped c d l f = f

worked_by : {keeps : Bool} (w : World) (limits : Limits) (t : Test) → CoversTest keeps t → (m : Meaning) (a : Sense) →
    Means keeps w limits m a →
    (p : Part) (others : List Part) (args : List Arg) → AreParts keeps w (p ∷ others) args → (z : Bool) →
    nat_lt (together t) (length args) ≡ z → (z ≡ true → (keeps ≡ false) × CoversTest true t × AreParts true w (p ∷ others) args) →
    (sense : Bool) (label over : Label) →
    Always w (code.kept_tests limits z t m (p ∷ others) sense label (if sense then label else over) ▸ marked limits over)
    (Branches keeps w (values.worked_first z w t a args) sense label)
worked_by {keeps} w limits t d m a h p others args k true e calm sense label over =
    let c = calm refl in
    subst (λ x. Always w (code.kept_tests limits true t m (p ∷ others) sense label (if sense then label else over) ▸ marked limits over)
    (Branches x w (values.worked_first true w t a args) sense label)) (sym c.0)
    (kept_tests_ {keeps = keeps} w limits t c.1 m a h p others args c.2 sense label over)
worked_by {keeps} w limits t d m a h p others args k false e calm sense label over =
    passed {keeps = keeps} w limits (code.tested_at_once limits t (part m) (p ∷ others) sense label) (values.tested w t
    (arg a ∷ args)) sense label over
    (at_once {keeps = keeps} w limits t d m a h (p ∷ others) args k
    (subst (λ n. n ≤ together t) (same_length keeps w (p ∷ others) args k) (ltb-false (together t) (length args) e)) sense label)

compared_by : {keeps : Bool} (w : World) (limits : Limits) (t : Test) → CoversTest keeps t → (m : Meaning) (a : Sense) →
    Means keeps w limits m a →
    (p : Part) (others : List Part) (args : List Arg) → AreParts keeps w (p ∷ others) args → (leaf : Option Operand) →
    (leaf ≡ None → nat_lt (together t) (length args) ≡ true → (keeps ≡ false) × CoversTest true t × AreParts true w (p ∷ others) args) →
    (sense : Bool) (label over : Label) →
    Always w (code.tests_by limits (leaf_simple leaf) t m (p ∷ others) sense label (if sense then label else over) ▸ marked limits over)
    (Branches keeps w (values.compared w t leaf a args) sense label)
compared_by {keeps} w limits t d m a h p others args k (Some x) calm sense label over = so (λ at from to q. q.1)
    (groups_ {keeps = keeps} w limits t d (simple x) (λ temp. record { leaf = Some x; value = a.value nobody })
    (leaf_stays keeps w limits x (a.value nobody)) p others args k sense label over)
compared_by {keeps} w limits t d m a h p others args k None calm sense label over =
    let e = ap (λ n. nat_lt n (length (p ∷ others))) (group_is t)
    ∙ ap (λ n. nat_lt (together t) n) (sym (same_length keeps w (p ∷ others) args k)) in
    subst (λ z. Always w (code.kept_tests limits z t m (p ∷ others) sense label (if sense then label else over) ▸ marked limits over)
    (Branches keeps w (values.compared w t None a args) sense label)) (sym e)
    (worked_by {keeps = keeps} w limits t d m a h p others args k (nat_lt (together t) (length args)) refl (calm refl) sense label over)

-- every test of an expression that is covered
pub test_means : {keeps : Bool} (w : World) (limits : Limits) (t : Test) → CoversTest keeps t → (m n : Meaning) (a b : Sense) →
    Means keeps w limits m a → Means keeps w limits n b →
    (a.leaf ≡ None → nat_lt (together t) (length (values.args b)) ≡ true →
    (keeps ≡ false) × CoversTest true t × Means true w limits n b) →
    (how : Bool) (label : Label) →
    Always w (code.test_branch limits t m n how label) (Branches keeps w (values.compared w t a.leaf a (values.args b)) how label)
unfolding code.test_branch
test_means {keeps} w limits t d m n a b h k calm how label = labelled λ over.
    subst (λ o. Always w (code.tests_by limits o t m (n.first ∷ n.others) how label (if how then label else over) ▸ marked limits over)
    (Branches keeps w (values.compared w t a.leaf a (values.args b)) how label)) (sym h.operand)
    (compared_by {keeps = keeps} w limits t d m a h n.first n.others (values.args b) (k.first, k.others) a.leaf
    (λ none more. let c = calm none more in (c.0, c.1, (c.2.first, c.2.others))) how label over)

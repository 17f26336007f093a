-- Loops over objects: the code of their unit, and the code at their end.
use Rattle.std.proofs.Common.{◌≡◌, ℕ, List, [], ◌∷◌, Option, Some, None, Bool, true, false, refl, ◌∙◌, ap, sym, subst}
use Rattle.std.proofs.lemmas.Bool.{eq-eqb}
use Rattle.std.specs.Prelude.{map, not, ◌==◌, ◌||◌, ◌+◌, ◌%◌, if◌then◌else◌}
use Rattle.inf_settings.specs.Bounds.{Limits}
use Rattle.inf_area.specs.{declared.targets.SystemConstant.SystemConstant, declared.targets.Target.Target}
use Rattle.inf_opcode.specs.{Instructions.Parts, declared.instructions.Label.Label, declared.opcodes.Opcode.Opcode}
use Rattle.inf_expressions.specs.{Numbers.same, Questions.children_of, Questions.is_list, Rooted.Rooted, declared.operators.Binary.Binary}
use Rattle.inf_expressions.specs.{declared.operators.Direction.Direction, declared.operators.Operand.Operand}
use Rattle.inf_expressions.specs.{declared.operators.Single.Single, declared.operators.Test.Test, declared.operators.Unary.Unary}
use Rattle.inf_expressions.specs.Trees.{Tree, Leaf, One, Two}
use Rattle.inf_output.specs.{Operands.written, declared.items.Item.Item, declared.operands.Simple.Simple}
use Rattle.inf_output.specs.Output.{Out, naming, to}
use Rattle.inf_templates.specs.{Meaning.Meaning, Meaning.meaning, Meaning.part, Parts.SP, Parts.operands, Parts.worked}
use Rattle.inf_constructs.specs.{declared.constructs.Construct.Construct, declared.constructs.Over.Over}
use Rattle.inf_constructs.specs.Constructs.{looped, looped_by, over_all, over_children, tested_over}
use Rattle.inf_interpreter.specs.Machine.{World, Store, State, Place, ◌then◌, acted, action_of, given, less, put_in, with_top}
use Rattle.inf_interpreter.specs.Machine.{with_variable}
use Rattle.inf_interpreter.specs.Claims.{Comes, state}
use Rattle.inf_interpreter.specs.Machine as machine
use Rattle.inf_interpreter.proofs.Laying.{Always, instruction_, marked_, naming_, naming_of, nothing_, so, then_}
use Rattle.inf_interpreter.proofs.Running.{comes_then, here, none_some, not_kept, opened, same_some, stepping}
use Rattle.inf_meaning_laws.specs.{Covered.Covered, Laws.Branches}
use Rattle.inf_meaning_laws.specs.Values.{Aim, Arg, Bytes, Element, Named, Nowhere, Properties, Sense, Words, answer, arg, is_own, nobody}
use Rattle.inf_meaning_laws.specs.Values.{sense, truth_of}
use Rattle.inf_meaning_laws.specs.Values as values
use Rattle.inf_meaning_laws.proofs.Expressions.{branches_are_taken, values_are_computed}
use Rattle.inf_meaning_laws.proofs.Instructions.{given_is, goes, moved, named_is, same_not}
use Rattle.inf_meaning_laws.proofs.Working.{IsPart, leaf_simple, looks}
use Rattle.inf_control_laws.specs.{Parts.BeginsLoop, Runs.LaysNone}
use Rattle.inf_control_laws.specs.Loops.{LoopBegins, first_by, holds_by, in_variable, loop_variable, next_by}
use Rattle.inf_control_laws.proofs.{Laying.lays_code, Laying.none_then, Plain.one_operand, Plain.two_operand}

-- truths, and values with the store behind them, that are the same
abbrev SameTruth : Bool × Store → Bool × Store → Type 0
SameTruth p q = p ≡ q

abbrev SameValue : ℕ × Store → ℕ × Store → Type 0
SameValue p q = p ≡ q

-- `v = a` is true where it is not 0 what the variable has behind it.
assigned_opened : (w : World) (v : ℕ) (own : Bool) (a : Sense) (s : Store) (b : Bool) (t : Store) →
    (values.assigned w (values.aim_at v own) a).truth s ≡ Some (b, t) →
    (own ≡ false) × (p : ℕ × Store) × (a.value (with_variable v) s ≡ Some p) × SameTruth (not (p.1.variables v == 0), p.1) (b, t)
assigned_opened w v true a s b t e = none_some e
assigned_opened w v false a s b t e =
    let o = opened (a.value (with_variable v) s then λ p. answer nobody (p.1.variables v) p.1) (λ p. Some (not (p.0 == 0), p.1)) (b, t) e in
    let q = opened (a.value (with_variable v) s) (λ p. answer nobody (p.1.variables v) p.1) o.0 o.1 in
    let stored : SameTruth (not (q.0.1.variables v == 0), q.0.1) (not (o.0.0 == 0), o.0.1) =
    ap (λ (x : ℕ × Store). (not (x.0 == 0), x.1)) (same_some q.2) in
    (refl, q.0, q.1, stored ∙ same_some o.2)

read_back : (v n : ℕ) (u : Store) → (with_variable v n u).variables v ≡ n
read_back v n u = ap (λ b. if b then n else u.variables v) (eq-eqb v v refl)

stored_is : (v n : ℕ) (u : Store) (p : ℕ × Store) (b : Bool) (t : Store) → SameValue (n, with_variable v n u) p →
    SameTruth (not (p.1.variables v == 0), p.1) (b, t) → SameTruth (not (n == 0), with_variable v n u) (b, t)
stored_is v n u p b t e f =
    let known : SameTruth (not (n == 0), with_variable v n u) (not ((with_variable v n u).variables v == 0), with_variable v n u) =
    ap (λ (m : ℕ). (not (m == 0), with_variable v n u)) (sym (read_back v n u)) in
    let stored : SameTruth (not ((with_variable v n u).variables v == 0), with_variable v n u) (not (p.1.variables v == 0), p.1) =
    ap (λ (x : ℕ × Store). (not (x.1.variables v == 0), x.1)) e in
    known ∙ stored ∙ f

-- a variable that an expression may name is put in the store
no_stack : {A : Type 0} (x y : Bool) (a c : A) → (x || y) ≡ false → (if x then a else c) ≡ c
no_stack true y a c e = absurd (cc e)
no_stack false y a c e = refl

put_is : (v n : ℕ) (s : State) → is_own v ≡ false → put_in v n s ≡ record s { store = with_variable v n s.store }
put_is v n s e = no_stack (v == 0) (v == 255) (record s { stack = with_top n s.stack }) (given v n s) e ∙ given_is v n s e

-- A tree is a part of an instruction: only a leaf is one without code.
before_leaf : (w : World) (how : Direction) (aim : Aim) → (values.stepped_before w how aim).leaf ≡ None
before_leaf w how Nowhere = refl
before_leaf w how other = refl

behind_leaf : (w : World) (how : Direction) (aim : Aim) → (values.stepped_behind w how aim).leaf ≡ None
behind_leaf w how Nowhere = refl
behind_leaf w how other = refl

assigned_leaf : (w : World) (aim : Aim) (a : Sense) → (values.assigned w aim a).leaf ≡ None
assigned_leaf w Nowhere a = refl
assigned_leaf w other a = refl

called_leaf : (w : World) (aim : Aim) (a : Sense) (arguments : List Arg) → (values.called_as w aim a arguments).leaf ≡ None
called_leaf w Nowhere a arguments = refl
called_leaf w (Named v) a arguments = refl
called_leaf w (Element Bytes parts) a arguments = refl
called_leaf w (Element Words parts) a arguments = refl
called_leaf w (Element Properties parts) a arguments = refl

one_leaf : (w : World) (op : Unary) (a : Sense) → (values.one w op a).leaf ≡ None
one_leaf w (Unary.Before how) a = before_leaf w how a.aim
one_leaf w (Unary.Behind how) a = behind_leaf w how a.aim
one_leaf w Unary.Call a = called_leaf w a.aim a []
one_leaf w (Unary.Single Single.Complement) a = refl
one_leaf w (Unary.Single Single.Parent) a = refl
one_leaf w (Unary.Single Single.Random) a = refl
one_leaf w other a = refl

two_leaf : (w : World) (op : Binary) (a b : Sense) → (values.two w op a b).leaf ≡ None
two_leaf w Binary.Assign a b = assigned_leaf w a.aim b
two_leaf w Binary.Call a b = called_leaf w a.aim a (values.args b)
two_leaf w other a b = refl

leaf_is : (w : World) (limits : Limits) (t : Tree) → (meaning limits t).operand ≡ leaf_simple (sense w t).leaf
leaf_is w limits (Leaf x) = refl
leaf_is w limits (One op a) = one_operand limits op (meaning limits a) ∙ sym (ap leaf_simple (one_leaf w op (sense w a)))
leaf_is w limits (Two op a b) =
    two_operand limits op (meaning limits a) (meaning limits b) ∙ sym (ap leaf_simple (two_leaf w op (sense w a) (sense w b)))

part_is : (w : World) (limits : Limits) (t : Tree) → Covered false t → IsPart false w (part (meaning limits t)) (arg (sense w t))
part_is w limits t h = record { operand = leaf_is w limits t; pushes = λ _. values_are_computed false w limits t h SP }

-- An instruction finds an object and puts it into the variable: the branch is where there is one, or where there is none.
abbrev found_by : World → (Store → ℕ → ℕ) → Sense → Sense
found_by w f a = values.computed w (λ s. machine.found_one (f s)) (arg a ∷ [])

found_branches : (w : World) (limits : Limits) (op : Opcode) (f : Store → ℕ → ℕ) (m : Meaning) (a : Sense) →
    action_of w op ≡ machine.Finds f → IsPart false w (part m) (arg a) → (v : ℕ) (sense : Bool) (label : Label) →
    Always w (worked limits op (part m ∷ []) (Some v) (to sense label))
    (Branches false w (values.assigned w (values.aim_at v (is_own v)) (found_by w f a)).truth sense label)
found_branches w limits op f m a act h v sense label = so (λ at from rest p stack temp s b t e.
    let g = assigned_opened w v (is_own v) (found_by w f a) s b t e in
    let o = opened (values.values w (arg a ∷ []) s) (λ p. machine.found_one (f p.1) p.0 then λ n. answer (with_variable v) n p.1) g.1 g.2 in
    let q = opened (machine.found_one (f o.0.1) o.0.0) (λ n. answer (with_variable v) n o.0.1) g.1 o.2 in
    let branch = to sense label in
    let l = p.1 stack temp s o.0.0 o.0.1 o.1 in
    let ready = state stack l.0 o.0.1 in
    let now = state stack l.0 (with_variable v q.0 o.0.1) in
    let item : Parts = record {
      opcode = op;
      operands = map written (operands (part m ∷ []));
      store = Some v;
      branch = to sense label;
      text = [];
    } in
    let there = same (not (q.0 == 0)) sense in
    let moves = ap (λ x. acted w at x item rest l.2) act
    ∙ ap (λ k. k then λ p'. machine.found_one (f p'.1.store) p'.0 then λ n. machine.branched_with (Some v) branch n at rest p'.1) l.4
    ∙ ap (λ k. k then λ n. machine.branched_with (Some v) branch n at rest ready) q.1
    ∙ goes there label at rest (given v q.0 ready)
    ∙ ap (λ u. Some (if there then at label else rest, u)) (given_is v q.0 ready g.0) in
    let c = comes_then l.5 (stepping w at (Item.Instruction item) p.0 rest l.2 (if there then at label else rest, now) p.2 moves) in (
      l.0,
      not_kept,
      subst (λ (y : Bool × Store). Comes w at from (state stack temp s) (if same y.0 sense then at label else rest) (state stack l.0 y.1))
          (stored_is v q.0 o.0.1 g.1 b t (same_some q.2) g.3) c,
    ))
    (then_ (looks {keeps = false} w (part m ∷ []) (arg a ∷ []) (h, tt)) (instruction_ limits op
    (operands (part m ∷ [])) (Some v) (to sense label)))

-- a condition that is always true
always_holds : (w : World) (at : Label → Place) (place : Place) (label : Label) →
    Branches false w (λ s. Some (true, s)) false label at place place
always_holds w at place label stack temp s b t e = (
  temp,
  not_kept,
  subst (λ (y : Bool × Store). Comes w at place (state stack temp s) (if same y.0 false then at label else place) (state stack temp y.1))
      (same_some e) (here w at place (state stack temp s)),
)

-- Lemmas about the children of an object
first_child : (w : World) (limits : Limits) (e t : Tree) → Covered false e → (v : ℕ) (c : Construct) →
    Always w (over_children limits e v c) (BeginsLoop w (truth_of w (first_by (Some e) v)) (holds_by w (Some e) t) c.top c.next c.end)
first_child w limits e t h v c = so (λ at from rest p. (p.0, rest, p.1, p.2, always_holds w at rest c.next))
    (then_ (found_branches w limits Opcode.GetChild w.child (meaning limits e) (sense w e) refl (part_is w limits e h) v false c.end)
    (marked_ limits c.top))

-- Lemmas about all objects, from number 5 on
first_number : (w : World) (limits : Limits) (v : ℕ) (end : Label) →
    Always w (naming limits Opcode.Store v (Simple.Known 5 ∷ []) None None) (Branches false w (truth_of w (first_by None v)) false end)
first_number w limits v end = so (λ at from rest place stack temp s b t e.
    let g = assigned_opened w v (is_own v) (values.leaf w (Operand.Known 5)) s b t e in
    let start = state stack temp s in
    let now = state stack temp (with_variable v 5 s) in
    let moves = ap (λ u. Some (rest, u)) (put_is v 5 start g.0) in
    let c = stepping w at (naming_of Opcode.Store v (Simple.Known 5 ∷ []) None None) from rest start (rest, now) place moves in (
      temp,
      not_kept,
      subst (λ (y : Bool × Store). Comes w at from start (if same y.0 false then at end else rest) (state stack temp y.1))
          (stored_is v 5 s g.1 b t (same_some g.2) g.3) c,
    ))
    (naming_ limits Opcode.Store v (Simple.Known 5 ∷ []) None None)

condition_tested : (w : World) (limits : Limits) (t : Tree) → Covered false t → (next : Label) →
    Always w (tested_over (meaning limits t).operand (meaning limits t) next) (Branches false w (holds_by w None t) false next)
condition_tested w limits (Leaf x) h next =
    so (λ at from rest place. subst (λ p. Branches false w (λ s. Some (true, s)) false next at p rest) (sym place)
    (always_holds w at rest next)) nothing_
condition_tested w limits (One op a) h next =
    subst (λ k. Always w (tested_over k (meaning limits (One op a)) next) (Branches false w (truth_of w (One op a)) false next))
    (sym (one_operand limits op (meaning limits a))) (branches_are_taken false w limits (One op a) h false next)
condition_tested w limits (Two op a b) h next =
    subst (λ k. Always w (tested_over k (meaning limits (Two op a b)) next) (Branches false w (truth_of w (Two op a b)) false next))
    (sym (two_operand limits op (meaning limits a) (meaning limits b))) (branches_are_taken false w limits (Two op a b) h false next)

first_object : (w : World) (limits : Limits) (t : Tree) → Covered false t → (v : ℕ) (c : Construct) →
    Always w (over_all limits (meaning limits t) v c)
    (BeginsLoop w (truth_of w (first_by None v)) (holds_by w None t) c.top c.next c.end)
first_object w limits t h v c = so (λ at from rest p. (p.0, p.2.0, p.1, p.2.1, p.2.2))
    (then_ (first_number w limits v c.end) (then_ (marked_ limits c.top) (condition_tested w limits t h c.next)))

-- The next number is compared with the last one.
stepped_opened : (w : World) (v : ℕ) (own : Bool) (last : Target) (s : Store) (b : Bool) (t : Store) →
    values.compared w Test.AtMost (values.stepped_before w Direction.Up (values.aim_at v own)).leaf
    (values.stepped_before w Direction.Up (values.aim_at v own)) (values.args (values.leaf w (Operand.Later last))) s ≡ Some (b, t) →
    (own ≡ false) × SameTruth (not (less (w.later last) (values.next Direction.Up v s)), values.with_step Direction.Up v s) (b, t)
stepped_opened w v true last s b t e = none_some e
stepped_opened w v false last s b t e = (refl, same_some e)

next_number : (w : World) (limits : Limits) (v : ℕ) (last : Target) (top : Label) →
    Always w (naming limits Opcode.IncChk v (Simple.Later last ∷ []) None (to false top))
    (Branches false w (truth_of w (Two (Binary.Test Test.AtMost) (One (Unary.Before Direction.Up) (in_variable v))
    (Leaf (Operand.Later last))))
    true top)
next_number w limits v last top = so (λ at from rest place stack temp s b t e.
    let g = stepped_opened w v (is_own v) last s b t e in
    let start = state stack temp s in
    let n = values.next Direction.Up v s in
    let is_past = less (w.later last) n in
    let there = if same is_past false then at top else rest in
    let now = state stack temp (values.with_step Direction.Up v s) in
    let moves =
    ap (λ k. k then λ m. machine.checked v ((m + 1) % 65536) (w.later last ∷ []) (to false top) at rest start) (named_is v start g.0)
    ∙ goes (same is_past false) top at rest (put_in v n start)
    ∙ ap (λ u. Some (there, u)) (put_is v n start g.0) in
    let c =
    stepping w at (naming_of Opcode.IncChk v (Simple.Later last ∷ []) None (to false top)) from rest start (there, now) place moves in (
      temp,
      not_kept,
      subst (λ (y : Bool × Store). Comes w at from start (if same y.0 true then at top else rest) (state stack temp y.1)) g.1
          (moved (ap (λ k. if k then at top else rest) (same_not is_past true)) c),
    ))
    (naming_ limits Opcode.IncChk v (Simple.Later last ∷ []) None (to false top))

-- A loop begins, by its form.
abbrev CoversLoop : Option Tree → Tree → Type 0
CoversLoop (Some e) t = Covered false e
CoversLoop None t = Covered false t

covers_loop : (t : Tree) → Covered false t → CoversLoop (children_of t) t
covers_loop (Two (Binary.Test Test.In) (Leaf v) e) h = by_list (is_list e)
  where
    by_list : (b : Bool) → CoversLoop (if b then None else Some e) (Two (Binary.Test Test.In) (Leaf v) e)
    by_list true = h
    by_list false = h.2
covers_loop t h = h

loop_laid : (w : World) (limits : Limits) (x : Option Tree) (t : Tree) (v : ℕ) (c : Construct) (around : List Construct) (before o : Out) →
    CoversLoop x t → LaysNone before o →
    let l = looped_by limits x t v c o in
    LoopBegins w limits x t v c before (l.0 ∷ around) l.1
loop_laid w limits (Some e) t v c around before o h still =
    let P = BeginsLoop w (truth_of w (first_by (Some e) v)) (holds_by w (Some e) t) c.top c.next c.end in
    let goes_on = found_branches w limits Opcode.GetSibling w.sibling (meaning limits (in_variable v)) (sense w (in_variable v)) refl
    (part_is w limits (in_variable v) tt) v true c.top in record {
      goes = record {
        how = Over.Children;
        variable = v;
        is = refl;
        some = tt;
        steps = λ u. lays_code w (worked limits Opcode.GetSibling (part (meaning limits (in_variable v)) ∷ []) (Some v) (to true c.top))
            (Branches false w (truth_of w (next_by (Some e) v)) true c.top) goes_on u;
      };
      begins = none_then w P before o (over_children limits e v c o) still
          (lays_code w (over_children limits e v c) P (first_child w limits e t h v c) o);
    }
loop_laid w limits None t v c around before o h still =
    let P = BeginsLoop w (truth_of w (first_by None v)) (holds_by w None t) c.top c.next c.end in
    let last = Target.System SystemConstant.HighestObjectNumber in record {
      goes = record {
        how = Over.All;
        variable = v;
        is = refl;
        some = tt;
        steps = λ u. lays_code w (naming limits Opcode.IncChk v (Simple.Later last ∷ []) None (to false c.top))
            (Branches false w (truth_of w (next_by None v)) true c.top) (next_number w limits v last c.top) u;
      };
      begins = none_then w P before o (over_all limits (meaning limits t) v c o) still
          (lays_code w (over_all limits (meaning limits t) v c) P (first_object w limits t h v c) o);
    }

pub looped_laid : (w : World) (limits : Limits) (r : Rooted) (c : Construct) (around : List Construct) (before o : Out) →
    Covered false r.tree → LaysNone before o →
    let l = looped limits r c o in
    LoopBegins w limits (children_of r.tree) r.tree (loop_variable r) c before (l.0 ∷ around) l.1
unfolding looped
looped_laid w limits r c around before o h still =
    loop_laid w limits (children_of r.tree) r.tree (loop_variable r) c around before o (covers_loop r.tree h) still

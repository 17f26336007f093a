-- Cases of a `switch`: their tests, and the code with which they begin.
use Rattle.std.proofs.Common.{◌≡◌, ℕ, List, [], ◌∷◌, ◌++◌, Option, Some, None, Bool, true, false, refl, ◌∙◌, ap, sym, subst}
use Rattle.std.proofs.lemmas.List.{map-append}
use Rattle.std.specs.Prelude.{map, not, ◌==◌, ◌&&◌, ◌||◌, if◌then◌else◌}
use Rattle.inf_settings.specs.Bounds.{Limits}
use Rattle.inf_opcode.specs.{Instructions.Parts, declared.instructions.Label.Label, declared.opcodes.Opcode.Opcode}
use Rattle.inf_expressions.specs.{Numbers.same, declared.operators.Binary.Binary, declared.operators.Operand.Operand}
use Rattle.inf_expressions.specs.Trees.{Tree, Leaf, Two}
use Rattle.inf_output.specs.{Operands.written, declared.items.Item.Item, declared.operands.Simple.Simple}
use Rattle.inf_output.specs.Output.{Out, instruction, marked, nothing, to, ◌▸◌}
use Rattle.inf_output.specs.Output as output
use Rattle.inf_templates.specs.Parts.{simple}
use Rattle.inf_constructs.specs.{declared.constructs.Case.Case, declared.constructs.Construct.Construct, declared.constructs.Kind.Kind}
use Rattle.inf_constructs.specs.Cases.{SWITCHED, beside, case_code, case_tested, group_tested, grouped, is_open, range_tested}
use Rattle.inf_constructs.specs.Cases.{value_grouped, value_laid, within}
use Rattle.inf_constructs.specs.Constructs.{break_of, case_closed, case_entered, continue_of, entered, entered_by, found_or, left_to}
use Rattle.inf_constructs.specs.Constructs.{next_case}
use Rattle.inf_interpreter.specs.Machine.{World, Store, State, Place, ◌then◌, acted, action_of, and_first, branched, first_is_any, is_any}
use Rattle.inf_interpreter.specs.Machine.{less, operand_values, test_of_two}
use Rattle.inf_interpreter.specs.Claims.{Claim, Comes, state}
use Rattle.inf_interpreter.specs.Machine as machine
use Rattle.inf_interpreter.proofs.Laying.{Always, Marks, Then, instruction_, instruction_of, labelled, marked_, nothing_, so, then_}
use Rattle.inf_interpreter.proofs.Running.{comes_then, here, none_some, not_kept, opened, same_some, stepping}
use Rattle.inf_meaning_laws.specs.{Laws.Branches, Values.read}
use Rattle.inf_meaning_laws.proofs.{Instructions.begun, Instructions.goes, Instructions.mark_comes, Instructions.moved, Working.looked_up}
use Rattle.inf_control_laws.specs.{Carrying.CaseBegins, Cases.AreValues, Cases.case_truth, Cases.is_one_of, Cases.is_value, Cases.is_within}
use Rattle.inf_control_laws.specs.{Parts.EndsCase, Parts.TestsCase, Parts.case_in, Runs.Exits, Runs.LaysNone, Runs.exits}
use Rattle.inf_control_laws.proofs.Laying.{lays_code, lays_then, none_alike, none_then, then_none}
use Rattle.inf_control_laws.proofs.Walking.{ends_case}

-- Lemmas about constants, read one behind the other

abbrev reads : World → List Operand → Store → Option (List ℕ)
reads w [] s = Some []
reads w (x ∷ xs) s = read w x s then λ n. reads w xs s then λ ns. Some (n ∷ ns)

all_read : (w : World) (xs : List Operand) (now : State) (ns : List ℕ) → reads w xs now.store ≡ Some ns →
    operand_values w (map written (map simple xs)) now ≡ Some (ns, now)
all_read w [] now ns e = ap (λ k. Some (k, now)) (same_some e)
all_read w (x ∷ xs) now ns e =
    let o = opened (read w x now.store) (λ n. reads w xs now.store then λ l. Some (n ∷ l)) ns e in
    let q = opened (reads w xs now.store) (λ l. Some (o.0 ∷ l)) ns o.2 in
    ap (λ m. m then λ p. and_first p.0 (operand_values w (map written (map simple xs)) p.1)) (looked_up w x now o.0 o.1)
    ∙ ap (and_first o.0) (all_read w xs now q.0 q.1)
    ∙ ap (λ k. Some (k, now)) (same_some q.2)

one_read : (w : World) (x : Operand) (s : Store) (n : ℕ) → read w x s ≡ Some n → reads w (x ∷ []) s ≡ Some (n ∷ [])
one_read w x s n e = ap (λ m. m then λ k. reads w [] s then λ l. Some (k ∷ l)) e

read_behind : (w : World) (xs : List Operand) (y : Operand) (s : Store) (ns : List ℕ) (m : ℕ) → reads w xs s ≡ Some ns →
    read w y s ≡ Some m → reads w (xs ++ y ∷ []) s ≡ Some (ns ++ m ∷ [])
read_behind w [] y s ns m e f = one_read w y s m f ∙ ap (λ (l : List ℕ). Some (l ++ m ∷ [])) (same_some e)
read_behind w (x ∷ xs) y s ns m e f =
    let o = opened (read w x s) (λ n. reads w xs s then λ l. Some (n ∷ l)) ns e in
    let q = opened (reads w xs s) (λ l. Some (o.0 ∷ l)) ns o.2 in
    ap (λ k. k then λ n. reads w (xs ++ y ∷ []) s then λ l. Some (n ∷ l)) o.1
    ∙ ap (λ k. k then λ (l : List ℕ). Some (o.0 ∷ l)) (read_behind w xs y s q.0 m q.1 f)
    ∙ ap (λ (l : List ℕ). Some (l ++ m ∷ [])) (same_some q.2)

-- Lemmas about truths

same_true : (b : Bool) → same b true ≡ b
same_true true = refl
same_true false = refl

or_none : (b : Bool) → b ≡ (b || false)
or_none true = refl
or_none false = refl

first_or : (b d : Bool) → ((b || false) || d) ≡ (b || d)
first_or true d = refl
first_or false d = refl

or_behind : (b p q d r : Bool) → (p || d) ≡ (q || r) → ((b || p) || d) ≡ ((b || q) || r)
or_behind true p q d r e = refl
or_behind false p q d r e = e

any_behind : (n : ℕ) (ns : List ℕ) (m : ℕ) (d : Bool) → (is_any n (ns ++ m ∷ []) || d) ≡ (is_any n ns || ((n == m) || d))
any_behind n [] m d = first_or (n == m) d
any_behind n (k ∷ ns) m d = or_behind (n == k) (is_any n (ns ++ m ∷ [])) (is_any n ns) d ((n == m) || d) (any_behind n ns m d)

turned : (b : Bool) (p q : Place) → (if b then p else q) ≡ (if same b false then q else p)
turned true p q = refl
turned false p q = refl

-- Jumps that compare the value with constants
switched_values : (w : World) (xs : List Operand) (now : State) (ns : List ℕ) → reads w xs now.store ≡ Some ns →
    operand_values w (map written (Simple.Variable SWITCHED ∷ map simple xs)) now ≡ Some (now.store.variables SWITCHED ∷ ns, now)
switched_values w xs now ns e = ap (and_first (now.store.variables SWITCHED)) (all_read w xs now ns e)

abbrev Jumps : World → List Operand → Bool → Label → Claim
Jumps w xs sense label at from rest =
    (now : State) (ns : List ℕ) → reads w xs now.store ≡ Some ns →
    Comes w at from now (if same (is_any (now.store.variables SWITCHED) ns) sense then at label else rest) now

group_jumps : (w : World) (limits : Limits) (x : Operand) (xs : List Operand) (sense : Bool) (label : Label) →
    Always w (group_tested limits (map simple (x ∷ xs)) sense label) (Jumps w (x ∷ xs) sense label)
unfolding group_tested
group_jumps w limits x xs sense label = so (λ at from rest place now ns e.
    let all = Simple.Variable SWITCHED ∷ map simple (x ∷ xs) in
    let there = same (is_any (now.store.variables SWITCHED) ns) sense in
    stepping w at (instruction_of Opcode.Je all None (to sense label)) from rest now (if there then at label else rest, now) place
    (ap (λ k. k then λ p. first_is_any p.0 then λ b. branched (to sense label) b at rest p.1) (switched_values w (x ∷ xs) now ns e)
    ∙ goes there label at rest now))
    (instruction_ limits Opcode.Je (Simple.Variable SWITCHED ∷ map simple (x ∷ xs)) None (to sense label))

-- The numbers of an open group lead to the body.
abbrev LeadsTo : World → List Operand → Label → Claim
LeadsTo w xs body at from rest =
    (now : State) (ns : List ℕ) → reads w xs now.store ≡ Some ns →
    Comes w at from now (if is_any (now.store.variables SWITCHED) ns then at body else rest) now

group_leads : (w : World) (limits : Limits) (xs : List Operand) (body : Label) →
    Always w (group_tested limits (map simple xs) true body) (LeadsTo w xs body)
unfolding group_tested
group_leads w limits [] body = so (λ at from rest place now ns e.
    subst (λ l. Comes w at from now (if is_any (now.store.variables SWITCHED) l then at body else rest) now) (same_some e)
    (moved place (here w at from now))) nothing_
group_leads w limits (x ∷ xs) body = so (λ at from rest j now ns e.
    moved (ap (λ b. if b then at body else rest) (same_true (is_any (now.store.variables SWITCHED) ns))) (j now ns e))
    (group_jumps w limits x xs true body)

-- Lemmas about ranges
abbrev Compares : World → (ℕ → ℕ → Bool) → Operand → Bool → Label → Claim
Compares w f x sense label at from rest =
    (now : State) (m : ℕ) → read w x now.store ≡ Some m →
    Comes w at from now (if same (f (now.store.variables SWITCHED) m) sense then at label else rest) now

range_jumps : (w : World) (limits : Limits) (op : Opcode) (f : ℕ → ℕ → Bool) → action_of w op ≡ machine.Tests (λ s. test_of_two f) →
    (x : Operand) (sense : Bool) (label : Label) →
    Always w (instruction limits op (Simple.Variable SWITCHED ∷ simple x ∷ []) None (to sense label)) (Compares w f x sense label)
range_jumps w limits op f act x sense label = so (λ at from rest place now m e.
    let item : Parts = record {
      opcode = op;
      operands = map written (Simple.Variable SWITCHED ∷ simple x ∷ []);
      store = None;
      branch = to sense label;
      text = [];
    } in
    let there = same (f (now.store.variables SWITCHED) m) sense in
    stepping w at (Item.Instruction item) from rest now (if there then at label else rest, now) place
    (ap (λ a. acted w at a item rest now) act
    ∙ ap (λ k. k then λ p. test_of_two f p.0 then λ b. branched (to sense label) b at rest p.1) (switched_values w (x ∷ []) now (m ∷ [])
    (one_read w x now.store m e))
    ∙ goes there label at rest now))
    (instruction_ limits op (Simple.Variable SWITCHED ∷ simple x ∷ []) None (to sense label))

-- Both ends decide, and lead to a label where the number is in the range or where it is not.
abbrev Ranges : World → Operand → Operand → (Bool → (Label → Place) → Place → Place) → Claim
Ranges w x y place at from rest =
    (now : State) (m k : ℕ) → read w x now.store ≡ Some m → read w y now.store ≡ Some k →
    Comes w at from now (place (is_within m k (now.store.variables SWITCHED)) at rest) now

beside_by : (w : World) (at : Label → Place) (from m rest : Place) (next : Label) (now : State) (a b : Bool) →
    Comes w at from now (if same a true then at next else m) now → Comes w at m now (if same b true then at next else rest) now →
    Comes w at from now (if not a && not b then rest else at next) now
beside_by w at from m rest next now true b c d = c
beside_by w at from m rest next now false true c d = comes_then c d
beside_by w at from m rest next now false false c d = comes_then c d

beside_tests : (w : World) (limits : Limits) (x y : Operand) (next : Label) →
    Always w (beside limits (simple x) (simple y) next) (Ranges w x y (λ b at rest. if b then rest else at next))
beside_tests w limits x y next = so (λ at from rest p now m k e f.
    let n = now.store.variables SWITCHED in
    beside_by w at from p.0 rest next now (less n m) (less k n) (p.1 now m e) (p.2 now k f))
    (then_ (range_jumps w limits Opcode.Jl (λ a b. less a b) refl x true next)
    (range_jumps w limits Opcode.Jg (λ a b. less b a) refl y true next))

within_by : (w : World) (at : Label → Place) (from m l rest : Place) (beyond body : Label) (now : State) (a b : Bool) →
    Comes w at from now (if same a true then at beyond else m) now → Comes w at m now (if same b false then at body else l) now →
    Marks beyond at l rest → Comes w at from now (if not a && not b then at body else rest) now
within_by w at from m l rest beyond body now true b c d mark = moved mark.1 c
within_by w at from m l rest beyond body now false true c d mark = comes_then c (comes_then d (mark_comes w at beyond l rest now mark))
within_by w at from m l rest beyond body now false false c d mark = comes_then c d

within_tests : (w : World) (limits : Limits) (x y : Operand) (body : Label) →
    Always w (within limits (simple x) (simple y) body) (Ranges w x y (λ b at rest. if b then at body else rest))
within_tests w limits x y body = labelled λ beyond. so (λ at from rest p now m k e f.
    let n = now.store.variables SWITCHED in
    within_by w at from p.0 p.2.0 rest beyond body now (less n m) (less k n) (p.1 now m e) (p.2.1 now k f) p.2.2)
    (then_ (range_jumps w limits Opcode.Jl (λ a b. less a b) refl x true beyond)
    (then_ (range_jumps w limits Opcode.Jg (λ a b. less b a) refl y false body) (marked_ limits beyond)))

-- All values: an open group and the values behind it lead to the next case where none of them is the one that is kept. Where neither is
-- there, the last value has decided.
abbrev Passes : World → Claim
Passes w at from rest = (now : State) → Comes w at from now rest now

abbrev Decides : World → List Tree → List Operand → Label → Claim
Decides w trees xs next at from rest =
    (now : State) (ns : List ℕ) (c : Bool) → reads w xs now.store ≡ Some ns →
    is_one_of w trees (now.store.variables SWITCHED) now.store ≡ Some c →
    Comes w at from now (if is_any (now.store.variables SWITCHED) ns || c then rest else at next) now

abbrev AreTested : World → List Tree → List Operand → Label → Claim
AreTested w [] [] next = Passes w
AreTested w trees xs next = Decides w trees xs next

-- the body begins behind the tests
abbrev Before : Label → Claim → Claim
Before body P at from rest = (at body ≡ rest) × P at from rest

decided : (w : World) (trees : List Tree) (xs : List Operand) (y : Operand) (next : Label) (at : Label → Place) (from rest : Place) →
    AreTested w trees (xs ++ y ∷ []) next at from rest → Decides w trees (xs ++ y ∷ []) next at from rest
decided w [] [] y next at from rest h = h
decided w [] (x ∷ xs) y next at from rest h = h
decided w (t ∷ trees) xs y next at from rest h = h

value_opened : (w : World) (t : Tree) (trees : List Tree) (n : ℕ) (s : Store) (c : Bool) → is_one_of w (t ∷ trees) n s ≡ Some c →
    (b : Bool) × (d : Bool) × (is_value w t n s ≡ Some b) × (is_one_of w trees n s ≡ Some d) × ((b || d) ≡ c)
value_opened w t trees n s c e =
    let o = opened (is_value w t n s) (λ b. is_one_of w trees n s then λ d. Some (b || d)) c e in
    let q = opened (is_one_of w trees n s) (λ d. Some (o.0 || d)) c o.2 in
    (o.0, q.0, o.1, q.1, same_some q.2)

-- some values lead to the body, or what is behind them decides
joined_by : (w : World) (at : Label → Place) (from m rest : Place) (body next : Label) (now : State) (a c : Bool) → at body ≡ rest →
    Comes w at from now (if a then at body else m) now → Comes w at m now (if c then rest else at next) now →
    Comes w at from now (if a || c then rest else at next) now
joined_by w at from m rest body next now true c there g k = moved there g
joined_by w at from m rest body next now false c there g k = comes_then g k

last_group : (w : World) (at : Label → Place) (from m rest : Place) (body next : Label) (now : State) (a c : Bool) →
    Comes w at from now (if same a false then at next else m) now → Marks body at m rest → false ≡ c →
    Comes w at from now (if a || c then rest else at next) now
last_group w at from m rest body next now a c g mark e =
    subst (λ d. Comes w at from now (if a || d then rest else at next) now) e (by_truth a g)
  where
    by_truth : (b : Bool) → Comes w at from now (if same b false then at next else m) now →
        Comes w at from now (if b || false then rest else at next) now
    by_truth true h = comes_then h (mark_comes w at body m rest now mark)
    by_truth false h = h

-- A constant is added to the group that is open, or begins another one behind it.
constant_tested : (w : World) (limits : Limits) (y : Operand) (trees : List Tree) (xs : List Operand) (body next : Label) (z : Bool) →
    ((ys : List Operand) → Always w (grouped limits (map simple ys) trees body next ▸ marked limits body)
    (Before body (AreTested w trees ys next))) →
    Always w ((if z then nothing else group_tested limits (map simple xs) true body)
    ▸ (grouped limits (if z then map simple xs ++ simple y ∷ [] else simple y ∷ []) trees body next ▸ marked limits body))
    (Before body (Decides w (Leaf y ∷ trees) xs next))
constant_tested w limits y trees xs body next true on =
    let ys = xs ++ y ∷ [] in
    so (λ at from rest p. (
      p.2.0,
      λ now ns c e f.
          let n = now.store.variables SWITCHED in
          let o = value_opened w (Leaf y) trees n now.store c f in
          let g = opened (read w y now.store) (λ m. Some (n == m)) o.0 o.2 in
          let k = decided w trees xs y next at p.0 rest p.2.1 now (ns ++ g.0 ∷ []) o.1 (read_behind w xs y now.store ns g.0 e g.1) o.3 in
          let are = any_behind n ns g.0 o.1 ∙ ap (λ b. is_any n ns || (b || o.1)) (same_some g.2) ∙ ap (λ b. is_any n ns || b) o.4 in
          begun (sym p.1) (moved (ap (λ b. if b then rest else at next) are) k),
    ))
    (then_ nothing_ (subst (λ l. Always w (grouped limits l trees body next ▸ marked limits body) (Before body (AreTested w trees ys next)))
    (map-append simple xs (y ∷ [])) (on ys)))
constant_tested w limits y trees xs body next false on = so (λ at from rest p. (
  p.2.0,
  λ now ns c e f.
      let n = now.store.variables SWITCHED in
      let o = value_opened w (Leaf y) trees n now.store c f in
      let g = opened (read w y now.store) (λ m. Some (n == m)) o.0 o.2 in
      let k = decided w trees [] y next at p.0 rest p.2.1 now (g.0 ∷ []) o.1 (one_read w y now.store g.0 g.1) o.3 in
      let is = first_or (n == g.0) o.1 ∙ ap (λ b. b || o.1) (same_some g.2) ∙ o.4 in
      joined_by w at from p.0 rest body next now (is_any n ns) c p.2.0 (p.1 now ns e)
      (moved (ap (λ b. if b then rest else at next) is) k),
)) (then_ (group_leads w limits xs body) (on (y ∷ [])))

-- A range ends the group that is open. The last one leads to the next case, and another one to the body.
abbrev range_tree : Operand → Operand → Tree
range_tree x y = Two Binary.To (Leaf x) (Leaf y)

range_opened : (w : World) (x y : Operand) (trees : List Tree) (n : ℕ) (s : Store) (c : Bool) →
    is_one_of w (range_tree x y ∷ trees) n s ≡ Some c →
    (m : ℕ) × (k : ℕ) × (d : Bool) × (read w x s ≡ Some m) × (read w y s ≡ Some k) × (is_one_of w trees n s ≡ Some d)
    × ((is_within m k n || d) ≡ c)
range_opened w x y trees n s c e =
    let o = value_opened w (range_tree x y) trees n s c e in
    let g = opened (read w x s) (λ m. read w y s then λ k. Some (is_within m k n)) o.0 o.2 in
    let q = opened (read w y s) (λ k. Some (is_within g.0 k n)) o.0 g.2 in
    (g.0, q.0, o.1, g.1, q.1, o.3, ap (λ b. b || o.1) (same_some q.2) ∙ o.4)

passes_on : (w : World) (at : Label → Place) (from m rest : Place) (next : Label) (now : State) (c : Bool) → Comes w at m now rest now →
    Comes w at from now (if c then m else at next) now → Comes w at from now (if c then rest else at next) now
passes_on w at from m rest next now true g k = comes_then k g
passes_on w at from m rest next now false g k = k

last_range : (w : World) (limits : Limits) (x y : Operand) (xs : List Operand) (body next : Label) →
    Always w (grouped limits [] [] body next ▸ marked limits body) (Before body (Passes w)) →
    Always w (group_tested limits (map simple xs) true body
    ▸ (beside limits (simple x) (simple y) next ▸ (grouped limits [] [] body next ▸ marked limits body)))
    (Before body (Decides w (range_tree x y ∷ []) xs next))
last_range w limits x y xs body next on = so (λ at from rest p. (
  p.2.2.0,
  λ now ns c e f.
      let n = now.store.variables SWITCHED in
      let o = range_opened w x y [] n now.store c f in
      let is = or_none (is_within o.0 o.1 n) ∙ ap (λ d. is_within o.0 o.1 n || d) (same_some o.5) ∙ o.6 in
      let range = moved (ap (λ b. if b then p.2.0 else at next) is) (p.2.1 now o.0 o.1 o.3 o.4) in
      joined_by w at from p.0 rest body next now (is_any n ns) c p.2.2.0 (p.1 now ns e)
      (passes_on w at p.0 p.2.0 rest next now c (p.2.2.1 now) range),
)) (then_ (group_leads w limits xs body) (then_ (beside_tests w limits x y next) on))

other_range : (w : World) (limits : Limits) (x y : Operand) (t : Tree) (trees : List Tree) (xs : List Operand) (body next : Label) →
    Always w (grouped limits [] (t ∷ trees) body next ▸ marked limits body) (Before body (Decides w (t ∷ trees) [] next)) →
    Always w (group_tested limits (map simple xs) true body
    ▸ (within limits (simple x) (simple y) body ▸ (grouped limits [] (t ∷ trees) body next ▸ marked limits body)))
    (Before body (Decides w (range_tree x y ∷ t ∷ trees) xs next))
other_range w limits x y t trees xs body next on = so (λ at from rest p. (
  p.2.2.0,
  λ now ns c e f.
      let n = now.store.variables SWITCHED in
      let o = range_opened w x y (t ∷ trees) n now.store c f in
      let range = joined_by w at p.0 p.2.0 rest body next now (is_within o.0 o.1 n) o.2 p.2.2.0 (p.2.1 now o.0 o.1 o.3 o.4)
      (p.2.2.1 now [] o.2 refl o.5) in
      joined_by w at from p.0 rest body next now (is_any n ns) c p.2.2.0 (p.1 now ns e)
      (moved (ap (λ b. if b then rest else at next) o.6) range),
)) (then_ (group_leads w limits xs body) (then_ (within_tests w limits x y body) on))

all_tested : (w : World) (limits : Limits) (trees : List Tree) → AreValues trees → (xs : List Operand) (body next : Label) →
    Always w (grouped limits (map simple xs) trees body next ▸ marked limits body) (Before body (AreTested w trees xs next))
unfolding group_tested value_laid value_grouped range_tested
all_tested w limits [] h [] body next =
    so (λ at from rest p. (p.2.1, λ now. begun (sym p.1) (mark_comes w at body p.0 rest now p.2))) (then_ nothing_ (marked_ limits body))
all_tested w limits [] h (x ∷ xs) body next = so (λ at from rest p. (
  p.2.1,
  λ now ns c e f.
      let n = now.store.variables SWITCHED in
      last_group w at from p.0 rest body next now (is_any n ns) c (p.1 now ns e) p.2 (same_some f),
)) (then_ (group_jumps w limits x xs false next) (marked_ limits body))
all_tested w limits ((Leaf y) ∷ trees) h xs body next =
    constant_tested w limits y trees xs body next (is_open (map simple xs)) (λ ys. all_tested w limits trees h.1 ys body next)
all_tested w limits ((Two Binary.To (Leaf x) (Leaf y)) ∷ []) h xs body next =
    last_range w limits x y xs body next (all_tested w limits [] tt [] body next)
all_tested w limits ((Two Binary.To (Leaf x) (Leaf y)) ∷ t ∷ trees) h xs body next =
    other_range w limits x y t trees xs body next (all_tested w limits (t ∷ trees) h.1 [] body next)
all_tested w limits (t ∷ trees) h xs body next = absurd h.0

case_tests : (w : World) (limits : Limits) (trees : List Tree) → AreValues trees → (next : Label) →
    Always w (case_tested limits trees next) (Branches false w (case_truth w false trees) false next)
case_tests w limits [] h next =
    labelled λ body. so (λ at from rest p stack temp s b t e. none_some e) (all_tested w limits [] tt [] body next)
case_tests w limits (t ∷ trees) h next = labelled λ body. so (λ at from rest p stack temp s b u e.
    let o = opened (is_one_of w (t ∷ trees) (s.variables SWITCHED) s) (λ c. Some (c, s)) (b, u) e in
    let c = p.1 (state stack temp s) [] o.0 refl o.1 in (
      temp,
      not_kept,
      subst (λ (y : Bool × Store). Comes w at from (state stack temp s) (if same y.0 false then at next else rest) (state stack temp y.1))
          (same_some o.2) (moved (turned o.0 rest (at next)) c),
    ))
    (all_tested w limits (t ∷ trees) h [] body next)

default_tests : (w : World) (trees : List Tree) → Always w nothing (TestsCase w (case_truth w true trees) Case.Default)
default_tests w trees = so (λ at from rest place stack temp s b t e. (
  temp,
  sym (ap (λ (y : Bool × Store). y.0) (same_some e)),
  subst (λ (y : Bool × Store). Comes w at from (state stack temp s) rest (state stack temp y.1)) (same_some e)
      (moved place (here w at from (state stack temp s))),
)) nothing_

-- A case begins behind the end of the one before it.
abbrev exits_by : Kind → Construct → List Construct → Exits
exits_by k c around = record {
  breaks = found_or (break_of c k) (left_to false around);
  continues = found_or (continue_of c k) (left_to true around);
}

switch_exits : (c : Construct) (around : List Construct) (old : Case) (had_default : Bool) → c.kind ≡ Kind.Switch old had_default →
    exits (c ∷ around) ≡ record { breaks = Some c.end; continues = left_to true around }
switch_exits c around old had_default which = ap (λ k. exits_by k c around) which

case_enters : (w : World) (limits : Limits) (is_default : Bool) (trees : List Tree) → AreValues trees → (c : Construct)
    (around : List Construct) (old : Case) (had_default : Bool) → c.kind ≡ Kind.Switch old had_default → (before o : Out) →
    let e = case_entered limits false is_default old had_default c before in
    LaysNone e.1 o →
    CaseBegins w (case_truth w is_default trees) (c ∷ around) (e.0 ∷ around) before (case_code limits (next_case (e.0 ∷ around)) trees o)
unfolding case_code
case_enters w limits true trees h c around old had_default which before o still =
    let E = EndsCase old c.end in
    let T = TestsCase w (case_truth w true trees) Case.Default in
    let ends = lays_code w (case_closed limits old c.end) E (ends_case w limits old c.end) before in
    let closed = case_closed limits old c.end before in record {
      old = old;
      new = Case.Default;
      end = c.end;
      was = ap case_in which;
      is = refl;
      breaks = ap (λ (x : Exits). x.breaks) (switch_exits c around old had_default which);
      same = sym (switch_exits c around old had_default which);
      begins = lays_then w E T before o o (then_none w E before closed o ends still) (lays_code w nothing T (default_tests w trees) o);
    }
case_enters w limits false trees h c around old had_default which before o still =
    let next : Label = record { number = before.next } in
    let handed = record before { next = output.behind before.next } in
    let E = EndsCase old c.end in
    let T = TestsCase w (case_truth w false trees) (Case.Values next) in
    let ends = lays_code w (case_closed limits old c.end) E (ends_case w limits old c.end) handed in
    let closed = case_closed limits old c.end handed in
    let now = case_tested limits trees next o in record {
      old = old;
      new = Case.Values next;
      end = c.end;
      was = ap case_in which;
      is = refl;
      breaks = ap (λ (x : Exits). x.breaks) (switch_exits c around old had_default which);
      same = sym (switch_exits c around old had_default which);
      begins = none_then w (Then E T) before handed now (none_alike before handed refl refl refl refl)
          (lays_then w E T handed o now (then_none w E handed closed o ends still)
          (lays_code w (case_tested limits trees next) T (case_tests w limits trees h next) o));
    }

entered_is : (limits : Limits) (is_default : Bool) (c : Construct) (old : Case) (had_default : Bool) →
    c.kind ≡ Kind.Switch old had_default → (before : Out) →
    entered limits is_default c before ≡ case_entered limits false is_default old had_default c before
unfolding entered
entered_is limits is_default c old had_default which before = ap (λ k. entered_by limits k is_default c before) which

pub case_begins : (w : World) (limits : Limits) (is_default : Bool) (trees : List Tree) → AreValues trees → (c : Construct)
    (around : List Construct) (old : Case) (had_default : Bool) → c.kind ≡ Kind.Switch old had_default → (before o : Out) →
    let e = entered limits is_default c before in
    LaysNone e.1 o →
    CaseBegins w (case_truth w is_default trees) (c ∷ around) (e.0 ∷ around) before (case_code limits (next_case (e.0 ∷ around)) trees o)
case_begins w limits is_default trees h c around old had_default which before o still = subst (λ (z : Construct × Out). LaysNone z.1 o →
    CaseBegins w (case_truth w is_default trees) (c ∷ around) (z.0 ∷ around) before (case_code limits (next_case (z.0 ∷ around)) trees o))
    (sym (entered_is limits is_default c old had_default which before))
    (case_enters w limits is_default trees h c around old had_default which before o) still

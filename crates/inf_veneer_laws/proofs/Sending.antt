-- The routine that sends messages.
use Rattle.std.proofs.Common.{◌≡◌, ◌<◌, ℕ, List, [], ◌∷◌, Option, Some, None, Bool, true, false, not, refl, ◌∙◌, ap, sym}
use Rattle.std.specs.Prelude.{◌==◌, codes, if◌then◌else◌}
use Rattle.inf_area.specs.declared.targets.Target.{Target}
use Rattle.inf_expressions.specs.{declared.operators.Binary.Binary, declared.operators.Operand.Operand, declared.operators.Test.Test}
use Rattle.inf_expressions.specs.Trees.{Leaf, Tree, Two}
use Rattle.inf_interpreter.specs.Machine.{Store, World, ◌then◌, with_variable}
use Rattle.inf_interpreter.proofs.Running.{opened, same_some}
use Rattle.inf_meaning_laws.specs.Values.{answer, is_own, nobody, number, opposite, read, tested, truth_of}
use Rattle.inf_control_laws.specs.Control.{Done, Effect, Outcome, Returned, Truth, both_run, effect, if_run}
use Rattle.inf_control_laws.specs.Plain.{return_run}
use Rattle.inf_veneer_laws.specs.{Classes.TellsRegion, Classes.region_of, Message.message_names, Message.send_message, Properties.any_value}
use Rattle.inf_veneer_laws.specs.{Routines.assigned, Sources.Evaluate, Sources.Return, Sources.Statement, Worlds.HasObjects}
use Rattle.inf_veneer_laws.specs.Running.{Calls, Numbers, control, ended, entered, left, printed}
use Rattle.inf_veneer_laws.specs.Sending.{HasMessages, IsOuter, KeepsLocals, MessageMeets, MessagesAreSent, Sends, SendsMessage}
use Rattle.inf_veneer_laws.specs.Sending.{answered_by, five, message_by, message_called, string_told, with_action, with_object}
use Rattle.inf_veneer_laws.specs.Sending.{with_object_of}
use Rattle.inf_veneer_laws.specs.Message as named
use Rattle.inf_veneer_laws.specs.Routines as routines
use Rattle.inf_veneer_laws.proofs.Flow.{both_done, both_returns, comes_to, guard_passes, guard_returns, is_found, or_false, returns_with}
use Rattle.inf_veneer_laws.proofs.Locals.{entered_gone, global_left, left_twice, local_left, one_local, outside, self_left}

-- Stores of a call: its locals hold the value, `self` and `sender`; and `self` and `sender` are set.

abbrev held : ℕ → ℕ → ℕ → List ℕ → Store → Store
held v q r ns s = with_variable 10 r (with_variable 9 q (with_variable 8 v (entered ns s)))

abbrev placed : ℕ → ℕ → Store → Store
placed o q s = with_variable 253 o (with_variable 252 q s)

held_gone : (v q r : ℕ) (ns : List ℕ) (s l : Store) → left l (held v q r ns s) ≡ left l s
held_gone v q r ns s l = local_left l (with_variable 9 q (with_variable 8 v (entered ns s))) 10 r refl
    ∙ local_left l (with_variable 8 v (entered ns s)) 9 q refl
    ∙ local_left l (entered ns s) 8 v refl
    ∙ entered_gone ns l s

placed_left : (o q : ℕ) (l s : Store) → left l (placed o q s) ≡ placed o q (left l s)
placed_left o q l s = global_left l (with_variable 252 q s) 253 o refl ∙ ap (with_variable 253 o) (global_left l s 252 q refl)

acted_left : (m o q : ℕ) (l s : Store) → left l (with_variable 251 m (placed o q s)) ≡ with_variable 251 m (placed o q (left l s))
acted_left m o q l s = global_left l (placed o q s) 251 m refl ∙ ap (with_variable 251 m) (placed_left o q l s)

-- A call from two stores that differ in locals alone: the change `g` leaves locals as they are.

abbrev pub with_locals : Store → Option (ℕ × ℕ × Store) → Option (ℕ × ℕ × Store)
with_locals l m = m then λ r. Some (r.0, r.1, left l r.2)

abbrev Leaves : (Store → Store) → Type 0
Leaves g = (l s : Store) → left l (g s) ≡ g (left l s)

fits : (g : Store → Store) → Leaves g → (base s : Store) → left (g base) base ≡ left (g base) s → left (g base) (g s) ≡ g base
fits g leaves base s gone = leaves (g base) s ∙ ap g (sym gone) ∙ sym (leaves (g base) base) ∙ self_left (g base)

called_there : (w : World) → KeepsLocals w → (g : Store → Store) → Leaves g → (base s : Store) →
    left (g base) base ≡ left (g base) s → (f : ℕ) (ns : List ℕ) (r : ℕ × ℕ × Store) → w.called (g s) f ns ≡ Some r →
    w.called (g base) f ns ≡ Some (r.0, r.1, left (g base) r.2)
called_there w k g leaves base s gone f ns r e = ap (λ (u : Store). w.called u f ns) (sym (fits g leaves base s gone))
    ∙ k.keeps (g s) (g base) f ns
    ∙ ap (with_locals (g base)) e

locals_kept : (w : World) → KeepsLocals w → (g : Store → Store) → Leaves g → (s : Store) (f : ℕ) (ns : List ℕ) (r : ℕ × ℕ × Store) →
    w.called (g s) f ns ≡ Some r → left s r.2 ≡ r.2
locals_kept w k g leaves s f ns r e =
    let own : left s (g s) ≡ g s = leaves s s ∙ ap g (self_left s) in
    let same : Some r ≡ with_locals s (Some r) =
    sym e ∙ ap (λ (u : Store). w.called u f ns) (sym own) ∙ k.keeps (g s) s f ns ∙ ap (with_locals s) e in
    sym (ap (λ (x : ℕ × ℕ × Store). x.2) (same_some same))

-- The routine is called, and `self` and `sender` are set back.

abbrev ran : World → Numbers → Operand → ℕ → Statement → Effect
ran w numbers x turns statement = effect turns (control w (message_names numbers x) statement)

abbrev call_stored : Option (ℕ × ℕ × Store) → Option (Outcome × Store)
call_stored m = (((m then λ r. answer (with_variable 8) r.0 r.2) then λ p. answer nobody (p.1.variables 8) p.1) then λ p. Some p.1)
    then λ u. Some (Done, u)

abbrev set_back : World → Numbers → Operand → ℕ → Effect
set_back w numbers x turns = both_run (ran w numbers x turns (Evaluate (assigned named.own_object named.s)))
    (both_run (ran w numbers x turns (Evaluate (assigned named.sender named.t))) (ran w numbers x turns (Return routines.x)))

abbrev routine_ran : World → Numbers → Operand → ℕ → Effect
routine_ran w numbers x turns = ran w numbers x turns (Evaluate (assigned routines.x named.routine_called))

-- The statements return from the stores that a call begins with, and the store behind the call is known.
record Answers (e : Effect) (s now : Store) (n : ℕ) (u : Store) : Type 0 where
  behind : Store
  runs : e now ≡ comes_to (Returned n) behind
  same : left s behind ≡ u

back_left : (s u l : Store) (n q r : ℕ) → left s u ≡ u →
    left s (with_variable 252 r (with_variable 253 q (with_variable 8 n (left l u)))) ≡ with_variable 252 r (with_variable 253 q u)
back_left s u l n q r kept = global_left s (with_variable 253 q (with_variable 8 n (left l u))) 252 r refl
    ∙ ap (with_variable 252 r) (global_left s (with_variable 8 n (left l u)) 253 q refl)
    ∙ ap (λ (x : Store). with_variable 252 r (with_variable 253 q x)) (local_left s (left l u) 8 n refl ∙ left_twice s l u ∙ kept)

answered_plain : (w : World) → KeepsLocals w → (numbers : Numbers) (x : Operand) (turns o p v : ℕ) (ns : List ℕ) (s : Store)
    (r : ℕ × ℕ × Store) →
    let q = s.variables 253 in
    let base = held v q (s.variables 252) (o ∷ p ∷ ns) s in
    w.called (placed o q s) v (five ns) ≡ Some r →
    Answers (both_run (routine_ran w numbers x turns) (set_back w numbers x turns)) s (placed o q base) r.0 (with_object_of s r.2)
answered_plain w k numbers x turns o p v ns s r e =
    let q = s.variables 253 in
    let back = s.variables 252 in
    let base = held v q back (o ∷ p ∷ ns) s in
    let now = placed o q base in
    let gone = held_gone v q back (o ∷ p ∷ ns) s now in
    let behind = with_variable 8 r.0 (left now r.2) in
    let called : routine_ran w numbers x turns now ≡ comes_to Done behind =
    ap call_stored (called_there w k (placed o q) (placed_left o q) base s gone v (five ns) r e) in
    record {
      behind = with_variable 252 back (with_variable 253 q behind);
      runs = both_done (routine_ran w numbers x turns) (set_back w numbers x turns) now behind called;
      same = back_left s r.2 now r.0 q back (locals_kept w k (placed o q) (placed_left o q) s v (five ns) r e);
    }

answered_acted : (w : World) → KeepsLocals w → (numbers : Numbers) (x : Operand) (turns o p v m : ℕ) (ns : List ℕ) (s : Store)
    (r : ℕ × ℕ × Store) →
    let q = s.variables 253 in
    let base = held v q (s.variables 252) (o ∷ p ∷ ns) s in
    w.called (with_variable 251 m (placed o q s)) v (five ns) ≡ Some r →
    Answers (both_run (routine_ran w numbers x turns) (set_back w numbers x turns)) s (with_variable 251 m (placed o q base)) r.0
    (with_object_of s r.2)
answered_acted w k numbers x turns o p v m ns s r e =
    let q = s.variables 253 in
    let back = s.variables 252 in
    let base = held v q back (o ∷ p ∷ ns) s in
    let change : Store → Store = λ u. with_variable 251 m (placed o q u) in
    let now = with_variable 251 m (placed o q base) in
    let gone = held_gone v q back (o ∷ p ∷ ns) s now in
    let behind = with_variable 8 r.0 (left now r.2) in
    let called : routine_ran w numbers x turns now ≡ comes_to Done behind =
    ap call_stored (called_there w k change (acted_left m o q) base s gone v (five ns) r e) in
    record {
      behind = with_variable 252 back (with_variable 253 q behind);
      runs = both_done (routine_ran w numbers x turns) (set_back w numbers x turns) now behind called;
      same = back_left s r.2 now r.0 q back (locals_kept w k change (acted_left m o q) s v (five ns) r e);
    }

-- The name `action` stands for the same where stores differ in locals alone.
read_alike : (w : World) (x : Operand) → IsOuter (Some x) → (l s t : Store) → left l s ≡ left l t → read w x s ≡ read w x t
read_alike w (Operand.Known n) outer l s t e = refl
read_alike w (Operand.Variable v) outer l s t e = ap (λ (n : ℕ). if is_own v then None else Some n) (outside l s t v outer e)
read_alike w (Operand.Later c) outer l s t e = refl
read_alike w (Operand.Function f) outer l s t e = absurd outer
read_alike w Operand.Unknown outer l s t e = absurd outer

abbrev action_stored : Store → Option ℕ → Option (Outcome × Store)
action_stored s m = (((m then λ n. answer (with_variable 251) n s) then λ p. answer nobody (p.1.variables 251) p.1) then λ p. Some p.1)
    then λ u. Some (Done, u)

abbrev side_ran : World → Numbers → Operand → ℕ → Effect
side_ran w numbers x turns = ran w numbers x turns send_message.side

side_kept : (w : World) (numbers : Numbers) (x : Operand) → IsOuter (Some x) → (turns o v : ℕ) (ns : List ℕ) (s : Store) (m : ℕ) →
    let q = s.variables 253 in
    let base = held v q (s.variables 252) ns s in
    read w x (placed o q s) ≡ Some m →
    side_ran w numbers x turns (placed o q base) ≡ comes_to Done (with_variable 251 m (placed o q base))
side_kept w numbers x outer turns o v ns s m e =
    let q = s.variables 253 in
    let base = held v q (s.variables 252) ns s in
    let same : left s (placed o q base) ≡ left s (placed o q s) =
    placed_left o q s base ∙ ap (placed o q) (held_gone v q (s.variables 252) ns s s) ∙ sym (placed_left o q s s) in
    ap (action_stored (placed o q base)) (read_alike w x outer s (placed o q base) (placed o q s) same ∙ e)

-- The conditions ask for the kind of the value in variable 8.

abbrev kind_of : World → Numbers → Tree
kind_of w numbers = Two Binary.Call (Leaf (Operand.Later (Target.Name (numbers (codes "Z__Region"))))) (Leaf (Operand.Variable 8))

abbrev is_string : World → Numbers → Truth
is_string w numbers = truth_of w (Two (Binary.Test Test.Equal) (kind_of w numbers) (Leaf (Operand.Known 3)))

abbrev no_routine : World → Numbers → Truth
no_routine w numbers = truth_of w (Two (Binary.Fails Test.Equal) (kind_of w numbers) (Leaf (Operand.Known 2)))

abbrev tested_by : World → ℕ → Store → Option (ℕ × ℕ × Store) → Option (Bool × Store)
tested_by w n s m = tested w Test.Equal (record { leaf = None; value = λ u. m then λ r. answer nobody r.0 r.2 } ∷ number n ∷ []) s

abbrev failed_by : World → ℕ → Store → Option (ℕ × ℕ × Store) → Option (Bool × Store)
failed_by w n s m =
    opposite (tested w Test.Equal (record { leaf = None; value = λ u. m then λ r. answer nobody r.0 r.2 } ∷ number n ∷ [])) s

string_is : (w : World) (numbers : Numbers) → Calls w numbers (codes "Z__Region") (TellsRegion w) → (s : Store) →
    s.variables 8 < 65536 → is_string w numbers s ≡ is_found s (region_of w (s.variables 8) == 3)
string_is w numbers calls s few =
    let x = s.variables 8 in
    let kind = region_of w x in
    ap (tested_by w 3 s) (calls.comes (x ∷ []) s kind s (few, refl, refl)).1 ∙ ap (is_found s) (or_false (kind == 3))

routine_is : (w : World) (numbers : Numbers) → Calls w numbers (codes "Z__Region") (TellsRegion w) → (s : Store) →
    s.variables 8 < 65536 → no_routine w numbers s ≡ is_found s (not (region_of w (s.variables 8) == 2))
routine_is w numbers calls s few =
    let x = s.variables 8 in
    let kind = region_of w x in
    ap (failed_by w 2 s) (calls.comes (x ∷ []) s kind s (few, refl, refl)).1
    ∙ ap (λ (b : Bool). is_found s (not b)) (or_false (kind == 2))

-- The statements in front of the directive, behind the first one

abbrev own_set : World → Numbers → Operand → ℕ → Effect
own_set w numbers x turns = both_run (ran w numbers x turns (Evaluate (assigned named.s named.own_object)))
    (both_run (ran w numbers x turns (Evaluate (assigned named.t named.sender)))
    (both_run (ran w numbers x turns (Evaluate (assigned named.sender named.own_object)))
    (ran w numbers x turns (Evaluate (assigned named.own_object routines.o)))))

abbrev value_returned : World → Effect
value_returned w = return_run w (Leaf (Operand.Variable 8) ∷ [])

abbrev by_routine : World → Numbers → Operand → ℕ → Effect
by_routine w numbers x turns = both_run (if_run (no_routine w numbers) (value_returned w)) (own_set w numbers x turns)

abbrev by_value : World → Numbers → Operand → ℕ → Effect
by_value w numbers x turns = both_run (if_run (is_string w numbers) (printed w (Leaf (Operand.Variable 8)))) (by_routine w numbers x turns)

-- the outcome of the statements behind the first one, with those behind the directive, by the kind of the value
sent_by : (w : World) (numbers : Numbers) → Calls w numbers (codes "Z__Region") (TellsRegion w) → (x : Operand) (turns : ℕ)
    (next : Effect) (o p v : ℕ) (ns : List ℕ) (s : Store) → v < 65536 → (is_text is_routine : Bool) →
    (region_of w v == 3) ≡ is_text → (region_of w v == 2) ≡ is_routine → (n : ℕ) (u : Store) (m : Option (ℕ × Store)) →
    (m ≡ Some (n, u) → Answers next s (placed o (s.variables 253) (held v (s.variables 253) (s.variables 252) (o ∷ p ∷ ns) s)) n u) →
    (if is_text then Some (1, string_told v s) else if is_routine then m else Some (v, s)) ≡ Some (n, u) →
    Answers (both_run (by_value w numbers x turns) next) s (with_variable 8 v (entered (o ∷ p ∷ ns) s)) n u
sent_by w numbers calls x turns next o p v ns s few true is_routine e f n u m answers known =
    let now = with_variable 8 v (entered (o ∷ p ∷ ns) s) in
    let told = string_told v now in
    let r = same_some known in
    let ends : by_value w numbers x turns now ≡ comes_to (Returned 1) told =
    guard_returns (is_string w numbers) (printed w (Leaf (Operand.Variable 8))) (by_routine w numbers x turns) now told 1
    (string_is w numbers calls now few ∙ ap (is_found now) e) refl in
    record {
      behind = told;
      runs = both_returns (by_value w numbers x turns) next now told 1 ends ∙ ap (λ (k : ℕ × Store). comes_to (Returned k.0) told) r;
      same = ap (string_told v) (one_local (o ∷ p ∷ ns) s 8 v refl) ∙ ap (λ (k : ℕ × Store). k.1) r;
    }
sent_by w numbers calls x turns next o p v ns s few false false e f n u m answers known =
    let now = with_variable 8 v (entered (o ∷ p ∷ ns) s) in
    let r = same_some known in
    let other : by_routine w numbers x turns now ≡ comes_to (Returned v) now =
    guard_returns (no_routine w numbers) (value_returned w) (own_set w numbers x turns) now now v
    (routine_is w numbers calls now few ∙ ap (λ (b : Bool). is_found now (not b)) f) refl in
    let ends : by_value w numbers x turns now ≡ comes_to (Returned v) now =
    guard_passes (is_string w numbers) (printed w (Leaf (Operand.Variable 8))) (by_routine w numbers x turns) now
    (string_is w numbers calls now few ∙ ap (is_found now) e)
    ∙ other in
    record {
      behind = now;
      runs = both_returns (by_value w numbers x turns) next now now v ends ∙ ap (λ (k : ℕ × Store). comes_to (Returned k.0) now) r;
      same = one_local (o ∷ p ∷ ns) s 8 v refl ∙ ap (λ (k : ℕ × Store). k.1) r;
    }
sent_by w numbers calls x turns next o p v ns s few false true e f n u m answers known =
    let now = with_variable 8 v (entered (o ∷ p ∷ ns) s) in
    let set = placed o (s.variables 253) (held v (s.variables 253) (s.variables 252) (o ∷ p ∷ ns) s) in
    let a = answers known in
    let goes : by_value w numbers x turns now ≡ comes_to Done set =
    guard_passes (is_string w numbers) (printed w (Leaf (Operand.Variable 8))) (by_routine w numbers x turns) now
    (string_is w numbers calls now few ∙ ap (is_found now) e)
    ∙ guard_passes (no_routine w numbers) (value_returned w) (own_set w numbers x turns) now
    (routine_is w numbers calls now few ∙ ap (λ (b : Bool). is_found now (not b)) f) in
    record { behind = a.behind; runs = both_done (by_value w numbers x turns) next now set goes ∙ a.runs; same = a.same }

-- Lemmas about the calls

answers_as : (e : Effect) (s now : Store) (a b : ℕ × Store) → a ≡ b → Answers e s now a.0 a.1 → Answers e s now b.0 b.1
answers_as e s now a b h c = record {
  behind = c.behind;
  runs = c.runs ∙ ap (λ (k : ℕ × Store). comes_to (Returned k.0) c.behind) h;
  same = c.same ∙ ap (λ (k : ℕ × Store). k.1) h;
}

-- behind a statement that does something else
answers_behind : (first next : Effect) (s now there : Store) (n : ℕ) (u : Store) → first now ≡ comes_to Done there →
    Answers next s there n u → Answers (both_run first next) s now n u
answers_behind first next s now there n u e a = record {
  behind = a.behind;
  runs = both_done first next now there e ∙ a.runs;
  same = a.same;
}

abbrev answered : World → Numbers → Operand → ℕ → Effect
answered w numbers x turns = both_run (routine_ran w numbers x turns) (set_back w numbers x turns)

abbrev ready : ℕ → ℕ → ℕ → List ℕ → Store → Store
ready o p v ns s = placed o (s.variables 253) (held v (s.variables 253) (s.variables 252) (o ∷ p ∷ ns) s)

abbrev back_from : Store → Option (ℕ × ℕ × Store) → Option (ℕ × Store)
back_from s m = m then λ r. Some (r.0, with_object_of s r.2)

plain_answers : (w : World) → KeepsLocals w → (numbers : Numbers) (turns o p v : ℕ) (ns : List ℕ) (s : Store) (n : ℕ) (u : Store) →
    answered_by w None s o v ns ≡ Some (n, u) → Answers (answered w numbers Operand.Unknown turns) s (ready o p v ns s) n u
plain_answers w k numbers turns o p v ns s n u e =
    let got = opened (w.called (with_object o s) v (five ns)) (λ (r : ℕ × ℕ × Store). Some (r.0, with_object_of s r.2)) (n, u) e in
    let r = got.0 in
    answers_as (answered w numbers Operand.Unknown turns) s (ready o p v ns s) (r.0, with_object_of s r.2) (n, u) (same_some got.2)
    (answered_plain w k numbers Operand.Unknown turns o p v ns s r got.1)

abbrev action_answered : World → Numbers → Operand → ℕ → Effect
action_answered w numbers x turns = both_run (side_ran w numbers x turns) (answered w numbers x turns)

acted_answers : (w : World) → KeepsLocals w → (numbers : Numbers) (x : Operand) → IsOuter (Some x) → (turns o p v : ℕ) (ns : List ℕ)
    (s : Store) (n : ℕ) (u : Store) → answered_by w (Some x) s o v ns ≡ Some (n, u) →
    Answers (action_answered w numbers x turns) s (ready o p v ns s) n u
acted_answers w k numbers x outer turns o p v ns s n u e =
    let first = opened (with_action w (Some x) (with_object o s)) (λ (a : Store). back_from s (w.called a v (five ns))) (n, u) e in
    let second = opened (read w x (with_object o s)) (λ (m : ℕ). Some (with_variable 251 m (with_object o s))) first.0 first.1 in
    let m = second.0 in
    let now = with_variable 251 m (with_object o s) in
    let got = opened (w.called now v (five ns)) (λ (r : ℕ × ℕ × Store). Some (r.0, with_object_of s r.2)) (n, u)
    (ap (λ (a : Store). back_from s (w.called a v (five ns))) (same_some second.2) ∙ first.2) in
    let r = got.0 in
    let there = with_variable 251 m (ready o p v ns s) in
    let a = answers_as (answered w numbers x turns) s there (r.0, with_object_of s r.2) (n, u) (same_some got.2)
    (answered_acted w k numbers x turns o p v m ns s r got.1) in
    answers_behind (side_ran w numbers x turns) (answered w numbers x turns) s (ready o p v ns s) there n u
    (side_kept w numbers x outer turns o v (o ∷ p ∷ ns) s m second.1) a

sent_with : (w : World) (numbers : Numbers) → HasObjects w → (x : Operand) (turns : ℕ) (next : Effect) (o p v : ℕ) (ns : List ℕ)
    (s : Store) (n : ℕ) (u : Store) → any_value s.bytes o p ≡ Some v →
    Answers (both_run (by_value w numbers x turns) next) s (with_variable 8 v (entered (o ∷ p ∷ ns) s)) n u →
    (both_run (both_run (ran w numbers x turns (Evaluate (assigned routines.x named.property_value))) (by_value w numbers x turns)) next
    (entered (o ∷ p ∷ ns) s) then ended s) ≡ returns_with n u
sent_with w numbers h x turns next o p v ns s n u known a =
    let begun = entered (o ∷ p ∷ ns) s in
    ap (λ (c : ℕ). both_run (by_value w numbers x turns) next (with_variable 8 c begun) then ended s) (h.value begun o p v known)
    ∙ ap (λ (m : Option (Outcome × Store)). m then ended s) a.runs
    ∙ ap (returns_with n) a.same

message_comes : (w : World) (numbers : Numbers) (action : Option Operand) → HasObjects w → KeepsLocals w → IsOuter action →
    Calls w numbers (codes "Z__Region") (TellsRegion w) → (o p v : ℕ) (ns : List ℕ) (s : Store) (n : ℕ) (u : Store) (turns : ℕ) →
    v < 65536 → any_value s.bytes o p ≡ Some v → message_by w action s o v ns ≡ Some (n, u) →
    message_called w numbers action turns (o ∷ p ∷ ns) s ≡ returns_with n u
message_comes w numbers None h k outer calls o p v ns s n u turns few known e =
    let next = answered w numbers Operand.Unknown turns in
    sent_with w numbers h Operand.Unknown turns next o p v ns s n u known
    (sent_by w numbers calls Operand.Unknown turns next o p v ns s few (region_of w v == 3) (region_of w v == 2) refl refl n u
    (answered_by w None s o v ns) (plain_answers w k numbers turns o p v ns s n u) e)
message_comes w numbers (Some x) h k outer calls o p v ns s n u turns few known e =
    let next = action_answered w numbers x turns in
    sent_with w numbers h x turns next o p v ns s n u known
    (sent_by w numbers calls x turns next o p v ns s few (region_of w v == 3) (region_of w v == 2) refl refl n u
    (answered_by w (Some x) s o v ns) (acted_answers w k numbers x outer turns o p v ns s n u) e)

sends_meets : (w : World) (numbers : Numbers) (action : Option Operand) → HasObjects w → KeepsLocals w → IsOuter action →
    Calls w numbers (codes "Z__Region") (TellsRegion w) → MessageMeets w numbers action (Sends w action)
sends_meets w numbers action h k outer calls [] s n t e turns = absurd e
sends_meets w numbers action h k outer calls (o ∷ []) s n t e turns = absurd e
sends_meets w numbers action h k outer calls (o ∷ p ∷ ns) s n t e turns =
    message_comes w numbers action h k outer calls o p e.0 ns s n t turns e.1 e.2 e.3

message_meets : (w : World) (numbers : Numbers) (action : Option Operand) → HasObjects w → KeepsLocals w → IsOuter action →
    Calls w numbers (codes "Z__Region") (TellsRegion w) → HasMessages w action → MessageMeets w numbers action (SendsMessage w)
message_meets w numbers action h k outer calls m [] s n t e turns = absurd e.0
message_meets w numbers action h k outer calls m (o ∷ []) s n t e turns = absurd e.0
message_meets w numbers action h k outer calls m (o ∷ p ∷ ns) s n t e turns =
    message_comes w numbers action h k outer calls o p e.0.0 ns s n t turns e.0.1 e.0.2 (sym (m.sent s o p e.0.0 ns e.0.2) ∙ e.1)

pub messages_are_sent : MessagesAreSent
messages_are_sent w numbers action h k outer calls =
    (sends_meets w numbers action h k outer calls, message_meets w numbers action h k outer calls)

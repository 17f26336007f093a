-- Changes of a store, one behind the other, and instructions that make them.
use Rattle.std.proofs.Common.{arith, ◌≡◌, ◌≤◌, ℕ, List, [], ◌∷◌, Option, Some, None, Bool, false, true, refl, ◌∙◌, ap, subst, length}
use Rattle.std.specs.Prelude.{map}
use Rattle.inf_settings.specs.Bounds.{Limits}
use Rattle.inf_opcode.specs.{Instructions.Parts, declared.instructions.Label.Label, declared.opcodes.Opcode.Opcode}
use Rattle.inf_expressions.specs.{Trees.Tree}
use Rattle.inf_output.specs.{Operands.written, Output.nothing, declared.items.Item.Item}
use Rattle.inf_output.specs.{declared.operands.Simple.Simple, declared.veneer.Veneer.Veneer}
use Rattle.inf_templates.specs.Meaning.{meaning, part}
use Rattle.inf_templates.specs.Parts.{Part, TEMP, call, call_routine, is, operands, worked}
use Rattle.inf_interpreter.specs.Machine.{LineEnd, Place, Store, World, Writes, acted, action_of, and_first, tells, ◌then◌, write_of_none}
use Rattle.inf_interpreter.specs.Claims.{Claim, Comes, state}
use Rattle.inf_interpreter.proofs.Laying.{Always, Then, instruction_, nothing_, so, then_}
use Rattle.inf_interpreter.proofs.Running.{comes_then, here, opened, same_some, stepping}
use Rattle.inf_meaning_laws.specs.{Covered.Covered, Laws.GivesNothing}
use Rattle.inf_meaning_laws.specs.Values.{Arg, arg, calls, number, sense, values}
use Rattle.inf_meaning_laws.proofs.{Called.calls_means, Compared.number_first, Expressions.means, Instructions.moved, Instructions.writes_}
use Rattle.inf_meaning_laws.proofs.{Meant.part_of, Supplying.supplies_alone, Working.AreParts, Working.IsPart, Working.looks}
use Rattle.inf_statements.specs.Statements.{parts_in, plain}
use Rattle.inf_control_laws.specs.Control.{Change, Done, Effect, Returned}
use Rattle.inf_control_laws.specs.Runs.{Exits, Runs}
use Rattle.inf_control_laws.proofs.{Reaching.ends_as, Reaching.reaches_behind}
use Rattle.inf_effect_laws.specs.Described.{args_of, goes_on, returns_1, routine_run, with_values}
use Rattle.inf_effect_laws.specs.Written.{AllCovered}

-- Lemmas about changes one behind the other

pub changed_then : (w : World) (x : Exits) (c : Change) (e : Effect) (at : Label → Place) (from to : Place) →
    Then (GivesNothing w c) (Runs w x e) at from to → Runs w x (λ s. c s then e) at from to
changed_then w x c e at from to p stack temp s r t h =
    let o = opened (c s) e (r, t) h in
    let k = p.1 stack temp s o.0 o.1 in
    let g = p.2 stack k.0 o.0 r t o.2 in
    (g.0, reaches_behind w x at from p.0 to (state stack temp s) (state stack k.0 o.0) (state stack g.0 t) r k.1 g.1)

pub both_changed : (w : World) (c d : Change) (at : Label → Place) (from to : Place) →
    Then (GivesNothing w c) (GivesNothing w d) at from to → GivesNothing w (λ s. c s then d) at from to
both_changed w c d at from to p stack temp s t h =
    let o = opened (c s) d t h in
    let k = p.1 stack temp s o.0 o.1 in
    let g = p.2 stack k.0 o.0 t o.2 in
    (g.0, comes_then k.1 g.1)

pub none_changed : (w : World) → Always w nothing (GivesNothing w (λ s. Some s))
none_changed w = so (λ at from to place stack temp s t e. (
  temp,
  subst (λ u. Comes w at from (state stack temp s) to (state stack temp u)) (same_some e)
      (moved place (here w at from (state stack temp s))),
)) nothing_

-- Control comes behind a statement that changes the store, or leaves the routine there.
pub change_ends : (w : World) (x : Exits) (c : Change) (at : Label → Place) (from to : Place) → GivesNothing w c at from to →
    Runs w x (goes_on c) at from to
change_ends w x c at from to g stack temp s r t e =
    let o = opened (c s) (λ u. Some (Done, u)) (r, t) e in
    let k = g stack temp s o.0 o.1 in
    ends_as w x at from to (state stack temp s) stack k.0 Done r o.0 t o.2 k.1

pub change_returns : (w : World) (x : Exits) (c : Change) (at : Label → Place) (from to : Place) →
    Then (GivesNothing w c) (Runs w x (λ s. Some (Returned 1, s))) at from to → Runs w x (returns_1 c) at from to
change_returns w x c at from to p = changed_then w x c (λ s. Some (Returned 1, s)) at from to p

-- The parts of an instruction are those of the expressions.

pub part_is : (keeps : Bool) (w : World) (limits : Limits) (e : Tree) → Covered keeps e →
    IsPart keeps w (part (meaning limits e)) (arg (sense w e))
part_is keeps w limits e h = part_of w limits (meaning limits e) (sense w e) (means keeps w limits e h)

pub parts_are : (w : World) (limits : Limits) (trees : List Tree) → AllCovered trees → AreParts false w (parts_in limits trees)
    (args_of w trees)
parts_are w limits [] h = tt
parts_are w limits (e ∷ trees) h = (part_is false w limits e h.0, parts_are w limits trees h.1)

pub written_ : (w : World) (limits : Limits) (op : Opcode) (f : List ℕ → Store → Option Store) → action_of w op ≡ Writes f →
    (trees : List Tree) → AllCovered trees →
    Always w (worked limits op (parts_in limits trees) None None) (GivesNothing w (with_values w (args_of w trees) f))
written_ w limits op f act trees h = writes_ false w limits op f (parts_in limits trees) (args_of w trees) act (parts_are w limits trees h)

pub line_ended : (w : World) (limits : Limits) → Always w (plain limits Opcode.NewLine) (GivesNothing w (λ s. Some (tells LineEnd s)))
line_ended w limits = writes_ false w limits Opcode.NewLine (write_of_none (tells LineEnd)) [] [] refl tt

-- Lemmas about calls

pub routine_runs : (w : World) (limits : Limits) (v : Veneer) (trees : List Tree) → AllCovered trees → length (parts_in limits trees) ≤ 7 →
    Always w (call_routine limits v (parts_in limits trees) None) (GivesNothing w (routine_run w v trees))
routine_runs w limits v trees h few =
    supplies_alone false w limits v (parts_in limits trees) (args_of w trees) (parts_are w limits trees h) few

pub call_runs : (w : World) (limits : Limits) (f e : Tree) → AllCovered (f ∷ e ∷ []) →
    Always w (call limits (part (meaning limits f)) (part (meaning limits e) ∷ []) None)
    (GivesNothing w (calls w (args_of w (f ∷ e ∷ []))).alone)
call_runs w limits f e h = (calls_means false w limits (part (meaning limits f)) (part (meaning limits e) ∷ []) (args_of w (f ∷ e ∷ []))
    (parts_are w limits (f ∷ e ∷ []) h) (omega arith)).alone

-- Where variable 255 has a value, which an instruction takes as its first one, and which it keeps
abbrev pub Waits : World → (ℕ → Change) → Claim
Waits w change at from to =
    (stack : List ℕ) (n : ℕ) (s t : Store) → change n s ≡ Some t → Comes w at from (state stack n s) to (state stack n t)

pub waits_ : (w : World) (limits : Limits) (op : Opcode) (f : List ℕ → Store → Option Store) → action_of w op ≡ Writes f →
    (ps : List Part) (args : List Arg) → AreParts true w ps args →
    Always w (worked limits op (is (Simple.Variable TEMP) ∷ ps) None None) (Waits w (λ n. with_values w (number n ∷ args) f))
waits_ w limits op f act ps args h = so (λ at from rest p stack temp s t e.
    let o = opened (values w (number temp ∷ args) s) (λ p. f p.0 p.1) t e in
    let q = number_first w temp args s o.0.0 o.0.1 o.1 in
    let l = p.1.1 stack temp s q.0 o.0.1 q.1 in
    let all = map written (operands (is (Simple.Variable TEMP) ∷ ps)) in
    let item : Parts = record { opcode = op; operands = all; store = None; branch = None; text = [] } in
    let read = ap (and_first l.2.temp) l.4 ∙ ap (λ v. Some (v ∷ q.0, state stack l.0 o.0.1)) (l.3 ∙ l.1.same refl) in
    let moves = ap (λ a. acted w at a item rest l.2) act
    ∙ ap (λ m. m then λ p. f p.0 p.1.store then λ t. Some (rest, record p.1 { store = t })) read
    ∙ ap (λ ms. f ms o.0.1 then λ t. Some (rest, state stack l.0 t)) q.2
    ∙ ap (λ m. m then λ t. Some (rest, state stack l.0 t)) o.2 in
    let c = comes_then l.5 (stepping w at (Item.Instruction item) p.1.0 rest l.2 (rest, state stack l.0 t) (p.1.2 ∙ p.2) moves) in
    subst (λ k. Comes w at from (state stack temp s) rest (state stack k t)) (l.1.same refl) c)
    (then_ (then_ (looks {keeps = true} w ps args h) nothing_)
    (instruction_ limits op (operands (is (Simple.Variable TEMP) ∷ ps)) None None))

pub both_wait : (w : World) (c d : ℕ → Change) (at : Label → Place) (from to : Place) → Then (Waits w c) (Waits w d) at from to →
    Waits w (λ n s. c n s then d n) at from to
both_wait w c d at from to p stack n s t e =
    let o = opened (c n s) (d n) t e in comes_then (p.1 stack n s o.0 o.1) (p.2 stack n o.0 t o.2)

pub none_wait : (w : World) → Always w nothing (Waits w (λ n s. Some s))
none_wait w = so (λ at from to place stack n s t e. subst (λ u. Comes w at from (state stack n s) to (state stack n u)) (same_some e)
    (moved place (here w at from (state stack n s)))) nothing_

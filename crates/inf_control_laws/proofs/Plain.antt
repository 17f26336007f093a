-- Statements that hold no others.
use Rattle.std.proofs.Common.{◌≡◌, ℕ, List, [], ◌∷◌, Option, Some, None, Bool, true, false, refl, ◌∙◌, ap, sym, subst, ◌==◌, if◌then◌else◌}
use Rattle.std.proofs.lemmas.Bool.{eqb-true}
use Rattle.inf_settings.specs.Bounds.{Limits}
use Rattle.inf_opcode.specs.{declared.instructions.Label.Label, declared.opcodes.Opcode.Opcode}
use Rattle.inf_expressions.specs.{declared.operators.Binary.Binary, declared.operators.Operand.Operand, declared.operators.Unary.Unary}
use Rattle.inf_expressions.specs.Trees.{Tree, Leaf, One, Two}
use Rattle.inf_output.specs.{Output.instruction, Output.nothing, declared.items.Item.Item, declared.operands.Simple.Simple}
use Rattle.inf_templates.specs.{Meaning.Meaning, Meaning.meaning, Parts.SP, Parts.simple}
use Rattle.inf_templates.specs.Meaning as code
use Rattle.inf_statements.specs.Statements.{alone, jumped_to, plain, returned, returned_by}
use Rattle.inf_statements.specs.declared.statements.Statement.{Statement}
use Rattle.inf_constructs.specs.Constructs.{left_to}
use Rattle.inf_interpreter.specs.{Claims.Comes, Claims.state, Machine.Place, Machine.State, Machine.Store, Machine.World, Machine.◌then◌}
use Rattle.inf_interpreter.proofs.Laying.{Always, Lies, instruction_, instruction_of, jumped_, nothing_, so, then_}
use Rattle.inf_interpreter.proofs.Running.{here, none_some, opened, same_some}
use Rattle.inf_meaning_laws.specs.Covered.{Covered}
use Rattle.inf_meaning_laws.specs.Values.{answer, leaf_value, nobody, read, sense, value_of}
use Rattle.inf_meaning_laws.proofs.{Expressions.effects_are_done, Expressions.values_are_computed, Working.looked_up}
use Rattle.inf_meaning_laws.proofs.Instructions.{jump_comes, moved, one_value}
use Rattle.inf_control_laws.specs.Control.{Broke, Continued, Done, Returned}
use Rattle.inf_control_laws.specs.Plain.{IsCovered, PlainStatementsRun, alone_run, left_run, return_run}
use Rattle.inf_control_laws.specs.Runs.{Exits, GoesTo, Leaves, Runs, exits, only_value}
use Rattle.inf_control_laws.specs.Runs as runs
use Rattle.inf_control_laws.proofs.{Laying.lays_code, Reaching.SameEnd, Reaching.ends_as}

-- Nothing is done.
pub stays_done : (w : World) (x : Exits) → Always w nothing (Runs w x (λ s. Some (Done, s)))
stays_done w x = so (λ at from to place stack temp s r t e.
    ends_as w x at from to (state stack temp s) stack temp Done r s t e (moved place (here w at from (state stack temp s))))
    nothing_

-- an expression alone
alone_runs : (w : World) (limits : Limits) (x : Exits) (trees : List Tree) → IsCovered trees →
    Always w (alone limits trees) (Runs w x (alone_run w trees))
alone_runs w limits x [] h = stays_done w x
alone_runs w limits x (tree ∷ trees) h = so (λ at from to g stack temp s r t e.
    let o = opened ((sense w tree).alone s) (λ u. Some (Done, u)) (r, t) e in
    let c = g stack temp s o.0 o.1 in
    ends_as w x at from to (state stack temp s) stack c.0 Done r o.0 t o.2 c.1)
    (effects_are_done false w limits tree h)

-- Lemmas about `break` and `continue`
break_runs : (w : World) (limits : Limits) (x : Exits) (l : Option Label) → x.breaks ≡ l →
    Always w (jumped_to limits l) (Runs w x (left_run l Broke))
break_runs w limits x None same = so (λ at from to place stack temp s r t e. none_some e) nothing_
break_runs w limits x (Some l) same = so (λ at from to place stack temp s r t e.
    let now = state stack temp s in
    ends_as w x at from to now stack temp Broke r s t e
    (subst (λ b. GoesTo w at from now b now) (sym same) (jump_comes w at l from to now place)))
    (jumped_ limits l)

continue_runs : (w : World) (limits : Limits) (x : Exits) (l : Option Label) → x.continues ≡ l →
    Always w (jumped_to limits l) (Runs w x (left_run l Continued))
continue_runs w limits x None same = so (λ at from to place stack temp s r t e. none_some e) nothing_
continue_runs w limits x (Some l) same = so (λ at from to place stack temp s r t e.
    let now = state stack temp s in
    ends_as w x at from to now stack temp Continued r s t e
    (subst (λ b. GoesTo w at from now b now) (sym same) (jump_comes w at l from to now place)))
    (jumped_ limits l)

-- an instruction that returns a value, behind some code
pub leaves_at : (w : World) (at : Label → Place) (from m to : Place) (item : Item) (start now : State) (n : ℕ) (t : Store) →
    Comes w at from start m now → Lies item at m to → runs.returned w item now ≡ Some (n, t) → Leaves w at from start n t
leaves_at w at from m to item start now n t c place e =
    record { item = item; rest = to; now = now; comes = moved place c; returns = e }

pub fixed_runs : (w : World) (limits : Limits) (x : Exits) → Always w (plain limits Opcode.Rtrue) (Runs w x (λ s. Some (Returned 1, s)))
    × Always w (plain limits Opcode.Rfalse) (Runs w x (λ s. Some (Returned 0, s)))
fixed_runs w limits x = (
  so (λ at from to place stack temp s r t e.
      let now = state stack temp s in
      ends_as w x at from to now stack temp (Returned 1) r s t e
      (leaves_at w at from from to (instruction_of Opcode.Rtrue [] None None) now now 1 s (here w at from now) place refl))
      (instruction_ limits Opcode.Rtrue [] None None),
  so (λ at from to place stack temp s r t e.
      let now = state stack temp s in
      ends_as w x at from to now stack temp (Returned 0) r s t e
      (leaves_at w at from from to (instruction_of Opcode.Rfalse [] None None) now now 0 s (here w at from now) place refl))
      (instruction_ limits Opcode.Rfalse [] None None),
)

-- a leaf, which is returned as an operand
operand_returned : (w : World) (limits : Limits) (x : Exits) (a : Operand) →
    Always w (instruction limits Opcode.Ret (simple a ∷ []) None None)
    (Runs w x (λ s. leaf_value w a nobody s then λ p. Some (Returned p.0, p.1)))
operand_returned w limits x a = so (λ at from to place stack temp s r t e.
    let now = state stack temp s in
    let o = opened (leaf_value w a nobody s) (λ p. Some (Returned p.0, p.1)) (r, t) e in
    let q = opened (read w a s) (λ n. answer nobody n s) o.0 o.1 in
    let same : SameEnd (Some (Returned q.0, s)) (Some (r, t)) = ap (λ p. Some (Returned p.0, p.1)) (same_some q.2) ∙ o.2 in
    ends_as w x at from to now stack temp (Returned q.0) r s t same
    (leaves_at w at from from to (instruction_of Opcode.Ret (simple a ∷ []) None None) now now q.0 s (here w at from now) place
    (ap (λ m. m then λ p. only_value p.0 p.1.store) (one_value w (simple a) now now q.0 (looked_up w a now q.0 q.1)))))
    (instruction_ limits Opcode.Ret (simple a ∷ []) None None)

-- a number that is known, of which 1 and 0 have instructions of their own
number_returned : (w : World) (limits : Limits) (x : Exits) (n : ℕ) (a b : Bool) → (n == 1) ≡ a → (n == 0) ≡ b →
    Always w (if a then plain limits Opcode.Rtrue else if b then plain limits Opcode.Rfalse else instruction limits Opcode.Ret
    (Simple.Known n ∷ []) None None) (Runs w x (λ s. Some (Returned n, s)))
number_returned w limits x n true b e f =
    subst (λ k. Always w (plain limits Opcode.Rtrue) (Runs w x (λ s. Some (Returned k, s)))) (sym (eqb-true n 1 e))
    (fixed_runs w limits x).0
number_returned w limits x n false true e f =
    subst (λ k. Always w (plain limits Opcode.Rfalse) (Runs w x (λ s. Some (Returned k, s)))) (sym (eqb-true n 0 f))
    (fixed_runs w limits x).1
number_returned w limits x n false false e f = operand_returned w limits x (Operand.Known n)

leaf_returned : (w : World) (limits : Limits) (x : Exits) (a : Operand) (m : Meaning) →
    Always w (returned_by limits (Some (simple a)) m) (Runs w x (λ s. leaf_value w a nobody s then λ p. Some (Returned p.0, p.1)))
leaf_returned w limits x (Operand.Known n) m = number_returned w limits x n (n == 1) (n == 0) refl refl
leaf_returned w limits x (Operand.Variable v) m = operand_returned w limits x (Operand.Variable v)
leaf_returned w limits x (Operand.Later t) m = operand_returned w limits x (Operand.Later t)
leaf_returned w limits x (Operand.Function f) m = so (λ at from to g stack temp s r t e. none_some e) (fixed_runs w limits x).1
leaf_returned w limits x Operand.Unknown m = so (λ at from to g stack temp s r t e. none_some e) (fixed_runs w limits x).1

-- any other tree has no operand of its own, and is returned from the stack
pub one_operand : (limits : Limits) (op : Unary) (m : Meaning) → (code.one limits op m).operand ≡ None
one_operand limits Unary.Negate m = refl
one_operand limits other m = refl

pub two_operand : (limits : Limits) (op : Binary) (m n : Meaning) → (code.two limits op m n).operand ≡ None
two_operand limits (Binary.Operation o) m n = refl
two_operand limits other m n = refl

pushed_returned : (w : World) (limits : Limits) (x : Exits) (t : Tree) → Covered false t → (o : Option Simple) → o ≡ None →
    Always w (returned_by limits o (meaning limits t)) (Runs w x (λ s. value_of w t s then λ p. Some (Returned p.0, p.1)))
pushed_returned w limits x t h o absent =
    subst (λ k. Always w (returned_by limits k (meaning limits t)) (Runs w x (λ s. value_of w t s then λ p. Some (Returned p.0, p.1))))
    (sym absent)
    (so (λ at from to p stack temp s r u e.
    let v = opened (value_of w t s) (λ p. Some (Returned p.0, p.1)) (r, u) e in
    let c = p.1 stack temp s v.0.0 v.0.1 v.1 in
    ends_as w x at from to (state stack temp s) stack c.0 (Returned v.0.0) r v.0.1 u v.2
    (leaves_at w at from p.0 to (instruction_of Opcode.RetPopped [] None None) (state stack temp s) (state (v.0.0 ∷ stack) c.0 v.0.1) v.0.0
    v.0.1 c.2 p.2 refl))
    (then_ (values_are_computed false w limits t h SP) (instruction_ limits Opcode.RetPopped [] None None)))

return_runs : (w : World) (limits : Limits) (x : Exits) (trees : List Tree) → IsCovered trees →
    Always w (returned limits trees) (Runs w x (return_run w trees))
return_runs w limits x [] h = (fixed_runs w limits x).0
return_runs w limits x ((Leaf a) ∷ trees) h = leaf_returned w limits x a (meaning limits (Leaf a))
return_runs w limits x ((One op a) ∷ trees) h =
    pushed_returned w limits x (One op a) h (meaning limits (One op a)).operand (one_operand limits op (meaning limits a))
return_runs w limits x ((Two op a b) ∷ trees) h = pushed_returned w limits x (Two op a b) h (meaning limits (Two op a b)).operand
    (two_operand limits op (meaning limits a) (meaning limits b))

pub plain_statements_run : PlainStatementsRun
plain_statements_run w limits site trees Statement.Empty plainly h o =
    lays_code w nothing (Runs w (exits site.constructs) (λ s. Some (Done, s))) (stays_done w (exits site.constructs)) o
plain_statements_run w limits site trees Statement.Expression plainly h o =
    lays_code w (alone limits trees) (Runs w (exits site.constructs) (alone_run w trees))
    (alone_runs w limits (exits site.constructs) trees h) o
plain_statements_run w limits site trees Statement.Return plainly h o =
    lays_code w (returned limits trees) (Runs w (exits site.constructs) (return_run w trees))
    (return_runs w limits (exits site.constructs) trees h) o
plain_statements_run w limits site trees Statement.ReturnTrue plainly h o =
    lays_code w (plain limits Opcode.Rtrue) (Runs w (exits site.constructs) (λ s. Some (Returned 1, s)))
    (fixed_runs w limits (exits site.constructs)).0 o
plain_statements_run w limits site trees Statement.ReturnFalse plainly h o =
    lays_code w (plain limits Opcode.Rfalse) (Runs w (exits site.constructs) (λ s. Some (Returned 0, s)))
    (fixed_runs w limits (exits site.constructs)).1 o
plain_statements_run w limits site trees Statement.Break plainly h o =
    let l = left_to false site.constructs in
    lays_code w (jumped_to limits l) (Runs w (exits site.constructs) (left_run l Broke))
    (break_runs w limits (exits site.constructs) l refl) o
plain_statements_run w limits site trees Statement.Continue plainly h o =
    let l = left_to true site.constructs in
    lays_code w (jumped_to limits l) (Runs w (exits site.constructs) (left_run l Continued))
    (continue_runs w limits (exits site.constructs) l refl) o
plain_statements_run w limits site trees s plainly h o = absurd plainly

-- Calls of routines by the trees of their statements: names as operands, statements as control flow, and the locals of a call.
use Rattle.std.specs.Prelude.{◌≡◌, ℕ, zero, suc, ◌-◌, ◌≤◌, nat_lt, Bool, ◌&&◌, List, [], ◌∷◌, Option, Some, None, if◌then◌else◌, bytes_eq}
use Rattle.inf_area.specs.declared.targets.Target.{Target}
use Rattle.inf_expressions.specs.{Folding.joined, Folding.joined_single, Trees.Tree, declared.operators.Operand.Operand}
use Rattle.inf_expressions.specs.Trees as tree
use Rattle.inf_output.specs.declared.veneer.Veneer.{Veneer}
use Rattle.inf_interpreter.specs.Machine.{AtPacked, LineEnd, Store, World, ◌then◌, of_one, of_two, tells, with_variable}
use Rattle.inf_interpreter.specs.Supplied.{supplied}
use Rattle.inf_meaning_laws.specs.Values.{read, sense, truth_of, value_of}
use Rattle.inf_control_laws.specs.Control.{Both, Broke, Continued, Control, Does, Done, Effect, ForEach, IfTrue, Outcome, Returned}
use Rattle.inf_control_laws.specs.Control.{WhileTrue, effect}
use Rattle.inf_control_laws.specs.Plain.{alone_run, return_run}
use Rattle.inf_veneer_laws.specs.Properties.{Bytes, address_in, length_in, most_rows, value_in}
use Rattle.inf_veneer_laws.specs.Sources.{Ask, Evaluate, Expression, For, GetProp, GetPropAddr, GetPropLen, If, Name, Number, One, Question}
use Rattle.inf_veneer_laws.specs.Sources.{PrintString, Return, ReturnFalse, ReturnTrue, Routine, Statement, System, Then, Two, While}

-- Names: locals are the variables from 1 on, in their order, and any other name stands for a number that is known later, by the number of
-- the name.

abbrev pub Numbers : Type 0
Numbers = List ℕ → ℕ

abbrev pub named_operand : Numbers → ℕ → List (List ℕ) → List ℕ → Operand
named_operand numbers v [] name = Operand.Later (Target.Name (numbers name))
named_operand numbers v (local ∷ locals) name =
    if bytes_eq local name then Operand.Variable v else named_operand numbers (suc v) locals name

abbrev pub operand_in : Numbers → Routine → List ℕ → Operand
operand_in numbers r name = named_operand numbers 1 r.locals name

-- Trees, in which an operator of numbers is the number that it gives. An operand of an assembly line is a number or a name.

abbrev pub tree_of : (List ℕ → Operand) → Expression → Tree
tree_of known (Number n) = tree.Leaf (Operand.Known n)
tree_of known (Name name) = tree.Leaf (known name)
tree_of known (System c) = tree.Leaf (Operand.Later (Target.System c))
tree_of known (One op a) = joined_single op (tree_of known a)
tree_of known (Two op a b) = joined op (tree_of known a) (tree_of known b)

abbrev pub leaf_of : (List ℕ → Operand) → Expression → Operand
leaf_of known (Number n) = Operand.Known n
leaf_of known (Name name) = known name
leaf_of known (System c) = Operand.Later (Target.System c)
leaf_of known (One op a) = Operand.Unknown
leaf_of known (Two op a b) = Operand.Unknown

-- Assembly lines that ask of a property: operands are read from the first on, and the answer is stored to a variable.

abbrev pub answer_of : Question → Bytes → List ℕ → Option ℕ
answer_of GetProp m = of_two (value_in m)
answer_of GetPropAddr m = of_two (address_in m)
answer_of GetPropLen m = of_one (λ start. Some (length_in m start))

abbrev pub read_all : World → (List ℕ → Operand) → List Expression → Store → Option (List ℕ)
read_all w known [] s = Some []
read_all w known (e ∷ operands) s =
    read w (leaf_of known e) s then λ n. read_all w known operands s then λ ns. Some (n ∷ ns)

abbrev pub stored : Operand → ℕ → Effect
stored (Operand.Variable v) n s = Some (Done, with_variable v n s)
stored (Operand.Known m) n s = None
stored (Operand.Later t) n s = None
stored (Operand.Function f) n s = None
stored Operand.Unknown n s = None

abbrev pub asked : World → (List ℕ → Operand) → Question → List Expression → List ℕ → Effect
asked w known q operands variable s =
    read_all w known operands s then λ ns. answer_of q s.bytes ns then λ n. stored (known variable) n s

-- `print_ret (string)` prints the text at a packed address, ends the line and returns 1.
abbrev pub printed : World → Tree → Effect
printed w t s = value_of w t s then λ p. Some (Returned 1, tells LineEnd (tells (AtPacked p.0) p.1))

-- Definitions of statements as control flow

abbrev pub control : World → (List ℕ → Operand) → Statement → Control
control w known (Evaluate e) = Does (alone_run w (tree_of known e ∷ []))
control w known (Return e) = Does (return_run w (tree_of known e ∷ []))
control w known ReturnTrue = Does (λ s. Some (Returned 1, s))
control w known ReturnFalse = Does (λ s. Some (Returned 0, s))
control w known (If e body) = IfTrue (truth_of w (tree_of known e)) (control w known body)
control w known (While e body) = WhileTrue (truth_of w (tree_of known e)) (control w known body)
control w known (For start e step body) =
    ForEach (sense w (tree_of known start)).alone (truth_of w (tree_of known e)) (sense w (tree_of known step)).alone
    (control w known body)
control w known (Ask q operands variable) = Does (asked w known q operands variable)
control w known (PrintString e) = Does (printed w (tree_of known e))
control w known (Then first second) = Both (control w known first) (control w known second)

-- Calls: variables 1 to 15 are the locals (Z-Machine Standard 1.1, sections 4.2.2 and 6.4). They begin with the arguments, in their order,
-- and the others with 0; behind the call they are again those of the caller.

abbrev pub is_local : ℕ → Bool
is_local v = nat_lt 0 v && nat_lt v 16

abbrev pub argument : List ℕ → ℕ → ℕ
argument [] v = 0
argument (n ∷ ns) zero = n
argument (n ∷ ns) (suc v) = argument ns v

abbrev pub entered : List ℕ → Store → Store
entered ns s = record s { variables = λ v. if is_local v then argument ns (v - 1) else s.variables v }

abbrev pub left : Store → Store → Store
left s t = record t { variables = λ v. if is_local v then s.variables v else t.variables v }

-- A routine returns 1 at its end.
abbrev pub result : Outcome → Store → Option (ℕ × Store)
result Done t = Some (1, t)
result Broke t = None
result Continued t = None
result (Returned n) t = Some (n, t)

abbrev pub ended : Store → Outcome × Store → Option (ℕ × Store)
ended s r = result r.0 (left s r.1)

-- The result of a call and the store behind it, for loops that make at most a number of turns, by what names stand for.
abbrev pub called_by : World → (List ℕ → Operand) → ℕ → Routine → List ℕ → Store → Option (ℕ × Store)
called_by w known turns r ns s = effect turns (control w known r.body) (entered ns s) then ended s

abbrev pub called_with : World → Numbers → ℕ → Routine → List ℕ → Store → Option (ℕ × Store)
called_with w numbers turns r ns s = called_by w (operand_in numbers r) turns r ns s

-- Contracts: with these arguments and this store, a call comes to this result and this store.

abbrev pub Contract : Type 1
Contract = List ℕ → Store → ℕ → Store → Type 0

abbrev pub IsSupplied : World → Veneer → Contract
IsSupplied w v ns s n t = supplied w v ns s ≡ Some (n, t)

-- A routine's text meets a contract, if its loops may make as many turns as memory has addresses; and in a world a call of a name comes to
-- what a contract says.
abbrev pub Meets : World → Numbers → Routine → Contract → Type 0
Meets w numbers r C =
    (ns : List ℕ) (s : Store) (n : ℕ) (t : Store) → C ns s n t → (turns : ℕ) → most_rows ≤ turns →
    called_with w numbers turns r ns s ≡ Some (n, t)

pub record Calls (w : World) (numbers : Numbers) (name : List ℕ) (C : Contract) : Type 0 where
  pub comes : (ns : List ℕ) (s : Store) (n : ℕ) (t : Store) → C ns s n t →
      (temp : ℕ) × (w.called s (w.later (Target.Name (numbers name))) ns ≡ Some (n, temp, t))

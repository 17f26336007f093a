-- The meaning of an expression, by its tree: its value in a store, whether it is true, and the change that it makes to the store.
-- The parts of an operator are worked out from right to left. A part that is a variable or a constant is read behind all others, so
-- `x + (x = 5)` is 10. An assignment is made as soon as its value is known: in `x = x++` the step comes behind it, and `x` is one more.
use Rattle.std.specs.Prelude.{ℕ, ◌+◌, ◌-◌, ◌*◌, ◌%◌, nat_lt, ◌==◌, ◌||◌, not, Bool, true, false, List, [], ◌∷◌, ◌++◌, length, bit_and}
use Rattle.std.specs.Prelude.{bit_or, Option, Some, None, if◌then◌else◌}
use Rattle.inf_expressions.specs.{Numbers.negated, Numbers.truth, Trees.Leaf, Trees.One, Trees.Tree, Trees.Two}
use Rattle.inf_expressions.specs.declared.{operators.Binary.Binary, operators.Direction.Direction, operators.Operand.Operand}
use Rattle.inf_expressions.specs.declared.{operators.Operation.Operation, operators.PropertyPart.PropertyPart, operators.Relative.Relative}
use Rattle.inf_expressions.specs.declared.{operators.Single.Single, operators.Test.Test, operators.Unary.Unary}
use Rattle.inf_output.specs.declared.veneer.Veneer.{Veneer}
use Rattle.inf_interpreter.specs.Machine.{World, Store, called, ◌then◌, byte_at, divided, first_is_any, left_over, less, of_one, of_two}
use Rattle.inf_interpreter.specs.Machine.{test_of_two, drawn, found_one, with_byte, with_variable, with_word, word_at, write_of_three}
use Rattle.inf_interpreter.specs.Supplied.{supplied}

-- The value of a leaf. The stack and variable 255 are none that an expression may name, and a name that is wrong has no value.
abbrev pub is_own : ℕ → Bool
is_own v = (v == 0) || (v == 255)

abbrev pub read : World → Operand → Store → Option ℕ
read w (Operand.Known n) s = Some n
read w (Operand.Variable v) s = if is_own v then None else Some (s.variables v)
read w (Operand.Later t) s = Some (w.later t)
read w (Operand.Function f) s = None
read w Operand.Unknown s = None

-- Who takes a value changes the store the moment the value is known; behind that the expression may go on.
abbrev pub Taker : Type 0
Taker = ℕ → Store → Store

abbrev pub nobody : Taker
nobody n s = s

abbrev pub answer : Taker → ℕ → Store → Option (ℕ × Store)
answer take n s = Some (n, take n s)

-- Parts: one that is worked out is a number, and a leaf waits.

pub record Arg : Type 0 where
  pub leaf : Option Operand
  pub value : Store → Option (ℕ × Store)

pub data Worked : Type 0 where
  Is : ℕ → Worked
  Reads : Operand → Worked

abbrev pub worked_by : Option Operand → (Store → Option (ℕ × Store)) → Store → Option (Worked × Store)
worked_by (Some x) value s = Some (Reads x, s)
worked_by None value s = value s then λ p. Some (Is p.0, p.1)

-- the last part comes first
abbrev pub worked_all : List Arg → Store → Option (List Worked × Store)
worked_all [] s = Some ([], s)
worked_all (a ∷ args) s = worked_all args s then λ p. worked_by a.leaf a.value p.1 then λ q. Some (q.0 ∷ p.0, q.1)

abbrev pub settled : World → Worked → Store → Option ℕ
settled w (Is n) s = Some n
settled w (Reads x) s = read w x s

abbrev pub settled_all : World → List Worked → Store → Option (List ℕ)
settled_all w [] s = Some []
settled_all w (a ∷ all) s = settled w a s then λ n. settled_all w all s then λ ns. Some (n ∷ ns)

-- all values, once each part is worked out
abbrev pub values : World → List Arg → Store → Option (List ℕ × Store)
values w args s = worked_all args s then λ p. settled_all w p.0 p.1 then λ ns. Some (ns, p.1)

-- The left side of `=` that an expression is: a variable, an element of an array, a property of an object, or nothing that is covered here.
pub data Width : Type 0 where
  Bytes : Width
  Words : Width
  Properties : Width

pub data Aim : Type 0 where
  Nowhere : Aim
  Named : ℕ → Aim
  Element : Width → List Arg → Aim

-- The meaning of an expression in each of its uses: as a leaf, as the aim of an assignment, as a list of members, with its value, as a
-- statement, and as a condition.
pub record Sense : Type 0 where
  pub leaf : Option Operand
  pub aim : Aim
  pub first : Arg
  pub others : List Arg
  pub value : Taker → Store → Option (ℕ × Store)
  pub alone : Store → Option Store
  pub truth : Store → Option (Bool × Store)

abbrev pub arg : Sense → Arg
arg a = record { leaf = a.leaf; value = a.value nobody }

abbrev pub args : Sense → List Arg
args a = a.first ∷ a.others

abbrev pub is_not_zero : Option (ℕ × Store) → Option (Bool × Store)
is_not_zero found = found then λ p. Some (not (p.0 == 0), p.1)

abbrev pub forgotten : (Taker → Store → Option (ℕ × Store)) → Store → Option Store
forgotten value s = value nobody s then λ p. Some p.1

abbrev pub made : (Taker → Store → Option (ℕ × Store)) → (Store → Option (Bool × Store)) → Sense
made value truth = record {
  leaf = None;
  aim = Nowhere;
  first = record { leaf = None; value = value nobody };
  others = [];
  value = value;
  alone = forgotten value;
  truth = truth;
}

-- A value is true where it is not 0, and the value of a condition is 1 or 0.
abbrev pub valued : (Taker → Store → Option (ℕ × Store)) → Sense
valued value = made value (λ s. is_not_zero (value nobody s))

abbrev pub condition : (Store → Option (Bool × Store)) → Sense
condition holds = made (λ take s. holds s then λ p. answer take (truth p.0) p.1) holds

abbrev pub no_value : Sense
no_value = valued (λ take s. None)

abbrev pub aim_at : ℕ → Bool → Aim
aim_at v own = if own then Nowhere else Named v

abbrev pub leaf_aim : Operand → Aim
leaf_aim (Operand.Variable v) = aim_at v (is_own v)
leaf_aim _ = Nowhere

abbrev pub leaf_value : World → Operand → Taker → Store → Option (ℕ × Store)
leaf_value w x take s = read w x s then λ n. answer take n s

abbrev pub leaf : World → Operand → Sense
leaf w x = record {
  leaf = Some x;
  aim = leaf_aim x;
  first = record { leaf = Some x; value = leaf_value w x nobody };
  others = [];
  value = leaf_value w x;
  alone = forgotten (leaf_value w x);
  truth = λ s. is_not_zero (leaf_value w x nobody s);
}

-- a function of the values of some parts
abbrev pub computed : World → (Store → List ℕ → Option ℕ) → List Arg → Sense
computed w f parts = valued (λ take s. values w parts s then λ p. f p.1 p.0 then λ n. answer take n p.1)

abbrev pub operation_of : Operation → Store → List ℕ → Option ℕ
operation_of Operation.Add s = of_two (λ a b. Some ((a + b) % 65536))
operation_of Operation.Subtract s = of_two (λ a b. Some ((a + negated b) % 65536))
operation_of Operation.Multiply s = of_two (λ a b. Some ((a * b) % 65536))
operation_of Operation.Divide s = of_two divided
operation_of Operation.Remainder s = of_two left_over
operation_of Operation.BitAnd s = of_two (λ a b. Some (bit_and a b))
operation_of Operation.BitOr s = of_two (λ a b. Some (bit_or a b))
operation_of Operation.Byte s = of_two (λ a b. Some (byte_at s a b))
operation_of Operation.Word s = of_two (λ a b. Some (word_at s a b))

abbrev pub single_of : World → Single → Store → List ℕ → Option ℕ
single_of w Single.Complement s = of_one (λ a. Some (65535 - a))
single_of w Single.Parent s = of_one (λ a. Some (w.parent s a))
single_of w Single.Random s = λ ns. None

abbrev pub relative_of : World → Relative → Store → List ℕ → Option ℕ
relative_of w Relative.Child s = found_one (w.child s)
relative_of w Relative.Sibling s = found_one (w.sibling s)

-- a random number between 1 and another one, or for other numbers the outcome that the standard says
abbrev pub drawn_of : World → List Arg → Sense
drawn_of w parts = valued (λ take s. values w parts s then λ p. drawn w p.0 p.1 then λ r. answer take r.0 r.1)

-- a part that is a known number
abbrev pub number : ℕ → Arg
number n = record { leaf = Some (Operand.Known n); value = λ s. Some (n, s) }

abbrev pub truth_found : Bool → Store → Option (Bool × Store)
truth_found b s = Some (b, s)

-- the value that a call of a supplied routine has
abbrev pub supplied_value : World → Veneer → List Arg → Taker → Store → Option (ℕ × Store)
supplied_value w v parts take s = values w parts s then λ p. supplied w v p.0 p.1 then λ r. answer take r.0 r.1

abbrev pub supplied_by : World → Veneer → List Arg → Sense
supplied_by w v parts = valued (supplied_value w v parts)

abbrev pub asked : PropertyPart → Veneer
asked PropertyPart.Value = Veneer.ReadProperty
asked PropertyPart.Address = Veneer.PropertyAddress
asked PropertyPart.Length = Veneer.PropertyLength

abbrev pub property_aim : PropertyPart → List Arg → Aim
property_aim PropertyPart.Value parts = Element Properties parts
property_aim PropertyPart.Address parts = Nowhere
property_aim PropertyPart.Length parts = Nowhere

-- Tests: the first value against the others, of which `==` may have any number.
abbrev pub test_of : World → Test → Store → List ℕ → Option Bool
test_of w Test.Equal s = first_is_any
test_of w Test.Less s = test_of_two (λ a b. less a b)
test_of w Test.Greater s = test_of_two (λ a b. less b a)
test_of w Test.AtMost s = test_of_two (λ a b. not (less b a))
test_of w Test.AtLeast s = test_of_two (λ a b. not (less a b))
test_of w Test.Has s = test_of_two (λ a b. w.has s a b)
test_of w Test.In s = test_of_two (λ a b. w.inside s a b)
test_of w Test.OfClass s = test_of_two (λ a b. w.of_class s a b)
test_of w Test.Provides s = test_of_two (λ a b. w.provides s a b)

abbrev pub tested : World → Test → List Arg → Store → Option (Bool × Store)
tested w t parts s = values w parts s then λ p. test_of w t p.1 p.0 then λ b. Some (b, p.1)

abbrev pub opposite : (Store → Option (Bool × Store)) → Store → Option (Bool × Store)
opposite holds s = holds s then λ p. Some (not p.0, p.1)

-- `&&` and `||` leave their right side out where the left one decides.
abbrev pub both : (Store → Option (Bool × Store)) → (Store → Option (Bool × Store)) → Store → Option (Bool × Store)
both a b s = a s then λ p. if p.0 then b p.1 else Some (false, p.1)

abbrev pub either : (Store → Option (Bool × Store)) → (Store → Option (Bool × Store)) → Store → Option (Bool × Store)
either a b s = a s then λ p. if p.0 then Some (true, p.1) else b p.1

-- Alternatives behind `or`. A leaf is read anew for each group of alternatives: as many as are worked out together, and compared behind
-- that. A value that is no leaf and has more alternatives than a group is worked out before them; with fewer it is worked out behind them.
abbrev pub compares_three : Test → Bool
compares_three Test.Equal = true
compares_three _ = false

abbrev pub together : Test → ℕ
together t = if compares_three t then 3 else 1

abbrev pub by_threes : World → Arg → List Arg → Store → Option (Bool × Store)
by_threes w a [] s = None
by_threes w a (b ∷ []) s = tested w Test.Equal (a ∷ b ∷ []) s
by_threes w a (b ∷ c ∷ []) s = tested w Test.Equal (a ∷ b ∷ c ∷ []) s
by_threes w a (b ∷ c ∷ d ∷ []) s = tested w Test.Equal (a ∷ b ∷ c ∷ d ∷ []) s
by_threes w a (b ∷ c ∷ d ∷ e ∷ others) s = either (tested w Test.Equal (a ∷ b ∷ c ∷ d ∷ [])) (by_threes w a (e ∷ others)) s

abbrev pub one_by_one : World → Test → Arg → List Arg → Store → Option (Bool × Store)
one_by_one w t a [] s = None
one_by_one w t a (b ∷ []) s = tested w t (a ∷ b ∷ []) s
one_by_one w t a (b ∷ c ∷ others) s = either (tested w t (a ∷ b ∷ [])) (one_by_one w t a (c ∷ others)) s

abbrev pub in_groups : Bool → World → Test → Arg → List Arg → Store → Option (Bool × Store)
in_groups true w t a others s = by_threes w a others s
in_groups false w t a others s = one_by_one w t a others s

abbrev pub worked_first : Bool → World → Test → Sense → List Arg → Store → Option (Bool × Store)
worked_first true w t a others s = a.value nobody s then λ p. in_groups (compares_three t) w t (number p.0) others p.1
worked_first false w t a others s = tested w t (arg a ∷ others) s

abbrev pub compared : World → Test → Option Operand → Sense → List Arg → Store → Option (Bool × Store)
compared w t (Some x) a others s = in_groups (compares_three t) w t (record { leaf = Some x; value = a.value nobody }) others s
compared w t None a others s = worked_first (nat_lt (together t) (length others)) w t a others s

-- Assignments: the value of one to a variable is read from that variable. Where the value of one to an element of an array or to a property
-- is used, a supplied routine makes it, and the value is the one that is assigned, whatever a byte keeps of it.
abbrev pub with_element : World → Width → List ℕ → Store → Option Store
with_element w Bytes = write_of_three (λ a i n. with_byte ((a + i) % 65536) n)
with_element w Words = write_of_three (λ a i n. with_word ((a + 2 * i) % 65536) n)
with_element w Properties = write_of_three w.with_property

abbrev pub setter : Width → Veneer
setter Bytes = Veneer.WriteByte
setter Words = Veneer.WriteWord
setter Properties = Veneer.WriteProperty

abbrev pub stepper : Width → Veneer
stepper Bytes = Veneer.StepByte
stepper Words = Veneer.StepWord
stepper Properties = Veneer.StepProperty

abbrev pub element_assigned : World → Width → List Arg → Store → Option Store
element_assigned w width parts s = values w parts s then λ p. with_element w width p.0 p.1

abbrev pub assigned : World → Aim → Sense → Sense
assigned w Nowhere a = no_value
assigned w (Named v) a = valued (λ take s. a.value (with_variable v) s then λ p. answer take (p.1.variables v) p.1)
assigned w (Element width parts) a =
    record (supplied_by w (setter width) (parts ++ arg a ∷ [])) { alone = element_assigned w width (parts ++ arg a ∷ []) }

abbrev pub step_by : Direction → ℕ
step_by Direction.Up = 1
step_by Direction.Down = 65535

abbrev pub next : Direction → ℕ → Store → ℕ
next how v s = (s.variables v + step_by how) % 65536

abbrev pub with_step : Direction → ℕ → Store → Store
with_step how v s = with_variable v (next how v s) s

-- By a supplied routine, a step answers the new value or the one before.
abbrev pub element_stepped : World → ℕ → Direction → Width → List Arg → Sense
element_stepped w new how width parts = supplied_by w (stepper width) (parts ++ number (step_by how) ∷ number new ∷ [])

abbrev pub stepped_before : World → Direction → Aim → Sense
stepped_before w how Nowhere = no_value
stepped_before w how (Element width parts) = element_stepped w 1 how width parts
stepped_before w how (Named v) = valued (λ take s. answer take (next how v s) (with_step how v s))

abbrev pub stepped_behind : World → Direction → Aim → Sense
stepped_behind w how Nowhere = no_value
stepped_behind w how (Element width parts) = element_stepped w 0 how width parts
stepped_behind w how (Named v) = valued (λ take s. Some (s.variables v, with_step how v (take (s.variables v) s)))

abbrev pub in_order : Sense → Sense → Sense
in_order a b = valued (λ take s. a.alone s then λ t. b.value take t)

abbrev pub element_of : Operation → List Arg → Aim
element_of Operation.Byte parts = Element Bytes parts
element_of Operation.Word parts = Element Words parts
element_of _ parts = Nowhere

-- Calls: the routine is a part as its arguments are.
abbrev pub calls : World → List Arg → Sense
calls w parts = valued (λ take s. values w parts s then λ p. called w p.0 p.1 then λ r. answer take r.0 r.2)

-- A call of a property is a message: a supplied routine sends it, and takes the object and the property in front of the arguments. What
-- else is called is a routine.
abbrev pub called_as : World → Aim → Sense → List Arg → Sense
called_as w Nowhere a arguments = calls w (arg a ∷ arguments)
called_as w (Named v) a arguments = calls w (arg a ∷ arguments)
called_as w (Element Bytes parts) a arguments = calls w (arg a ∷ arguments)
called_as w (Element Words parts) a arguments = calls w (arg a ∷ arguments)
called_as w (Element Properties parts) a arguments = supplied_by w Veneer.CallProperty (parts ++ arguments)

-- Definitions of the meaning of each operator, by that of its parts

abbrev pub one : World → Unary → Sense → Sense
one w Unary.Negate a = computed w (operation_of Operation.Subtract) (number 0 ∷ arg a ∷ [])
one w Unary.Not a = condition (opposite a.truth)
one w (Unary.Single Single.Random) a = drawn_of w (arg a ∷ [])
one w (Unary.Single how) a = computed w (single_of w how) (arg a ∷ [])
one w (Unary.Relative how) a = computed w (relative_of w how) (arg a ∷ [])
one w (Unary.Before how) a = stepped_before w how a.aim
one w (Unary.Behind how) a = stepped_behind w how a.aim
one w Unary.Children a = supplied_by w Veneer.Children (arg a ∷ [])
one w Unary.Call a = called_as w a.aim a []
one w Unary.Indirect a = calls w (args a)

abbrev pub two : World → Binary → Sense → Sense → Sense
two w (Binary.Operation o) a b = record (computed w (operation_of o) (arg a ∷ arg b ∷ [])) { aim = element_of o (arg a ∷ arg b ∷ []) }
two w (Binary.Property p) a b = let parts = arg a ∷ arg b ∷ [] in record (supplied_by w (asked p) parts) { aim = property_aim p parts }
two w (Binary.Test t) a b = condition (compared w t a.leaf a (args b))
two w (Binary.Fails t) a b = condition (opposite (compared w t a.leaf a (args b)))
two w Binary.Assign a b = assigned w a.aim b
two w Binary.Comma a b = in_order a b
two w Binary.And a b = condition (both a.truth b.truth)
two w Binary.Or a b = condition (either a.truth b.truth)
two w Binary.Then a b = record (valued a.value) { first = arg a; others = args b; alone = a.alone }
two w Binary.Call a b = called_as w a.aim a (args b)
two w _ a b = no_value

abbrev pub sense : World → Tree → Sense
sense w (Leaf x) = leaf w x
sense w (One op a) = one w op (sense w a)
sense w (Two op a b) = two w op (sense w a) (sense w b)

-- A tree by itself: its value and its truth, with the store behind them.
abbrev pub value_of : World → Tree → Store → Option (ℕ × Store)
value_of w t = (sense w t).value nobody

abbrev pub truth_of : World → Tree → Store → Option (Bool × Store)
truth_of w t = (sense w t).truth

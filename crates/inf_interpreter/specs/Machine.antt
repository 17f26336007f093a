-- A machine that runs the items of a routine, by the Z-Machine Standard 1.1 (sections 6, 14 and 15). It knows the opcodes that expressions,
-- loops, and statements that print or change objects are laid with; at any other one, and at one whose operands do not fit, it has no next
-- step.
use Rattle.std.specs.Prelude.{◌≡◌, ◌-◌, ℕ, zero, suc, ◌+◌, ◌*◌, ◌/◌, ◌%◌, nat_lt, not, ◌==◌, ◌||◌, Bool, true, false, List, [], ◌∷◌, ◌++◌}
use Rattle.std.specs.Prelude.{bit_and, bit_or, Option, Some, None, if◌then◌else◌}
use Rattle.inf_characters.specs.declared.texts.TextItem.{TextItem}
use Rattle.inf_text.specs.Unpacking.{unpacked}
use Rattle.inf_area.specs.declared.targets.Target.{Target}
use Rattle.inf_opcode.specs.{Instructions.Parts, declared.instructions.Branch.Branch, declared.instructions.Destination.Destination}
use Rattle.inf_opcode.specs.{declared.instructions.Label.Label, declared.instructions.Operand.Operand, declared.opcodes.Opcode.Opcode}
use Rattle.inf_output.specs.{declared.items.Item.Item, declared.veneer.Veneer.Veneer}
use Rattle.inf_expressions.specs.Numbers.{magnitude, negated, same, shifted}

-- A result that may be missing is handed on to the next step, which is left out where it is missing.
infixl 30 ◌then◌
abbrev pub ◌then◌ : {A B : Type 0} → Option A → (A → Option B) → Option B
(None then next) = None
((Some a) then next) = next a

-- An output: a text; a number, which has a sign; the character of a code; the text at an address, or at a packed one; the short name of an
-- object; the end of a line; and a style, in which the text behind it is shown.
pub data Told : Type 0 where
  Text : List TextItem → Told
  Number : ℕ → Told
  Character : ℕ → Told
  AtAddress : ℕ → Told
  AtPacked : ℕ → Told
  ShortName : ℕ → Told
  LineEnd : Told
  Style : ℕ → Told

-- A store, which code reads and writes: each variable by its number (a local by 1 to 15, a global from 16 on), each byte of memory by
-- its address, the number on which the next random number depends, and all outputs, the latest first. Globals are held apart from the
-- bytes that they are in a story.
pub record Store : Type 0 where
  pub variables : ℕ → ℕ
  pub bytes : ℕ → ℕ
  pub chance : ℕ
  pub told : List Told

-- A store with the stack of the code, its top first, and with variable 255 (`temp_global`), in which the compiler keeps values.
pub record State : Type 0 where
  pub stack : List ℕ
  pub temp : ℕ
  pub store : Store

-- A world, which is given from outside of an expression: the numbers that are known when the story is laid out, the facts about objects in
-- a store, the random number up to another one, with the number on which the next one depends, and the outcome of a call of a routine: its
-- result, the number of variable 255 behind it, and the store. A call that does not return has none. And the number by which each routine
-- that the compiler supplies is called, and the answers and changes of these routines: the value, the address and the length of an
-- object's property, its value written, the outcome of a message to an object, the number of an object's children, its class, whether
-- it has a property, and the outcome of those that print or process an action. And the strings of the abbreviations that the source
-- declares; the store in which an object has an attribute or has it not, is the first child of another one, or has no parent.
pub record World : Type 0 where
  pub later : Target → ℕ
  pub has : Store → ℕ → ℕ → Bool
  pub inside : Store → ℕ → ℕ → Bool
  pub parent : Store → ℕ → ℕ
  pub child : Store → ℕ → ℕ
  pub sibling : Store → ℕ → ℕ
  pub random : ℕ → ℕ → ℕ
  pub renewed : ℕ → ℕ → ℕ
  pub called : Store → ℕ → List ℕ → Option (ℕ × ℕ × Store)
  pub routine : Veneer → ℕ
  pub property : Store → ℕ → ℕ → ℕ
  pub property_address : Store → ℕ → ℕ → ℕ
  pub property_length : Store → ℕ → ℕ → ℕ
  pub with_property : ℕ → ℕ → ℕ → Store → Store
  pub message : Store → ℕ → ℕ → List ℕ → Option (ℕ × Store)
  pub children : Store → ℕ → ℕ
  pub of_class : Store → ℕ → ℕ → Bool
  pub provides : Store → ℕ → ℕ → Bool
  pub prints : Veneer → List ℕ → Store → Option (ℕ × Store)
  pub abbreviations : List (List ℕ)
  pub with_attribute : ℕ → ℕ → Bool → Store → Store
  pub inserted : ℕ → ℕ → Store → Store
  pub removed : ℕ → Store → Store

abbrev pub with_variable : ℕ → ℕ → Store → Store
with_variable v n s = record s { variables = λ u. if u == v then n else s.variables u }

abbrev pub with_byte : ℕ → ℕ → Store → Store
with_byte at n s = record s { bytes = λ a. if a == at then n % 256 else s.bytes a }

abbrev pub with_word : ℕ → ℕ → Store → Store
with_word at n s = with_byte ((at + 1) % 65536) (n % 256) (with_byte at (n / 256) s)

abbrev pub tells : Told → Store → Store
tells t s = record s { told = t ∷ s.told }

-- an element of an array, by its number
abbrev pub byte_at : Store → ℕ → ℕ → ℕ
byte_at s a i = s.bytes ((a + i) % 65536)

abbrev pub word_at : Store → ℕ → ℕ → ℕ
word_at s a i = 256 * s.bytes ((a + 2 * i) % 65536) + s.bytes ((a + 2 * i + 1) % 65536)

-- Variables: 0 is the stack.

-- Reading variable 0 takes the top of the stack away.
abbrev pub popped : List ℕ → State → Option (ℕ × State)
popped [] s = None
popped (n ∷ stack) s = Some (n, record s { stack = stack })

abbrev pub taken : ℕ → State → Option (ℕ × State)
taken v s = if v == 0 then popped s.stack s else if v == 255 then Some (s.temp, s) else Some (s.store.variables v, s)

-- Writing variable 0 puts a value on the stack.
abbrev pub given : ℕ → ℕ → State → State
given v n s =
    if v == 0 then record s { stack = n ∷ s.stack }
    else if v == 255 then record s { temp = n }
    else record s { store = with_variable v n s.store }

-- An instruction that has the number of a variable as an operand leaves the stack as high as it is (section 6.3.4).
abbrev pub top : List ℕ → Option ℕ
top [] = None
top (n ∷ stack) = Some n

abbrev pub with_top : ℕ → List ℕ → List ℕ
with_top n [] = []
with_top n (m ∷ stack) = n ∷ stack

abbrev pub named : ℕ → State → Option ℕ
named v s = if v == 0 then top s.stack else if v == 255 then Some s.temp else Some (s.store.variables v)

abbrev pub put_in : ℕ → ℕ → State → State
put_in v n s = if v == 0 then record s { stack = with_top n s.stack } else given v n s

-- Operands: the first one is read first.

abbrev pub operand_value : World → Operand → State → Option (ℕ × State)
operand_value w (Operand.Large n) s = Some (n, s)
operand_value w (Operand.Small n) s = Some (n, s)
operand_value w (Operand.Variable v) s = taken v s
operand_value w (Operand.Later t) s = Some (w.later t, s)
operand_value w (Operand.Offset l) s = None

abbrev pub and_first : ℕ → Option (List ℕ × State) → Option (List ℕ × State)
and_first n None = None
and_first n (Some (ns, s)) = Some (n ∷ ns, s)

abbrev pub operand_values : World → List Operand → State → Option (List ℕ × State)
operand_values w [] s = Some ([], s)
operand_values w (o ∷ operands) s = operand_value w o s then λ p. and_first p.0 (operand_values w operands p.1)

-- Opcodes: those of one group differ in a function alone.

pub data Action : Type 0 where
  Computes : (Store → List ℕ → Option ℕ) → Action
  Finds : (Store → ℕ → ℕ) → Action
  Draws : Action
  Tests : (Store → List ℕ → Option Bool) → Action
  Writes : (List ℕ → Store → Option Store) → Action
  Prints : Action
  Pushes : Action
  Loads : Action
  Puts : Action
  Steps : ℕ → Action
  Checks : Action
  Jumps : Action
  Calls : Action
  Unknown : Action

abbrev pub of_one : (ℕ → Option ℕ) → List ℕ → Option ℕ
of_one f (x ∷ []) = f x
of_one f _ = None

abbrev pub of_two : (ℕ → ℕ → Option ℕ) → List ℕ → Option ℕ
of_two f (x ∷ y ∷ []) = f x y
of_two f _ = None

abbrev pub test_of_two : (ℕ → ℕ → Bool) → List ℕ → Option Bool
test_of_two f (x ∷ y ∷ []) = Some (f x y)
test_of_two f _ = None

abbrev pub test_of_one : (ℕ → Bool) → List ℕ → Option Bool
test_of_one f (x ∷ []) = Some (f x)
test_of_one f _ = None

abbrev pub is_any : ℕ → List ℕ → Bool
is_any x [] = false
is_any x (y ∷ ys) = (x == y) || is_any x ys

abbrev pub first_is_any : List ℕ → Option Bool
first_is_any [] = None
first_is_any (x ∷ ys) = Some (is_any x ys)

abbrev pub write_of_none : (Store → Store) → List ℕ → Store → Option Store
write_of_none f [] s = Some (f s)
write_of_none f _ s = None

abbrev pub write_of_one : (ℕ → Store → Store) → List ℕ → Store → Option Store
write_of_one f (x ∷ []) s = Some (f x s)
write_of_one f _ s = None

abbrev pub write_of_two : (ℕ → ℕ → Store → Store) → List ℕ → Store → Option Store
write_of_two f (x ∷ y ∷ []) s = Some (f x y s)
write_of_two f _ s = None

abbrev pub write_of_three : (ℕ → ℕ → ℕ → Store → Store) → List ℕ → Store → Option Store
write_of_three f (x ∷ y ∷ z ∷ []) s = Some (f x y z s)
write_of_three f _ s = None

-- Division of numbers with a sign is rounded towards 0, and there is none by 0 (`div` and `mod` of section 15).
abbrev pub divided : ℕ → ℕ → Option ℕ
divided a b =
    if b == 0 then None
    else if same (nat_lt a 32768) (nat_lt b 32768) then Some (magnitude a / magnitude b)
    else Some (negated (magnitude a / magnitude b))

abbrev pub left_over : ℕ → ℕ → Option ℕ
left_over a b =
    if b == 0 then None
    else if nat_lt a 32768 then Some (magnitude a % magnitude b)
    else Some (negated (magnitude a % magnitude b))

abbrev pub less : ℕ → ℕ → Bool
less a b = nat_lt (shifted a) (shifted b)

abbrev pub action_of : World → Opcode → Action
action_of w Opcode.Add = Computes (λ s. of_two (λ a b. Some ((a + b) % 65536)))
action_of w Opcode.Sub = Computes (λ s. of_two (λ a b. Some ((a + negated b) % 65536)))
action_of w Opcode.Mul = Computes (λ s. of_two (λ a b. Some ((a * b) % 65536)))
action_of w Opcode.Div = Computes (λ s. of_two divided)
action_of w Opcode.Mod = Computes (λ s. of_two left_over)
action_of w Opcode.And = Computes (λ s. of_two (λ a b. Some (bit_and a b)))
action_of w Opcode.Or = Computes (λ s. of_two (λ a b. Some (bit_or a b)))
action_of w Opcode.Not = Computes (λ s. of_one (λ a. Some (65535 - a)))
action_of w Opcode.Loadb = Computes (λ s. of_two (λ a b. Some (byte_at s a b)))
action_of w Opcode.Loadw = Computes (λ s. of_two (λ a b. Some (word_at s a b)))
action_of w Opcode.GetParent = Computes (λ s. of_one (λ a. Some (w.parent s a)))
action_of w Opcode.GetChild = Finds w.child
action_of w Opcode.GetSibling = Finds w.sibling
action_of w Opcode.Random = Draws
action_of w Opcode.Jz = Tests (λ s. test_of_one (λ a. a == 0))
action_of w Opcode.Je = Tests (λ s. first_is_any)
action_of w Opcode.Jl = Tests (λ s. test_of_two (λ a b. less a b))
action_of w Opcode.Jg = Tests (λ s. test_of_two (λ a b. less b a))
action_of w Opcode.Jin = Tests (λ s. test_of_two (λ a b. w.inside s a b))
action_of w Opcode.TestAttr = Tests (λ s. test_of_two (λ a b. w.has s a b))
action_of w Opcode.Storeb = Writes (write_of_three (λ a i n. with_byte ((a + i) % 65536) n))
action_of w Opcode.Storew = Writes (write_of_three (λ a i n. with_word ((a + 2 * i) % 65536) n))
action_of w Opcode.SetAttr = Writes (write_of_two (λ o a. w.with_attribute o a true))
action_of w Opcode.ClearAttr = Writes (write_of_two (λ o a. w.with_attribute o a false))
action_of w Opcode.InsertObj = Writes (write_of_two w.inserted)
action_of w Opcode.RemoveObj = Writes (write_of_one w.removed)
action_of w Opcode.PrintNum = Writes (write_of_one (λ n. tells (Number n)))
action_of w Opcode.PrintChar = Writes (write_of_one (λ n. tells (Character n)))
action_of w Opcode.PrintAddr = Writes (write_of_one (λ n. tells (AtAddress n)))
action_of w Opcode.PrintPaddr = Writes (write_of_one (λ n. tells (AtPacked n)))
action_of w Opcode.PrintObj = Writes (write_of_one (λ n. tells (ShortName n)))
action_of w Opcode.SetTextStyle = Writes (write_of_one (λ n. tells (Style n)))
action_of w Opcode.NewLine = Writes (write_of_none (tells LineEnd))
action_of w Opcode.Print = Prints
action_of w Opcode.Push = Pushes
action_of w Opcode.Load = Loads
action_of w Opcode.Store = Puts
action_of w Opcode.Inc = Steps 1
action_of w Opcode.Dec = Steps 65535
action_of w Opcode.IncChk = Checks
action_of w Opcode.Jump = Jumps
action_of w Opcode.Call1s = Calls
action_of w Opcode.Call2s = Calls
action_of w Opcode.CallVs = Calls
action_of w Opcode.CallVs2 = Calls
action_of w Opcode.Call1n = Calls
action_of w Opcode.Call2n = Calls
action_of w Opcode.CallVn = Calls
action_of w Opcode.CallVn2 = Calls
action_of w _ = Unknown

-- A place in a program is the list of the items from there on.

abbrev pub Place : Type 0
Place = List Item

abbrev pub Machine : Type 0
Machine = Place × State

abbrev pub goes_by : Bool → Destination → (Label → Place) → Place → State → Option Machine
goes_by true (Destination.To l) at rest s = Some (at l, s)
goes_by true Destination.ReturnFalse at rest s = None
goes_by true Destination.ReturnTrue at rest s = None
goes_by false target at rest s = Some (rest, s)

abbrev pub branched : Option Branch → Bool → (Label → Place) → Place → State → Option Machine
branched None holds at rest s = None
branched (Some b) holds at rest s = goes_by (same holds b.sense) b.target at rest s

abbrev pub delivered : Option ℕ → ℕ → Place → State → Option Machine
delivered None n rest s = None
delivered (Some d) n rest s = Some (rest, given d n s)

abbrev pub pushed : List ℕ → Place → State → Option Machine
pushed (n ∷ []) rest s = Some (rest, given 0 n s)
pushed _ rest s = None

-- the step `act` by the first operand, which is the number of a variable and is not read; none without such an operand
abbrev pub naming : List Operand → (ℕ → List Operand → Option Machine) → Option Machine
naming ((Operand.Small v) ∷ operands) act = act v operands
naming _ act = None

abbrev pub jumped : List Operand → (Label → Place) → State → Option Machine
jumped ((Operand.Offset l) ∷ []) at s = Some (at l, s)
jumped _ at s = None

abbrev pub first_put : ℕ → List ℕ → Place → State → Option Machine
first_put v (n ∷ []) rest s = Some (rest, put_in v n s)
first_put v _ rest s = None

-- A variable gets the number that it has become, and there is a branch where that is greater than the operand.
abbrev pub checked : ℕ → ℕ → List ℕ → Option Branch → (Label → Place) → Place → State → Option Machine
checked v n (m ∷ []) branch at rest s = branched branch (less m n) at rest (put_in v n s)
checked v n _ branch at rest s = None

-- the object that is found is stored, and there is a branch where it is one
abbrev pub found_one : (ℕ → ℕ) → List ℕ → Option ℕ
found_one f = of_one (λ a. Some (f a))

abbrev pub branched_with : Option ℕ → Option Branch → ℕ → (Label → Place) → Place → State → Option Machine
branched_with None branch n at rest s = None
branched_with (Some d) branch n at rest s = branched branch (not (n == 0)) at rest (given d n s)

abbrev pub drawn : World → List ℕ → Store → Option (ℕ × Store)
drawn w (n ∷ []) s = Some (w.random s.chance n, record s { chance = w.renewed s.chance n })
drawn w _ s = None

-- the first operand is the routine, and the others are its arguments
abbrev pub called : World → List ℕ → Store → Option (ℕ × ℕ × Store)
called w [] s = None
called w (f ∷ arguments) s = w.called s f arguments

abbrev pub returned : Option ℕ → ℕ → Place → State → Option Machine
returned None n rest s = Some (rest, s)
returned (Some d) n rest s = Some (rest, given d n s)

-- the text that an instruction has
abbrev pub text_told : World → List ℕ → Store → Store
text_told w bytes = tells (Text (unpacked w.abbreviations bytes))

abbrev pub acted : World → (Label → Place) → Action → Parts → Place → State → Option Machine
acted w at (Computes f) i rest s = operand_values w i.operands s then λ p. f p.1.store p.0 then λ n. delivered i.store n rest p.1
acted w at (Finds f) i rest s =
    operand_values w i.operands s then λ p. found_one (f p.1.store) p.0 then λ n. branched_with i.store i.branch n at rest p.1
acted w at Draws i rest s =
    operand_values w i.operands s then λ p. drawn w p.0 p.1.store then λ r. delivered i.store r.0 rest (record p.1 { store = r.1 })
acted w at (Tests f) i rest s = operand_values w i.operands s then λ p. f p.1.store p.0 then λ b. branched i.branch b at rest p.1
acted w at (Writes f) i rest s = operand_values w i.operands s then λ p. f p.0 p.1.store then λ t. Some (rest, record p.1 { store = t })
acted w at Prints i rest s = Some (rest, record s { store = text_told w i.text s.store })
acted w at Pushes i rest s = operand_values w i.operands s then λ p. pushed p.0 rest p.1
acted w at Loads i rest s = naming i.operands λ v operands. named v s then λ n. delivered i.store n rest s
acted w at Puts i rest s = naming i.operands λ v operands. operand_values w operands s then λ p. first_put v p.0 rest p.1
acted w at (Steps by) i rest s = naming i.operands λ v operands. named v s then λ n. Some (rest, put_in v ((n + by) % 65536) s)
acted w at Checks i rest s =
    naming i.operands λ v operands. operand_values w operands s then λ p. named v p.1 then λ n.
    checked v ((n + 1) % 65536) p.0 i.branch at rest p.1
acted w at Jumps i rest s = jumped i.operands at s
acted w at Calls i rest s =
    operand_values w i.operands s then λ p. called w p.0 p.1.store then λ r.
    returned i.store r.0 rest (record p.1 { temp = r.1; store = r.2 })
acted w at Unknown i rest s = None

abbrev pub stepped : World → (Label → Place) → Item → Place → State → Option Machine
stepped w at (Item.Mark l) rest s = Some (rest, s)
stepped w at (Item.Instruction i) rest s = acted w at (action_of w i.opcode) i rest s

-- A number of items is run, in a program whose labels are at some places.
abbrev pub run : World → (Label → Place) → ℕ → Place → State → Option Machine
run w at zero items s = Some (items, s)
run w at (suc n) [] s = None
run w at (suc n) (item ∷ rest) s = stepped w at item rest s then λ m. run w at n m.0 m.1

-- Each label that is marked among these items is at the place behind its mark.
abbrev pub Stands : (Label → Place) → List Item → Place → Type 0
Stands at [] rest = Unit {0}
Stands at ((Item.Instruction i) ∷ items) rest = Stands at items rest
Stands at ((Item.Mark l) ∷ items) rest = (at l ≡ items ++ rest) × Stands at items rest

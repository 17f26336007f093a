-- Some expressions at a store where `x` is 2, `y` is 4 and `words` is an array of 10, 20, 30 and 40: their meanings, and the stack of a
-- machine behind their code. Each is a routine of `examples/order.inf`, of the name of its tree.
use Rattle.std.specs.Prelude.{List, None, Option, Some, [], false, if◌then◌else◌, suc, zero, ℕ, ◌==◌, ◌∷◌, ◌≡◌}
use Rattle.inf_area.specs.{declared.scale.Scale.Scale, declared.targets.Target.Target}
use Rattle.inf_expressions.specs.{Trees.Leaf, Trees.Tree, Trees.Two, declared.operators.Binary.Binary, declared.operators.Operand.Operand}
use Rattle.inf_expressions.specs.{declared.operators.Operation.Operation, declared.operators.Test.Test}
use Rattle.inf_settings.specs.Bounds.{Limits}
use Rattle.inf_tables.specs.Tables.{no_tables}
use Rattle.inf_opcode.specs.declared.instructions.Label.{Label}
use Rattle.inf_names.specs.Symbols.{no_names}
use Rattle.inf_code.specs.Code.{no_routines}
use Rattle.inf_output.specs.{Output.Out, Strings.no_strings, Texts.no_texts, declared.items.Item.Item}
use Rattle.inf_templates.specs.Meaning.{meaning}
use Rattle.inf_interpreter.specs.{Claims.state, Machine.State, Machine.Store, Machine.World, Machine.stepped, Machine.◌then◌}
use Rattle.inf_meaning_laws.specs.Values.{value_of}
use Rattle.inf_label_laws.specs.Labels.{behind_mark, items_laid}

abbrev pub many : Limits
many s = 1000

abbrev pub empty : Out
empty = record {
  code = no_routines Scale.Four;
  strings = no_strings Scale.Four;
  tables = no_tables;
  texts = no_texts;
  names = no_names false;
  seen = no_names false;
  first = record { file = 0; line = 1 };
  next = 7;
  past = None;
  kept = None;
}

-- no objects, no routines, and all that is known later is 0
abbrev pub bare : World
bare = record {
  later = λ t. 0;
  has = λ s a b. false;
  inside = λ s a b. false;
  parent = λ s a. 0;
  child = λ s a. 0;
  sibling = λ s a. 0;
  random = λ chance n. n;
  renewed = λ chance n. chance;
  called = λ s f arguments. None;
  routine = λ v. 0;
  property = λ s a b. 0;
  property_address = λ s a b. 0;
  property_length = λ s a b. 0;
  with_property = λ a b n s. s;
  message = λ s a b arguments. None;
  children = λ s a. 0;
  of_class = λ s a b. false;
  provides = λ s a b. false;
  prints = λ v ns s. None;
  abbreviations = [];
  with_attribute = λ o a b s. s;
  inserted = λ o d s. s;
  removed = λ o s. s;
}

-- the bytes of the words 10, 20, 30 and 40, from address 0 on
abbrev pub byte_of : ℕ → ℕ
byte_of a = if a == 1 then 10 else if a == 3 then 20 else if a == 5 then 30 else if a == 7 then 40 else 0

abbrev pub store : Store
store = record { variables = λ v. if v == 1 then 2 else if v == 2 then 4 else 0; bytes = byte_of; chance = 0; told = [] }

abbrev pub x : Tree
x = Leaf (Operand.Variable 1)

abbrev pub y : Tree
y = Leaf (Operand.Variable 2)

abbrev pub words : Tree
words = Leaf (Operand.Later (Target.Name 0))

abbrev pub number : ℕ → Tree
number n = Leaf (Operand.Known n)

abbrev pub operated : Operation → Tree → Tree → Tree
operated o a b = Two (Binary.Operation o) a b

abbrev pub tested : Test → Tree → Tree → Tree
tested t a b = Two (Binary.Test t) a b

-- the alternative `a`, and others behind it
abbrev pub or_others : Tree → Tree → Tree
or_others a others = Two Binary.Then a others

-- the stack at the end of some items, which at most this number of steps leads to
abbrev pub ended : (Label → List Item) → ℕ → List Item → State → Option (List ℕ)
ended at n [] s = Some s.stack
ended at zero (item ∷ rest) s = None
ended at (suc n) (item ∷ rest) s = stepped bare at item rest s then λ m. ended at n m.0 m.1

-- the stack behind the code of an expression, which began with 77 on it
abbrev pub stack_behind : Tree → Option (List ℕ)
stack_behind t =
    let items = items_laid ((meaning many t).value 0) empty in ended (behind_mark items) 100 items (state (77 ∷ []) 0 store)

-- `x + (x = 9)`: the variable is read last
abbrev pub late : Tree
late = operated Operation.Add x (Two Binary.Assign x (number 9))

-- `(x - 9) / y` is -1
abbrev pub rounded : Tree
rounded = operated Operation.Divide (operated Operation.Subtract x (number 9)) y

-- `(x == 2 or 3 && y > 5)`
abbrev pub condition : Tree
condition = Two Binary.And (tested Test.Equal x (or_others (number 2) (number 3))) (tested Test.Greater y (number 5))

-- `x + words-->(x = 3)`: the element is 40, and the variable is read last
abbrev pub element : Tree
element = operated Operation.Add x (operated Operation.Word words (Two Binary.Assign x (number 3)))

-- `y + 1 == 1 or 2 or 3 or 4`: the value waits for the fourth alternative in variable 255
abbrev pub inner : Tree
inner =
    tested Test.Equal (operated Operation.Add y (number 1))
    (or_others (number 1) (or_others (number 2) (or_others (number 3) (number 4))))

-- `(x + 1 == 10 or 11 or 12 or (y + 1 == 1 or 2 or 3 or 4) or 3)`: the fourth alternative puts a value of its own into variable 255, where
-- `x + 1` waits for the fifth. So the laws do not cover it: it is true, and its code finds it false, as frotz does, which prints 0.
abbrev pub disturbed : Tree
disturbed =
    tested Test.Equal (operated Operation.Add x (number 1))
    (or_others (number 10) (or_others (number 11) (or_others (number 12) (or_others inner (number 3)))))

abbrev pub WaitingValuesAreLost : Type 0
WaitingValuesAreLost =
    ((t : Store) × (value_of bare disturbed store ≡ Some (1, t))) × (stack_behind disturbed ≡ Some (0 ∷ 77 ∷ []))

-- frotz prints 18, -1, 0 and 43 for these.
abbrev pub ExamplesAreEvaluated : Type 0
ExamplesAreEvaluated =
    (stack_behind late ≡ Some (18 ∷ 77 ∷ []))
    × (stack_behind rounded ≡ Some (65535 ∷ 77 ∷ []))
    × (stack_behind condition ≡ Some (0 ∷ 77 ∷ []))
    × (stack_behind element ≡ Some (43 ∷ 77 ∷ []))

-- The definitions at examples, by evaluation.
use Rattle.std.proofs.Common.{◌≡◌, ℕ, zero, suc, List, [], ◌∷◌, map, Option, Some, None, refl}
use Rattle.inf_area.specs.{declared.targets.Target.Target, declared.targets.Value.Value}
use Rattle.inf_expressions.specs.{Rooted.Rooted, Trees.Tree, Units.judged, Units.trees_of}
use Rattle.inf_expressions.specs.declared.{findings.Finding.Finding, operators.Binary.Binary, operators.Direction.Direction}
use Rattle.inf_expressions.specs.declared.{operators.Function.Function, operators.Operand.Operand, operators.Operation.Operation}
use Rattle.inf_expressions.specs.declared.{operators.PropertyPart.PropertyPart, operators.Relative.Relative, operators.Single.Single}
use Rattle.inf_expressions.specs.declared.{operators.Test.Test, operators.Unary.Unary, symbols.Symbol.Symbol, units.Wanted.Wanted}
use Rattle.inf_expressions.specs.Findings.{error_number, no_constant, out_of_range, too_many_arguments, wrong_kind}
use Rattle.inf_expressions.specs.Questions.{children_of, constant_of, range_of}
use Rattle.inf_expressions.specs.Trees as tree

-- Operands by place: the numbers 0 to 5; then a variable, a constant known later, the functions `child`, `random` and `indirect`,
-- and `#` with an unknown name.
abbrev operands : List Operand
operands = Operand.Known 0 ∷ Operand.Known 1 ∷ Operand.Known 2 ∷ Operand.Known 3 ∷ Operand.Known 4 ∷ Operand.Known 5 ∷ Operand.Variable 1
    ∷ Operand.Later (Target.Name 7) ∷ Operand.Function Function.Child ∷ Operand.Function Function.Random ∷ Operand.Function
    Function.Indirect
    ∷ Operand.Unknown ∷ []

abbrev x : ℕ
x = 6

abbrev later : ℕ
later = 7

abbrev child : ℕ
child = 8

abbrev random : ℕ
random = 9

abbrev indirect : ℕ
indirect = 10

abbrev unknown : ℕ
unknown = 11

-- a leaf of one token
abbrev leaf : ℕ → ℕ → Symbol
leaf order place = Symbol.Leaf order order place

abbrev op : Operation → Symbol
op o = Symbol.Two (Binary.Operation o)

-- the finding of a unit that begins at the order 10
abbrev found : List Symbol → Option Finding
found symbols = judged Wanted.Value 10 operands symbols

abbrev trees : List Symbol → List Tree
trees symbols = map (λ (r : Rooted). r.tree) (trees_of Wanted.Value 10 operands symbols)

-- Lemmas about expressions of a wrong kind

-- x + (child): a function of the system is no value; the error is at its name
function_without_brackets : found (leaf 10 x ∷ leaf 13 child ∷ Symbol.Bracketed 12 ∷ op Operation.Add ∷ []) ≡ Some (wrong_kind 13)
function_without_brackets = refl

-- the function `child` alone is of the wrong kind
function_alone : found (leaf 10 child ∷ []) ≡ Some (wrong_kind 10)
function_alone = refl

-- x = child()
function_of_nothing : found (leaf 10 x ∷ leaf 12 child ∷ Symbol.Call 0 ∷ Symbol.Two Binary.Assign ∷ []) ≡ Some (wrong_kind 12)
function_of_nothing = refl

-- (child)(x) is a call
call_in_brackets : found (leaf 11 child ∷ Symbol.Bracketed 10 ∷ leaf 13 x ∷ Symbol.Call 1 ∷ []) ≡ None
call_in_brackets = refl

-- x + #y: the error is at the name; #y = 3: at the sign, since the target is wrong as well
unknown_constant : found (leaf 10 x ∷ Symbol.Leaf 12 13 unknown ∷ op Operation.Add ∷ []) ≡ Some (wrong_kind 13)
unknown_constant = refl

unknown_target : found (Symbol.Leaf 10 11 unknown ∷ leaf 13 3 ∷ Symbol.Two Binary.Assign ∷ []) ≡ Some (wrong_kind 10)
unknown_target = refl

-- (5) = 1, 5++, -(x)++ and (x + 1)--
number_as_target : found (leaf 11 5 ∷ Symbol.Bracketed 10 ∷ leaf 14 1 ∷ Symbol.Two Binary.Assign ∷ []) ≡ Some (wrong_kind 10)
number_as_target = refl

number_as_step : found (leaf 10 5 ∷ Symbol.Suffix (Unary.Behind Direction.Up) ∷ []) ≡ Some (wrong_kind 10)
number_as_step = refl

variable_as_step : found (leaf 12 x ∷ Symbol.Bracketed 11 ∷ Symbol.Suffix (Unary.Behind Direction.Up) ∷ Symbol.Prefix 10
    Unary.Negate ∷ []) ≡ None
variable_as_step = refl

sum_as_step : found (leaf 11 x ∷ leaf 13 1 ∷ op Operation.Add ∷ Symbol.Bracketed 10 ∷ Symbol.Suffix (Unary.Behind Direction.Down) ∷ []) ≡
    Some (wrong_kind 10)
sum_as_step = refl

-- x->1 = 2 and x.1 = 2, but not x.&1 = 2
entry_as_target : found (leaf 10 x ∷ leaf 12 1 ∷ op Operation.Byte ∷ leaf 14 2 ∷ Symbol.Two Binary.Assign ∷ []) ≡ None
entry_as_target = refl

property_as_target : found (leaf 10 x ∷ leaf 12 1 ∷ Symbol.Two (Binary.Property PropertyPart.Value) ∷ leaf 14 2 ∷ Symbol.Two
    Binary.Assign ∷ []) ≡ None
property_as_target = refl

address_as_target : found (leaf 10 x ∷ leaf 12 1 ∷ Symbol.Two (Binary.Property PropertyPart.Address) ∷ leaf 14 2 ∷ Symbol.Two
    Binary.Assign ∷ []) ≡ Some
    (wrong_kind 10)
address_as_target = refl

-- Lemmas about the kinds that a unit wants

-- child(x) is a value and no constant; a variable is none, and the constant known later no number
no_constant_of_code : judged Wanted.Constant 10 operands (leaf 10 child ∷ leaf 12 x ∷ Symbol.Call 1 ∷ []) ≡ Some (no_constant 10)
no_constant_of_code = refl

no_constant_of_variable : judged Wanted.Constant 9 operands (leaf 10 x ∷ []) ≡ Some (no_constant 9)
no_constant_of_variable = refl

constant_known_later : judged Wanted.Constant 9 operands (leaf 10 later ∷ []) ≡ None
constant_known_later = refl

no_number : judged Wanted.Number 9 operands (leaf 10 later ∷ []) ≡ Some (no_constant 9)
no_number = refl

-- operands x, 3 and (1 + 2), but not -K, of which there is code
operands_of_instruction : judged Wanted.Operand 10 operands
    (leaf 12 x ∷ leaf 13 3 ∷ leaf 15 1 ∷ leaf 17 2 ∷ op Operation.Add ∷ Symbol.Bracketed 14 ∷ []) ≡ None
operands_of_instruction = refl

no_operand : judged Wanted.Operand 10 operands (leaf 12 x ∷ leaf 14 later ∷ Symbol.Prefix 13 Unary.Negate ∷ []) ≡ Some (no_constant 10)
no_operand = refl

-- 1, 2 to 3: two values; x and 2 to x are none; (1, 2) is one value, of which there is code
values_of_case : judged Wanted.Case 10 operands (leaf 10 1 ∷ leaf 12 2 ∷ leaf 14 3 ∷ Symbol.Two Binary.To ∷ Symbol.Comma ∷ []) ≡ None
values_of_case = refl

trees_of_case : map (λ (r : Rooted). r.tree) (trees_of Wanted.Case 10 operands (leaf 10 1 ∷ leaf 12 2 ∷ leaf 14 3 ∷ Symbol.Two Binary.To ∷
    Symbol.Comma ∷ []))
    ≡ tree.Leaf (Operand.Known 1) ∷ tree.Two Binary.To (tree.Leaf (Operand.Known 2)) (tree.Leaf (Operand.Known 3)) ∷ []
trees_of_case = refl

range_to_variable : judged Wanted.Case 10 operands (leaf 10 2 ∷ leaf 12 x ∷ Symbol.Two Binary.To ∷ []) ≡ Some (no_constant 10)
range_to_variable = refl

comma_in_case : judged Wanted.Case 10 operands (leaf 11 1 ∷ leaf 13 2 ∷ Symbol.Two Binary.Comma ∷ Symbol.Bracketed 10 ∷ []) ≡ Some
    (no_constant 10)
comma_in_case = refl

-- x in 5, (x) in 5, (x in 5); for (5) in x the error is at the bracket, for (5 in x) at the number, for -x in 5 at the sign
loop : judged Wanted.Loop 10 operands (leaf 10 x ∷ leaf 12 5 ∷ Symbol.Two (Binary.Test Test.In) ∷ []) ≡ None
loop = refl

loop_in_brackets : judged Wanted.Loop 10 operands
    (leaf 12 x ∷ Symbol.Bracketed 11 ∷ leaf 15 5 ∷ Symbol.Two (Binary.Test Test.In) ∷ Symbol.Bracketed 10 ∷ []) ≡
    None
loop_in_brackets = refl

loop_of_number : judged Wanted.Loop 9 operands (leaf 11 5 ∷ Symbol.Bracketed 10 ∷ leaf 14 x ∷ Symbol.Two (Binary.Test Test.In) ∷ []) ≡ Some
    (wrong_kind 10)
loop_of_number = refl

loop_of_number_in : judged Wanted.Loop 9 operands
    (leaf 11 5 ∷ leaf 13 x ∷ Symbol.Two (Binary.Test Test.In) ∷ Symbol.Bracketed 10 ∷ []) ≡ Some
    (wrong_kind 11)
loop_of_number_in = refl

loop_of_negative : judged Wanted.Loop 9 operands (leaf 11 x ∷ Symbol.Prefix 10 Unary.Negate ∷ leaf 13 5 ∷ Symbol.Two
    (Binary.Test Test.In) ∷ []) ≡ Some
    (wrong_kind 10)
loop_of_negative = refl

-- Lemmas about numbers that are out of range

-- 5 / 0 and 5 / random, where the function is wrong too, but further on; x / 0 is code
by_zero : found (leaf 10 5 ∷ leaf 12 0 ∷ op Operation.Divide ∷ []) ≡ Some (out_of_range 10)
by_zero = refl

by_function : found (leaf 10 5 ∷ leaf 12 random ∷ op Operation.Divide ∷ []) ≡ Some (out_of_range 10)
by_function = refl

variable_by_zero : found (leaf 10 x ∷ leaf 12 0 ∷ op Operation.Remainder ∷ []) ≡ None
variable_by_zero = refl

-- x + 5 / (3 = 4): an assignment to a number stays code
by_wrong_target :
    found (leaf 10 x ∷ leaf 12 5 ∷ leaf 15 3 ∷ leaf 17 4 ∷ Symbol.Two Binary.Assign ∷ Symbol.Bracketed 14 ∷ op Operation.Divide ∷ op
    Operation.Add ∷ [])
    ≡ Some (wrong_kind 15)
by_wrong_target = refl

-- 2 + 5 / 0 is 2, and wrong
after_zero : trees (leaf 10 2 ∷ leaf 12 5 ∷ leaf 14 0 ∷ op Operation.Divide ∷ op Operation.Add ∷ []) ≡ tree.Leaf (Operand.Known 2) ∷ []
after_zero = refl

-- Lemmas about arguments

abbrev ones : ℕ → List Symbol → List Symbol
ones zero rest = rest
ones (suc n) rest = leaf 20 1 ∷ ones n rest

seven_arguments : found (leaf 10 later ∷ ones 7 (Symbol.Call 7 ∷ [])) ≡ None
seven_arguments = refl

eight_arguments : found (leaf 10 later ∷ ones 8 (Symbol.Call 8 ∷ [])) ≡ Some (too_many_arguments 10)
eight_arguments = refl

two_for_child : found (leaf 10 child ∷ ones 2 (Symbol.Call 2 ∷ [])) ≡ Some (too_many_arguments 10)
two_for_child = refl

five_for_message : found (leaf 10 x ∷ leaf 12 1 ∷ Symbol.Two (Binary.Property PropertyPart.Value) ∷ Symbol.Bracketed 9 ∷ ones 5
    (Symbol.Call 5 ∷ [])) ≡ None
five_for_message = refl

six_for_message : found (leaf 10 x ∷ leaf 12 1 ∷ Symbol.Two (Binary.Property PropertyPart.Value) ∷ ones 6 (Symbol.Call 6 ∷ [])) ≡ Some
    (too_many_arguments 10)
six_for_message = refl

eight_for_indirect : found (leaf 10 indirect ∷ ones 8 (Symbol.Call 8 ∷ [])) ≡ None
eight_for_indirect = refl

nine_for_indirect : found (leaf 10 indirect ∷ ones 9 (Symbol.Call 9 ∷ [])) ≡ Some (too_many_arguments 10)
nine_for_indirect = refl

-- The least finding: the first of several, and at one token that with the least number.
first_of_two : found (leaf 10 x ∷ leaf 12 child ∷ op Operation.Add ∷ leaf 14 random ∷ op Operation.Add ∷ []) ≡ Some (wrong_kind 12)
first_of_two = refl

least_number : judged Wanted.Constant 10 operands (leaf 10 5 ∷ leaf 12 x ∷ Symbol.Two Binary.Assign ∷ []) ≡ Some (wrong_kind 10)
unfolding error_number
least_number = refl

-- Lemmas about numbers

abbrev of : ℕ → ℕ → Operation → List Tree
of a b o =
    map (λ (r : Rooted). r.tree) (trees_of Wanted.Value 10 (Operand.Known a ∷ Operand.Known b ∷ []) (leaf 10 0 ∷ leaf 12 1 ∷ op o ∷ []))

abbrev is : ℕ → List Tree
is n = tree.Leaf (Operand.Known n) ∷ []

sum : of 65535 2 Operation.Add ≡ is 1
sum = refl

difference : of 1 2 Operation.Subtract ≡ is 65535
difference = refl

product : of 40000 3 Operation.Multiply ≡ is 54464
product = refl

-- -7 / 2, 7 / -2, and the least number by -1, which is itself
quotients : of 65529 2 Operation.Divide ≡ is 65533
quotients = refl

quotient_by_negative : of 7 65534 Operation.Divide ≡ is 65533
quotient_by_negative = refl

quotient_of_least : of 32768 65535 Operation.Divide ≡ is 32768
quotient_of_least = refl

-- -7 % 2 and 7 % -2
remainder_of_negative : of 65529 2 Operation.Remainder ≡ is 65535
remainder_of_negative = refl

remainder_by_negative : of 7 65534 Operation.Remainder ≡ is 1
remainder_by_negative = refl

bits : of 12 10 Operation.BitAnd ≡ is 8
bits = refl

more_bits : of 12 10 Operation.BitOr ≡ is 14
more_bits = refl

no_entry : of 12 10 Operation.Word ≡ tree.Two (Binary.Operation Operation.Word) (tree.Leaf (Operand.Known 12))
    (tree.Leaf (Operand.Known 10)) ∷ []
no_entry = refl

-- -5, ~5, ~~5
negative : trees (leaf 11 5 ∷ Symbol.Prefix 10 Unary.Negate ∷ []) ≡ is 65531
negative = refl

turned : trees (leaf 11 5 ∷ Symbol.Prefix 10 (Unary.Single Single.Complement) ∷ []) ≡ is 65530
turned = refl

contrary : trees (leaf 11 5 ∷ Symbol.Prefix 10 Unary.Not ∷ []) ≡ is 0
contrary = refl

-- -1 < 0, 2 >= 3, 1 == 2 or 1, 1 ~= 2 or 3
less : trees (leaf 11 1 ∷ Symbol.Prefix 10 Unary.Negate ∷ leaf 13 0 ∷ Symbol.Two (Binary.Test Test.Less) ∷ []) ≡ is 1
less = refl

at_least : trees (leaf 10 2 ∷ leaf 12 3 ∷ Symbol.Two (Binary.Test Test.AtLeast) ∷ []) ≡ is 0
at_least = refl

alternatives : trees (leaf 10 1 ∷ leaf 12 2 ∷ leaf 14 1 ∷ Symbol.List 1 ∷ Symbol.Two (Binary.Test Test.Equal) ∷ []) ≡ is 1
alternatives = refl

none_of_them : trees (leaf 10 1 ∷ leaf 12 2 ∷ leaf 14 3 ∷ Symbol.List 1 ∷ Symbol.Two (Binary.Fails Test.Equal) ∷ []) ≡ is 1
none_of_them = refl

-- 2 && 0, 2 || 0; 0 && x, 1 has 2 and (1, 2) are code
both : trees (leaf 10 2 ∷ leaf 12 0 ∷ Symbol.Two Binary.And ∷ []) ≡ is 0
both = refl

either : trees (leaf 10 2 ∷ leaf 12 0 ∷ Symbol.Two Binary.Or ∷ []) ≡ is 1
either = refl

only_one_known : trees (leaf 10 0 ∷ leaf 12 x ∷ Symbol.Two Binary.And ∷ []) ≡ tree.Two Binary.And (tree.Leaf (Operand.Known 0))
    (tree.Leaf (Operand.Variable 1)) ∷ []
only_one_known = refl

attribute : trees (leaf 10 1 ∷ leaf 12 2 ∷ Symbol.Two (Binary.Test Test.Has) ∷ []) ≡ tree.Two (Binary.Test Test.Has)
    (tree.Leaf (Operand.Known 1))
    (tree.Leaf (Operand.Known 2)) ∷ []
attribute = refl

comma : trees (leaf 10 1 ∷ leaf 12 2 ∷ Symbol.Comma ∷ []) ≡ tree.Two Binary.Comma (tree.Leaf (Operand.Known 1))
    (tree.Leaf (Operand.Known 2)) ∷ []
comma = refl

-- Lemmas about trees

-- child(x); indirect(K, 1); K(1, 2, 3), a list that leans to the right; K()
call_of_child : trees (leaf 10 child ∷ leaf 12 x ∷ Symbol.Call 1 ∷ []) ≡ tree.One (Unary.Relative Relative.Child)
    (tree.Leaf (Operand.Variable 1)) ∷ []
call_of_child = refl

call_of_indirect : trees (leaf 10 indirect ∷ leaf 12 later ∷ leaf 14 1 ∷ Symbol.Call 2 ∷ [])
    ≡ tree.One Unary.Indirect (tree.Two Binary.Then (tree.Leaf (Operand.Later (Target.Name 7))) (tree.Leaf (Operand.Known 1))) ∷ []
call_of_indirect = refl

call_of_three : trees (leaf 10 later ∷ leaf 12 1 ∷ leaf 14 2 ∷ leaf 16 3 ∷ Symbol.Call 3 ∷ [])
    ≡ tree.Two Binary.Call (tree.Leaf (Operand.Later (Target.Name 7)))
    (tree.Two Binary.Then (tree.Leaf (Operand.Known 1))
    (tree.Two Binary.Then (tree.Leaf (Operand.Known 2)) (tree.Leaf (Operand.Known 3)))) ∷ []
call_of_three = refl

call_of_none : trees (leaf 10 later ∷ Symbol.Call 0 ∷ []) ≡ tree.One Unary.Call (tree.Leaf (Operand.Later (Target.Name 7))) ∷ []
call_of_none = refl

-- Questions about a tree.
abbrev at_x : Tree → Tree
at_x e = tree.Two (Binary.Test Test.In) (tree.Leaf (Operand.Variable 1)) e

children : children_of (at_x (tree.Leaf (Operand.Known 5))) ≡ Some (tree.Leaf (Operand.Known 5))
children = refl

children_of_either : children_of (at_x (tree.Two Binary.Then (tree.Leaf (Operand.Known 5)) (tree.Leaf (Operand.Known 4)))) ≡ None
children_of_either = refl

constant_later : constant_of (tree.Leaf (Operand.Later (Target.Name 7))) ≡ Some (Value.Later (Target.Name 7))
constant_later = refl

no_constant_at_all : constant_of (tree.Leaf (Operand.Variable 1)) ≡ None
no_constant_at_all = refl

ends : range_of (tree.Two Binary.To (tree.Leaf (Operand.Known 1)) (tree.Leaf (Operand.Known 2))) ≡ Some
    (tree.Leaf (Operand.Known 1), tree.Leaf (Operand.Known 2))
ends = refl

-- Routines as trees of their statements, and their spelling: no space stands beside a sign, and a bracket only where an operator stands
-- inside of one that binds tighter. Designer's Manual, fourth edition, sections 1.3 to 1.9, and the table of operators in its appendix.
use Rattle.std.specs.Prelude.{ℕ, suc, nat_lt, Bool, List, [], ◌∷◌, ◌++◌, codes, decimal, if◌then◌else◌}
use Rattle.inf_area.specs.declared.targets.SystemConstant.{SystemConstant}
use Rattle.inf_expressions.specs.declared.{operators.Binary.Binary, operators.Direction.Direction, operators.Operation.Operation}
use Rattle.inf_expressions.specs.declared.{operators.PropertyPart.PropertyPart, operators.Relative.Relative, operators.Single.Single}
use Rattle.inf_expressions.specs.declared.{operators.Test.Test, operators.Unary.Unary}
use Rattle.inf_expression_laws.specs.Precedence.{addresses, assignments, commas, complements, connections, denials, entries, members}
use Rattle.inf_expression_laws.specs.Precedence.{negations, primaries, products, steps_behind, steps_in_front, sums, tests}

-- An expression: a number, the name of a variable or of a routine, a number of the story behind `#`, and an operator with its parts.
pub data Expression : Type 0 where
  Number : ℕ → Expression
  Name : List ℕ → Expression
  System : SystemConstant → Expression
  One : Unary → Expression → Expression
  Two : Binary → Expression → Expression → Expression

-- the opcodes by which assembly lines ask of a property: its value, the address of its data, and the length of data at an address
pub data Question : Type 0 where
  GetProp : Question
  GetPropAddr : Question
  GetPropLen : Question

-- A statement: an expression alone, `return` with an expression, `rtrue`, `rfalse`, `if` without `else`, `while`, `for`, an assembly line
-- with its operands and the variable that it stores to, `print_ret` of the string at a packed address, and a statement with others behind
-- it.
pub data Statement : Type 0 where
  Evaluate : Expression → Statement
  Return : Expression → Statement
  ReturnTrue : Statement
  ReturnFalse : Statement
  If : Expression → Statement → Statement
  While : Expression → Statement → Statement
  For : Expression → Expression → Expression → Statement → Statement
  Ask : Question → List Expression → List ℕ → Statement
  PrintString : Expression → Statement
  Then : Statement → Statement → Statement

pub record Routine : Type 0 where
  pub name : List ℕ
  pub locals : List (List ℕ)
  pub body : Statement

-- Operators: the signs in front of a part and behind it, the level at which the operator binds, and the one at which its part has to.

pub record Around : Type 0 where
  pub front : List ℕ
  pub behind : List ℕ
  pub level : ℕ
  pub inner : ℕ

abbrev pub in_front : List ℕ → ℕ → Around
in_front sign level = record { front = sign; behind = []; level = level; inner = level }

abbrev pub after : List ℕ → ℕ → Around
after sign level = record { front = []; behind = sign; level = level; inner = level }

abbrev pub function : List ℕ → Around
function name = record { front = name ++ codes "("; behind = codes ")"; level = members; inner = commas }

abbrev pub around_of : Unary → Around
around_of Unary.Negate = in_front (codes "-") negations
around_of Unary.Not = in_front (codes "~~") denials
around_of (Unary.Single Single.Complement) = in_front (codes "~") complements
around_of (Unary.Single Single.Parent) = function (codes "parent")
around_of (Unary.Single Single.Random) = function (codes "random")
around_of (Unary.Before Direction.Up) = in_front (codes "++") steps_in_front
around_of (Unary.Before Direction.Down) = in_front (codes "--") steps_in_front
around_of (Unary.Behind Direction.Up) = after (codes "++") steps_behind
around_of (Unary.Behind Direction.Down) = after (codes "--") steps_behind
around_of (Unary.Relative Relative.Child) = function (codes "child")
around_of (Unary.Relative Relative.Sibling) = function (codes "sibling")
around_of Unary.Children = function (codes "children")
around_of Unary.Call = after (codes "()") members
around_of Unary.Indirect = function (codes "indirect")

-- Operators of two parts: the sign between them, the one behind both, and the levels. Of lists only the arguments of a call are spelled
-- so, and not the alternatives of a test.

pub record Between : Type 0 where
  pub sign : List ℕ
  pub behind : List ℕ
  pub level : ℕ
  pub left : ℕ
  pub right : ℕ

-- an operator that joins from the left
abbrev pub joined : List ℕ → ℕ → Between
joined sign level = record { sign = sign; behind = []; level = level; left = level; right = suc level }

abbrev pub tested : List ℕ → Between
tested sign = record { sign = sign; behind = []; level = tests; left = sums; right = sums }

abbrev pub operation_between : Operation → Between
operation_between Operation.Add = joined (codes "+") sums
operation_between Operation.Subtract = joined (codes "-") sums
operation_between Operation.Multiply = joined (codes "*") products
operation_between Operation.Divide = joined (codes "/") products
operation_between Operation.Remainder = joined (codes "%") products
operation_between Operation.BitAnd = joined (codes "&") products
operation_between Operation.BitOr = joined (codes "|") products
operation_between Operation.Byte = joined (codes "->") entries
operation_between Operation.Word = joined (codes "-->") entries

abbrev pub property_between : PropertyPart → Between
property_between PropertyPart.Value = joined (codes ".") members
property_between PropertyPart.Address = joined (codes ".&") addresses
property_between PropertyPart.Length = joined (codes ".#") addresses

abbrev pub test_between : Test → Between
test_between Test.Equal = tested (codes "==")
test_between Test.Less = tested (codes "<")
test_between Test.Greater = tested (codes ">")
test_between Test.AtMost = tested (codes "<=")
test_between Test.AtLeast = tested (codes ">=")
test_between Test.Has = tested (codes " has ")
test_between Test.In = tested (codes " in ")
test_between Test.OfClass = tested (codes " ofclass ")
test_between Test.Provides = tested (codes " provides ")

-- A test that is to fail. The language has a sign for three of these; `~` before the sign of another one is no sign of a source.
abbrev pub failed_between : Test → Between
failed_between Test.Equal = tested (codes "~=")
failed_between Test.Less = tested (codes "~<")
failed_between Test.Greater = tested (codes "~>")
failed_between Test.AtMost = tested (codes "~<=")
failed_between Test.AtLeast = tested (codes "~>=")
failed_between Test.Has = tested (codes " hasnt ")
failed_between Test.In = tested (codes " notin ")
failed_between Test.OfClass = tested (codes " ~ofclass ")
failed_between Test.Provides = tested (codes " ~provides ")

abbrev pub between_of : Binary → Between
between_of (Binary.Operation o) = operation_between o
between_of (Binary.Property p) = property_between p
between_of (Binary.Test t) = test_between t
between_of (Binary.Fails t) = failed_between t
between_of Binary.Assign =
    record { sign = codes "="; behind = []; level = assignments; left = connections; right = assignments }
between_of Binary.Comma = joined (codes ",") commas
between_of Binary.And = joined (codes "&&") connections
between_of Binary.Or = joined (codes "||") connections
between_of Binary.Call = record { sign = codes "("; behind = codes ")"; level = members; left = members; right = commas }
between_of Binary.Then = record { sign = codes ","; behind = []; level = commas; left = assignments; right = commas }
between_of Binary.To = record { sign = codes " to "; behind = []; level = commas; left = negations; right = negations }

abbrev pub bracketed : Bool → List ℕ → List ℕ
bracketed is_looser text = if is_looser then codes "(" ++ text ++ codes ")" else text

abbrev pub system_name : SystemConstant → List ℕ
system_name SystemConstant.GrammarTable = codes "grammar_table"
system_name SystemConstant.ActionsTable = codes "actions_table"
system_name SystemConstant.PreactionsTable = codes "preactions_table"
system_name SystemConstant.DictionaryTable = codes "dictionary_table"
system_name SystemConstant.ClassesTable = codes "classes_table"
system_name SystemConstant.GlobalsArray = codes "globals_array"
system_name SystemConstant.ReadableMemoryOffset = codes "readable_memory_offset"
system_name SystemConstant.CodeOffset = codes "code_offset"
system_name SystemConstant.StringsOffset = codes "strings_offset"
system_name SystemConstant.HighestObjectNumber = codes "highest_object_number"

-- the spelling of an expression where it has to bind at a level at least
abbrev pub spelled : ℕ → Expression → List ℕ
spelled least (Number n) = decimal n
spelled least (Name name) = name
spelled least (System c) = codes "#" ++ system_name c
spelled least (One op a) =
    bracketed (nat_lt (around_of op).level least) ((around_of op).front ++ spelled (around_of op).inner a ++ (around_of op).behind)
spelled least (Two op a b) =
    bracketed (nat_lt (between_of op).level least)
    (spelled (between_of op).left a ++ (between_of op).sign ++ spelled (between_of op).right b ++ (between_of op).behind)

abbrev pub opcode_name : Question → List ℕ
opcode_name GetProp = codes "get_prop"
opcode_name GetPropAddr = codes "get_prop_addr"
opcode_name GetPropLen = codes "get_prop_len"

abbrev pub operands_spelled : List Expression → List ℕ
operands_spelled [] = []
operands_spelled (e ∷ operands) = codes " " ++ spelled primaries e ++ operands_spelled operands

-- the body of an `if` or of a loop, which stands in braces where it is more than one statement
abbrev pub held : Statement → List ℕ → List ℕ
held (Evaluate e) text = text
held (Return e) text = text
held ReturnTrue text = text
held ReturnFalse text = text
held (If e body) text = text
held (While e body) text = text
held (For start e step body) text = text
held (Ask q operands variable) text = text
held (PrintString e) text = text
held (Then first second) text = codes "{" ++ text ++ codes "}"

abbrev pub statement_spelled : Statement → List ℕ
statement_spelled (Evaluate e) = spelled commas e ++ codes ";"
statement_spelled (Return e) = codes "return " ++ spelled commas e ++ codes ";"
statement_spelled ReturnTrue = codes "rtrue;"
statement_spelled ReturnFalse = codes "rfalse;"
statement_spelled (If e body) = codes "if(" ++ spelled commas e ++ codes ")" ++ held body (statement_spelled body)
statement_spelled (While e body) = codes "while(" ++ spelled commas e ++ codes ")" ++ held body (statement_spelled body)
statement_spelled (For start e step body) =
    codes "for(" ++ spelled commas start ++ codes ":" ++ spelled commas e ++ codes ":" ++ spelled commas step ++ codes ")"
    ++ held body (statement_spelled body)
statement_spelled (Ask q operands variable) =
    codes "@" ++ opcode_name q ++ operands_spelled operands ++ codes "->" ++ variable ++ codes ";"
statement_spelled (PrintString e) = codes "print_ret (string) " ++ spelled primaries e ++ codes ";"
statement_spelled (Then first second) = statement_spelled first ++ statement_spelled second

abbrev pub locals_spelled : List (List ℕ) → List ℕ
locals_spelled [] = []
locals_spelled (name ∷ locals) = codes " " ++ name ++ locals_spelled locals

abbrev pub routine_spelled : Routine → List ℕ
routine_spelled r = codes "[" ++ r.name ++ locals_spelled r.locals ++ codes ";" ++ statement_spelled r.body ++ codes "];"

-- A routine with a conditional directive: the statements before it, the name that it asks for, the statement that stays where that name
-- was declared, and the statements behind it.
pub record Sided : Type 0 where
  pub name : List ℕ
  pub locals : List (List ℕ)
  pub before : Statement
  pub asked : List ℕ
  pub side : Statement
  pub behind : Statement

-- the routine that is read, where the name was declared or was not
abbrev pub on_side : Bool → Sided → Routine
on_side is_declared r = record {
  name = r.name;
  locals = r.locals;
  body = Then r.before (if is_declared then Then r.side r.behind else r.behind);
}

abbrev pub sided_spelled : Sided → List ℕ
sided_spelled r =
    codes "[" ++ r.name ++ locals_spelled r.locals ++ codes ";" ++ statement_spelled r.before ++ codes "#Ifdef " ++ r.asked ++ codes ";"
    ++ statement_spelled r.side ++ codes "#Endif;" ++ statement_spelled r.behind ++ codes "];"

-- The events of the grammar while a routine is read, by its tree: names and numbers as they come, each operator behind its parts, and the
-- actions by which statements are begun, opened and ended.
use Rattle.std.specs.Prelude.{◌≡◌, ℕ, zero, suc, nat_lt, Bool, true, false, List, [], ◌∷◌, ◌++◌, length, codes, Some, if◌then◌else◌}
use Rattle.inf_characters.specs.declared.characters.CharSet.{CharSet}
use Rattle.inf_expressions.specs.declared.{operators.Binary.Binary, operators.Direction.Direction, operators.Operation.Operation}
use Rattle.inf_expressions.specs.declared.{operators.PropertyPart.PropertyPart, operators.Relative.Relative, operators.Single.Single}
use Rattle.inf_expressions.specs.declared.{operators.Test.Test, operators.Unary.Unary}
use Rattle.inf_scanner.specs.{Tokens.next_token, declared.lines.Lines.Lines, declared.tokens.Mark.Mark}
use Rattle.inf_machine.specs.{Grammar.Did, Grammar.Event, Grammar.Took, Machine.read}
use Rattle.inf_syntax.specs.{Atoms.mark_atom, declared.actions.Action.Action}
use Rattle.inf_syntax.specs.declared.parts.names.TheConstants as Part
use Rattle.inf_grammar.specs.Language.{grammar, known}
use Rattle.inf_unit.specs.{Atoms.atom_of_kind, Atoms.name_atom, Atoms.number_atom, Tokens.is_end}
use Rattle.inf_expression_laws.specs.Precedence.{commas, primaries}
use Rattle.inf_veneer_laws.specs.Routines.{compare, count_children, find_own, of_class, property_address, property_length}
use Rattle.inf_veneer_laws.specs.Routines.{provides_property, read_property, region, step_byte, step_property, step_word, write_byte}
use Rattle.inf_veneer_laws.specs.Routines.{write_property, write_word}
use Rattle.inf_veneer_laws.specs.Sources.{Ask, Evaluate, Expression, For, If, Name, Number, One, PrintString, Return, ReturnFalse}
use Rattle.inf_veneer_laws.specs.Sources.{ReturnTrue, Routine, Statement, System, Then, Two, While, around_of, between_of, opcode_name}
use Rattle.inf_veneer_laws.specs.Sources.{routine_spelled, system_name}

abbrev pub Events : Type 0
Events = List (Event Action)

abbrev pub name_taken : List ℕ → Event Action
name_taken name = Took (name_atom false name)

abbrev pub mark_taken : Mark → Event Action
mark_taken m = Took (mark_atom m)

-- Operators: the events in front of a part, between two parts, and behind them

pub record Beside : Type 0 where
  pub front : Events
  pub behind : Events

abbrev pub sign_in_front : Mark → Action → Beside
sign_in_front m act = record { front = mark_taken m ∷ []; behind = Did act ∷ [] }

abbrev pub sign_behind : Mark → Action → Beside
sign_behind m act = record { front = []; behind = mark_taken m ∷ Did act ∷ [] }

-- the call of a function of the system
abbrev pub function_called : List ℕ → Beside
function_called name = record {
  front = name_taken name ∷ Did Action.Name ∷ mark_taken Mark.OpenParenthesis ∷ Did Action.Count ∷ [];
  behind = Did Action.Part ∷ mark_taken Mark.CloseParenthesis ∷ Did Action.Call ∷ [];
}

abbrev pub beside_of : Unary → Beside
beside_of Unary.Negate = sign_in_front Mark.Minus Action.Negate
beside_of Unary.Not = sign_in_front Mark.LogicalNot Action.Not
beside_of (Unary.Single Single.Complement) = sign_in_front Mark.BitNot Action.BitNot
beside_of (Unary.Single Single.Parent) = function_called (codes "parent")
beside_of (Unary.Single Single.Random) = function_called (codes "random")
beside_of (Unary.Before Direction.Up) = sign_in_front Mark.Increment Action.IncrementBefore
beside_of (Unary.Before Direction.Down) = sign_in_front Mark.Decrement Action.DecrementBefore
beside_of (Unary.Behind Direction.Up) = sign_behind Mark.Increment Action.IncrementAfter
beside_of (Unary.Behind Direction.Down) = sign_behind Mark.Decrement Action.DecrementAfter
beside_of (Unary.Relative Relative.Child) = function_called (codes "child")
beside_of (Unary.Relative Relative.Sibling) = function_called (codes "sibling")
beside_of Unary.Children = function_called (codes "children")
beside_of Unary.Call = record {
  front = [];
  behind = mark_taken Mark.OpenParenthesis ∷ Did Action.Count ∷ mark_taken Mark.CloseParenthesis ∷ Did Action.Call ∷ [];
}
beside_of Unary.Indirect = function_called (codes "indirect")

pub record Amid : Type 0 where
  pub middle : Events
  pub behind : Events

abbrev pub sign_amid : Mark → Action → Amid
sign_amid m act = record { middle = mark_taken m ∷ []; behind = Did act ∷ [] }

-- A test is against a list, which here has one part.
abbrev pub test_amid : Event Action → Action → Amid
test_amid sign act = record { middle = sign ∷ Did Action.Count ∷ []; behind = Did Action.Part ∷ Did act ∷ [] }

abbrev pub operation_amid : Operation → Amid
operation_amid Operation.Add = sign_amid Mark.Plus Action.Plus
operation_amid Operation.Subtract = sign_amid Mark.Minus Action.Minus
operation_amid Operation.Multiply = sign_amid Mark.Times Action.Times
operation_amid Operation.Divide = sign_amid Mark.Divide Action.Divide
operation_amid Operation.Remainder = sign_amid Mark.Remainder Action.Remainder
operation_amid Operation.BitAnd = sign_amid Mark.BitAnd Action.BitAnd
operation_amid Operation.BitOr = sign_amid Mark.BitOr Action.BitOr
operation_amid Operation.Byte = sign_amid Mark.Arrow Action.ByteEntry
operation_amid Operation.Word = sign_amid Mark.LongArrow Action.WordEntry

abbrev pub property_amid : PropertyPart → Amid
property_amid PropertyPart.Value = sign_amid Mark.Dot Action.Member
property_amid PropertyPart.Address = sign_amid Mark.DotAnd Action.MemberAddress
property_amid PropertyPart.Length = sign_amid Mark.DotHash Action.MemberLength

abbrev pub tested_amid : Test → Amid
tested_amid Test.Equal = test_amid (mark_taken Mark.Equal) Action.Equal
tested_amid Test.Less = test_amid (mark_taken Mark.Less) Action.Less
tested_amid Test.Greater = test_amid (mark_taken Mark.Greater) Action.Greater
tested_amid Test.AtMost = test_amid (mark_taken Mark.LessOrEqual) Action.LessOrEqual
tested_amid Test.AtLeast = test_amid (mark_taken Mark.GreaterOrEqual) Action.GreaterOrEqual
tested_amid Test.Has = test_amid (name_taken (codes "has")) Action.Has
tested_amid Test.In = test_amid (name_taken (codes "in")) Action.In
tested_amid Test.OfClass = test_amid (name_taken (codes "ofclass")) Action.OfClass
tested_amid Test.Provides = test_amid (name_taken (codes "provides")) Action.Provides

-- The tests that have no sign for their failing are not read at all.
abbrev pub nothing_amid : Amid
nothing_amid = record { middle = []; behind = [] }

abbrev pub failed_amid : Test → Amid
failed_amid Test.Equal = test_amid (mark_taken Mark.NotEqual) Action.Unequal
failed_amid Test.Less = nothing_amid
failed_amid Test.Greater = nothing_amid
failed_amid Test.AtMost = nothing_amid
failed_amid Test.AtLeast = nothing_amid
failed_amid Test.Has = test_amid (name_taken (codes "hasnt")) Action.HasNot
failed_amid Test.In = test_amid (name_taken (codes "notin")) Action.NotIn
failed_amid Test.OfClass = nothing_amid
failed_amid Test.Provides = nothing_amid

-- The last argument of a call ends with its bracket, and each other one with a comma.
abbrev pub amid_of : Binary → Amid
amid_of (Binary.Operation o) = operation_amid o
amid_of (Binary.Property p) = property_amid p
amid_of (Binary.Test t) = tested_amid t
amid_of (Binary.Fails t) = failed_amid t
amid_of Binary.Assign = sign_amid Mark.Assign Action.Assign
amid_of Binary.Comma = sign_amid Mark.Comma Action.Comma
amid_of Binary.And = sign_amid Mark.LogicalAnd Action.And
amid_of Binary.Or = sign_amid Mark.LogicalOr Action.Or
amid_of Binary.Call = record {
  middle = mark_taken Mark.OpenParenthesis ∷ Did Action.Count ∷ [];
  behind = Did Action.Part ∷ mark_taken Mark.CloseParenthesis ∷ Did Action.Call ∷ [];
}
amid_of Binary.Then = record { middle = Did Action.Part ∷ mark_taken Mark.Comma ∷ []; behind = [] }
amid_of Binary.To = record { middle = name_taken (codes "to") ∷ []; behind = Did Action.To ∷ [] }

abbrev pub in_brackets : Bool → Events → Events
in_brackets is_looser events =
    if is_looser then mark_taken Mark.OpenParenthesis ∷ Did Action.Bracket
    ∷ (events ++ Did Action.Bracketed ∷ mark_taken Mark.CloseParenthesis ∷ []) else events

-- the events of an expression where it has to bind at a level at least
abbrev pub expression_events : ℕ → Expression → Events
expression_events least (Number n) = Took number_atom ∷ Did Action.Number ∷ []
expression_events least (Name name) = name_taken name ∷ Did Action.Name ∷ []
expression_events least (System c) = mark_taken Mark.Hash ∷ name_taken (system_name c) ∷ Did Action.System ∷ []
expression_events least (One op a) =
    in_brackets (nat_lt (around_of op).level least)
    ((beside_of op).front ++ expression_events (around_of op).inner a ++ (beside_of op).behind)
expression_events least (Two op a b) =
    in_brackets (nat_lt (between_of op).level least)
    (expression_events (between_of op).left a ++ (amid_of op).middle ++ expression_events (between_of op).right b ++ (amid_of op).behind)

-- Statements: one that stands in another and holds others itself tells that it is a level deeper.

abbrev pub statement_ends : Events
statement_ends = Did Action.EndStatement ∷ mark_taken Mark.Semicolon ∷ []

abbrev pub deeper : Bool → Events → Events
deeper is_top events = if is_top then events else Did Action.Deeper ∷ events

abbrev pub operand_events : List Expression → Events
operand_events [] = []
operand_events (e ∷ operands) = Did Action.Outer ∷ (expression_events primaries e ++ Did Action.OuterEnd ∷ operand_events operands)

abbrev pub in_braces : Events → Events
in_braces events = mark_taken Mark.OpenBrace ∷ (events ++ mark_taken Mark.CloseBrace ∷ [])

abbrev pub body_events : Statement → Events → Events
body_events (Evaluate e) events = events
body_events (Return e) events = events
body_events ReturnTrue events = events
body_events ReturnFalse events = events
body_events (If e body) events = events
body_events (While e body) events = events
body_events (For start e step body) events = events
body_events (Ask q operands variable) events = events
body_events (PrintString e) events = events
body_events (Then first second) events = in_braces events

-- the condition of a statement, and what is held by it
abbrev pub held_events : List ℕ → Action → Action → Events → Events → Events
held_events word opens ends condition body =
    name_taken word ∷ Did opens ∷ mark_taken Mark.OpenParenthesis ∷ Did Action.Begin ∷ Did Action.Outer
    ∷ (condition ++ Did ends ∷ mark_taken Mark.CloseParenthesis ∷ (body ++ Did Action.Close ∷ []))

abbrev pub statement_events : Bool → Statement → Events
statement_events is_top (Evaluate e) = Did Action.Begin ∷ Did Action.Outer ∷ (expression_events commas e ++ statement_ends)
statement_events is_top (Return e) =
    Did Action.Begin ∷ name_taken (codes "return") ∷ Did Action.Outer ∷ (expression_events commas e ++ statement_ends)
statement_events is_top ReturnTrue = Did Action.Begin ∷ name_taken (codes "rtrue") ∷ statement_ends
statement_events is_top ReturnFalse = Did Action.Begin ∷ name_taken (codes "rfalse") ∷ statement_ends
statement_events is_top (If e body) =
    deeper is_top (held_events (codes "if") Action.OpenIf Action.EndIf (expression_events commas e)
    (body_events body (statement_events false body)))
statement_events is_top (While e body) =
    deeper is_top (held_events (codes "while") Action.OpenWhile Action.EndWhile (expression_events commas e)
    (body_events body (statement_events false body)))
statement_events is_top (For start e step body) =
    deeper is_top (name_taken (codes "for") ∷ Did Action.OpenFor ∷ mark_taken Mark.OpenParenthesis ∷ Did Action.Begin ∷ Did Action.Outer
    ∷ (expression_events commas start ++ Did Action.EndForStart ∷ Did Action.ForTop ∷ mark_taken Mark.Colon ∷ Did Action.Begin
    ∷ Did Action.Outer ∷ (expression_events commas e ++ Did Action.EndForTest ∷ mark_taken Mark.Colon ∷ Did Action.Begin ∷ Did Action.Outer
    ∷ (expression_events commas step ++ Did Action.EndForStep ∷ mark_taken Mark.CloseParenthesis
    ∷ (body_events body (statement_events false body) ++ Did Action.Close ∷ [])))))
statement_events is_top (Ask q operands variable) =
    Did Action.Begin ∷ mark_taken Mark.At ∷ name_taken (opcode_name q)
    ∷ (operand_events operands ++ mark_taken Mark.Arrow ∷ name_taken variable ∷ Did Action.Store ∷ statement_ends)
statement_events is_top (PrintString e) =
    Did Action.Begin ∷ name_taken (codes "print_ret") ∷ Did Action.OuterMaybe ∷ mark_taken Mark.OpenParenthesis ∷ Did Action.Bracket
    ∷ name_taken (codes "string") ∷ Did Action.Name ∷ mark_taken Mark.CloseParenthesis ∷ Did Action.Rule ∷ Did Action.Outer
    ∷ (expression_events primaries e ++ Did Action.PrintRule ∷ statement_ends)
statement_events is_top (Then first second) = statement_events is_top first ++ statement_events is_top second

abbrev pub local_events : List (List ℕ) → Events
local_events [] = []
local_events (name ∷ locals) = name_taken name ∷ Did Action.Local ∷ local_events locals

abbrev pub routine_events : Routine → Events
routine_events r =
    Did Action.Routine ∷ mark_taken Mark.OpenBracket ∷ name_taken r.name
    ∷ (local_events r.locals ++ Did Action.EndLocals ∷ mark_taken Mark.Semicolon
    ∷ (statement_events true r.body ++ Did Action.EndRoutine ∷ mark_taken Mark.CloseBracket ∷ mark_taken Mark.Semicolon ∷ []))

-- Definitions of tokens

abbrev pub atoms_of : Events → List ℕ
atoms_of [] = []
atoms_of (Took atom ∷ events) = atom ∷ atoms_of events
atoms_of (Did act ∷ events) = atoms_of events

-- the atoms of the tokens of a text up to its end, of which there are `most` at most
abbrev pub atoms_in : CharSet → ℕ → ℕ → Lines → List ℕ → List ℕ
atoms_in set limit zero lines text = []
atoms_in set limit (suc most) lines text =
    let r = next_token set limit lines text in
    if is_end r.kind then [] else atom_of_kind false r.kind r.kept.bytes ∷ atoms_in set limit most r.lines r.rest

abbrev pub text_atoms : CharSet → ℕ → List ℕ → List ℕ
text_atoms set limit text = atoms_in set limit (length text) (record { line = 1; after_return = false }) text

-- The tokens of a routine's text are those of the tree's events, and the grammar reads them with these events, as one piece of a source.
pub record IsRead (r : Routine) : Type 0 where
  pub tokens : (set : CharSet) (limit : ℕ) → text_atoms set limit (routine_spelled r) ≡ atoms_of (routine_events r)
  pub events : read grammar known (Part.PIECE ∷ []) (atoms_of (routine_events r)) ≡ Some (record { events = routine_events r; left = [] })

abbrev pub TextsAreRead : Type 0
TextsAreRead =
    IsRead write_byte × IsRead write_word × IsRead step_byte × IsRead step_word × IsRead count_children × IsRead write_property
    × IsRead step_property × IsRead provides_property × IsRead property_address × IsRead property_length × IsRead read_property
    × IsRead find_own × IsRead compare × IsRead region × IsRead of_class

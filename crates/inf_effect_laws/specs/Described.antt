-- Statements that print and that change objects: what each of them does, in a world, to a store, which has all outputs so far. Inform
-- Designer's Manual, fourth edition, sections 1.4, 1.12 and 3.2 to 3.6; Z-Machine Standard 1.1, section 15.
use Rattle.std.specs.Prelude.{ℕ, ◌+◌, ◌*◌, ◌%◌, Bool, true, false, List, [], ◌∷◌, codes, map, Option, Some, None, if◌then◌else◌}
use Rattle.std.specs.Str.{str_eq_ignore_ascii_case}
use Rattle.inf_area.specs.{declared.targets.AreaName.AreaName, declared.targets.Target.Target}
use Rattle.inf_characters.specs.declared.texts.TextItem.{TextItem}
use Rattle.inf_expressions.specs.{Trees.Leaf, Trees.Tree, declared.operators.Operand.Operand}
use Rattle.inf_output.specs.declared.veneer.Veneer.{Veneer}
use Rattle.inf_interpreter.specs.Machine.{AtAddress, AtPacked, Character, LineEnd, Number, ShortName, Store, Style, Text, Told, World}
use Rattle.inf_interpreter.specs.Machine.{◌then◌, tells, with_word, write_of_one, write_of_three, write_of_two}
use Rattle.inf_meaning_laws.specs.Values.{Arg, arg, calls, number, sense, supplied_by, value_of, values}
use Rattle.inf_control_laws.specs.Control.{Change, Done, Effect, Returned}

-- An item of `print`: a text; an expression alone; one behind `(char)`, `(string)`, `(address)` or `(object)`; one behind `(name)`,
-- `(the)`, `(The)`, `(a)` or `(number)`; and one behind the name of a routine in brackets.
pub data Printed : Type 0 where
  Words : List TextItem → Printed
  Value : Tree → Printed
  AsCharacter : Tree → Printed
  AsString : Tree → Printed
  AsAddress : Tree → Printed
  AsObject : Tree → Printed
  Name : Tree → Printed
  Definite : Tree → Printed
  Capital : Tree → Printed
  Indefinite : Tree → Printed
  InWords : Tree → Printed
  By : Tree → Tree → Printed

-- A statement, by its expressions. `give` has each attribute with whether it is given, and not taken away by `~`; `string` has the place of
-- its text; an action is written with its nouns behind it, and one in `<<` and `>>` returns from the routine.
pub data Deed : Type 0 where
  Print : List Printed → Deed
  PrintReturn : Printed → List Printed → Deed
  NewLine : Deed
  Give : Tree → List (Bool × Tree) → Deed
  Move : Tree → Tree → Deed
  Remove : Tree → Deed
  SetStyle : List ℕ → Deed
  SetString : Tree → Target → Deed
  Spaces : Tree → Deed
  DoAction : List Tree → Deed
  DoActionReturn : List Tree → Deed

-- Expressions of a statement are worked out as those of an operator are, the last one first, and their values are used at once.
abbrev pub args_of : World → List Tree → List Arg
args_of w trees = map (λ t. arg (sense w t)) trees

abbrev pub with_values : World → List Arg → (List ℕ → Store → Option Store) → Change
with_values w args change s = values w args s then λ p. change p.0 p.1

-- Definitions of printing

abbrev pub told_as : World → (ℕ → Told) → Tree → Change
told_as w how e = with_values w (args_of w (e ∷ [])) (write_of_one (λ n. tells (how n)))

-- A supplied routine is called with some values, as in an expression that is a statement: its own value is thrown away.
abbrev pub routine_run : World → Veneer → List Tree → Change
routine_run w v trees = (supplied_by w v (args_of w trees)).alone

abbrev pub printed : World → Printed → Change
printed w (Words text) s = Some (tells (Text text) s)
printed w (Value e) s = told_as w Number e s
printed w (AsCharacter e) s = told_as w Character e s
printed w (AsString e) s = told_as w AtPacked e s
printed w (AsAddress e) s = told_as w AtAddress e s
printed w (AsObject e) s = told_as w ShortName e s
printed w (Name e) s = routine_run w Veneer.ShortName (e ∷ []) s
printed w (Definite e) s = routine_run w Veneer.DefiniteArticle (e ∷ []) s
printed w (Capital e) s = routine_run w Veneer.CapitalArticle (e ∷ []) s
printed w (Indefinite e) s = routine_run w Veneer.IndefiniteArticle (e ∷ []) s
printed w (InWords e) s = routine_run w Veneer.EnglishNumber (e ∷ []) s
printed w (By routine e) s = (calls w (args_of w (routine ∷ e ∷ []))).alone s

-- The items are printed in order, and behind them the statement ends.
abbrev pub printed_then : World → List Printed → Effect → Effect
printed_then w [] last s = last s
printed_then w (p ∷ items) last s = printed w p s then λ t. printed_then w items last t

-- Attributes of an object are given and taken away in order.
abbrev pub one_given : World → Arg → Bool × Tree → Change
one_given w object a = with_values w (object ∷ args_of w (a.1 ∷ [])) (write_of_two (λ o n. w.with_attribute o n a.0))

abbrev pub all_given : World → Arg → List (Bool × Tree) → Change
all_given w object [] s = Some s
all_given w object (a ∷ attributes) s = one_given w object a s then λ t. all_given w object attributes t

-- With several attributes an object that is no variable or constant is worked out once, before them.
abbrev pub are_several : List (Bool × Tree) → Bool
are_several (a ∷ b ∷ attributes) = true
are_several _ = false

abbrev pub waits : Tree → List (Bool × Tree) → Bool
waits (Leaf x) attributes = false
waits e attributes = are_several attributes

abbrev pub given_by : Bool → World → Tree → List (Bool × Tree) → Change
given_by true w e attributes s = value_of w e s then λ p. all_given w (number p.0) attributes p.1
given_by false w e attributes s = all_given w (arg (sense w e)) attributes s

abbrev pub given : World → Tree → List (Bool × Tree) → Change
given w e attributes = given_by (waits e attributes) w e attributes

-- Styles of text by their names, in small letters or capitals
abbrev pub styles : List (List ℕ × ℕ)
styles = (codes "roman", 0) ∷ (codes "reverse", 1) ∷ (codes "bold", 2) ∷ (codes "underline", 4) ∷ (codes "fixed", 8) ∷ []

abbrev pub style_in : List (List ℕ × ℕ) → List ℕ → Option ℕ
style_in [] name = None
style_in (style ∷ others) name = if str_eq_ignore_ascii_case name style.0 then Some style.1 else style_in others name

-- The string variables are the first words of the table of abbreviations (Z-Machine Standard 1.1, section 3.3). One gets the place of a
-- text.
abbrev pub string_variables : Tree
string_variables = Leaf (Operand.Later (Target.Place AreaName.Abbreviations 0))

abbrev pub string_set : World → Tree → Target → Change
string_set w e at =
    with_values w (args_of w (string_variables ∷ e ∷ Leaf (Operand.Later at) ∷ []))
    (write_of_three (λ a i n. with_word ((a + 2 * i) % 65536) n))

-- The end of a statement: control comes behind it, or out of the routine with 1.
abbrev pub goes_on : Change → Effect
goes_on change s = change s then λ t. Some (Done, t)

abbrev pub returns_1 : Change → Effect
returns_1 change s = change s then λ t. Some (Returned 1, t)

abbrev pub effect : World → Deed → Effect
effect w (Print items) = printed_then w items (λ s. Some (Done, s))
effect w (PrintReturn p items) = printed_then w (p ∷ items) (λ s. Some (Returned 1, tells LineEnd s))
effect w NewLine = λ s. Some (Done, tells LineEnd s)
effect w (Give e attributes) = goes_on (given w e attributes)
effect w (Move object parent) = goes_on (with_values w (args_of w (object ∷ parent ∷ [])) (write_of_two w.inserted))
effect w (Remove object) = goes_on (with_values w (args_of w (object ∷ [])) (write_of_one w.removed))
effect w (SetStyle name) = λ s. style_in styles name then λ n. Some (Done, tells (Style n) s)
effect w (SetString e at) = goes_on (string_set w e at)
effect w (Spaces e) = goes_on (routine_run w Veneer.Spaces (e ∷ []))
effect w (DoAction values) = goes_on (routine_run w Veneer.Process values)
effect w (DoActionReturn values) = returns_1 (routine_run w Veneer.Process values)

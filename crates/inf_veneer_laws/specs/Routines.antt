-- The statements of routines that the compiler supplies, as trees: the entries of arrays, the children of an object, and properties.
use Rattle.std.specs.Prelude.{ℕ, List, [], ◌∷◌, codes}
use Rattle.inf_area.specs.declared.targets.SystemConstant.{SystemConstant}
use Rattle.inf_expressions.specs.declared.{operators.Binary.Binary, operators.Direction.Direction, operators.Operation.Operation}
use Rattle.inf_expressions.specs.declared.{operators.PropertyPart.PropertyPart, operators.Relative.Relative, operators.Single.Single}
use Rattle.inf_expressions.specs.declared.{operators.Test.Test, operators.Unary.Unary}
use Rattle.inf_veneer_laws.specs.Sources.{Ask, Evaluate, Expression, For, GetProp, GetPropAddr, GetPropLen, If, Name, Number, One, Return}
use Rattle.inf_veneer_laws.specs.Sources.{ReturnFalse, ReturnTrue, Routine, Statement, System, Then, Two, While}

-- Definitions of names of locals

abbrev pub a : Expression
a = Name (codes "a")

abbrev pub i : Expression
i = Name (codes "i")

abbrev pub v : Expression
v = Name (codes "v")

abbrev pub d : Expression
d = Name (codes "d")

abbrev pub k : Expression
k = Name (codes "k")

abbrev pub o : Expression
o = Name (codes "o")

abbrev pub p : Expression
p = Name (codes "p")

abbrev pub n : Expression
n = Name (codes "n")

-- Definitions of expressions of some operators

abbrev pub assigned : Expression → Expression → Expression
assigned to value = Two Binary.Assign to value

abbrev pub sum : Expression → Expression → Expression
sum x y = Two (Binary.Operation Operation.Add) x y

abbrev pub byte_entry : Expression → Expression → Expression
byte_entry array index = Two (Binary.Operation Operation.Byte) array index

abbrev pub word_entry : Expression → Expression → Expression
word_entry array index = Two (Binary.Operation Operation.Word) array index

abbrev pub equal : Expression → Expression → Expression
equal x y = Two (Binary.Test Test.Equal) x y

abbrev pub called_with_two : List ℕ → Expression → Expression → Expression
called_with_two name x y = Two Binary.Call (Name name) (Two Binary.Then x y)

-- a call of `CP__Tab` with the object and the property, stored to `a`
abbrev pub finds_own : Statement
finds_own = Evaluate (assigned a (called_with_two (codes "CP__Tab") o p))

-- Entries of arrays: one is assigned and its value is returned; or it is stepped by `d`, and where `k` is not 0 the new value is returned.

abbrev pub write_byte : Routine
write_byte = record {
  name = codes "SB__Va";
  locals = codes "a" ∷ codes "i" ∷ codes "v" ∷ [];
  body = Then (Evaluate (assigned (byte_entry a i) v)) (Return v);
}

abbrev pub write_word : Routine
write_word = record {
  name = codes "SW__Va";
  locals = codes "a" ∷ codes "i" ∷ codes "v" ∷ [];
  body = Then (Evaluate (assigned (word_entry a i) v)) (Return v);
}

abbrev pub step_answer : Statement
step_answer = Then (If k (Return (sum v d))) (Return v)

abbrev pub step_byte : Routine
step_byte = record {
  name = codes "AB__Va";
  locals = codes "a" ∷ codes "i" ∷ codes "d" ∷ codes "k" ∷ codes "v" ∷ [];
  body = Then (Evaluate (assigned v (byte_entry a i))) (Then (Evaluate (assigned (byte_entry a i) (sum v d))) step_answer);
}

abbrev pub step_word : Routine
step_word = record {
  name = codes "AW__Va";
  locals = codes "a" ∷ codes "i" ∷ codes "d" ∷ codes "k" ∷ codes "v" ∷ [];
  body = Then (Evaluate (assigned v (word_entry a i))) (Then (Evaluate (assigned (word_entry a i) (sum v d))) step_answer);
}

-- Objects: the first child is found, and then each next one.

abbrev pub count_children : Routine
count_children = record {
  name = codes "Ch__Ln";
  locals = codes "o" ∷ codes "n" ∷ [];
  body = Then (Evaluate (assigned o (One (Unary.Relative Relative.Child) o)))
      (Then (While o (Then (Evaluate (One (Unary.Behind Direction.Up) n))
      (Evaluate (assigned o (One (Unary.Relative Relative.Sibling) o))))) (Return n));
}

-- Definitions of properties

abbrev pub write_property : Routine
write_property = record {
  name = codes "WV__Pr";
  locals = codes "o" ∷ codes "p" ∷ codes "v" ∷ codes "a" ∷ [];
  body = Then (Evaluate (assigned a (Two (Binary.Property PropertyPart.Address) o p)))
      (Then (If a (Evaluate (assigned (word_entry a (Number 0)) v))) (Return v));
}

abbrev pub step_property : Routine
step_property = record {
  name = codes "AP__Va";
  locals = codes "o" ∷ codes "p" ∷ codes "d" ∷ codes "k" ∷ codes "v" ∷ [];
  body = Then (Evaluate (assigned v (Two (Binary.Property PropertyPart.Value) o p)))
      (Then (Evaluate (Two Binary.Call (Name (codes "WV__Pr")) (Two Binary.Then o (Two Binary.Then p (sum v d))))) step_answer);
}

abbrev pub provides_property : Routine
provides_property = record {
  name = codes "OP__Pr";
  locals = codes "o" ∷ codes "p" ∷ [];
  body = Return (Two (Binary.Fails Test.Equal) (called_with_two (codes "RA__Pr") o p) (Number 0));
}

-- Individual properties: a row is looked for from the first one of the table on.
abbrev pub own_turn : Statement
own_turn = Then (If (equal (word_entry a (Number 0)) p) (Return (sum a (Number 2))))
    (Evaluate (assigned a (sum (sum a (Number 3)) (byte_entry a (Number 2)))))

abbrev pub find_own : Routine
find_own = record {
  name = codes "CP__Tab";
  locals = codes "o" ∷ codes "p" ∷ codes "a" ∷ [];
  body = Then (Ask GetPropAddr (o ∷ Number 3 ∷ []) (codes "a"))
      (Then (If (equal a (Number 0)) ReturnFalse)
      (Then (Evaluate (assigned a (word_entry a (Number 0))))
      (Then (While (word_entry a (Number 0)) own_turn) ReturnFalse)));
}

-- Properties of both kinds: those with numbers below 64 by an opcode, and others by their own tables.

abbrev pub is_declared : Expression
is_declared = Two (Binary.Test Test.Less) p (Number 64)

abbrev pub property_address : Routine
property_address = record {
  name = codes "RA__Pr";
  locals = codes "o" ∷ codes "p" ∷ codes "a" ∷ [];
  body = Then (If is_declared (Then (Ask GetPropAddr (o ∷ p ∷ []) (codes "a")) (Return a)))
      (Then finds_own (Then (If a (Return (sum a (Number 1)))) ReturnFalse));
}

abbrev pub property_length : Routine
property_length = record {
  name = codes "RL__Pr";
  locals = codes "o" ∷ codes "p" ∷ codes "a" ∷ [];
  body = Then (If is_declared (Then (Ask GetPropAddr (o ∷ p ∷ []) (codes "a"))
      (Then (If (equal a (Number 0)) ReturnFalse) (Then (Ask GetPropLen (a ∷ []) (codes "a")) (Return a)))))
      (Then finds_own (Then (If a (Return (byte_entry a (Number 0)))) ReturnFalse));
}

abbrev pub read_property : Routine
read_property = record {
  name = codes "RV__Pr";
  locals = codes "o" ∷ codes "p" ∷ codes "a" ∷ [];
  body = Then (If is_declared (Then (Ask GetProp (o ∷ p ∷ []) (codes "a")) (Return a)))
      (Then finds_own (Then (If (equal a (Number 0)) ReturnFalse) (Return (word_entry (sum a (Number 1)) (Number 0)))));
}

-- Numbers without a sign, and the kind of thing that a number stands for: 1 for an object, 2 for a routine, 3 for a string, and else 0

abbrev pub x : Expression
x = Name (codes "x")

abbrev pub y : Expression
y = Name (codes "y")

abbrev pub c : Expression
c = Name (codes "c")

abbrev pub less : Expression → Expression → Expression
less to than = Two (Binary.Test Test.Less) to than

abbrev pub at_least : Expression → Expression → Expression
at_least to than = Two (Binary.Test Test.AtLeast) to than

abbrev pub minus_one : Expression
minus_one = One Unary.Negate (Number 1)

abbrev pub compare : Routine
compare = record {
  name = codes "Unsigned__Compare";
  locals = codes "x" ∷ codes "y" ∷ [];
  body = Then (If (equal x y) (Return (Number 0)))
      (Then (If (Two Binary.And (less x (Number 0)) (at_least y (Number 0))) (Return (Number 1)))
      (Then (If (Two Binary.And (at_least x (Number 0)) (less y (Number 0))) (Return minus_one))
      (Then (If (Two (Binary.Test Test.Greater) x y) (Return (Number 1))) (Return minus_one))));
}

abbrev pub compared : SystemConstant → Expression
compared constant = called_with_two (codes "Unsigned__Compare") x (System constant)

abbrev pub region : Routine
region = record {
  name = codes "Z__Region";
  locals = codes "x" ∷ [];
  body = Then (If (equal x (Number 0)) ReturnFalse)
      (Then (If (Two (Binary.Test Test.AtMost) (compared SystemConstant.HighestObjectNumber) (Number 0)) (Return (Number 1)))
      (Then (If (at_least (compared SystemConstant.StringsOffset) (Number 0)) (Return (Number 3)))
      (Then (If (at_least (compared SystemConstant.CodeOffset) (Number 0)) (Return (Number 2))) ReturnFalse)));
}

-- Classes: those of an object are the words of its property 2.

abbrev pub is_class : Expression
is_class = Two Binary.Or (equal (One (Unary.Single Single.Parent) o) (Number 1)) (less o (Number 5))

abbrev pub classes_searched : Statement
classes_searched = Then (For (assigned i (Number 0)) (less i n) (One (Unary.Behind Direction.Up) i)
    (If (equal (word_entry a i) c) ReturnTrue)) ReturnFalse

abbrev pub classes_found : Statement
classes_found = Then (Ask GetPropAddr (o ∷ Number 2 ∷ []) (codes "a"))
    (Then (If (equal a (Number 0)) ReturnFalse)
    (Then (Ask GetPropLen (a ∷ []) (codes "n"))
    (Then (Evaluate (assigned n (Two (Binary.Operation Operation.Divide) n (Number 2)))) classes_searched)))

abbrev pub object_asked : Statement
object_asked = Then (Evaluate (assigned n is_class))
    (Then (If (equal c (Number 1)) (Return n))
    (Then (If (equal c (Number 2)) (Return (equal n (Number 0)))) classes_found))

abbrev pub of_class : Routine
of_class = record {
  name = codes "OC__Cl";
  locals = codes "o" ∷ codes "c" ∷ codes "a" ∷ codes "n" ∷ codes "i" ∷ [];
  body = Then (Evaluate (assigned i (Two Binary.Call (Name (codes "Z__Region")) o)))
      (Then (If (equal i (Number 0)) ReturnFalse)
      (Then (If (Two (Binary.Test Test.Greater) i (Number 1)) (Return (equal c (sum i (Number 1))))) object_asked));
}

-- The statements of `CA__Pr`, which sends a message to an object, as a tree, and what its names stand for.
use Rattle.std.specs.Prelude.{ℕ, suc, List, [], ◌∷◌, codes, if◌then◌else◌, bytes_eq}
use Rattle.inf_area.specs.declared.targets.Target.{Target}
use Rattle.inf_expressions.specs.{declared.operators.Binary.Binary, declared.operators.Operand.Operand}
use Rattle.inf_expressions.specs.{declared.operators.PropertyPart.PropertyPart, declared.operators.Test.Test}
use Rattle.inf_names.specs.{declared.meanings.Meaning.Meaning, declared.system_names.SystemName.SystemName}
use Rattle.inf_names.specs.SystemNames.{meaning_of, name_of}
use Rattle.inf_veneer_laws.specs.Routines.{a, assigned, c, d, equal, o, p, x}
use Rattle.inf_veneer_laws.specs.Running.{Numbers}
use Rattle.inf_veneer_laws.specs.Sources.{Evaluate, Expression, If, Name, Number, PrintString, Return, Sided, Then, Two}

abbrev pub b : Expression
b = Name (codes "b")

abbrev pub e : Expression
e = Name (codes "e")

abbrev pub s : Expression
s = Name (codes "s")

abbrev pub t : Expression
t = Name (codes "t")

abbrev pub own_object : Expression
own_object = Name (codes "self")

abbrev pub sender : Expression
sender = Name (codes "sender")

abbrev pub property_value : Expression
property_value = Two (Binary.Property PropertyPart.Value) o p

-- the kind of thing that the property's value is
abbrev pub kind : Expression
kind = Two Binary.Call (Name (codes "Z__Region")) x

abbrev pub routine_called : Expression
routine_called = Two Binary.Call x (Two Binary.Then a (Two Binary.Then b (Two Binary.Then c (Two Binary.Then d e))))

abbrev pub send_message : Sided
send_message = record {
  name = codes "CA__Pr";
  locals = codes "o" ∷ codes "p" ∷ codes "a" ∷ codes "b" ∷ codes "c" ∷ codes "d" ∷ codes "e" ∷ codes "x" ∷ codes "s" ∷ codes "t" ∷ [];
  before = Then (Evaluate (assigned x property_value))
      (Then (If (equal kind (Number 3)) (PrintString x))
      (Then (If (Two (Binary.Fails Test.Equal) kind (Number 2)) (Return x))
      (Then (Evaluate (assigned s own_object))
      (Then (Evaluate (assigned t sender))
      (Then (Evaluate (assigned sender own_object)) (Evaluate (assigned own_object o)))))));
  asked = codes "action";
  side = Evaluate (assigned (Name (codes "sw__var")) (Name (codes "action")));
  behind = Then (Evaluate (assigned x routine_called))
      (Then (Evaluate (assigned own_object s)) (Then (Evaluate (assigned sender t)) (Return x)));
}

-- Names: the locals, the name `action`, which stands for what the source declares it as, the variables of the language, and any other
-- name, which stands for a number that is known later.

abbrev pub variable_of : Meaning → Operand
variable_of (Meaning.Variable v) = Operand.Variable v
variable_of _ = Operand.Unknown

abbrev pub variable_named : List SystemName → List ℕ → Operand → Operand
variable_named [] name other = other
variable_named (known ∷ all) name other =
    if bytes_eq (name_of known) name then variable_of (meaning_of known) else variable_named all name other

abbrev pub local_named : ℕ → List (List ℕ) → List ℕ → Operand → Operand
local_named v [] name other = other
local_named v (local ∷ locals) name other = if bytes_eq local name then Operand.Variable v else local_named (suc v) locals name other

abbrev pub message_names : Numbers → Operand → List ℕ → Operand
message_names numbers action name =
    local_named 1 send_message.locals name
    (if bytes_eq (codes "action") name then action
    else variable_named (SystemName.OwnObject ∷ SystemName.Sender ∷ SystemName.SwitchVariable ∷ []) name
    (Operand.Later (Target.Name (numbers name))))

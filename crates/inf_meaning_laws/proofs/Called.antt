-- Calls of routines.
use Rattle.std.proofs.Common.{arith, ◌≡◌, ◌≤◌, ℕ, zero, suc, List, [], ◌∷◌, Option, Some, None, Bool, true, false, refl, ap, sym, subst}
use Rattle.std.specs.Prelude.{length, take}
use Rattle.inf_settings.specs.Bounds.{Limits}
use Rattle.inf_expressions.specs.declared.{operators.Binary.Binary, operators.Direction.Direction, operators.Operand.Operand}
use Rattle.inf_expressions.specs.declared.{operators.Operation.Operation, operators.PropertyPart.PropertyPart, operators.Single.Single}
use Rattle.inf_expressions.specs.declared.{operators.Unary.Unary}
use Rattle.inf_expressions.specs.Trees.{Tree, Leaf, One, Two}
use Rattle.inf_output.specs.{Output.instruction, Output.◌▸◌, declared.operands.Simple.Simple}
use Rattle.inf_templates.specs.Parts.{Part, call, operand_of, call_opcode, calling, evaluated, operands}
use Rattle.inf_templates.specs.Meaning.{Meaning, meaning, part}
use Rattle.inf_templates.specs.Meaning as code
use Rattle.inf_interpreter.specs.Machine.{World}
use Rattle.inf_meaning_laws.specs.Values.{Aim, Arg, Bytes, Element, Named, Nowhere, Properties, Sense, Words, arg, forgotten, is_own, sense}
use Rattle.inf_meaning_laws.specs.Laws.{GivesNothing, GivesValue}
use Rattle.inf_meaning_laws.specs.Values as values
use Rattle.inf_interpreter.proofs.Laying.{Always}
use Rattle.inf_meaning_laws.proofs.{Meant.Means, Meant.part_of, Meant.valued_means, Working.AreParts}
use Rattle.inf_meaning_laws.proofs.Instructions.{calls_, calls_alone, call_acts, call_value}

-- Calls: with up to seven arguments all operands are laid

pub taken_whole : (l : List Simple) (n : ℕ) → length l ≤ n → take n l ≡ l
taken_whole [] zero h = refl
taken_whole [] (suc n) h = refl
taken_whole (x ∷ l) zero h = absurd (omega (arith, h))
taken_whole (x ∷ l) (suc n) h = ap (λ k. x ∷ k) (taken_whole l n (omega (arith, h)))

pub operands_length : (ps : List Part) → length (operands ps) ≡ length ps
operands_length [] = refl
operands_length (p ∷ ps) = ap suc (operands_length ps)

pub call_code : (limits : Limits) (p : Part) (ps : List Part) → length ps ≤ 7 → (store : Option ℕ) →
    (evaluated (p ∷ ps) ▸ instruction limits (call_opcode store (length (operands ps))) (operands (p ∷ ps)) store None)
    ≡ call limits p ps store
unfolding calling
call_code limits p ps h store =
    ap (λ l. evaluated (p ∷ ps) ▸ instruction limits (call_opcode store (length l)) (operand_of p ∷ l) store None)
    (sym (taken_whole (operands ps) 7 (subst (λ n. n ≤ 7) (sym (operands_length ps)) h)))

pub calls_means : (keeps : Bool) (w : World) (limits : Limits) (p : Part) (ps : List Part) (args : List Arg) →
    AreParts keeps w (p ∷ ps) args → length ps ≤ 7 → Means false w limits (code.called limits (call limits p ps)) (values.calls w args)
calls_means keeps w limits p ps args h few =
    valued_means w limits (call_value w args) (λ d. call limits p ps (Some d)) (call limits p ps None)
    (λ d. subst (λ c. Always w c (GivesValue false w (call_value w args) d)) (call_code limits p ps few (Some d))
    (calls_ keeps w limits (call_opcode (Some d) (length (operands ps))) (p ∷ ps) args (call_acts w (Some d) (length (operands ps))) h d))
    (subst (λ c. Always w c (GivesNothing w (forgotten (call_value w args)))) (call_code limits p ps few None)
    (calls_alone keeps w limits (call_opcode None (length (operands ps))) (p ∷ ps) args (call_acts w None (length (operands ps))) h))

-- An expression that is no property is called as a value.
abbrev pub IsCalled : Tree → Type 0
IsCalled (Two (Binary.Property PropertyPart.Value) a b) = ⊥
IsCalled f = Unit {0}

abbrev pub IsCall : Limits → Meaning → Type 0
IsCall limits m = (ps : List Part) (store : Option ℕ) → code.called_by limits m.target m ps store ≡ call limits (part m) ps store

one_called : (limits : Limits) (op : Unary) (m : Meaning) → IsCall limits (code.one limits op m)
one_called limits Unary.Negate m ps store = refl
one_called limits other m ps store = refl

operation_called : (limits : Limits) (o : Operation) (m n : Meaning) → IsCall limits (code.two limits (Binary.Operation o) m n)
operation_called limits Operation.Add m n ps store = refl
operation_called limits other m n ps store = refl

is_call : (limits : Limits) (f : Tree) → IsCalled f → IsCall limits (meaning limits f)
is_call limits (Leaf (Operand.Known n)) h ps store = refl
is_call limits (Leaf (Operand.Variable n)) h ps store = refl
is_call limits (Leaf (Operand.Later n)) h ps store = refl
is_call limits (Leaf (Operand.Function n)) h ps store = refl
is_call limits (Leaf Operand.Unknown) h ps store = refl
is_call limits (One op a) h ps store = one_called limits op (meaning limits a) ps store
is_call limits (Two (Binary.Operation o) a b) h ps store = operation_called limits o (meaning limits a) (meaning limits b) ps store
is_call limits (Two (Binary.Property PropertyPart.Value) a b) h ps store = absurd h
is_call limits (Two (Binary.Property PropertyPart.Address) a b) h ps store = refl
is_call limits (Two (Binary.Property PropertyPart.Length) a b) h ps store = refl
is_call limits (Two (Binary.Test t) a b) h ps store = refl
is_call limits (Two (Binary.Fails t) a b) h ps store = refl
is_call limits (Two Binary.Assign a b) h ps store = refl
is_call limits (Two Binary.Comma a b) h ps store = refl
is_call limits (Two Binary.And a b) h ps store = refl
is_call limits (Two Binary.Or a b) h ps store = refl
is_call limits (Two Binary.Call a b) h ps store = refl
is_call limits (Two Binary.Then a b) h ps store = refl
is_call limits (Two Binary.To a b) h ps store = refl

called_alike : (limits : Limits) (f : Tree) → IsCalled f → (ps : List Part) (store : Option ℕ) →
    call limits (part (meaning limits f)) ps store ≡ code.call_of limits (meaning limits f) ps store
unfolding code.call_of
called_alike limits f h ps store = sym (is_call limits f h ps store)

-- The meaning of a call goes by the same cases.
abbrev pub IsCallMeant : World → Sense → Type 0
IsCallMeant w e = (arguments : List Arg) → values.called_as w e.aim e arguments ≡ values.calls w (arg e ∷ arguments)

aimless_meant : (w : World) (e : Sense) → e.aim ≡ Nowhere → IsCallMeant w e
aimless_meant w e aimless arguments = ap (λ aim. values.called_as w aim e arguments) aimless

variable_meant : (w : World) (v : ℕ) (own : Bool) (e : Sense) (arguments : List Arg) →
    values.called_as w (values.aim_at v own) e arguments ≡ values.calls w (arg e ∷ arguments)
variable_meant w v true e arguments = refl
variable_meant w v false e arguments = refl

called_aim : (w : World) (aim : Aim) (e : Sense) (arguments : List Arg) → (values.called_as w aim e arguments).aim ≡ Nowhere
called_aim w Nowhere e arguments = refl
called_aim w (Named v) e arguments = refl
called_aim w (Element Bytes parts) e arguments = refl
called_aim w (Element Words parts) e arguments = refl
called_aim w (Element Properties parts) e arguments = refl

assigned_aim : (w : World) (aim : Aim) (e : Sense) → (values.assigned w aim e).aim ≡ Nowhere
assigned_aim w Nowhere e = refl
assigned_aim w other e = refl

before_aim : (w : World) (how : Direction) (aim : Aim) → (values.stepped_before w how aim).aim ≡ Nowhere
before_aim w how Nowhere = refl
before_aim w how other = refl

behind_aim : (w : World) (how : Direction) (aim : Aim) → (values.stepped_behind w how aim).aim ≡ Nowhere
behind_aim w how Nowhere = refl
behind_aim w how other = refl

one_aim : (w : World) (op : Unary) (e : Sense) → (values.one w op e).aim ≡ Nowhere
one_aim w Unary.Negate e = refl
one_aim w Unary.Not e = refl
one_aim w (Unary.Single Single.Complement) e = refl
one_aim w (Unary.Single Single.Parent) e = refl
one_aim w (Unary.Single Single.Random) e = refl
one_aim w (Unary.Before how) e = before_aim w how e.aim
one_aim w (Unary.Behind how) e = behind_aim w how e.aim
one_aim w (Unary.Relative how) e = refl
one_aim w Unary.Children e = refl
one_aim w Unary.Call e = called_aim w e.aim e []
one_aim w Unary.Indirect e = refl

operation_meant : (w : World) (o : Operation) (a b : Sense) → IsCallMeant w (values.two w (Binary.Operation o) a b)
operation_meant w Operation.Add a b arguments = refl
operation_meant w other a b arguments = refl

is_meant : (w : World) (f : Tree) → IsCalled f → IsCallMeant w (sense w f)
is_meant w (Leaf (Operand.Variable v)) h arguments = variable_meant w v (is_own v) (sense w (Leaf (Operand.Variable v))) arguments
is_meant w (One op a) h arguments = aimless_meant w (sense w (One op a)) (one_aim w op (sense w a)) arguments
is_meant w (Two (Binary.Operation o) a b) h arguments = operation_meant w o (sense w a) (sense w b) arguments
is_meant w (Two (Binary.Property PropertyPart.Value) a b) h arguments = absurd h
is_meant w (Two Binary.Assign a b) h arguments =
    aimless_meant w (sense w (Two Binary.Assign a b)) (assigned_aim w (sense w a).aim (sense w b)) arguments
is_meant w (Two Binary.Call a b) h arguments =
    aimless_meant w (sense w (Two Binary.Call a b)) (called_aim w (sense w a).aim (sense w a) (values.args (sense w b))) arguments
is_meant w other h arguments = refl

pub call_of_means : (keeps : Bool) (w : World) (limits : Limits) (f : Tree) → IsCalled f →
    Means keeps w limits (meaning limits f) (sense w f) → (ps : List Part) (arguments : List Arg) → AreParts keeps w ps arguments →
    length ps ≤ 7 →
    Means false w limits (code.called limits (code.call_of limits (meaning limits f) ps))
    (values.called_as w (sense w f).aim (sense w f) arguments)
call_of_means keeps w limits f called k ps arguments h few =
    subst (λ e. Means false w limits (code.called limits (code.call_of limits (meaning limits f) ps)) e)
    (sym (is_meant w f called arguments))
    (subst (λ c. Means false w limits (code.called limits c) (values.calls w (arg (sense w f) ∷ arguments))) called_alike_all
    (calls_means keeps w limits (part (meaning limits f)) ps (arg (sense w f) ∷ arguments)
    (part_of w limits (meaning limits f) (sense w f) k, h) few))
  where
    called_alike_all : call limits (part (meaning limits f)) ps ≡ code.call_of limits (meaning limits f) ps
    called_alike_all = λ i store. called_alike limits f called ps store i

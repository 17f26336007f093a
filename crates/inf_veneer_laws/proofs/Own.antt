-- The routine that finds an individual property of an object.
use Rattle.std.proofs.Common.{arith, ◌≡◌, ◌≤◌, ℕ, zero, suc, ◌+◌, ◌%◌, [], ◌∷◌, Option, Some, Bool, true, false, not, refl, ◌∙◌, ap}
use Rattle.std.specs.Prelude.{◌==◌, ◌||◌, if◌then◌else◌, codes}
use Rattle.inf_expressions.specs.{Trees.Leaf, Trees.Tree, Trees.Two, declared.operators.Binary.Binary, declared.operators.Operand.Operand}
use Rattle.inf_expressions.specs.{declared.operators.Operation.Operation, declared.operators.Test.Test}
use Rattle.inf_interpreter.specs.Machine.{Store, World, ◌then◌, with_variable}
use Rattle.inf_interpreter.proofs.Running.{none_some, opened, same_some}
use Rattle.inf_meaning_laws.specs.Values.{truth_of}
use Rattle.inf_control_laws.specs.Control.{Done, Effect, Outcome, Returned, Truth, both_run, if_run, while_run}
use Rattle.inf_control_laws.specs.Plain.{alone_run, return_run}
use Rattle.inf_veneer_laws.specs.{Laws.OwnPropertiesAreFound, Routines.find_own, Sources.GetPropAddr, Sources.Number}
use Rattle.inf_veneer_laws.specs.Properties.{address_in, byte_in, most_rows, own_behind, own_from, own_in, word_in}
use Rattle.inf_veneer_laws.specs.Running.{Numbers, asked, called_with, ended, entered, left, operand_in}
use Rattle.inf_veneer_laws.specs.Routines as named
use Rattle.inf_veneer_laws.proofs.Flow.{both_done, both_returns, both_same, comes_to, guard_passes, guard_returns, is_found, returns_with}
use Rattle.inf_veneer_laws.proofs.Flow.{while_ends, while_returns, while_turns}
use Rattle.inf_veneer_laws.proofs.Locals.{local_left, one_local}

-- The variables are the object (1), the property (2) and a place in the table (3).

abbrev pub place : Tree
place = Leaf (Operand.Variable 3)

abbrev word_there : Tree
word_there = Two (Binary.Operation Operation.Word) place (Leaf (Operand.Known 0))

abbrev pub sum_of : Tree → Tree → Tree
sum_of a b = Two (Binary.Operation Operation.Add) a b

abbrev has_row : World → Truth
has_row w = truth_of w word_there

abbrev is_row : World → Truth
is_row w = truth_of w (Two (Binary.Test Test.Equal) word_there (Leaf (Operand.Variable 2)))

abbrev row_returned : World → Effect
row_returned w = return_run w (sum_of place (Leaf (Operand.Known 2)) ∷ [])

abbrev goes_on : World → Effect
goes_on w = alone_run w (Two Binary.Assign place (sum_of (sum_of place (Leaf (Operand.Known 3)))
    (Two (Binary.Operation Operation.Byte) place (Leaf (Operand.Known 2)))) ∷ [])

abbrev turn : World → Effect
turn w = both_run (if_run (is_row w) (row_returned w)) (goes_on w)

abbrev looks : World → ℕ → Effect
looks w turns = while_run (has_row w) (turn w) turns

abbrev pub returns_0 : Effect
returns_0 s = Some (Returned 0, s)

abbrev next_place : Store → ℕ
next_place t = ((t.variables 3 + 3) % 65536 + byte_in t.bytes (t.variables 3) 2) % 65536

abbrev next_store : Store → Store
next_store t = with_variable 3 (next_place t) t

-- The loop and the statement behind it return this place, and only locals are other than before.
record Finds (w : World) (turns : ℕ) (t : Store) (n : ℕ) : Type 0 where
  behind : Store
  runs : both_run (looks w turns) returns_0 t ≡ comes_to (Returned n) behind
  same : (s : Store) → left s behind ≡ left s t

row_is : (w : World) (t : Store) (b : Bool) → (word_in t.bytes (t.variables 3) 0 == t.variables 2) ≡ b → is_row w t ≡ is_found t b
row_is w t true e = ap (λ (b : Bool). is_found t (b || false)) e
row_is w t false e = ap (λ (b : Bool). is_found t (b || false)) e

found_by : (w : World) (most turns : ℕ) →
    ((t : Store) (n : ℕ) → own_from most t.bytes (t.variables 2) (t.variables 3) ≡ Some n → Finds w turns t n) →
    (t : Store) (n : ℕ) (b c : Bool) → (word_in t.bytes (t.variables 3) 0 == 0) ≡ b →
    (word_in t.bytes (t.variables 3) 0 == t.variables 2) ≡ c →
    (if b then Some 0
    else if c then Some ((t.variables 3 + 2) % 65536)
    else own_from most t.bytes (t.variables 2) (next_place t)) ≡ Some n →
    Finds w (suc turns) t n
found_by w most turns later t n true c e f g = record {
  behind = t;
  runs = both_done (looks w (suc turns)) returns_0 t t (while_ends (has_row w) (turn w) turns t (ap (λ (b : Bool). is_found t (not b)) e))
      ∙ ap (λ (x : ℕ). comes_to (Returned x) t) (same_some g);
  same = λ s. refl;
}
found_by w most turns later t n false true e f g =
    let there = (t.variables 3 + 2) % 65536 in
    let returned : turn w t ≡ comes_to (Returned there) t =
    guard_returns (is_row w) (row_returned w) (goes_on w) t t there (row_is w t true f) refl in
    let looked = while_returns (has_row w) (turn w) turns t t there (ap (λ (b : Bool). is_found t (not b)) e) returned in record {
      behind = t;
      runs = both_returns (looks w (suc turns)) returns_0 t t there looked ∙ ap (λ (x : ℕ). comes_to (Returned x) t) (same_some g);
      same = λ s. refl;
    }
found_by w most turns later t n false false e f g =
    let r = later (next_store t) n g in
    let went : turn w t ≡ comes_to Done (next_store t) = guard_passes (is_row w) (row_returned w) (goes_on w) t (row_is w t false f) in
    let turned = while_turns (has_row w) (turn w) turns t (next_store t) (ap (λ (b : Bool). is_found t (not b)) e) went in record {
      behind = r.behind;
      runs = both_same (looks w (suc turns)) (looks w turns) returns_0 t (next_store t) turned ∙ r.runs;
      same = λ s. r.same s ∙ local_left s t 3 (next_place t) refl;
    }

found : (w : World) (most turns : ℕ) → most ≤ turns → (t : Store) (n : ℕ) →
    own_from most t.bytes (t.variables 2) (t.variables 3) ≡ Some n → Finds w turns t n
found w zero turns enough t n e = none_some e
found w (suc most) zero enough t n e = absurd (omega (arith, enough))
found w (suc most) (suc turns) enough t n e =
    found_by w most turns (found w most turns (omega (arith, enough))) t n (word_in t.bytes (t.variables 3) 0 == 0)
    (word_in t.bytes (t.variables 3) 0 == t.variables 2) refl refl e

-- The table begins at the word at the address of property 3, where this is not 0.

abbrev pub is_zero : World → Truth
is_zero w = truth_of w (Two (Binary.Test Test.Equal) place (Leaf (Operand.Known 0)))

abbrev starts : World → Effect
starts w = alone_run w (Two Binary.Assign place word_there ∷ [])

abbrev starts_and_looks : World → ℕ → Effect
starts_and_looks w turns = both_run (starts w) (both_run (looks w turns) returns_0)

abbrev behind_address : World → ℕ → Effect
behind_address w turns = both_run (if_run (is_zero w) returns_0) (starts_and_looks w turns)

abbrev with_start : Store → Store
with_start t = with_variable 3 (word_in t.bytes (t.variables 3) 0) t

pub zero_is : (w : World) (t : Store) (b : Bool) → (t.variables 3 == 0) ≡ b → is_zero w t ≡ is_found t b
zero_is w t true e = ap (λ (b : Bool). is_found t (b || false)) e
zero_is w t false e = ap (λ (b : Bool). is_found t (b || false)) e

record FindsBehind (w : World) (turns : ℕ) (t : Store) (n : ℕ) : Type 0 where
  behind : Store
  runs : behind_address w turns t ≡ comes_to (Returned n) behind
  same : (s : Store) → left s behind ≡ left s t

found_behind : (w : World) (turns : ℕ) → most_rows ≤ turns → (t : Store) (n : ℕ) (b : Bool) → (t.variables 3 == 0) ≡ b →
    (if b then Some 0 else own_from most_rows t.bytes (t.variables 2) (word_in t.bytes (t.variables 3) 0)) ≡ Some n →
    FindsBehind w turns t n
found_behind w turns enough t n true e f = record {
  behind = t;
  runs = guard_returns (is_zero w) returns_0 (starts_and_looks w turns) t t 0 (zero_is w t true e) refl
      ∙ ap (λ (x : ℕ). comes_to (Returned x) t) (same_some f);
  same = λ s. refl;
}
found_behind w turns enough t n false e f =
    let r = found w most_rows turns enough (with_start t) n f in record {
      behind = r.behind;
      runs = guard_passes (is_zero w) returns_0 (starts_and_looks w turns) t (zero_is w t false e)
          ∙ both_done (starts w) (both_run (looks w turns) returns_0) t (with_start t) refl
          ∙ r.runs;
      same = λ s. r.same s ∙ local_left s t 3 (word_in t.bytes (t.variables 3) 0) refl;
    }

-- a variable that an assembly line stores to
abbrev pub ask_done : ℕ → Store → Option ℕ → Option (Outcome × Store)
ask_done v s m = m then λ n. Some (Done, with_variable v n s)

own_is_found : (w : World) (numbers : Numbers) (turns : ℕ) → most_rows ≤ turns → (o p n : ℕ) (s : Store) →
    own_in s.bytes o p ≡ Some n → called_with w numbers turns find_own (o ∷ p ∷ []) s ≡ returns_with n s
own_is_found w numbers turns enough o p n s known =
    let ns = o ∷ p ∷ [] in
    let begun = entered ns s in
    let q = opened (address_in s.bytes o 3) (λ list. own_behind s.bytes p list) n known in
    let asks = asked w (operand_in numbers find_own) GetPropAddr (named.o ∷ Number 3 ∷ []) (codes "a") in
    let now = with_variable 3 q.0 begun in
    let r = found_behind w turns enough now n (q.0 == 0) refl q.2 in
    ap (λ (m : Option (Outcome × Store)). m then ended s)
    (both_done asks (behind_address w turns) begun now (ap (ask_done 3 begun) q.1) ∙ r.runs)
    ∙ ap (returns_with n) (r.same s ∙ one_local ns s 3 q.0 refl)

pub own_properties_are_found : OwnPropertiesAreFound
own_properties_are_found w numbers [] s n t e turns enough = absurd e
own_properties_are_found w numbers (o ∷ []) s n t e turns enough = absurd e
own_properties_are_found w numbers (o ∷ p ∷ []) s n t e turns enough =
    own_is_found w numbers turns enough o p n s e.0 ∙ ap (returns_with n) e.1
own_properties_are_found w numbers (o ∷ p ∷ x ∷ ns) s n t e turns enough = absurd e

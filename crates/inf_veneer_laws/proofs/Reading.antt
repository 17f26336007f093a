-- The routines that read a property's value, its address and its length.
use Rattle.std.proofs.Common.{◌≡◌, ℕ, ◌+◌, ◌%◌, List, [], ◌∷◌, Option, Some, Bool, true, false, not, refl, ◌∙◌, ap, sym}
use Rattle.std.specs.Prelude.{◌==◌, if◌then◌else◌, codes}
use Rattle.inf_area.specs.declared.targets.Target.{Target}
use Rattle.inf_expressions.specs.{Trees.Leaf, Trees.Two, declared.operators.Binary.Binary, declared.operators.Operand.Operand}
use Rattle.inf_expressions.specs.{declared.operators.Operation.Operation, declared.operators.Test.Test}
use Rattle.inf_interpreter.specs.Machine.{Store, World, ◌then◌, less, with_variable}
use Rattle.inf_interpreter.proofs.Running.{none_some, opened, same_some}
use Rattle.inf_meaning_laws.specs.Values.{answer, nobody, truth_of}
use Rattle.inf_control_laws.specs.Control.{Done, Effect, Outcome, Returned, Truth, both_run, effect, if_run}
use Rattle.inf_control_laws.specs.Plain.{alone_run, return_run}
use Rattle.inf_veneer_laws.specs.{Laws.PropertiesAreRead, Outcomes.AsksAddress, Outcomes.AsksLength, Outcomes.FindsOwn}
use Rattle.inf_veneer_laws.specs.{Outcomes.ReadsProperty, Routines.property_address, Routines.property_length, Routines.read_property}
use Rattle.inf_veneer_laws.specs.{Sources.GetProp, Sources.GetPropAddr, Sources.GetPropLen, Sources.Routine, Worlds.HasObjects}
use Rattle.inf_veneer_laws.specs.Properties.{address_in, byte_in, length_in, own_address, own_in, own_length, own_value, size_by, value_in}
use Rattle.inf_veneer_laws.specs.Properties.{word_in}
use Rattle.inf_veneer_laws.specs.Running.{Calls, Meets, Numbers, asked, called_with, control, ended, entered, left, operand_in}
use Rattle.inf_veneer_laws.specs.Routines as named
use Rattle.inf_veneer_laws.proofs.Flow.{both_done, comes_to, guard_passes, guard_returns, is_found, returns_with}
use Rattle.inf_veneer_laws.proofs.Locals.{local_left, one_local}
use Rattle.inf_veneer_laws.proofs.Own.{ask_done, is_zero, place, returns_0, sum_of, zero_is}

-- The variables are the object (1), the property (2) and an address (3).

abbrev is_small : World → Truth
is_small w = truth_of w (Two (Binary.Test Test.Less) (Leaf (Operand.Variable 2)) (Leaf (Operand.Known 64)))

abbrev has_place : World → Truth
has_place w = truth_of w place

abbrev place_returned : World → Effect
place_returned w = return_run w (place ∷ [])

-- The routine returns from its statements, and only locals are other than before.
record Returns (w : World) (numbers : Numbers) (turns : ℕ) (r : Routine) (ns : List ℕ) (s : Store) (n : ℕ) : Type 0 where
  behind : Store
  runs : effect turns (control w (operand_in numbers r) r.body) (entered ns s) ≡ comes_to (Returned n) behind
  same : left s behind ≡ s

returns : (w : World) (numbers : Numbers) (turns : ℕ) (r : Routine) (ns : List ℕ) (s : Store) (n : ℕ) →
    Returns w numbers turns r ns s n → called_with w numbers turns r ns s ≡ returns_with n s
returns w numbers turns r ns s n c = ap (λ (m : Option (Outcome × Store)). m then ended s) c.runs ∙ ap (returns_with n) c.same

-- The place of an individual property is stored.

abbrev own_called : World → Numbers → Effect
own_called w numbers =
    alone_run w (Two Binary.Assign place (Two Binary.Call (Leaf (Operand.Later (Target.Name (numbers (codes "CP__Tab")))))
    (Two Binary.Then (Leaf (Operand.Variable 1)) (Leaf (Operand.Variable 2)))) ∷ [])

abbrev call_stored : Option (ℕ × ℕ × Store) → Option (Outcome × Store)
call_stored m = (((m then λ r. answer (with_variable 3) r.0 r.2) then λ p. answer nobody (p.1.variables 3) p.1) then λ p. Some p.1)
    then λ u. Some (Done, u)

own_stored : (w : World) (numbers : Numbers) → Calls w numbers (codes "CP__Tab") FindsOwn → (s : Store) (n : ℕ) →
    own_in s.bytes (s.variables 1) (s.variables 2) ≡ Some n → own_called w numbers s ≡ comes_to Done (with_variable 3 n s)
own_stored w numbers calls s n known = ap call_stored (calls.comes (s.variables 1 ∷ s.variables 2 ∷ []) s n s (known, refl)).1

-- Lemmas about addresses

abbrev next_returned : World → Effect
next_returned w = return_run w (sum_of place (Leaf (Operand.Known 1)) ∷ [])

address_end : (w : World) (s : Store) (b : Bool) → (s.variables 3 == 0) ≡ b → both_run (if_run (has_place w) (next_returned w)) returns_0 s
    ≡ comes_to (Returned (if b then 0 else (s.variables 3 + 1) % 65536)) s
address_end w s true e = guard_passes (has_place w) (next_returned w) returns_0 s (ap (λ (b : Bool). is_found s (not b)) e)
address_end w s false e =
    guard_returns (has_place w) (next_returned w) returns_0 s s ((s.variables 3 + 1) % 65536) (ap (λ (b : Bool). is_found s (not b)) e) refl

address_found : (w : World) (numbers : Numbers) → Calls w numbers (codes "CP__Tab") FindsOwn → (turns o p n : ℕ) (s : Store) (b : Bool) →
    less p 64 ≡ b →
    (if b then address_in s.bytes o p else (own_in s.bytes o p then λ place. Some (own_address place))) ≡ Some n →
    Returns w numbers turns property_address (o ∷ p ∷ []) s n
address_found w numbers calls turns o p n s true e known =
    let ns = o ∷ p ∷ [] in
    let begun = entered ns s in
    let now = with_variable 3 n begun in
    let asks = asked w (operand_in numbers property_address) GetPropAddr (named.o ∷ named.p ∷ []) (codes "a") in
    let others = both_run (own_called w numbers) (both_run (if_run (has_place w) (next_returned w)) returns_0) in record {
      behind = now;
      runs = guard_returns (is_small w) (both_run asks (place_returned w)) others begun now n (ap (is_found begun) e)
          (both_done asks (place_returned w) begun now (ap (ask_done 3 begun) known));
      same = one_local ns s 3 n refl;
    }
address_found w numbers calls turns o p n s false e known =
    let ns = o ∷ p ∷ [] in
    let begun = entered ns s in
    let q = opened (own_in s.bytes o p) (λ place. Some (own_address place)) n known in
    let now = with_variable 3 q.0 begun in
    let asks = asked w (operand_in numbers property_address) GetPropAddr (named.o ∷ named.p ∷ []) (codes "a") in
    let last = both_run (if_run (has_place w) (next_returned w)) returns_0 in record {
      behind = now;
      runs =
          guard_passes (is_small w) (both_run asks (place_returned w)) (both_run (own_called w numbers) last) begun (ap (is_found begun) e)
          ∙ both_done (own_called w numbers) last begun now (own_stored w numbers calls begun q.0 q.1)
          ∙ address_end w now (q.0 == 0) refl
          ∙ ap (λ (x : ℕ). comes_to (Returned x) now) (same_some q.2);
      same = one_local ns s 3 q.0 refl;
    }

address_meets : (w : World) (numbers : Numbers) → HasObjects w → Calls w numbers (codes "CP__Tab") FindsOwn →
    Meets w numbers property_address (AsksAddress w)
address_meets w numbers h calls [] s n t e turns enough = absurd e.0
address_meets w numbers h calls (o ∷ []) s n t e turns enough = absurd e.0
address_meets w numbers h calls (o ∷ p ∷ []) s n t e turns enough = returns w numbers turns property_address (o ∷ p ∷ []) s e.0.0
    (address_found w numbers calls turns o p e.0.0 s (less p 64) refl e.0.1)
    ∙ ap (λ (x : ℕ). returns_with x s) (sym (h.address s o p e.0.0 e.0.1))
    ∙ e.1
address_meets w numbers h calls (o ∷ p ∷ x ∷ ns) s n t e turns enough = none_some e.1

-- Lemmas about lengths

abbrev length_asked : World → Numbers → Effect
length_asked w numbers = asked w (operand_in numbers property_length) GetPropLen (named.a ∷ []) (codes "a")

abbrev length_returned : World → Numbers → Effect
length_returned w numbers = both_run (length_asked w numbers) (place_returned w)

abbrev with_length : Store → Store
with_length s = with_variable 3 (length_in s.bytes (s.variables 3)) s

length_end : (w : World) (numbers : Numbers) (s : Store) (b : Bool) → (s.variables 3 == 0) ≡ b →
    both_run (if_run (is_zero w) returns_0) (length_returned w numbers) s
    ≡ comes_to (Returned (length_in s.bytes (s.variables 3))) (if b then s else with_length s)
length_end w numbers s true e = guard_returns (is_zero w) returns_0 (length_returned w numbers) s s 0 (zero_is w s true e) refl
    ∙ ap (λ (b : Bool). comes_to (Returned (if b then 0 else size_by (byte_in s.bytes (s.variables 3) 65535))) s) (sym e)
length_end w numbers s false e = guard_passes (is_zero w) returns_0 (length_returned w numbers) s (zero_is w s false e)
    ∙ both_done (length_asked w numbers) (place_returned w) s (with_length s) refl

length_left : (s t : Store) (b : Bool) → left s t ≡ s → left s (if b then t else with_length t) ≡ s
length_left s t true e = e
length_left s t false e = local_left s t 3 (length_in t.bytes (t.variables 3)) refl ∙ e

abbrev own_size_returned : World → Effect
own_size_returned w = return_run w (Two (Binary.Operation Operation.Byte) place (Leaf (Operand.Known 0)) ∷ [])

own_length_end : (w : World) (s : Store) (b : Bool) → (s.variables 3 == 0) ≡ b →
    both_run (if_run (has_place w) (own_size_returned w)) returns_0 s
    ≡ comes_to (Returned (if b then 0 else byte_in s.bytes (s.variables 3) 0)) s
own_length_end w s true e = guard_passes (has_place w) (own_size_returned w) returns_0 s (ap (λ (b : Bool). is_found s (not b)) e)
own_length_end w s false e = guard_returns (has_place w) (own_size_returned w) returns_0 s s (byte_in s.bytes (s.variables 3) 0)
    (ap (λ (b : Bool). is_found s (not b)) e) refl

length_found : (w : World) (numbers : Numbers) → Calls w numbers (codes "CP__Tab") FindsOwn → (turns o p n : ℕ) (s : Store) (b : Bool) →
    less p 64 ≡ b →
    (if b then (address_in s.bytes o p then λ start. Some (length_in s.bytes start))
    else (own_in s.bytes o p then λ place. Some (own_length s.bytes place))) ≡ Some n →
    Returns w numbers turns property_length (o ∷ p ∷ []) s n
length_found w numbers calls turns o p n s true e known =
    let ns = o ∷ p ∷ [] in
    let begun = entered ns s in
    let q = opened (address_in s.bytes o p) (λ start. Some (length_in s.bytes start)) n known in
    let now = with_variable 3 q.0 begun in
    let last = if q.0 == 0 then now else with_length now in
    let asks = asked w (operand_in numbers property_length) GetPropAddr (named.o ∷ named.p ∷ []) (codes "a") in
    let measures = both_run (if_run (is_zero w) returns_0) (length_returned w numbers) in
    let others = both_run (own_called w numbers) (both_run (if_run (has_place w) (own_size_returned w)) returns_0) in record {
      behind = last;
      runs = guard_returns (is_small w) (both_run asks measures) others begun last n (ap (is_found begun) e)
          (both_done asks measures begun now (ap (ask_done 3 begun) q.1) ∙ length_end w numbers now (q.0 == 0) refl
          ∙ ap (λ (x : ℕ). comes_to (Returned x) last) (same_some q.2));
      same = length_left s now (q.0 == 0) (one_local ns s 3 q.0 refl);
    }
length_found w numbers calls turns o p n s false e known =
    let ns = o ∷ p ∷ [] in
    let begun = entered ns s in
    let q = opened (own_in s.bytes o p) (λ place. Some (own_length s.bytes place)) n known in
    let now = with_variable 3 q.0 begun in
    let asks = asked w (operand_in numbers property_length) GetPropAddr (named.o ∷ named.p ∷ []) (codes "a") in
    let measures = both_run (if_run (is_zero w) returns_0) (length_returned w numbers) in
    let last = both_run (if_run (has_place w) (own_size_returned w)) returns_0 in record {
      behind = now;
      runs = guard_passes (is_small w) (both_run asks measures) (both_run (own_called w numbers) last) begun (ap (is_found begun) e)
          ∙ both_done (own_called w numbers) last begun now (own_stored w numbers calls begun q.0 q.1)
          ∙ own_length_end w now (q.0 == 0) refl
          ∙ ap (λ (x : ℕ). comes_to (Returned x) now) (same_some q.2);
      same = one_local ns s 3 q.0 refl;
    }

length_meets : (w : World) (numbers : Numbers) → HasObjects w → Calls w numbers (codes "CP__Tab") FindsOwn →
    Meets w numbers property_length (AsksLength w)
length_meets w numbers h calls [] s n t e turns enough = absurd e.0
length_meets w numbers h calls (o ∷ []) s n t e turns enough = absurd e.0
length_meets w numbers h calls (o ∷ p ∷ []) s n t e turns enough = returns w numbers turns property_length (o ∷ p ∷ []) s e.0.0
    (length_found w numbers calls turns o p e.0.0 s (less p 64) refl e.0.1)
    ∙ ap (λ (x : ℕ). returns_with x s) (sym (h.length s o p e.0.0 e.0.1))
    ∙ e.1
length_meets w numbers h calls (o ∷ p ∷ x ∷ ns) s n t e turns enough = none_some e.1

-- Lemmas about values

abbrev own_word_returned : World → Effect
own_word_returned w =
    return_run w (Two (Binary.Operation Operation.Word) (sum_of place (Leaf (Operand.Known 1))) (Leaf (Operand.Known 0)) ∷ [])

value_end : (w : World) (s : Store) (b : Bool) → (s.variables 3 == 0) ≡ b → both_run (if_run (is_zero w) returns_0) (own_word_returned w) s
    ≡ comes_to (Returned (if b then 0 else word_in s.bytes ((s.variables 3 + 1) % 65536) 0)) s
value_end w s true e = guard_returns (is_zero w) returns_0 (own_word_returned w) s s 0 (zero_is w s true e) refl
value_end w s false e = guard_passes (is_zero w) returns_0 (own_word_returned w) s (zero_is w s false e)

value_found : (w : World) (numbers : Numbers) → Calls w numbers (codes "CP__Tab") FindsOwn → (turns o p n : ℕ) (s : Store) (b : Bool) →
    less p 64 ≡ b →
    (if b then value_in s.bytes o p else (own_in s.bytes o p then λ place. Some (own_value s.bytes place))) ≡ Some n →
    Returns w numbers turns read_property (o ∷ p ∷ []) s n
value_found w numbers calls turns o p n s true e known =
    let ns = o ∷ p ∷ [] in
    let begun = entered ns s in
    let now = with_variable 3 n begun in
    let asks = asked w (operand_in numbers read_property) GetProp (named.o ∷ named.p ∷ []) (codes "a") in
    let others = both_run (own_called w numbers) (both_run (if_run (is_zero w) returns_0) (own_word_returned w)) in record {
      behind = now;
      runs = guard_returns (is_small w) (both_run asks (place_returned w)) others begun now n (ap (is_found begun) e)
          (both_done asks (place_returned w) begun now (ap (ask_done 3 begun) known));
      same = one_local ns s 3 n refl;
    }
value_found w numbers calls turns o p n s false e known =
    let ns = o ∷ p ∷ [] in
    let begun = entered ns s in
    let q = opened (own_in s.bytes o p) (λ place. Some (own_value s.bytes place)) n known in
    let now = with_variable 3 q.0 begun in
    let asks = asked w (operand_in numbers read_property) GetProp (named.o ∷ named.p ∷ []) (codes "a") in
    let last = both_run (if_run (is_zero w) returns_0) (own_word_returned w) in record {
      behind = now;
      runs =
          guard_passes (is_small w) (both_run asks (place_returned w)) (both_run (own_called w numbers) last) begun (ap (is_found begun) e)
          ∙ both_done (own_called w numbers) last begun now (own_stored w numbers calls begun q.0 q.1)
          ∙ value_end w now (q.0 == 0) refl
          ∙ ap (λ (x : ℕ). comes_to (Returned x) now) (same_some q.2);
      same = one_local ns s 3 q.0 refl;
    }

value_meets : (w : World) (numbers : Numbers) → HasObjects w → Calls w numbers (codes "CP__Tab") FindsOwn →
    Meets w numbers read_property (ReadsProperty w)
value_meets w numbers h calls [] s n t e turns enough = absurd e.0
value_meets w numbers h calls (o ∷ []) s n t e turns enough = absurd e.0
value_meets w numbers h calls (o ∷ p ∷ []) s n t e turns enough = returns w numbers turns read_property (o ∷ p ∷ []) s e.0.0
    (value_found w numbers calls turns o p e.0.0 s (less p 64) refl e.0.1)
    ∙ ap (λ (x : ℕ). returns_with x s) (sym (h.value s o p e.0.0 e.0.1))
    ∙ e.1
value_meets w numbers h calls (o ∷ p ∷ x ∷ ns) s n t e turns enough = none_some e.1

pub properties_are_read : PropertiesAreRead
properties_are_read w numbers h calls = (address_meets w numbers h calls, length_meets w numbers h calls, value_meets w numbers h calls)

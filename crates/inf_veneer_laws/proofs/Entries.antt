-- The routines that assign or step an entry of an array.
use Rattle.std.proofs.Common.{◌≡◌, ℕ, ◌+◌, ◌%◌, [], ◌∷◌, Option, Bool, true, false, not, refl, ◌∙◌, ap, ◌==◌, if◌then◌else◌}
use Rattle.inf_expressions.specs.declared.{operators.Binary.Binary, operators.Operand.Operand, operators.Operation.Operation}
use Rattle.inf_expressions.specs.Trees.{Leaf, Two}
use Rattle.inf_output.specs.declared.veneer.Veneer.{Veneer}
use Rattle.inf_interpreter.specs.Machine.{Store, World, ◌then◌, byte_at, with_variable, word_at}
use Rattle.inf_interpreter.specs.Supplied.{byte_written, word_written}
use Rattle.inf_interpreter.proofs.Running.{none_some}
use Rattle.inf_meaning_laws.specs.Values.{truth_of}
use Rattle.inf_control_laws.specs.Control.{Effect, Outcome, Returned, Truth, both_run, if_run}
use Rattle.inf_control_laws.specs.Plain.{return_run}
use Rattle.inf_veneer_laws.specs.Laws.{EntriesAreStepped, EntriesAreWritten}
use Rattle.inf_veneer_laws.specs.Routines.{step_byte, step_word, write_byte, write_word}
use Rattle.inf_veneer_laws.specs.Running.{IsSupplied, Meets, Numbers, called_with, ended, entered}
use Rattle.inf_veneer_laws.proofs.Flow.{comes_to, guard_passes, guard_returns, is_found, returns_with}
use Rattle.inf_veneer_laws.proofs.Locals.{entered_left, one_local}

-- Lemmas about assignments

byte_is_written : (w : World) (numbers : Numbers) (turns a i n : ℕ) (s : Store) →
    called_with w numbers turns write_byte (a ∷ i ∷ n ∷ []) s ≡ returns_with n (byte_written a i n s)
byte_is_written w numbers turns a i n s = ap (returns_with n) (ap (byte_written a i n) (entered_left (a ∷ i ∷ n ∷ []) s))

word_is_written : (w : World) (numbers : Numbers) (turns a i n : ℕ) (s : Store) →
    called_with w numbers turns write_word (a ∷ i ∷ n ∷ []) s ≡ returns_with n (word_written a i n s)
word_is_written w numbers turns a i n s = ap (returns_with n) (ap (word_written a i n) (entered_left (a ∷ i ∷ n ∷ []) s))

write_byte_meets : (w : World) (numbers : Numbers) → Meets w numbers write_byte (IsSupplied w Veneer.WriteByte)
write_byte_meets w numbers (a ∷ i ∷ v ∷ []) s n t e turns enough = byte_is_written w numbers turns a i v s ∙ e
write_byte_meets w numbers other s n t e turns enough = none_some e

write_word_meets : (w : World) (numbers : Numbers) → Meets w numbers write_word (IsSupplied w Veneer.WriteWord)
write_word_meets w numbers (a ∷ i ∷ v ∷ []) s n t e turns enough = word_is_written w numbers turns a i v s ∙ e
write_word_meets w numbers other s n t e turns enough = none_some e

pub entries_are_written : EntriesAreWritten
entries_are_written w numbers = (write_byte_meets w numbers, write_word_meets w numbers)

-- The end of a routine that steps a value: where `k` is not 0, the sum of `v` and `d` is returned, and else `v`.

abbrev keeps_new : World → Truth
keeps_new w = truth_of w (Leaf (Operand.Variable 4))

abbrev new_returned : World → Effect
new_returned w = return_run w (Two (Binary.Operation Operation.Add) (Leaf (Operand.Variable 5)) (Leaf (Operand.Variable 3)) ∷ [])

abbrev old_returned : World → Effect
old_returned w = return_run w (Leaf (Operand.Variable 5) ∷ [])

abbrev pub step_end : World → Effect
step_end w = both_run (if_run (keeps_new w) (new_returned w)) (old_returned w)

abbrev pub step_result : ℕ → ℕ → ℕ → ℕ
step_result by new n = if new == 0 then n else (n + by) % 65536

step_answered_by : (w : World) (s : Store) (b : Bool) → (s.variables 4 == 0) ≡ b →
    step_end w s ≡ comes_to (Returned (if b then s.variables 5 else (s.variables 5 + s.variables 3) % 65536)) s
step_answered_by w s true e = guard_passes (keeps_new w) (new_returned w) (old_returned w) s (ap (λ (b : Bool). is_found s (not b)) e)
step_answered_by w s false e = guard_returns (keeps_new w) (new_returned w) (old_returned w) s s ((s.variables 5 + s.variables 3) % 65536)
    (ap (λ (b : Bool). is_found s (not b)) e) refl

pub step_answered : (w : World) (s : Store) →
    step_end w s ≡ comes_to (Returned (step_result (s.variables 3) (s.variables 4) (s.variables 5))) s
step_answered w s = step_answered_by w s (s.variables 4 == 0) refl

-- Lemmas about steps

byte_is_stepped : (w : World) (numbers : Numbers) (turns a i d k : ℕ) (s : Store) →
    called_with w numbers turns step_byte (a ∷ i ∷ d ∷ k ∷ []) s
    ≡ returns_with (step_result d k (byte_at s a i)) (byte_written a i ((byte_at s a i + d) % 65536) s)
byte_is_stepped w numbers turns a i d k s =
    let ns = a ∷ i ∷ d ∷ k ∷ [] in
    let n = byte_at s a i in
    let m = (n + d) % 65536 in
    let now = byte_written a i m (with_variable 5 n (entered ns s)) in
    ap (λ (o : Option (Outcome × Store)). o then ended s) (step_answered w now)
    ∙ ap (returns_with (step_result d k n)) (ap (byte_written a i m) (one_local ns s 5 n refl))

word_is_stepped : (w : World) (numbers : Numbers) (turns a i d k : ℕ) (s : Store) →
    called_with w numbers turns step_word (a ∷ i ∷ d ∷ k ∷ []) s
    ≡ returns_with (step_result d k (word_at s a i)) (word_written a i ((word_at s a i + d) % 65536) s)
word_is_stepped w numbers turns a i d k s =
    let ns = a ∷ i ∷ d ∷ k ∷ [] in
    let n = word_at s a i in
    let m = (n + d) % 65536 in
    let now = word_written a i m (with_variable 5 n (entered ns s)) in
    ap (λ (o : Option (Outcome × Store)). o then ended s) (step_answered w now)
    ∙ ap (returns_with (step_result d k n)) (ap (word_written a i m) (one_local ns s 5 n refl))

step_byte_meets : (w : World) (numbers : Numbers) → Meets w numbers step_byte (IsSupplied w Veneer.StepByte)
step_byte_meets w numbers (a ∷ i ∷ d ∷ k ∷ []) s n t e turns enough = byte_is_stepped w numbers turns a i d k s ∙ e
step_byte_meets w numbers other s n t e turns enough = none_some e

step_word_meets : (w : World) (numbers : Numbers) → Meets w numbers step_word (IsSupplied w Veneer.StepWord)
step_word_meets w numbers (a ∷ i ∷ d ∷ k ∷ []) s n t e turns enough = word_is_stepped w numbers turns a i d k s ∙ e
step_word_meets w numbers other s n t e turns enough = none_some e

pub entries_are_stepped : EntriesAreStepped
entries_are_stepped w numbers = (step_byte_meets w numbers, step_word_meets w numbers)

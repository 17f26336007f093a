-- Routines that the compiler supplies: the outcome of a call of each, and the operand by which it is called.
use Rattle.std.specs.Prelude.{◌≡◌, ℕ, ◌+◌, ◌*◌, ◌%◌, ◌==◌, List, [], ◌∷◌, Option, Some, None, if◌then◌else◌}
use Rattle.inf_scanner.specs.declared.tokens.Place.{Place}
use Rattle.inf_expressions.specs.Numbers.{truth}
use Rattle.inf_names.specs.declared.symbols.Found.{Found}
use Rattle.inf_names.specs.Symbols.{Standing, IsDeclared, IsUsed, folded, index_of, standing_of}
use Rattle.inf_output.specs.{Operands.written, Veneer.name_of, declared.operands.Simple.Simple, declared.veneer.Veneer.Veneer}
use Rattle.inf_output.specs.Output.{Out, found_simple}
use Rattle.inf_interpreter.specs.Machine.{World, Store, State, ◌then◌, byte_at, of_one, of_two, operand_value, with_byte, with_word}
use Rattle.inf_interpreter.specs.Machine.{word_at}

-- a routine that changes nothing
abbrev pub told : (Store → List ℕ → Option ℕ) → List ℕ → Store → Option (ℕ × Store)
told f ns s = f s ns then λ n. Some (n, s)

-- A routine that writes a value answers it, whatever of it is kept.
abbrev pub wrote : (ℕ → ℕ → ℕ → Store → Store) → List ℕ → Store → Option (ℕ × Store)
wrote f (a ∷ i ∷ n ∷ []) s = Some (n, f a i n s)
wrote f _ s = None

-- The outcome of a routine that steps a value, by the size of the step and whether it answers the new value.
abbrev pub made_step : (Store → ℕ → ℕ → ℕ) → (ℕ → ℕ → ℕ → Store → Store) → List ℕ → Store → Option (ℕ × Store)
made_step f g (a ∷ i ∷ by ∷ new ∷ []) s =
    let n = f s a i in let m = (n + by) % 65536 in Some (if new == 0 then n else m, g a i m s)
made_step f g _ s = None

abbrev pub sent : World → List ℕ → Store → Option (ℕ × Store)
sent w (o ∷ p ∷ arguments) s = w.message s o p arguments
sent w _ s = None

abbrev pub byte_written : ℕ → ℕ → ℕ → Store → Store
byte_written a i n = with_byte ((a + i) % 65536) n

abbrev pub word_written : ℕ → ℕ → ℕ → Store → Store
word_written a i n = with_word ((a + 2 * i) % 65536) n

-- The outcome of a call of a routine with some arguments: its result, and the store behind it. Of the routines that print, and of the one
-- that processes an action, the world has the outcome.
abbrev pub supplied : World → Veneer → List ℕ → Store → Option (ℕ × Store)
supplied w Veneer.ReadProperty = told (λ s. of_two (λ o p. Some (w.property s o p)))
supplied w Veneer.WriteProperty = wrote w.with_property
supplied w Veneer.PropertyAddress = told (λ s. of_two (λ o p. Some (w.property_address s o p)))
supplied w Veneer.PropertyLength = told (λ s. of_two (λ o p. Some (w.property_length s o p)))
supplied w Veneer.CallProperty = sent w
supplied w Veneer.StepProperty = made_step w.property w.with_property
supplied w Veneer.WriteByte = wrote byte_written
supplied w Veneer.WriteWord = wrote word_written
supplied w Veneer.StepByte = made_step byte_at byte_written
supplied w Veneer.StepWord = made_step word_at word_written
supplied w Veneer.Children = told (λ s. of_one (λ o. Some (w.children s o)))
supplied w Veneer.OfClass = told (λ s. of_two (λ o c. Some (truth (w.of_class s o c))))
supplied w Veneer.Provides = told (λ s. of_two (λ o p. Some (truth (w.provides s o p))))
supplied w v = w.prints v

-- The world has these contracts: a call of the routine's number comes to that, with any value of variable 255 behind it.
pub record Contracts (w : World) : Type 0 where
  pub comes : (v : Veneer) (ns : List ℕ) (s : Store) (n : ℕ) (t : Store) → supplied w v ns s ≡ Some (n, t) →
      (left : ℕ) × (w.called s (w.routine v) ns ≡ Some (n, left, t))

-- The operand by which a routine is called, once its name is one of those that the source declares or that are used: the one of the
-- name's meaning, or a number that is known later.
abbrev pub named_operand : Option (Standing Place) → ℕ → Option Simple
named_operand None number = None
named_operand (Some (IsDeclared n meaning place)) number = Some (found_simple (Found.Declared meaning place) (Some number))
named_operand (Some (IsUsed spelling place)) number = Some (found_simple Found.Used (Some number))

abbrev pub operand_of : Veneer → Out → Option Simple
operand_of v o = let key = folded (name_of v) in named_operand (standing_of key o.names.names) (index_of key o.names.names)

-- The operands of routines' names stay.
pub record NamesStay (before now : Out) : Type 0 where
  pub stays : (v : Veneer) (x : Simple) → operand_of v before ≡ Some x → operand_of v now ≡ Some x

-- In a world, the laid code calls the supplied routines by their numbers: no limit was passed, the name of each routine that is used has
-- the number of this routine, and calls have the outcome that the contracts say.
pub record Supplies (w : World) (o : Out) : Type 0 where
  pub fits : o.past ≡ None
  pub numbers : (v : Veneer) (x : Simple) → operand_of v o ≡ Some x → (s : State) → operand_value w (written x) s ≡ Some (w.routine v, s)
  pub contracts : Contracts w

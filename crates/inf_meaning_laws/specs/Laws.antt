-- The code of an expression, when it is run, does what the expression means.
use Rattle.std.specs.Prelude.{◌≡◌, ℕ, Bool, List, Option, Some, if◌then◌else◌}
use Rattle.inf_settings.specs.Bounds.{Limits}
use Rattle.inf_opcode.specs.declared.instructions.Label.{Label}
use Rattle.inf_expressions.specs.{Numbers.same, Trees.Tree}
use Rattle.inf_output.specs.Output.{Out}
use Rattle.inf_templates.specs.Meaning.{meaning}
use Rattle.inf_interpreter.specs.Machine.{World, Store, State, given, with_variable}
use Rattle.inf_interpreter.specs.Claims.{Claim, Comes, Does, Kept, state}
use Rattle.inf_meaning_laws.specs.{Covered.Covered, Values.Taker, Values.is_own, Values.nobody, Values.sense, Values.truth_of}

-- Who takes a value that is laid into a variable: nobody in the store, where it is the stack or variable 255.
abbrev pub taker : ℕ → Taker
taker d = if is_own d then nobody else with_variable d

-- the state where such a value was taken, with the store behind it
abbrev pub taken : ℕ → ℕ → List ℕ → ℕ → Store → State
taken d n stack temp store = if is_own d then given d n (state stack temp store) else state stack temp store

-- Each claim holds from any stack, store and content of variable 255.
abbrev pub GivesValue : Bool → World → (Taker → Store → Option (ℕ × Store)) → ℕ → Claim
GivesValue keeps w value d at from to =
    (stack : List ℕ) (temp : ℕ) (s : Store) (n : ℕ) (t : Store) → value (taker d) s ≡ Some (n, t) →
    (left : ℕ) × Kept keeps temp left × Comes w at from (state stack temp s) to (taken d n stack left t)

abbrev pub GivesNothing : World → (Store → Option Store) → Claim
GivesNothing w alone at from to =
    (stack : List ℕ) (temp : ℕ) (s : Store) (t : Store) → alone s ≡ Some t →
    (left : ℕ) × Comes w at from (state stack temp s) to (state stack left t)

abbrev pub Branches : Bool → World → (Store → Option (Bool × Store)) → Bool → Label → Claim
Branches keeps w truth sense label at from to =
    (stack : List ℕ) (temp : ℕ) (s : Store) (b : Bool) (t : Store) → truth s ≡ Some (b, t) →
    (left : ℕ) × Kept keeps temp left × Comes w at from (state stack temp s) (if same b sense then at label else to) (state stack left t)

-- The laws, where `keeps` says whether all code of the expression keeps variable 255: code that gives the value to a variable or the stack,
-- code of a statement, and a branch to a label where the truth is `sense`.
abbrev pub ValuesAreComputed : Type 0
ValuesAreComputed =
    (keeps : Bool) (w : World) (limits : Limits) (t : Tree) → Covered keeps t → (d : ℕ) (o : Out) →
    Does w ((meaning limits t).value d) (GivesValue keeps w (sense w t).value d) o

abbrev pub EffectsAreDone : Type 0
EffectsAreDone =
    (keeps : Bool) (w : World) (limits : Limits) (t : Tree) → Covered keeps t → (o : Out) →
    Does w (meaning limits t).alone (GivesNothing w (sense w t).alone) o

abbrev pub BranchesAreTaken : Type 0
BranchesAreTaken =
    (keeps : Bool) (w : World) (limits : Limits) (t : Tree) → Covered keeps t → (sense : Bool) (label : Label) (o : Out) →
    Does w ((meaning limits t).branch sense label) (Branches keeps w (truth_of w t) sense label) o

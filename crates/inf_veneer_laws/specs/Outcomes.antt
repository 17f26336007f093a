-- Contracts of supplied routines where memory says something of their arguments.
use Rattle.std.specs.Prelude.{◌≡◌, ℕ, List, [], ◌∷◌, Option, Some}
use Rattle.inf_output.specs.declared.veneer.Veneer.{Veneer}
use Rattle.inf_interpreter.specs.Machine.{Store, World}
use Rattle.inf_veneer_laws.specs.Properties.{Bytes, any_address, any_length, any_value, children_in, own_in}
use Rattle.inf_veneer_laws.specs.Running.{Contract, IsSupplied}

-- Memory says something of the arguments: of one object, or of an object and a property, whatever the other arguments are.
abbrev pub SaysOfOne : (Bytes → ℕ → Option ℕ) → List ℕ → Store → Type 0
SaysOfOne f [] s = ⊥
SaysOfOne f (o ∷ []) s = (n : ℕ) × (f s.bytes o ≡ Some n)
SaysOfOne f (o ∷ p ∷ ns) s = ⊥

abbrev pub SaysOfTwo : (Bytes → ℕ → ℕ → Option ℕ) → List ℕ → Store → Type 0
SaysOfTwo f [] s = ⊥
SaysOfTwo f (o ∷ []) s = ⊥
SaysOfTwo f (o ∷ p ∷ ns) s = (n : ℕ) × (f s.bytes o p ≡ Some n)

abbrev pub CountsChildren : World → Contract
CountsChildren w ns s n t = SaysOfOne children_in ns s × IsSupplied w Veneer.Children ns s n t

abbrev pub WritesProperty : World → Contract
WritesProperty w ns s n t = SaysOfTwo any_address ns s × IsSupplied w Veneer.WriteProperty ns s n t

abbrev pub StepsProperty : World → Contract
StepsProperty w ns s n t = SaysOfTwo any_address ns s × SaysOfTwo any_value ns s × IsSupplied w Veneer.StepProperty ns s n t

abbrev pub ProvidesProperty : World → Contract
ProvidesProperty w ns s n t = SaysOfTwo any_address ns s × IsSupplied w Veneer.Provides ns s n t

abbrev pub AsksAddress : World → Contract
AsksAddress w ns s n t = SaysOfTwo any_address ns s × IsSupplied w Veneer.PropertyAddress ns s n t

abbrev pub AsksLength : World → Contract
AsksLength w ns s n t = SaysOfTwo any_length ns s × IsSupplied w Veneer.PropertyLength ns s n t

abbrev pub ReadsProperty : World → Contract
ReadsProperty w ns s n t = SaysOfTwo any_value ns s × IsSupplied w Veneer.ReadProperty ns s n t

-- `CP__Tab` returns the place of an individual property and changes nothing.
abbrev pub FindsOwn : Contract
FindsOwn [] s n t = ⊥
FindsOwn (o ∷ []) s n t = ⊥
FindsOwn (o ∷ p ∷ []) s n t = (own_in s.bytes o p ≡ Some n) × (s ≡ t)
FindsOwn (o ∷ p ∷ x ∷ ns) s n t = ⊥

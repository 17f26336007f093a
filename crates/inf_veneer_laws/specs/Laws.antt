-- The texts of supplied routines are the spellings of their trees, and calls of these meet the contracts of the routines.
use Rattle.std.specs.Prelude.{◌≡◌, ℕ, List, [], ◌∷◌, Option, Some, None, codes, if◌then◌else◌, bytes_eq}
use Rattle.inf_output.specs.{Veneer.name_of, declared.veneer.Veneer.Veneer}
use Rattle.inf_veneer.specs.Texts.{all_names, all_texts}
use Rattle.inf_interpreter.specs.Machine.{World}
use Rattle.inf_veneer_laws.specs.{Sources.Routine, Sources.routine_spelled, Worlds.HasObjects}
use Rattle.inf_veneer_laws.specs.Outcomes.{AsksAddress, AsksLength, CountsChildren, FindsOwn, ProvidesProperty, ReadsProperty}
use Rattle.inf_veneer_laws.specs.Outcomes.{StepsProperty, WritesProperty}
use Rattle.inf_veneer_laws.specs.Routines.{compare, count_children, find_own, of_class, property_address, property_length}
use Rattle.inf_veneer_laws.specs.Routines.{provides_property, read_property, region, step_byte, step_property, step_word, write_byte}
use Rattle.inf_veneer_laws.specs.Routines.{write_property, write_word}
use Rattle.inf_veneer_laws.specs.Running.{Calls, IsSupplied, Meets, Numbers}

-- Definitions of texts

abbrev pub text_named : List ℕ → List (List ℕ) → List (List ℕ) → Option (List ℕ)
text_named name [] texts = None
text_named name (n ∷ names) [] = None
text_named name (n ∷ names) (text ∷ texts) = if bytes_eq n name then Some text else text_named name names texts

abbrev pub IsText : List ℕ → Routine → Type 0
IsText name r = text_named name all_names all_texts ≡ Some (routine_spelled r)

abbrev pub TextsAreSpelled : Type 0
TextsAreSpelled =
    IsText (name_of Veneer.WriteByte) write_byte
    × IsText (name_of Veneer.WriteWord) write_word
    × IsText (name_of Veneer.StepByte) step_byte
    × IsText (name_of Veneer.StepWord) step_word
    × IsText (name_of Veneer.Children) count_children
    × IsText (name_of Veneer.WriteProperty) write_property
    × IsText (name_of Veneer.StepProperty) step_property
    × IsText (name_of Veneer.Provides) provides_property
    × IsText (name_of Veneer.PropertyAddress) property_address
    × IsText (name_of Veneer.PropertyLength) property_length
    × IsText (name_of Veneer.ReadProperty) read_property
    × IsText (codes "CP__Tab") find_own
    × IsText (codes "Unsigned__Compare") compare
    × IsText (codes "Z__Region") region
    × IsText (name_of Veneer.OfClass) of_class

-- Laws about the routines that write and step entries of arrays, in any world

abbrev pub EntriesAreWritten : Type 0
EntriesAreWritten =
    (w : World) (numbers : Numbers) →
    Meets w numbers write_byte (IsSupplied w Veneer.WriteByte) × Meets w numbers write_word (IsSupplied w Veneer.WriteWord)

abbrev pub EntriesAreStepped : Type 0
EntriesAreStepped =
    (w : World) (numbers : Numbers) →
    Meets w numbers step_byte (IsSupplied w Veneer.StepByte) × Meets w numbers step_word (IsSupplied w Veneer.StepWord)

-- Laws about the routines that count children and read, write and step properties

abbrev pub ChildrenAreCounted : Type 0
ChildrenAreCounted = (w : World) (numbers : Numbers) → HasObjects w → Meets w numbers count_children (CountsChildren w)

-- Properties are written and stepped, and it is told whether an object has one. Where a text calls another routine by its name, that
-- routine's contract is taken of the world.
abbrev pub PropertiesAreWritten : Type 0
PropertiesAreWritten =
    (w : World) (numbers : Numbers) → HasObjects w →
    Meets w numbers write_property (WritesProperty w)
    × (Calls w numbers (name_of Veneer.WriteProperty) (WritesProperty w) → Meets w numbers step_property (StepsProperty w))

abbrev pub PropertiesAreProvided : Type 0
PropertiesAreProvided =
    (w : World) (numbers : Numbers) → HasObjects w → Calls w numbers (name_of Veneer.PropertyAddress) (AsksAddress w) →
    Meets w numbers provides_property (ProvidesProperty w)

abbrev pub OwnPropertiesAreFound : Type 0
OwnPropertiesAreFound = (w : World) (numbers : Numbers) → Meets w numbers find_own FindsOwn

abbrev pub PropertiesAreRead : Type 0
PropertiesAreRead =
    (w : World) (numbers : Numbers) → HasObjects w → Calls w numbers (codes "CP__Tab") FindsOwn →
    Meets w numbers property_address (AsksAddress w)
    × Meets w numbers property_length (AsksLength w)
    × Meets w numbers read_property (ReadsProperty w)

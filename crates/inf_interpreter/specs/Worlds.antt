-- A world that supplies the routines which the code calls, made of any other world.
use Rattle.std.specs.Prelude.{◌≡◌, ℕ, zero, suc, ◌==◌, List, [], ◌∷◌, Option, Some, None, if◌then◌else◌, bytes_eq}
use Rattle.inf_area.specs.declared.targets.Target.{Target}
use Rattle.inf_scanner.specs.declared.tokens.Place.{Place}
use Rattle.inf_names.specs.declared.meanings.Meaning.{Meaning}
use Rattle.inf_names.specs.Symbols.{IsDeclared, IsUsed, Named, Standing, folded, standing_of}
use Rattle.inf_output.specs.{Output.Out, Veneer.name_of, declared.veneer.Veneer.Veneer}
use Rattle.inf_interpreter.specs.{Machine.Store, Machine.World, Supplied.Supplies, Supplied.supplied}

-- The routines are numbered.
abbrev pub number_of : Veneer → ℕ
number_of Veneer.ReadProperty = 0
number_of Veneer.WriteProperty = 1
number_of Veneer.PropertyAddress = 2
number_of Veneer.PropertyLength = 3
number_of Veneer.CallProperty = 4
number_of Veneer.StepProperty = 5
number_of Veneer.WriteByte = 6
number_of Veneer.WriteWord = 7
number_of Veneer.StepByte = 8
number_of Veneer.StepWord = 9
number_of Veneer.Children = 10
number_of Veneer.OfClass = 11
number_of Veneer.Provides = 12
number_of Veneer.ShortName = 13
number_of Veneer.DefiniteArticle = 14
number_of Veneer.CapitalArticle = 15
number_of Veneer.IndefiniteArticle = 16
number_of Veneer.EnglishNumber = 17
number_of Veneer.Spaces = 18
number_of Veneer.Process = 19

abbrev pub routines : List Veneer
routines =
    Veneer.ReadProperty ∷ Veneer.WriteProperty ∷ Veneer.PropertyAddress ∷ Veneer.PropertyLength ∷ Veneer.CallProperty
    ∷ Veneer.StepProperty ∷ Veneer.WriteByte ∷ Veneer.WriteWord ∷ Veneer.StepByte ∷ Veneer.StepWord ∷ Veneer.Children ∷ Veneer.OfClass
    ∷ Veneer.Provides ∷ Veneer.ShortName ∷ Veneer.DefiniteArticle ∷ Veneer.CapitalArticle ∷ Veneer.IndefiniteArticle
    ∷ Veneer.EnglishNumber ∷ Veneer.Spaces ∷ Veneer.Process ∷ []

-- The name of a routine stands for its number. Another name, and a place behind all names, stand for another number.
abbrev pub number_named : List Veneer → List ℕ → ℕ → ℕ
number_named [] name other = other
number_named (v ∷ all) name other = if bytes_eq (folded (name_of v)) name then number_of v else number_named all name other

abbrev pub number_at : List (Named Place) → ℕ → ℕ → ℕ
number_at [] n other = other
number_at (x ∷ names) zero other = number_named routines x.name other
number_at (x ∷ names) (suc n) other = number_at names n other

abbrev pub later_in : World → List (Named Place) → Target → ℕ
later_in w names (Target.Name n) = number_at names n (w.later (Target.Name n))
later_in w names t = w.later t

-- A call of the number of a routine comes to its contract, with 0 in variable 255; another one comes to what the other world has.
abbrev pub with_left : Option (ℕ × Store) → Option (ℕ × ℕ × Store)
with_left None = None
with_left (Some r) = Some (r.0, 0, r.1)

abbrev pub called_in : World → List Veneer → Store → ℕ → List ℕ → Option (ℕ × ℕ × Store)
called_in w [] s f arguments = w.called s f arguments
called_in w (v ∷ all) s f arguments =
    if number_of v == f then with_left (supplied w v arguments s) else called_in w all s f arguments

abbrev pub supplying : World → List (Named Place) → World
supplying w names = record w { later = later_in w names; called = called_in w routines; routine = number_of }

-- A name may be the one of a routine: it is not known, or used, or declared as a routine.
abbrev pub MayBeRoutine : Option (Standing Place) → Type 0
MayBeRoutine None = Unit {0}
MayBeRoutine (Some (IsUsed spelling place)) = Unit {0}
MayBeRoutine (Some (IsDeclared n (Meaning.Routine at) place)) = Unit {0}
MayBeRoutine (Some (IsDeclared n m place)) = ⊥

abbrev pub WorldsSupply : Type 0
WorldsSupply =
    (w : World) (o : Out) → o.past ≡ None → ((v : Veneer) → MayBeRoutine (standing_of (folded (name_of v)) o.names.names)) →
    Supplies (supplying w o.names.names) o

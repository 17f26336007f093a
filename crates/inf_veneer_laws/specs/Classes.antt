-- The kinds of things that numbers of a story stand for, and the classes of objects. Designer's Manual, fourth edition, sections 3.7 to
-- 3.9; Inform Technical Manual, section 9.
use Rattle.std.specs.Prelude.{◌≡◌, ℕ, zero, suc, ◌+◌, ◌/◌, ◌%◌, ◌<◌, nat_le, nat_lt, ◌==◌, ◌||◌, not, Bool, false, [], ◌∷◌, Option, Some}
use Rattle.std.specs.Prelude.{None, codes, if◌then◌else◌}
use Rattle.inf_area.specs.{declared.targets.SystemConstant.SystemConstant, declared.targets.Target.Target}
use Rattle.inf_output.specs.declared.veneer.Veneer.{Veneer}
use Rattle.inf_interpreter.specs.Machine.{Store, World, ◌then◌, less}
use Rattle.inf_veneer_laws.specs.{Routines.compare, Routines.of_class, Routines.region, Worlds.HasObjects}
use Rattle.inf_veneer_laws.specs.Properties.{Bytes, address_in, entry, length_in, word_in}
use Rattle.inf_veneer_laws.specs.Running.{Calls, Contract, IsSupplied, Meets, Numbers}

-- Two numbers without a sign: 0 where they are the same, 1 where the first is more, and else -1.
abbrev pub order : ℕ → ℕ → ℕ
order x y = if x == y then 0 else if nat_lt y x then 1 else 65535

abbrev pub Compares : Contract
Compares [] s n t = ⊥
Compares (x ∷ []) s n t = ⊥
Compares (x ∷ y ∷ []) s n t = (x < 65536) × (y < 65536) × (n ≡ order x y) × (s ≡ t)
Compares (x ∷ y ∷ z ∷ ns) s n t = ⊥

-- Kinds: objects have the numbers from 1 on, and routines and strings packed addresses, strings behind routines.

abbrev pub constant_in : World → SystemConstant → ℕ
constant_in w c = w.later (Target.System c)

pub record HasConstants (w : World) : Type 0 where
  pub objects : constant_in w SystemConstant.HighestObjectNumber < 65536
  pub strings : constant_in w SystemConstant.StringsOffset < 65536
  pub code : constant_in w SystemConstant.CodeOffset < 65536

abbrev pub region_of : World → ℕ → ℕ
region_of w x =
    if x == 0 then 0
    else if nat_le x (constant_in w SystemConstant.HighestObjectNumber) then 1
    else if nat_le (constant_in w SystemConstant.StringsOffset) x then 3
    else if nat_le (constant_in w SystemConstant.CodeOffset) x then 2
    else 0

abbrev pub TellsRegion : World → Contract
TellsRegion w [] s n t = ⊥
TellsRegion w (x ∷ []) s n t = (x < 65536) × (n ≡ region_of w x) × (s ≡ t)
TellsRegion w (x ∷ y ∷ ns) s n t = ⊥

-- Classes: 1 is the class of classes, which are the children of object 1 and the first four objects; 2 the class of other objects, 3 of
-- routines and 4 of strings. Property 2 of an object is the list of its other classes.

abbrev pub parent_in : Bytes → ℕ → ℕ
parent_in m o = if o == 0 then 0 else word_in m (entry m o) 3

abbrev pub is_class_in : Bytes → ℕ → Bool
is_class_in m o = (parent_in m o == 1) || less o 5

-- whether a number is among those of a list, from a place on
abbrev pub is_among : ℕ → Bytes → ℕ → ℕ → ℕ → Bool
is_among zero m list c i = false
is_among (suc count) m list c i = (word_in m list i == c) || is_among count m list c ((i + 1) % 65536)

abbrev pub is_listed : Bytes → ℕ → ℕ → Bool
is_listed m list c = if list == 0 then false else is_among (length_in m list / 2) m list c 0

abbrev pub object_class : Bytes → ℕ → ℕ → Option Bool
object_class m o c =
    if c == 1 then Some (is_class_in m o)
    else if c == 2 then Some (not (is_class_in m o))
    else (address_in m o 2 then λ list. Some (is_listed m list c))

abbrev pub class_by : ℕ → Bytes → ℕ → ℕ → Option Bool
class_by kind m o c =
    if kind == 0 then Some false else if less 1 kind then Some (c == (kind + 1) % 65536) else object_class m o c

abbrev pub known_or_false : Option Bool → Bool
known_or_false None = false
known_or_false (Some b) = b

-- In the world parents and classes are those in memory, where it says something.
pub record HasClasses (w : World) : Type 0 where
  pub parent : (s : Store) (o : ℕ) → w.parent s o ≡ parent_in s.bytes o
  pub classes : (s : Store) (o c : ℕ) (b : Bool) → class_by (region_of w o) s.bytes o c ≡ Some b → w.of_class s o c ≡ b

abbrev pub with_classes : World → World
with_classes w = record w {
  parent = λ s o. parent_in s.bytes o;
  of_class = λ s o c. known_or_false (class_by (region_of w o) s.bytes o c);
}

abbrev pub WorldsHaveClasses : Type 0
WorldsHaveClasses = (w : World) → HasClasses (with_classes w) × (HasObjects w → HasObjects (with_classes w))

abbrev pub TellsClass : World → Contract
TellsClass w [] s n t = ⊥
TellsClass w (o ∷ []) s n t = ⊥
TellsClass w (o ∷ c ∷ ns) s n t =
    (o < 65536) × ((b : Bool) × (class_by (region_of w o) s.bytes o c ≡ Some b)) × IsSupplied w Veneer.OfClass (o ∷ c ∷ ns) s n t

abbrev pub NumbersAreCompared : Type 0
NumbersAreCompared = (w : World) (numbers : Numbers) → Meets w numbers compare Compares

abbrev pub RegionsAreTold : Type 0
RegionsAreTold =
    (w : World) (numbers : Numbers) → HasConstants w → Calls w numbers (codes "Unsigned__Compare") Compares →
    Meets w numbers region (TellsRegion w)

abbrev pub ClassesAreTold : Type 0
ClassesAreTold =
    (w : World) (numbers : Numbers) → HasClasses w → Calls w numbers (codes "Z__Region") (TellsRegion w) →
    Meets w numbers of_class (TellsClass w)

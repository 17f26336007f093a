-- The objects and classes of a source, by their numbers: the first that it declares has the number 5.
use Rattle.std.specs.Prelude.{ℕ, zero, suc, ◌+◌, ◌-◌, List, [], ◌∷◌, ◌==◌, ◌&&◌, Bool, true, false, not, Option, Some, None, IsSome, Result}
use Rattle.std.specs.Prelude.{Ok, Err, length, nat_le, slice_get, if◌then◌else◌}
use Rattle.inf_properties.specs.declared.sizes.Owner.{Owner}
use Rattle.inf_objects.specs.declared.objects.Object.{Object}
use Rattle.inf_tables.specs.{declared.faults.Misfit.Misfit, declared.kinds.Parent.Parent}

abbrev pub is_class : Owner → Bool
is_class Owner.Object = false
is_class Owner.Class = true
is_class Owner.Nothing = false

-- the object or class with a number that the source declared
abbrev pub declared_at : ℕ → List Object → Option Object
declared_at number objects = if nat_le number 4 then None else slice_get objects (number - 5)

abbrev pub class_in : Option Object → Option Object
class_in None = None
class_in (Some o) = if is_class o.owner then Some o else None

-- the class with a number
abbrev pub class_at : ℕ → List Object → Option Object
class_at number objects = class_in (declared_at number objects)

-- the number of classes that a class has, by name or by inheritance
abbrev pub classes_of : Option Object → ℕ
classes_of None = 0
classes_of (Some class) = length class.classes

abbrev pub class_count : ℕ → List Object → ℕ
class_count number objects = classes_of (class_at number objects)

abbrev pub is_object_in : Option Object → Bool
is_object_in None = false
is_object_in (Some o) = not (is_class o.owner)

-- whether a number is that of an object, one of the first four among them, or 0
abbrev pub is_object : ℕ → List Object → Bool
is_object number objects = if nat_le number 4 then true else is_object_in (slice_get objects (number - 5))

-- Arrows: an object hangs below the latest one that has one arrow less, classes not counted.

abbrev pub or_latest : Option ℕ → Option ℕ → Option ℕ
or_latest None before = before
or_latest (Some number) before = Some number

abbrev pub has_arrows : ℕ → Object → Bool
has_arrows arrows o = not (is_class o.owner) && o.arrows == arrows

-- the number of the latest object that has `arrows` arrows, where the first of `objects` has the number `number`
abbrev pub latest_from : ℕ → ℕ → List Object → Option ℕ
latest_from arrows number [] = None
latest_from arrows number (o ∷ objects) =
    or_latest (latest_from arrows (number + 1) objects) (if has_arrows arrows o then Some number else None)

abbrev pub latest_with : ℕ → List Object → Option ℕ
latest_with arrows objects = latest_from arrows 5 objects

abbrev pub arrows_of : Parent → ℕ
arrows_of (Parent.Object number) = 0
arrows_of (Parent.Arrows count) = count

abbrev pub parent_above : Option ℕ → Result ℕ Misfit
parent_above None = Err Misfit.NothingAbove
parent_above (Some number) = Ok number

abbrev pub parent_by_arrows : ℕ → List Object → Result ℕ Misfit
parent_by_arrows zero objects = Ok 0
parent_by_arrows (suc arrows) objects = parent_above (latest_with arrows objects)

-- the number of a parent, or the reason why there is none
abbrev pub parent_of : Parent → List Object → Result ℕ Misfit
parent_of (Parent.Object number) objects = if is_object number objects then Ok number else Err Misfit.NotAnObject
parent_of (Parent.Arrows count) objects = parent_by_arrows count objects

-- an object with `arrows` arrows can hang somewhere: it has none, or an object before it has one less
abbrev pub IsReached : ℕ → List Object → Type 0
IsReached zero objects = Unit {0}
IsReached (suc arrows) objects = IsSome (latest_with arrows objects)

-- Objects and classes, and the part that was read of one whose body is open (Designer's Manual, fourth edition, section 3).
use Rattle.std.specs.Prelude.{ℕ, ◌+◌, ◌*◌, List, [], ◌∷◌, ◌++◌, ◌==◌, ◌||◌, Bool, true, false, Option, Some, None, length, nat_lt}
use Rattle.std.specs.Prelude.{slice_set, if◌then◌else◌}
use Rattle.inf_properties.specs.{Open.all, Open.class_fault, Open.opened, Open.with_class, Sizes.table_bytes, Sizes.total, Sizes.with_table}
use Rattle.inf_properties.specs.{declared.open.GiveFault.GiveFault, declared.sizes.Owner.Owner, declared.sizes.Room.Room}
use Rattle.inf_objects.specs.{declared.body.Body.Body, declared.objects.Object.Object}
use Rattle.inf_objects.specs.Attributes.{attributes_by, no_attributes, nothing_said, together}

-- Definitions of classes

abbrev pub has_number : ℕ → List ℕ → Bool
has_number number [] = false
has_number number (n ∷ numbers) = n == number || has_number number numbers

-- those classes of class `number` that are neither in the list `own` nor the class itself
abbrev pub new_classes : List ℕ → ℕ → List ℕ → List ℕ
new_classes own number [] = []
new_classes own number (n ∷ classes) =
    if n == number || has_number n own then new_classes own number classes else n ∷ new_classes own number classes

-- an object's list of classes behind one more: the class, then those of its classes that are not in the list yet
abbrev pub joined_classes : List ℕ → ℕ → List ℕ → List ℕ
joined_classes own number classes = own ++ number ∷ [] ++ new_classes own number classes

-- Definitions of bodies

-- a body behind its header
abbrev pub begun : Owner → ℕ → ℕ → List ℕ → Body
begun owner parent arrows name = record {
  parent = parent;
  arrows = arrows;
  name = name;
  said = nothing_said;
  above = no_attributes;
  classes = [];
  properties = opened owner;
}

-- the body where none is open
abbrev pub nothing_read : Body
nothing_read = begun Owner.Nothing 0 0 []

-- the body where `has` gives an attribute, or takes it away
abbrev pub with_said : ℕ → Bool → Body → Body
with_said number is_given body = record body { said = slice_set body.said number (Some is_given) }

-- the body with one more class
abbrev pub with_joined_class : ℕ → Object → Body → Body
with_joined_class number class body = record body {
  classes = joined_classes body.classes number class.classes;
  above = together body.above class.attributes;
  properties = with_class class.properties body.properties;
}

abbrev pub is_lost : Owner → Bool
is_lost Owner.Object = false
is_lost Owner.Class = false
is_lost Owner.Nothing = true

-- tells whether a class is passed over: the body has it already, or belongs to nothing
abbrev pub is_passed : ℕ → Body → Bool
is_passed number body = is_lost body.properties.owner || has_number number body.classes

abbrev pub with_named_class : ℕ → Object → Body → Body
with_named_class number class body = if is_passed number body then body else with_joined_class number class body

-- the object that the body is if it ends here
abbrev pub ended : Body → Object
ended body = record {
  owner = body.properties.owner;
  parent = body.parent;
  arrows = body.arrows;
  attributes = attributes_by body.above body.said;
  name = body.name;
  classes = body.classes;
  properties = all body.properties;
}

-- The bytes and the later numbers of an object, as they are counted against the room.

-- the number of bytes of the list of classes in a property table
abbrev pub list_bytes : ℕ → ℕ
list_bytes count = if count == 0 then 0 else if count == 1 then 3 else 2 + 2 * count

-- the number of bytes beside the properties: the short name with a byte before it, a 0 behind the properties, and the list of classes
abbrev pub head_bytes : Owner → ℕ → ℕ → ℕ
head_bytes Owner.Object name classes = 2 + name + list_bytes classes
head_bytes Owner.Class name classes = 2 + name
head_bytes Owner.Nothing name classes = 0

-- the number of bytes with all properties; a class counts two bytes for each value that it holds
abbrev pub object_bytes : Object → ℕ
object_bytes o = head_bytes o.owner (length o.name) (length o.classes) + table_bytes o.owner o.properties

-- the number of values that are known later: the address of the table, and those among the values of properties
abbrev pub head_fixups : Owner → ℕ
head_fixups Owner.Object = 1
head_fixups Owner.Class = 1
head_fixups Owner.Nothing = 0

abbrev pub object_fixups : Object → ℕ
object_fixups o = head_fixups o.owner + (with_table (total o.owner o.properties)).fixups

-- Definitions of the faults for which a class is refused

-- the room for the properties of a body whose list has this number of classes
abbrev pub room_with : ℕ → Room → Body → Room
room_with classes room body = record room { others = room.others + head_bytes body.properties.owner (length body.name) classes }

abbrev pub join_fault : ℕ → Object → Room → Body → Option GiveFault
join_fault number class room body =
    if is_passed number body then None
    else if nat_lt 32 (length (joined_classes body.classes number class.classes)) then Some GiveFault.TooLong
    else class_fault class.properties (room_with (length (joined_classes body.classes number class.classes)) room body) body.properties

-- The world of a story, as far as its source told it.
use Rattle.std.specs.Prelude.{ℕ, ◌+◌, ◌-◌, ◌<◌, ◌≤◌, ◌^◌, ◌≡◌, max, List, [], ◌∷◌, ◌++◌, ◌==◌, Bool, true, false, Option, Some, None}
use Rattle.std.specs.Prelude.{Result, Ok, Err, length, nat_le, nat_lt, option_map, slice_get, sum_by, if◌then◌else◌}
use Rattle.inf_area.specs.declared.targets.Value.{Value}
use Rattle.inf_properties.specs.{Sizes.table_bytes, declared.open.GiveFault.GiveFault, declared.sizes.Owner.Owner, declared.sizes.Room.Room}
use Rattle.inf_properties.specs.Open.{Open, all, given_first, give_fault, value_fault, with_given, with_value}
use Rattle.inf_objects.specs.{declared.body.Body.Body, declared.objects.Object.Object}
use Rattle.inf_objects.specs.Objects.{begun, ended, head_bytes, is_lost, join_fault, nothing_read, object_bytes, object_fixups}
use Rattle.inf_objects.specs.Objects.{with_named_class, with_said}
use Rattle.inf_tables.specs.{Faults.given_fault, declared.faults.Limit.Limit, declared.faults.Misfit.Misfit}
use Rattle.inf_tables.specs.{declared.faults.WorldFault.WorldFault, declared.faults.WorldSetting.WorldSetting}
use Rattle.inf_tables.specs.{declared.kinds.DeclaredProperty.DeclaredProperty, declared.kinds.Limits.Limits, declared.kinds.Parent.Parent}
use Rattle.inf_tables.specs.Objects.{arrows_of, class_at, latest_with, parent_of}
use Rattle.inf_settings.specs.{Bounds.Limits as SettingLimits, declared.setting.Setting.Setting}

-- The number of attributes, the properties and the number of individual properties that were declared; the objects and classes
-- whose bodies ended, from number 5 on; and whether a body is open, with what was read of it.
pub record WorldOf : Type 0 where
  pub attributes : ℕ
  pub declared : List DeclaredProperty
  pub individuals : ℕ
  pub objects : List Object
  pub is_open : Bool
  pub body : Body

abbrev pub no_world : WorldOf
no_world = record { attributes = 0; declared = []; individuals = 0; objects = []; is_open = false; body = nothing_read }

-- Definitions of counts

-- the open body's object counts, if its header was not in error
abbrev pub open_count : Owner → ℕ
open_count Owner.Object = 1
open_count Owner.Class = 1
open_count Owner.Nothing = 0

-- the number of objects and classes, the first four counted in
abbrev pub object_count : WorldOf → ℕ
object_count w = 4 + length w.objects + open_count w.body.properties.owner

-- the bytes of the objects whose bodies ended; the tables of the first four have 30, with names of 4, 6, 6 and 6 bytes
abbrev pub ended_bytes : List Object → ℕ
ended_bytes objects = 30 + sum_by object_bytes objects

-- the bytes of ended objects, with those of the open body beside its properties
abbrev pub bytes_beside : WorldOf → ℕ
bytes_beside w = ended_bytes w.objects + head_bytes w.body.properties.owner (length w.body.name) (length w.body.classes)

-- all bytes, as if the open body ended here
abbrev pub bytes_now : WorldOf → ℕ
bytes_now w = bytes_beside w + table_bytes w.body.properties.owner (all w.body.properties)

-- the counts of numbers that are known later: the addresses of tables, and those among values and defaults
abbrev pub later_in : Value → ℕ
later_in (Value.Known number) = 0
later_in (Value.Later target) = 1

abbrev pub later_defaults : List DeclaredProperty → ℕ
later_defaults [] = 0
later_defaults (d ∷ declared) = later_in d.default + later_defaults declared

abbrev pub ended_fixups : List Object → ℕ
ended_fixups objects = 4 + sum_by object_fixups objects

abbrev pub fixups_now : WorldOf → ℕ
fixups_now w = ended_fixups w.objects + object_fixups (ended w.body) + later_defaults w.declared

-- Definitions of declarations

abbrev pub with_attribute : WorldOf → WorldOf
with_attribute w = record w { attributes = w.attributes + 1 }

abbrev pub attribute_fault : WorldOf → Option WorldFault
attribute_fault w = if nat_le 48 w.attributes then Some (WorldFault.Limit Limit.Attributes) else None

abbrev pub with_property : Bool → Value → WorldOf → WorldOf
with_property is_additive default w = record w { declared = w.declared ++ record { is_additive = is_additive; default = default } ∷ [] }

abbrev pub property_fault : WorldOf → Option WorldFault
property_fault w = if nat_le 60 (length w.declared) then Some (WorldFault.Limit Limit.Properties) else None

abbrev pub with_individual : WorldOf → WorldOf
with_individual w = record w { individuals = w.individuals + 1 }

abbrev pub individual_fault : WorldOf → Option WorldFault
individual_fault w = if nat_le 4294967295 w.individuals then Some (WorldFault.Limit Limit.IndividualProperties) else None

-- Definitions of headers

abbrev pub with_body : Body → WorldOf → WorldOf
with_body body w = record w { is_open = true; body = body }

-- the fault of a count that would pass its setting
abbrev pub full_fault : SettingLimits → WorldOf → Option WorldFault
full_fault limits w =
    if nat_lt (limits Setting.Objects) (object_count w) then Some (WorldFault.Full WorldSetting.Objects)
    else if nat_lt (limits Setting.PropertyTables) (bytes_now w) then Some (WorldFault.Full WorldSetting.PropertyTables)
    else None

-- a class is a child of the object `Class`
abbrev pub with_class_header : List ℕ → WorldOf → WorldOf
with_class_header name w = with_body (begun Owner.Class 1 0 name) w

abbrev pub class_header_fault : SettingLimits → List ℕ → WorldOf → Option WorldFault
class_header_fault limits name w =
    if w.is_open then Some (WorldFault.Misfit Misfit.BodyIsOpen) else full_fault limits (with_class_header name w)

abbrev pub with_hung : Result ℕ Misfit → ℕ → List ℕ → WorldOf → WorldOf
with_hung (Err m) arrows name w = w
with_hung (Ok number) arrows name w = with_body (begun Owner.Object number arrows name) w

abbrev pub with_object_header : Parent → List ℕ → WorldOf → WorldOf
with_object_header parent name w = with_hung (parent_of parent w.objects) (arrows_of parent) name w

abbrev pub hung_fault : SettingLimits → Result ℕ Misfit → ℕ → List ℕ → WorldOf → Option WorldFault
hung_fault limits (Err m) arrows name w = Some (WorldFault.Misfit m)
hung_fault limits (Ok number) arrows name w = full_fault limits (with_body (begun Owner.Object number arrows name) w)

abbrev pub object_header_fault : SettingLimits → Parent → List ℕ → WorldOf → Option WorldFault
object_header_fault limits parent name w =
    if w.is_open then Some (WorldFault.Misfit Misfit.BodyIsOpen) else hung_fault limits (parent_of parent w.objects)
    (arrows_of parent) name w

-- a body that belongs to nothing, since its header was in error
abbrev pub with_lost_header : WorldOf → WorldOf
with_lost_header w = with_body (begun Owner.Nothing 0 0 []) w

abbrev pub lost_header_fault : WorldOf → Option WorldFault
lost_header_fault w = if w.is_open then Some (WorldFault.Misfit Misfit.BodyIsOpen) else None

-- Definitions of bodies

-- the room for the properties of the open body, beside all else
abbrev pub room_of : SettingLimits → WorldOf → Room
room_of limits w = record { others = bytes_beside w; limit = limits Setting.PropertyTables }

-- the room beside all objects but that of the open body
abbrev pub room_beside : SettingLimits → WorldOf → Room
room_beside limits w = record { others = ended_bytes w.objects; limit = limits Setting.PropertyTables }

-- whether the property of a number is additive, and none where the number is no property's; the number 0 is a property that is not
abbrev pub kind_of : ℕ → WorldOf → Option Bool
kind_of number w =
    if number == 0 then Some false
    else if number == 1 then Some true
    else if nat_lt number 4 then None
    else if nat_lt number 64 then option_map (λ (d : DeclaredProperty). d.is_additive) (slice_get w.declared (number - 4))
    else if nat_lt (number - 64) w.individuals then Some false
    else None

abbrev pub with_properties : Open → WorldOf → WorldOf
with_properties properties w = record w { body = record w.body { properties = properties } }

-- in a body that belongs to nothing a property is only known to be given
abbrev pub lost_given : ℕ → Open → Open
lost_given number o = record (with_given (given_first number false None) o) { takes_values = false }

abbrev pub given_by : ℕ → Bool → Option Value → Open → Open
given_by number is_additive first o = if is_lost o.owner then lost_given number o else with_given (given_first number is_additive first) o

abbrev pub given_of : Option Bool → ℕ → Option Value → WorldOf → WorldOf
given_of None number first w = w
given_of (Some is_additive) number first w = with_properties (given_by number is_additive first w.body.properties) w

abbrev pub with_given_property : ℕ → Option Value → WorldOf → WorldOf
with_given_property number first w = given_of (kind_of number w) number first w

abbrev pub lost_given_fault : ℕ → Open → Option GiveFault
lost_given_fault number o = give_fault (given_first number false None) (record { others = 0; limit = 4294967295 }) o

-- Only one of these faults can hold: a property that was given already gives nothing that could be too long or too much.
abbrev pub given_fault_of : SettingLimits → Option Bool → ℕ → Option Value → WorldOf → Option WorldFault
given_fault_of limits None number first w = Some (WorldFault.Misfit Misfit.NotAProperty)
given_fault_of limits (Some is_additive) number first w =
    if is_lost w.body.properties.owner then option_map given_fault (lost_given_fault number w.body.properties)
    else option_map given_fault (give_fault (given_first number is_additive first) (room_of limits w) w.body.properties)

abbrev pub given_property_fault : SettingLimits → ℕ → Option Value → WorldOf → Option WorldFault
given_property_fault limits number first w =
    if w.is_open then given_fault_of limits (kind_of number w) number first w else Some (WorldFault.Misfit Misfit.NoBody)

abbrev pub with_further_value : Value → WorldOf → WorldOf
with_further_value v w = with_properties (with_value v w.body.properties) w

abbrev pub further_value_fault : SettingLimits → Value → WorldOf → Option WorldFault
further_value_fault limits v w = if w.is_open then option_map given_fault (value_fault v (room_of limits w) w.body.properties) else Some
    (WorldFault.Misfit Misfit.NoBody)

abbrev pub with_lost_property : WorldOf → WorldOf
with_lost_property w = with_properties (record w.body.properties { takes_values = false }) w

abbrev pub with_set_attribute : ℕ → Bool → WorldOf → WorldOf
with_set_attribute number is_given w = record w { body = with_said number is_given w.body }

abbrev pub set_attribute_fault : ℕ → WorldOf → Option WorldFault
set_attribute_fault number w = if w.is_open then if nat_lt number 48 then None else Some (WorldFault.Misfit Misfit.NotAnAttribute)
    else Some (WorldFault.Misfit Misfit.NoBody)

-- the number 0 is a class that was in error, which gives nothing
abbrev pub class_by : Option Object → ℕ → WorldOf → WorldOf
class_by None number w = w
class_by (Some class) number w = record w { body = with_named_class number class w.body }

abbrev pub with_class_of : ℕ → WorldOf → WorldOf
with_class_of number w = if number == 0 then w else class_by (class_at number w.objects) number w

abbrev pub class_by_fault : SettingLimits → Option Object → ℕ → WorldOf → Option WorldFault
class_by_fault limits None number w = Some (WorldFault.Misfit Misfit.NotAClass)
class_by_fault limits (Some class) number w = option_map given_fault (join_fault number class (room_beside limits w) w.body)

abbrev pub class_of_fault : SettingLimits → ℕ → WorldOf → Option WorldFault
class_of_fault limits number w = if w.is_open then if number == 0 then None else class_by_fault limits (class_at number w.objects) number w
    else Some (WorldFault.Misfit Misfit.NoBody)

-- the fault that is told where lists are made before all faults are looked for: the one that was found, or that memory ran out first
abbrev pub IsRefused : Option WorldFault → WorldFault → Type 0
IsRefused found WorldFault.Memory = Unit {0}
IsRefused found refused = found ≡ Some refused

-- the objects that are there when a body ends: its own, if its header was not in error
abbrev pub ended_objects : Body → List Object
ended_objects body = if is_lost body.properties.owner then [] else ended body ∷ []

abbrev pub with_end : WorldOf → WorldOf
with_end w = record w { objects = w.objects ++ ended_objects w.body; is_open = false; body = nothing_read }

abbrev pub no_body_fault : WorldOf → Option WorldFault
no_body_fault w = if w.is_open then None else Some (WorldFault.Misfit Misfit.NoBody)

-- The invariant of a world and of what it keeps beside its value: for each number of arrows the latest object that has it, and the
-- counts of all objects whose bodies ended.

-- no parent has a number above this one, and none of them is nothing
abbrev pub AreHung : ℕ → List Object → Type 0
AreHung most [] = Unit {0}
AreHung most (o ∷ objects) = (o.parent ≤ most) × (is_lost o.owner ≡ false) × AreHung most objects

pub record IsWorld (limits : Limits) (w : WorldOf) (latest : List ℕ) (bytes fixups : ℕ) : Type 0 where
  pub bytes_are : bytes ≡ ended_bytes w.objects
  pub fixups_are : fixups ≡ ended_fixups w.objects
  pub few_fixups : fixups ≤ bytes
  pub latest_are : (arrows : ℕ) → slice_get latest arrows ≡ latest_with arrows w.objects
  pub arrows_within : w.body.arrows ≤ length latest
  pub parents_within : AreHung (4 + length w.objects) w.objects
  pub parent_within : w.body.parent ≤ 4 + length w.objects
  pub bytes_within : bytes_now w ≤ max 30 limits.property_bytes
  pub count_within : object_count w ≤ max 4 limits.objects
  pub small : limits.property_bytes < 2 ^ 32
  pub few_attributes : w.attributes ≤ 48
  pub few_properties : length w.declared ≤ 60

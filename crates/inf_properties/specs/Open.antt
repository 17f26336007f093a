-- The properties of a body that is being read.
use Rattle.std.specs.Prelude.{ℕ, ◌<◌, ◌≤◌, ◌^◌, ◌≡◌, List, [], ◌∷◌, ◌++◌, not, Bool, true, false, Option, Some, None, option_to_list}
use Rattle.std.specs.Prelude.{if◌then◌else◌}
use Rattle.inf_area.specs.declared.targets.Value.{Value}
use Rattle.inf_properties.specs.{Places.AreAt, Values.with_last_value, declared.open.GiveFault.GiveFault, declared.sizes.Owner.Owner}
use Rattle.inf_properties.specs.{declared.sizes.Room.Room, declared.sizes.Size.Size, declared.values.Property.Property}
use Rattle.inf_properties.specs.Properties.{AreFree, AreNew, has, inherited, joined}
use Rattle.inf_properties.specs.Sizes.{are_short, is_short, lacks, table_bytes, total, with_table}

-- The owner of the properties, those that its body gave, those of the classes that it named, and whether a further value belongs to
-- the property that was given last.
pub record Open : Type 0 where
  pub owner : Owner
  pub own : List Property
  pub above : List Property
  pub takes_values : Bool

abbrev pub opened : Owner → Open
opened owner = record { owner = owner; own = []; above = []; takes_values = false }

-- all properties, if the body ended here
abbrev pub all : Open → List Property
all o = inherited o.own o.above

-- the number of bytes that all properties need, if the body ended here
abbrev pub bytes_now : Open → ℕ
bytes_now o = table_bytes o.owner (all o)

abbrev pub given_first : ℕ → Bool → Option Value → Property
given_first number is_additive first = record { number = number; is_additive = is_additive; values = option_to_list first }

-- with the property `p` given, which has its first value if there is one
abbrev pub with_given : Property → Open → Open
with_given p o = record o { own = o.own ++ p ∷ []; takes_values = true }

abbrev pub with_value : Value → Open → Open
with_value value o = if o.takes_values then record o { own = with_last_value value o.own } else o

-- with a class named, which has these properties
abbrev pub with_class : List Property → Open → Open
with_class properties o = record o { above = inherited o.above properties }

-- the fault of too little room, where properties of the size `size` lack it
abbrev pub full_fault : Size → Room → Option GiveFault
full_fault size room = if lacks room (with_table size).bytes then Some GiveFault.Full else None

-- The reason for which a property is refused: the first of these faults in their order, if any.
abbrev pub give_fault : Property → Room → Open → Option GiveFault
give_fault p room o =
    if has p.number o.own then Some GiveFault.Given
    else if not (is_short (joined o.above p)) then Some GiveFault.TooLong
    else if lacks room (bytes_now (with_given p o)) then Some GiveFault.Full
    else None

-- the property that was given last has at most 32 values, with those of classes
abbrev pub is_last_short : List Property → List Property → Bool
is_last_short above [] = true
is_last_short above (p ∷ []) = is_short (joined above p)
is_last_short above (p ∷ q ∷ own) = is_last_short above (q ∷ own)

abbrev pub value_fault : Value → Room → Open → Option GiveFault
value_fault value room o =
    if not o.takes_values then None
    else if not (is_last_short o.above (with_last_value value o.own)) then Some GiveFault.TooLong
    else if lacks room (bytes_now (with_value value o)) then Some GiveFault.Full
    else None

abbrev pub class_fault : List Property → Room → Open → Option GiveFault
class_fault properties room o =
    if not (are_short (all (with_class properties o))) then Some GiveFault.TooLong
    else if lacks room (bytes_now (with_class properties o)) then Some GiveFault.Full
    else None

-- the fault that is told: the one that was found, or else that memory ran out
abbrev pub refusal : Option GiveFault → GiveFault
refusal None = GiveFault.Memory
refusal (Some f) = f

-- the fault that is told of a class: the one that was found, or that memory ran out before
abbrev pub class_refused : Option GiveFault → GiveFault → Type 0
class_refused found GiveFault.Memory = Unit {0}
class_refused found refused = found ≡ Some refused

-- The invariant of a body: the places of its properties and of those of its classes, and the size of all of them.
pub record IsOpen (owner : Owner) (own above : List Property) (own_places above_places : List ℕ) (size : Size) : Type 0 where
  pub own_at : AreAt 0 own_places own
  pub above_at : AreAt 0 above_places above
  pub own_new : AreNew [] own
  pub above_new : AreNew [] above
  pub own_free : AreFree own
  pub above_free : AreFree above
  pub short : are_short (inherited own above) ≡ true
  pub sized : size ≡ total owner (inherited own above)
  pub small : size.bytes < 2 ^ 32
  pub few_fixups : size.fixups ≤ size.bytes
  pub few_individuals : size.individuals ≤ size.bytes

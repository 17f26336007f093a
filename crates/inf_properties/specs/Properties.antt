-- The properties of an object: its own, and those that it takes from its classes.
use Rattle.std.specs.Prelude.{ℕ, List, [], ◌∷◌, ◌++◌, ◌==◌, ◌||◌, Bool, false, ◌≡◌, Option, Some, None, is_some, if◌then◌else◌}
use Rattle.std.specs.Coded.{Coded, coded_list}
use Rattle.inf_area.specs.declared.targets.Value.{Value}
use Rattle.inf_properties.specs.declared.values.Property.{Property}

-- the property of a number, if there is one
abbrev pub found : ℕ → List Property → Option Property
found number [] = None
found number (p ∷ properties) = if p.number == number then Some p else found number properties

abbrev pub has : ℕ → List Property → Bool
has number properties = is_some (found number properties)

-- the values of a property; none where there is no such property
abbrev pub values_in : Option Property → List Value
values_in None = []
values_in (Some p) = p.values

abbrev pub values_of : ℕ → List Property → List Value
values_of number properties = values_in (found number properties)

-- the values that an object gives, and behind them those of its classes where the property is additive
abbrev pub joined_values : Bool → List Value → List Value → List Value
joined_values is_additive own above = if is_additive then own ++ above else own

abbrev pub joined : List Property → Property → Property
joined above p = record p { values = joined_values p.is_additive p.values (values_of p.number above) }

abbrev pub with_joined : List Property → List Property → List Property
with_joined above [] = []
with_joined above (p ∷ own) = joined above p ∷ with_joined above own

-- the properties of classes that an object lacks, and takes from them
abbrev pub lacked : List Property → List Property → List Property
lacked own [] = []
lacked own (p ∷ above) = if has p.number own then lacked own above else p ∷ lacked own above

-- an object's own properties, additive ones joined, then those of its classes that it lacks
abbrev pub inherited : List Property → List Property → List Property
inherited own above = with_joined above own ++ lacked own above

-- the property of a number that an object has in the end, where `own` is its own one
abbrev pub found_or_above : ℕ → Option Property → List Property → Option Property
found_or_above number None above = found number above
found_or_above number (Some own) above = Some (joined above own)

-- No number comes twice: none is that of a property before it.
abbrev pub AreNew : List Property → List Property → Type 0
AreNew before [] = Unit {0}
AreNew before (p ∷ properties) = (has p.number before ≡ false) × AreNew (before ++ p ∷ []) properties

-- 2 is the list of an object's classes, and 3 the address of its individual table
abbrev pub is_reserved : ℕ → Bool
is_reserved number = number == 2 || number == 3

-- none of these properties has a reserved number
pub record AreFree (properties : List Property) : Type 0 where
  pub no_classes : has 2 properties ≡ false
  pub no_address : has 3 properties ≡ false

abbrev pub PropertyList : Type 0
PropertyList = List Property

abbrev pub list_code : Coded Property → Coded PropertyList
list_code code = coded_list code

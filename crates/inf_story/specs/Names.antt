-- The values of the names of a source in its story.
use Rattle.std.specs.Prelude.{List, [], ◌∷◌, Option, Some, None}
use Rattle.inf_area.specs.{declared.targets.AreaName.AreaName, declared.targets.Target.Target, declared.targets.Value.Value}
use Rattle.inf_names.specs.{Symbols.Named, Symbols.meaning_in, declared.meanings.Meaning.Meaning}
use Rattle.inf_scanner.specs.declared.tokens.Place.{Place}

-- The value of a name by its meaning: a number, a place in an area, or a dictionary word, which is known by its text and not by a place. A
-- function of the language is no number.
abbrev pub value_of : Meaning → Option Value
value_of (Meaning.Number number) = Some (Value.Known number)
value_of (Meaning.Variable number) = Some (Value.Known number)
value_of (Meaning.Attribute number) = Some (Value.Known number)
value_of (Meaning.Property number is_additive) = Some (Value.Known number)
value_of (Meaning.IndividualProperty number) = Some (Value.Known number)
value_of (Meaning.Object number) = Some (Value.Known number)
value_of (Meaning.Class number) = Some (Value.Known number)
value_of (Meaning.FakeAction number) = Some (Value.Known number)
value_of (Meaning.Text place) = Some (Value.Later (Target.Place AreaName.Strings place))
value_of (Meaning.LowString place) = Some (Value.Later (Target.Place AreaName.LowStrings place))
value_of (Meaning.Array place) = Some (Value.Later (Target.Place AreaName.Arrays place))
value_of (Meaning.Routine place) = Some (Value.Later (Target.Place AreaName.Code place))
value_of (Meaning.PackedAddress place) = Some (Value.Later (Target.Place AreaName.Code place))
value_of (Meaning.Word text) = Some (Value.Later (Target.Word text))
value_of (Meaning.Function function) = None

-- the value of a name by its meaning, if it has one: a name that was not declared has none
abbrev pub value_by : Option Meaning → Option Value
value_by None = None
value_by (Some m) = value_of m

abbrev pub with_value : Option Value → Option (List Value) → Option (List Value)
with_value None values = None
with_value (Some value) None = None
with_value (Some value) (Some values) = Some (value ∷ values)

-- the value of each name; none where one of the names has none
abbrev pub values_of : List (Named Place) → Option (List Value)
values_of [] = Some []
values_of (n ∷ names) = with_value (value_by (meaning_in (Some n.standing))) (values_of names)

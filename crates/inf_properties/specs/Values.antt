-- Values of the property that a body gave last.
use Rattle.std.specs.Prelude.{List, [], ◌∷◌, ◌++◌}
use Rattle.inf_area.specs.declared.targets.Value.{Value}
use Rattle.inf_properties.specs.declared.values.Property.{Property}

-- a further value of the property that was given last
abbrev pub with_last_value : Value → List Property → List Property
with_last_value value [] = []
with_last_value value (p ∷ []) = record p { values = p.values ++ value ∷ [] } ∷ []
with_last_value value (p ∷ q ∷ own) = p ∷ with_last_value value (q ∷ own)

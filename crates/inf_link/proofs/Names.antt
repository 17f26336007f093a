-- Values for each area, by their names.
use Rattle.std.proofs.Common.{◌≡◌, refl}
use Rattle.inf_area.specs.declared.targets.AreaName.{AreaName}
use Rattle.inf_link.specs.Areas.{area_of, by_name}

pub area_of-by_name : {T : Type 0} (f : AreaName → T) (name : AreaName) → area_of name (by_name f) ≡ f name
area_of-by_name f AreaName.LowStrings = refl
area_of-by_name f AreaName.Abbreviations = refl
area_of-by_name f AreaName.PropertyDefaults = refl
area_of-by_name f AreaName.Objects = refl
area_of-by_name f AreaName.PropertyTables = refl
area_of-by_name f AreaName.ClassNumbers = refl
area_of-by_name f AreaName.IndividualTables = refl
area_of-by_name f AreaName.Globals = refl
area_of-by_name f AreaName.Arrays = refl
area_of-by_name f AreaName.Grammar = refl
area_of-by_name f AreaName.Actions = refl
area_of-by_name f AreaName.ParsingRoutines = refl
area_of-by_name f AreaName.Dictionary = refl
area_of-by_name f AreaName.Code = refl
area_of-by_name f AreaName.Strings = refl

-- values that are equal for each name are equal
pub by_name-same : {T : Type 0} (f g : AreaName → T) → ((name : AreaName) → f name ≡ g name) → by_name f ≡ by_name g
by_name-same f g same = cc (
  same AreaName.LowStrings,
  same AreaName.Abbreviations,
  same AreaName.PropertyDefaults,
  same AreaName.Objects,
  same AreaName.PropertyTables,
  same AreaName.ClassNumbers,
  same AreaName.IndividualTables,
  same AreaName.Globals,
  same AreaName.Arrays,
  same AreaName.Grammar,
  same AreaName.Actions,
  same AreaName.ParsingRoutines,
  same AreaName.Dictionary,
  same AreaName.Code,
  same AreaName.Strings,
)

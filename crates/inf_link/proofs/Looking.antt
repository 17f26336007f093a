-- The numbers of targets do not depend on the order of the words.
use Rattle.std.proofs.Common.{◌≡◌, ◌∙◌, ℕ, ◌+◌, ◌*◌, ◌%◌, Option, Some, None, refl, ap, slice_get}
use Rattle.inf_area.specs.{declared.scale.Scale.Scale, declared.targets.AreaName.AreaName, declared.targets.SystemConstant.SystemConstant}
use Rattle.inf_area.specs.{declared.targets.Target.Target, declared.targets.Value.Value}
use Rattle.inf_link.specs.declared.areas.Areas.{Areas}
use Rattle.inf_link.specs.Targets.{Lookup, Text, direct_number, number_of, part_of, place_found, rank_of, system_number, value_found}

-- Tells whether two tables have the same lists, and words of the same ranks.
pub record AreAlike (targets others : Lookup) : Type 0 where
  pub names : others.names ≡ targets.names
  pub property_tables : others.property_tables ≡ targets.property_tables
  pub individual_tables : others.individual_tables ≡ targets.individual_tables
  pub verbs : others.verbs ≡ targets.verbs
  pub ranks : (text : Text) → rank_of text others.words ≡ rank_of text targets.words
  pub last_object : others.last_object ≡ targets.last_object

parts_alike : (targets others : Lookup) → AreAlike targets others → (area : AreaName) → part_of others area ≡ part_of targets area
parts_alike targets others alike AreaName.PropertyTables = alike.property_tables
parts_alike targets others alike AreaName.IndividualTables = alike.individual_tables
parts_alike targets others alike AreaName.Grammar = alike.verbs
parts_alike targets others alike AreaName.LowStrings = refl
parts_alike targets others alike AreaName.Abbreviations = refl
parts_alike targets others alike AreaName.PropertyDefaults = refl
parts_alike targets others alike AreaName.Objects = refl
parts_alike targets others alike AreaName.ClassNumbers = refl
parts_alike targets others alike AreaName.Globals = refl
parts_alike targets others alike AreaName.Arrays = refl
parts_alike targets others alike AreaName.Actions = refl
parts_alike targets others alike AreaName.ParsingRoutines = refl
parts_alike targets others alike AreaName.Dictionary = refl
parts_alike targets others alike AreaName.Code = refl
parts_alike targets others alike AreaName.Strings = refl

system_alike : (targets others : Lookup) → AreAlike targets others → (scale : Scale) (bases : Areas ℕ) (asked : SystemConstant) →
    system_number others scale bases asked ≡ system_number targets scale bases asked
system_alike targets others alike scale bases SystemConstant.GrammarTable = refl
system_alike targets others alike scale bases SystemConstant.ActionsTable = refl
system_alike targets others alike scale bases SystemConstant.PreactionsTable = refl
system_alike targets others alike scale bases SystemConstant.DictionaryTable = refl
system_alike targets others alike scale bases SystemConstant.ClassesTable = refl
system_alike targets others alike scale bases SystemConstant.GlobalsArray = refl
system_alike targets others alike scale bases SystemConstant.ReadableMemoryOffset = refl
system_alike targets others alike scale bases SystemConstant.CodeOffset = refl
system_alike targets others alike scale bases SystemConstant.StringsOffset = refl
system_alike targets others alike scale bases SystemConstant.HighestObjectNumber = alike.last_object

direct_alike : (targets others : Lookup) → AreAlike targets others → (scale : Scale) (bases : Areas ℕ) (t : Target) →
    direct_number others scale bases t ≡ direct_number targets scale bases t
direct_alike targets others alike scale bases (Target.Name number) = refl
direct_alike targets others alike scale bases (Target.Place area place) = refl
direct_alike targets others alike scale bases (Target.Part area part) =
    ap (λ parts. place_found scale bases area (slice_get parts part)) (parts_alike targets others alike area)
direct_alike targets others alike scale bases (Target.Word text) = ap (λ rank. bases.dictionary + 7 + 9 * rank) (alike.ranks text)
direct_alike targets others alike scale bases (Target.System asked) = system_alike targets others alike scale bases asked

value_alike : (targets others : Lookup) → AreAlike targets others → (scale : Scale) (bases : Areas ℕ) (found : Option Value) →
    value_found others scale bases found ≡ value_found targets scale bases found
value_alike targets others alike scale bases None = refl
value_alike targets others alike scale bases (Some (Value.Known number)) = refl
value_alike targets others alike scale bases (Some (Value.Later t)) = direct_alike targets others alike scale bases t

pub number_alike : (targets others : Lookup) → AreAlike targets others → (scale : Scale) (bases : Areas ℕ) (t : Target) →
    number_of others scale bases t ≡ number_of targets scale bases t
number_alike targets others alike scale bases (Target.Name number) =
    ap (λ names. value_found others scale bases (slice_get names number) % 65536) alike.names
    ∙ ap (λ n. n % 65536) (value_alike targets others alike scale bases (slice_get targets.names number))
number_alike targets others alike scale bases (Target.Place area place) = refl
number_alike targets others alike scale bases (Target.Part area part) =
    ap (λ n. n % 65536) (direct_alike targets others alike scale bases (Target.Part area part))
number_alike targets others alike scale bases (Target.Word text) =
    ap (λ n. n % 65536) (direct_alike targets others alike scale bases (Target.Word text))
number_alike targets others alike scale bases (Target.System asked) =
    ap (λ n. n % 65536) (direct_alike targets others alike scale bases (Target.System asked))

-- The counts of two limits: the bytes of code and the references of the story that is made.
use Rattle.std.specs.Prelude.{◌≡◌, ◌+◌, ◌≤◌, ℕ, List, [], ◌∷◌, true, nat_lt, if◌then◌else◌, Option, Some, None}
use Rattle.inf_settings.specs.{Bounds.Limits, declared.setting.Setting.Setting}
use Rattle.inf_area.specs.{Cells.later_count, Cells.size_of, declared.cells.Cell.Cell, declared.targets.AreaName.AreaName}
use Rattle.inf_link.specs.{Areas.area_of, Areas.order, declared.areas.Areas.Areas}
use Rattle.inf_output.specs.Output.{Out, full}
use Rattle.inf_properties.specs.declared.sizes.Owner.{Owner}
use Rattle.inf_story.specs.Tables.{areas}
use Rattle.inf_tables.specs.Tables.{AllTables}

-- the count of the numbers in some of the areas that are known later
abbrev pub later_in : List AreaName → Areas (List Cell) → ℕ
later_in [] cells = 0
later_in (name ∷ names) cells = later_count (area_of name cells) + later_in names cells

-- the first limit that code of some bytes, or some references, would pass
abbrev pub first_passed : Limits → ℕ → ℕ → Option Setting
first_passed limits bytes references =
    if nat_lt (limits Setting.Code) bytes then Some Setting.Code else
    if nat_lt (limits Setting.References) references then Some Setting.References else None

-- Tells whether the output of a source is finished: code has begun, no routine and no body of an object is open, and no limit was passed
-- before.
pub record IsFinished (o : Out) : Type 0 where
  pub begun : o.code.has_begun ≡ true
  pub closed : o.code.opened ≡ None
  pub unowned : o.tables.world.body.properties.owner ≡ Owner.Nothing
  pub unpassed : o.past ≡ None

-- the cells of all areas of the story of an output whose first routine calls the one at `main`
abbrev pub areas_of : ℕ → Out → Areas (List Cell)
areas_of main o = areas main o.code.finished o.strings.bytes o.tables

-- Behind a source, the limit that is told is the first that the story passes: by the bytes of its code, and by the references of all its
-- areas. There are no more references than a number of 64 bits can count.
abbrev pub LimitsCountTheStory : AllTables → Type 0
LimitsCountTheStory tables = (limits : Limits) (o : Out) (main : ℕ) → o.tables ≡ tables → IsFinished o
    → later_in order (areas_of main o) ≤ 18446744073709551615
    → full limits o ≡ first_passed limits (size_of (areas_of main o).code) (later_in order (areas_of main o))

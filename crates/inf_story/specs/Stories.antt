-- The story of a source. Z-Machine Standard 1.1, sections 1 and 11.
use Rattle.std.specs.Prelude.{ℕ, List, Option}
use Rattle.inf_area.specs.{declared.cells.Cell.Cell, declared.targets.Value.Value}
use Rattle.inf_link.specs.{MemoryMaps.too_long as too_long_by, Stories.sizes, declared.header.HeaderFields.HeaderFields}
use Rattle.inf_link.specs.{declared.link.LinkFault.LinkFault, declared.link.Sizes.Sizes}
use Rattle.inf_link.specs.FillingLaws.{cells_contents, cells_sizes, cells_story}
use Rattle.inf_story.specs.Tables.{areas, looked_up}
use Rattle.inf_tables.specs.Tables.{AllTables}

-- The story of the finished routines of a source, its strings and its tables: the routine at a place of the code is called first, and names
-- are these.
unfoldable pub story : HeaderFields → ℕ → List Value → List Cell → List ℕ → AllTables → List ℕ
story fields main names finished strings tables = cells_story (areas main finished strings tables) (looked_up names tables) fields

-- the numbers of bytes of the story `bytes` and of its parts
unfoldable pub story_sizes : HeaderFields → ℕ → List Cell → List ℕ → AllTables → List ℕ → Sizes
story_sizes fields main finished strings tables bytes = sizes (cells_contents (areas main finished strings tables)) fields bytes

-- the reason why there is no story, if there is none
unfoldable pub too_long : HeaderFields → ℕ → List Cell → List ℕ → AllTables → Option LinkFault
too_long fields main finished strings tables = too_long_by (cells_sizes (areas main finished strings tables)) fields.scale

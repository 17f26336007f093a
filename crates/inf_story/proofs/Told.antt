-- Each story states its own length and checksum, by the sizes of its areas.
use Rattle.std.proofs.Common.{◌≡◌, ℕ, List, length, subst}
use Rattle.inf_area.specs.{declared.cells.Cell.Cell, declared.targets.Value.Value}
use Rattle.inf_link.specs.{Areas.area_of, Areas.by_name, FillingLaws.cells_sizes, FillingLaws.numbered, MemoryMaps.map_of}
use Rattle.inf_link.specs.{StoryLaws.TellsItself, Targets.number_of, declared.header.HeaderFields.HeaderFields}
use Rattle.inf_link.proofs.{CellLaws.sizes-numbered, StoryLaws.stories_tell_themselves}
use Rattle.inf_story.specs.{Stories.story, Tables.areas, Tables.looked_up}
use Rattle.inf_tables.specs.Tables.{AllTables}

pub story_tells : (fields : HeaderFields) (main : ℕ) (names : List Value) (finished : List Cell) (strings : List ℕ) (tables : AllTables) →
    length fields.serial ≡ 6 → TellsItself fields.scale (map_of (cells_sizes (areas main finished strings tables)) fields.scale).end
    (story fields main names finished strings tables)
unfolding story
story_tells fields main names finished strings tables six =
    let cells = areas main finished strings tables in
    let number = number_of (looked_up names tables) fields.scale (map_of (cells_sizes cells) fields.scale).bases in
    let contents = by_name (λ name. numbered number (area_of name cells)) in
    subst (λ sizes. TellsItself fields.scale (map_of sizes fields.scale).end (story fields main names finished strings tables))
    (sizes-numbered number cells) (stories_tell_themselves contents fields six)

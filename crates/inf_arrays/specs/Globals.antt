-- The global variables of a story: the first values of the declared ones, in order (Z-Machine Standard 1.1, section 6.2).
use Rattle.std.specs.Prelude.{◌-◌, List, ◌++◌, length, replicate}
use Rattle.inf_area.specs.{Cells.values_cells, declared.cells.Cell.Cell, declared.targets.Value.Value}

-- all 240 variables; the ones that were not declared begin with 0
abbrev pub all_globals : List Value → List Value
all_globals declared = declared ++ replicate (240 - length declared) (Value.Known 0)

abbrev pub globals_cells : List Value → List Cell
globals_cells declared = values_cells (all_globals declared)

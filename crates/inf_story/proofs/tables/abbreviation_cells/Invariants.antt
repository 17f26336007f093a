use Rattle.std.proofs.Common.{◌≡◌, ◌++◌, map, drop}
use Rattle.inf_story.specs.Tables.{declared_at}
use Rattle.inf_story.proofs.tables.abbreviation_cells.Given as goal

-- the cells so far, with those of the places that are left, are all
abbrev pub invariant-loop-place : goal.invariant-loop-place
invariant-loop-place l = l.cells ++ map declared_at (drop l.place-index l.places) ≡ l.initial.cells ++ map declared_at l.places

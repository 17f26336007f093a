use Rattle.std.proofs.Common.{◌≡◌, ◌++◌, drop, map}
use Rattle.inf_area.specs.Cells.{values_cells}
use Rattle.inf_tables.specs.declared.kinds.DeclaredProperty.{DeclaredProperty}
use Rattle.inf_tables.proofs.areas.add_defaults.Given as goal

abbrev pub invariant-loop-property : goal.invariant-loop-property
invariant-loop-property l =
    l.cells ++ values_cells (map (λ (d : DeclaredProperty). d.default) (drop l.property-index l.declared)) ≡ l.initial.cells ++ values_cells
    (map (λ (d : DeclaredProperty). d.default) l.declared)

use Rattle.std.proofs.Common.{◌≡◌, ◌+◌, ◌≤◌, drop}
use Rattle.inf_tables.specs.World.{later_defaults}
use Rattle.inf_tables.proofs.kept.later_defaults.Given as goal

abbrev pub invariant-loop-property : goal.invariant-loop-property
invariant-loop-property l =
    (l.count + later_defaults (drop l.property-index l.declared) ≡ later_defaults l.declared) × (l.count ≤ l.property-index)

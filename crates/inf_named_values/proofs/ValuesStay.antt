-- Values whose names are only looked up are those of their names in use, where the use changes nothing.
use Rattle.std.proofs.Common.{◌≡◌, map, ap}
use Rattle.inf_settings.specs.Bounds.{Limits}
use Rattle.inf_constructs.specs.Roots.{tree_in}
use Rattle.inf_expressions.specs.declared.units.Wanted.{Wanted}
use Rattle.inf_operands.specs.{Operands.Settled, Uses.LeavesStay}
use Rattle.inf_compilation.specs.{Actions.Compilation, Actions.operands_of, Actions.settled_of, Actions.trees_at, Context.Context}
use Rattle.inf_named_values.specs.Values.{looked_value, value_in, value_of}

-- the value of the unit's expression, and the output when its names were used
pub value_stays : (limits : Limits) (context : Context) (w : Compilation)
    → LeavesStay w.locals w.output w.unit.tokens w.unit.gathering.leaves (operands_of w) → value_of limits context w ≡ looked_value w
value_stays limits context w stay =
    ap (λ (s : Settled). value_in (map tree_in (trees_at 0 Wanted.Constant s.operands w))) (stay limits context.set)

pub output_stays : (limits : Limits) (context : Context) (w : Compilation)
    → LeavesStay w.locals w.output w.unit.tokens w.unit.gathering.leaves (operands_of w) → (settled_of limits context w).out ≡ w.output
output_stays limits context w stay = ap (λ (s : Settled). s.out) (stay limits context.set)

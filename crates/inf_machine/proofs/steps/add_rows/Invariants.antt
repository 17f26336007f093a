-- The rows that are added change no step.
use Rattle.std.proofs.Common.{◌≡◌, ◌-◌, ℕ, suc}
use Rattle.inf_machine.specs.Steps.{step_of}
use Rattle.inf_machine.proofs.steps.add_rows.Given as goal

abbrev pub invariant-loop-alloc : goal.invariant-loop-alloc
invariant-loop-alloc l = (r a : ℕ) → step_of l.rows.items r a ≡ step_of l.initial.rows.items r a

abbrev pub decreases-loop-alloc : goal.decreases-loop-alloc
decreases-loop-alloc l = suc l.rule - l.rows.len

-- A stack, the last first.
use Rattle.std.proofs.Common.{◌≡◌, ℕ, zero, suc, ◌-◌, ◌<◌, List, ap, arith}
use Rattle.inf_settings.specs.Bounds.{Limits}
use Rattle.inf_output.specs.Output.{Out}
use Rattle.inf_constructs.specs.{Constructs.all_ended, Constructs.ended, declared.constructs.Construct.Construct}

-- the first of the statements that end is the innermost
pub next_ended : (limits : Limits) (n : ℕ) (constructs : List Construct) (o : Out) → 0 < n
    → all_ended limits n constructs o ≡ all_ended limits (n - 1) (ended limits constructs o).0 (ended limits constructs o).1
next_ended limits zero constructs o more = absurd (omega arith)
next_ended limits (suc n) constructs o more =
    let e = ended limits constructs o in let less : n ≡ suc n - 1 = omega arith in ap (λ k. all_ended limits k e.0 e.1) less

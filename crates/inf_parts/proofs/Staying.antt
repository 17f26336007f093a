-- The trees of a unit whose names are only looked up are those of its names in use, where the use changes nothing.
use Rattle.std.proofs.Common.{◌≡◌, ℕ, List, [], false, Option, None, sym, ap, ◌∙◌}
use Rattle.inf_settings.specs.Bounds.{Limits}
use Rattle.inf_expressions.specs.{Rooted.Rooted, Units.trees_of, declared.findings.Finding.Finding, declared.operators.Operand.Operand}
use Rattle.inf_expressions.specs.{declared.units.Wanted.Wanted}
use Rattle.inf_output.specs.Output.{Out}
use Rattle.inf_scanner.specs.declared.tokens.Place.{Place}
use Rattle.inf_operands.proofs.Staying.{settled_named}
use Rattle.inf_operands.specs.{Operands.Settled, Uses.LeavesStay}
use Rattle.inf_compilation.specs.{Context.Context, Findings.nothing_found}
use Rattle.inf_compilation.specs.Actions.{Compilation, named, operands_of, settled_of, trees_at, unit_ended}
use Rattle.inf_parts.specs.{Parts.found_in, Parts.has_last, Parts.is_case, Parts.order_of, Parts.part_begun, Parts.part_carried}
use Rattle.inf_parts.specs.{Parts.part_effect, Parts.part_finished, Parts.part_laid, Parts.wanted_of, declared.parts.Part.Part}

-- the operands of a unit, where its names are used, once it has named its locals
used : (limits : Limits) (context : Context) (w : Compilation) (operands : List Operand)
    → LeavesStay w.locals w.output w.unit.tokens w.unit.gathering.leaves operands
    → settled_of limits context (named w) ≡ record { out = w.output; operands = operands }
used limits context w operands stay =
    settled_named limits context.set w.locals w.unit.tokens w.unit.gathering.leaves w.unit.items (record { out = w.output; operands = [] })
    ∙ stay limits context.set

same_trees : (limits : Limits) (context : Context) (w : Compilation) (operands : List Operand) (trees : List Rooted)
    → (first : ℕ) (wanted : Wanted) → LeavesStay w.locals w.output w.unit.tokens w.unit.gathering.leaves operands
    → trees ≡ trees_of wanted first operands w.unit.gathering.symbols
    → let s = settled_of limits context (named w) in (trees ≡ trees_at first wanted s.operands (named w)) × (s.out ≡ w.output)
same_trees limits context w operands trees first wanted stay e =
    let is : settled_of limits context (named w) ≡ record { out = w.output; operands = operands } = used limits context w operands stay in (
      e ∙ ap (λ (s : Settled). trees_of wanted first s.operands w.unit.gathering.symbols) (sym is),
      ap (λ (s : Settled). s.out) is,
    )

-- Trees are those of a unit whose names are used, and the use changes nothing.
abbrev StayUsed : Limits → Context → Part → List Rooted → Compilation → Type 0
StayUsed limits context p trees w =
    let s = settled_of limits context w in (trees ≡ trees_at (order_of p w) (wanted_of p) s.operands w) × (s.out ≡ w.output)

stays_used : (limits : Limits) (context : Context) (p : Part) (w : Compilation) (operands : List Operand) (trees : List Rooted)
    → is_case p ≡ false → LeavesStay w.locals w.output w.unit.tokens w.unit.gathering.leaves operands
    → trees ≡ trees_of (wanted_of p) (order_of p w) operands w.unit.gathering.symbols
    → StayUsed limits context p trees (named (part_begun limits p w))
stays_used limits context (Part.Statement s) w operands trees other stay e =
    same_trees limits context w operands trees (order_of (Part.Statement s) w) (wanted_of (Part.Statement s)) stay e
stays_used limits context Part.Condition w operands trees other stay e =
    same_trees limits context w operands trees (order_of Part.Condition w) (wanted_of Part.Condition) stay e
stays_used limits context Part.Start w operands trees other stay e =
    same_trees limits context w operands trees (order_of Part.Start w) (wanted_of Part.Start) stay e
stays_used limits context Part.Step w operands trees other stay e =
    same_trees limits context w operands trees (order_of Part.Step w) (wanted_of Part.Step) stay e
stays_used limits context Part.Loop w operands trees other stay e =
    same_trees limits context w operands trees (order_of Part.Loop w) (wanted_of Part.Loop) stay e
stays_used limits context Part.Switched w operands trees other stay e =
    same_trees limits context w operands trees (order_of Part.Switched w) (wanted_of Part.Switched) stay e
stays_used limits context Part.Case w operands trees other stay e = absurd (cc other)

-- what is laid with such trees
carried : (limits : Limits) (context : Context) (first : Place) (p : Part) (trees : List Rooted) (w : Compilation)
    → StayUsed limits context p trees w → part_laid limits context first p trees w ≡ part_carried limits context first p None w
carried limits context first p trees w stay = ap (λ (ts : List Rooted). part_laid limits context first p ts w) stay.0
    ∙ ap (λ (o : Out). unit_ended limits context first (has_last p) nothing_found
    (part_effect limits context p (trees_at (order_of p w) (wanted_of p) (settled_of limits context w).operands w)
    (record w { output = record o { first = first } }))) (sym stay.1)

pub finished : (limits : Limits) (context : Context) (p : Part) (w : Compilation) (trees : List Rooted) → is_case p ≡ false
    → LeavesStay w.locals w.output w.unit.tokens w.unit.gathering.leaves (operands_of w)
    → trees ≡ trees_at (order_of p w) (wanted_of p) (operands_of w) w → found_in limits context p w ≡ None → (first : Place)
    → part_laid limits context first p trees (named (part_begun limits p w)) ≡ part_finished limits context first p w
finished limits context p w trees other stay e none first =
    carried limits context first p trees (named (part_begun limits p w)) (stays_used limits context p w (operands_of w) trees other stay e)
    ∙ ap (λ (f : Option Finding). part_carried limits context first p f (named (part_begun limits p w))) (sym none)

-- An expression goes into a property with the value that it has where its names are only looked up, if their use changes nothing.
use Rattle.std.proofs.Common.{◌≡◌, ℕ, Option, Some, None, refl, sym, ap, ◌∙◌}
use Rattle.inf_settings.specs.Bounds.{Limits}
use Rattle.inf_area.specs.declared.targets.Value.{Value}
use Rattle.inf_expressions.specs.{Findings.least_of_both, declared.findings.Finding.Finding, declared.units.Wanted.Wanted}
use Rattle.inf_output.specs.Output.{Out}
use Rattle.inf_operands.specs.Uses.{LeavesStay}
use Rattle.inf_compilation.specs.{Actions.Compilation, Actions.finding_at, Actions.operands_of, Context.Context}
use Rattle.inf_named_values.proofs.ValuesStay.{output_stays, value_stays}
use Rattle.inf_named_values.specs.Values.{looked_value}
use Rattle.inf_bodies.specs.Bodies.{place_finding, placed, placed_finding}
use Rattle.inf_bodies.specs.Values.{expression_finding, expression_placed, settled_finding, settled_placed, settled_work, value_by}
use Rattle.inf_bodies.specs.Values.{value_finding_by}

placed_settled : (limits : Limits) (context : Context) (name : Option ℕ) (w : Compilation)
    → LeavesStay w.locals w.output w.unit.tokens w.unit.gathering.leaves (operands_of w)
    → settled_placed limits context name w ≡ placed limits name (looked_value w) None w
placed_settled limits context name w stay =
    ap (λ (v : Value). placed limits name v None (settled_work limits context w)) (value_stays limits context w stay)
    ∙ ap (λ (o : Out). placed limits name (looked_value w) None (record w { output = o })) (output_stays limits context w stay)

found_settled : (limits : Limits) (context : Context) (name : Option ℕ) (w : Compilation)
    → LeavesStay w.locals w.output w.unit.tokens w.unit.gathering.leaves (operands_of w)
    → settled_finding limits context name w ≡ placed_finding limits name (looked_value w) None w
found_settled limits context name w stay =
    ap (λ (v : Value). placed_finding limits name v None (settled_work limits context w)) (value_stays limits context w stay)
    ∙ ap (λ (o : Out). placed_finding limits name (looked_value w) None (record w { output = o })) (output_stays limits context w stay)

-- whatever the property says of the value
placed_by : (limits : Limits) (context : Context) (name : Option ℕ) (w : Compilation) (f : Option Finding)
    → LeavesStay w.locals w.output w.unit.tokens w.unit.gathering.leaves (operands_of w)
    → value_by limits context f name None (looked_value w) w ≡ placed limits name (looked_value w) None w
placed_by limits context name w None stay = placed_settled limits context name w stay
placed_by limits context name w (Some f) stay = refl

found_by : (limits : Limits) (context : Context) (name : Option ℕ) (w : Compilation) (f : Option Finding)
    → LeavesStay w.locals w.output w.unit.tokens w.unit.gathering.leaves (operands_of w)
    → value_finding_by limits context f name None (looked_value w) w ≡ placed_finding limits name (looked_value w) None w
found_by limits context name w None stay = found_settled limits context name w stay
found_by limits context name w (Some f) stay = refl

pub expression_stays : (limits : Limits) (context : Context) (name : Option ℕ) (w : Compilation) (v : Value)
    → finding_at 0 Wanted.Constant w ≡ None → v ≡ looked_value w
    → LeavesStay w.locals w.output w.unit.tokens w.unit.gathering.leaves (operands_of w)
    → placed limits name v None w ≡ expression_placed limits context name w
expression_stays limits context name w v none e stay =
    let own = place_finding limits name (looked_value w) w in
    ap (λ (x : Value). placed limits name x None w) e
    ∙ sym (ap (λ (f : Option Finding). value_by limits context (least_of_both f own) name f (looked_value w) w) none
    ∙ placed_by limits context name w (least_of_both None own) stay)

pub expression_found : (limits : Limits) (context : Context) (name : Option ℕ) (w : Compilation) (v : Value)
    → finding_at 0 Wanted.Constant w ≡ None → v ≡ looked_value w
    → LeavesStay w.locals w.output w.unit.tokens w.unit.gathering.leaves (operands_of w)
    → placed_finding limits name v None w ≡ expression_finding limits context name w
expression_found limits context name w v none e stay =
    let own = place_finding limits name (looked_value w) w in
    ap (λ (x : Value). placed_finding limits name x None w) e
    ∙ sym (ap (λ (f : Option Finding). value_finding_by limits context (least_of_both f own) name f (looked_value w) w) none
    ∙ found_by limits context name w (least_of_both None own) stay)

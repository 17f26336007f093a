-- Behind the end of a statement its unit is over, but for its semicolon.
use Rattle.std.proofs.Common.{◌≡◌, ℕ, List, true, Option, Some, None, refl, ◌∙◌, ap}
use Rattle.inf_expressions.specs.{Rooted.Rooted, declared.findings.Finding.Finding}
use Rattle.inf_scanner.specs.declared.tokens.Place.{Place}
use Rattle.inf_settings.specs.Bounds.{Limits}
use Rattle.inf_unit.specs.Units.{Unit as UnitAtHand, jump_of, over, own_place, prepared_by}
use Rattle.inf_unit.proofs.Cases.{of_both}
use Rattle.inf_statements.specs.declared.statements.Statement.{Statement}
use Rattle.inf_compilation.specs.Context.{Context}
use Rattle.inf_compilation.specs.Actions.{Compilation, named, passed, settled_of, trees_at}
use Rattle.inf_parts.specs.declared.parts.Part.{Part}
use Rattle.inf_parts.specs.Parts.{found_in, order_of, part_carried, part_effect, part_ended, part_finished, part_prepared, wanted_of}

effect_unit : (limits : Limits) (context : Context) (s : Statement) (trees : List Rooted) (w : Compilation)
    → (part_effect limits context (Part.Statement s) trees w).unit ≡ w.unit
unfolding part_effect
effect_unit limits context s trees w = refl

carried_over : (limits : Limits) (context : Context) (first : Place) (s : Statement) (found : Option Finding) (w : Compilation)
    → (part_carried limits context first (Part.Statement s) found w).unit ≡ over true w.unit
carried_over limits context first s (Some f) w = refl
carried_over limits context first s None w =
    let settled = settled_of limits context w in
    let p = Part.Statement s in
    ap (over true)
    (effect_unit limits context s (trees_at (order_of p w) (wanted_of p) settled.operands w)
    (record w { output = record settled.out { first = first } }))

prepared_over : (jump : Option ℕ) (u : UnitAtHand) → over true (prepared_by jump u) ≡ over true u
prepared_over None u = refl
prepared_over (Some at) u = refl

pub statement_over : (limits : Limits) (context : Context) (place : Place) (s : Statement) (w : Compilation)
    → (part_ended limits context place (Part.Statement s) w).unit ≡ over true w.unit
statement_over limits context place s w =
    let p = Part.Statement s in
    let ready = part_prepared w in
    let first = own_place ready.unit place in
    of_both (λ (v : Compilation). v.unit ≡ over true w.unit) w.is_replaced (passed true w) (part_finished limits context first p ready)
    (λ e. refl)
    (λ e. carried_over limits context first s (found_in limits context p ready) (named ready) ∙ prepared_over (jump_of w.unit) w.unit)

-- Values whose names are only looked up are those of their names in use, where the use changes nothing.
use Rattle.std.proofs.Common.{◌≡◌, ◌==◌, ℕ, length, Bool, true, false, cond, Option, None, refl, sym, ap, ◌∙◌}
use Rattle.inf_settings.specs.Bounds.{Limits}
use Rattle.inf_area.specs.declared.targets.Value.{Value}
use Rattle.inf_expressions.specs.{Findings.least_of_both, declared.units.Wanted.Wanted}
use Rattle.inf_output.specs.Output.{Out}
use Rattle.inf_operands.specs.Uses.{LeavesStay}
use Rattle.inf_compilation.specs.{Actions.Compilation, Actions.finding_at, Actions.operands_of, Actions.settled_of, Context.Context}
use Rattle.inf_declarations.specs.Arrays.{added, added_finding, adding, bare_leaf, bare_text, entry_added, entry_added_by}
use Rattle.inf_declarations.specs.Arrays.{entry_finding, one_more, own_finding, value_added}
use Rattle.inf_named_values.specs.Values.{looked_value}
use Rattle.inf_named_values.proofs.ValuesStay.{output_stays, value_stays}

-- An entry of several leaves is no text by itself.
no_text : (alone : Bool) (w : Compilation) → (length w.unit.gathering.symbols == 1) ≡ false → bare_text alone w ≡ None
no_text true w several = ap (λ (b : Bool). cond b (bare_leaf w.unit.gathering.leaves) None) several
no_text false w several = refl

pub several_found : (limits : Limits) (context : Context) (alone : Bool) (w : Compilation) → (length w.unit.gathering.symbols == 1) ≡ false
    → least_of_both (finding_at 0 Wanted.Constant w) (added_finding limits (adding alone (looked_value w)) w)
    ≡ entry_finding limits context alone w
several_found limits context alone w several =
    sym (ap (λ (text : Option ℕ). least_of_both (finding_at 0 Wanted.Constant w) (own_finding limits context text alone w))
    (no_text alone w several))

-- The finding about an entry of several leaves does not depend on whether there were entries before it.
pub more_found : (limits : Limits) (context : Context) (alone : Bool) (w : Compilation) → (length w.unit.gathering.symbols == 1) ≡ false
    → entry_finding limits context alone (one_more w) ≡ entry_finding limits context alone w
more_found limits context alone w several =
    sym (several_found limits context alone (one_more w) several) ∙ several_found limits context alone w several

added_stays : (limits : Limits) (context : Context) (alone : Bool) (w : Compilation)
    → LeavesStay w.locals w.output w.unit.tokens w.unit.gathering.leaves (operands_of w)
    → value_added limits context alone w ≡ added limits (adding alone (looked_value w)) w
added_stays limits context alone w stay =
    ap (λ (v : Value). added limits (adding alone v) (record w { output = (settled_of limits context w).out }))
    (value_stays limits context w stay)
    ∙ ap (λ (o : Out). added limits (adding alone (looked_value w)) (record w { output = o })) (output_stays limits context w stay)

pub entry_stays : (limits : Limits) (context : Context) (alone : Bool) (w : Compilation) (v : Value)
    → (length w.unit.gathering.symbols == 1) ≡ false → v ≡ looked_value w
    → LeavesStay w.locals w.output w.unit.tokens w.unit.gathering.leaves (operands_of w)
    → added limits (adding alone v) w ≡ entry_added limits context alone w
entry_stays limits context alone w v several e stay = ap (λ (x : Value). added limits (adding alone x) w) e
    ∙ sym (added_stays limits context alone w stay)
    ∙ sym (ap (λ (text : Option ℕ). entry_added_by limits context text alone w) (no_text alone w several))

use Rattle.std.proofs.Common.{◌≡◌, ◌+◌, ◌-◌, List, length, ap, ◌∙◌, arith, slice_set}
use Rattle.inf_area.specs.declared.targets.Value.{Value}
use Rattle.inf_properties.proofs.Opening.{set_last}
use Rattle.inf_properties.proofs.open.push_value.Goals as goal

pub returns-in_ok-push-clause-ok : goal.returns-in_ok-push-clause-ok
returns-in_ok-push-clause-ok c =
    let ps = c.args.properties.now.items in let k = c.len-count.result - 1 in let p = c.index_mut-last.result.now in
    let count : k + 1 ≡ length ps = omega (arith, c.args.properties.now.ok.0) in
    ap (λ (vs : List Value). slice_set ps k (record p { values = vs })) c.in_ok-push.ensures.ok
    ∙ set_last ps k p c.args.value count c.index_mut-last.ensures.value

-- One more name has a value, or has none.
use Rattle.std.proofs.Common.{◌≡◌, ◌<◌, ◌+◌, List, Some, None, drop, sym, ap, ◌∙◌, length, arith}
use Rattle.inf_area.specs.declared.targets.Value.{Value}
use Rattle.inf_names.specs.Symbols.{meaning_in, standing_at}
use Rattle.inf_story.specs.Names.{value_by, values_of, with_value}
use Rattle.inf_story.proofs.NameSteps.{behind, behind_one, value_step}
use Rattle.inf_story.proofs.names.values_of.Goals as goal

pub returns-in_default : goal.returns-in_default
returns-in_default g c =
    let names = c.args.names.now.names in let number = c.loop-number.number in let done = c.loop-number.values.items in
    let rest = values_of (drop (number + 1) names) in
    let within : number < length names = omega (arith, c.loop-number-test.true, c.len-number-end.ensures.count) in
    let none : value_by (meaning_in (standing_at number names)) ≡ None = sym c.value_at.ensures ∙ c.in_default.is in
    sym (ap (λ v. behind done (with_value v rest)) none) ∙ sym (ap (behind done) (value_step names number within)) ∙ c.loop-number.invariant

pub loop-number-preserved : goal.loop-number-preserved
loop-number-preserved g c =
    let names = c.args.names.now.names in let number = c.loop-number.number in let done = c.loop-number.values.items in
    let value = c.in-Some.value in let rest = values_of (drop (number + 1) names) in
    let within : number < length names = omega (arith, c.loop-number-test.true, c.len-number-end.ensures.count) in
    let some : value_by (meaning_in (standing_at number names)) ≡ Some value = sym c.value_at.ensures ∙ c.in-Some.is in
    ap (λ (items : List Value). behind items rest) c.in_ok-push.ensures.items ∙ sym (behind_one done value rest)
    ∙ sym (ap (λ v. behind done (with_value v rest)) some)
    ∙ sym (ap (behind done) (value_step names number within)) ∙ c.loop-number.invariant

use Rattle.std.proofs.Common.{◌≡◌, IfOk, ap, subst, ◌∙◌}
use Rattle.inf_unit.specs.AtHand.{unit as unit_of}
use Rattle.inf_conditionals.specs.{Condition.Condition, Condition.verdict_of, Held.condition_by, ReadAgain.condition_at}
use Rattle.inf_conditionals.specs.declared.condition.Held.{Held}
use Rattle.inf_conditionals.proofs.condition.Condition.judge.Goals as goal

pub returns-clause-verdict : goal.returns-clause-verdict
returns-clause-verdict g c =
    let k = c.self.inside in
    let is : condition_at c.unfold.new.rest (unit_of c.unfold.new.unit) ≡ c.args.self.now = c.in_ok-unfold.ensures
    ∙ ap (λ (h : Held). condition_by h k.rest (unit_of k.unit) k.tokens) c.replace-held.ensures.value ∙ c.self.view_is in
    subst (λ (x : Condition). IfOk c.judge_unit.result (λ v. v ≡ verdict_of c.args.declared c.args.out.now x)) is
    (c.judge_unit.ensures c.unfold.new.rest)

use Rattle.std.proofs.Common.{◌≡◌, ap, sym, true, ◌∙◌}
use Rattle.inf_unit.specs.{AtHand.unit as unit_of, Spelled.spelled}
use Rattle.inf_conditionals.specs.{Held.condition_by, Held.has_tokens, ReadAgain.condition_at, declared.condition.Held.Held}
use Rattle.inf_conditionals.proofs.HeldParts.{both_more, either_there}
use Rattle.inf_conditionals.proofs.condition.Condition.take.Goals as goal

pub invariant_of-self-in-Both : goal.invariant_of-self-in-Both
invariant_of-self-in-Both c =
    let k = c.self.inside in
    let there : has_tokens k.held ≡ true =
    ap has_tokens (sym c.replace-held.ensures.value) ∙ either_there c.replace-held.result c.in-Both.is in
    let is : condition_at c.unfold.new.rest (unit_of c.unfold.new.unit) ≡ condition_by k.held k.rest (unit_of k.unit) k.tokens =
    c.in_ok-unfold.ensures ∙ ap (λ (h : Held). condition_by h k.rest (unit_of k.unit) k.tokens) c.replace-held.ensures.value in
    both_more k.held k.rest (unit_of k.unit) k.tokens c.add.new.self (spelled c.args.token.now) c.unfold.new.rest
    (unit_of c.unfold.new.unit)
    c.gather.new.rest (unit_of c.gather.new.unit) there c.self.invariant is (sym c.in_ok-gather.ensures.fits ∙ c.if-not-branch.false)
    (c.in_ok-gather.ensures.taken c.if-not-branch.false) c.in_ok-add-in-Both.ensures.added

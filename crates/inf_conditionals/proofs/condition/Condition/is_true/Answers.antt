use Rattle.std.proofs.Common.{◌≡◌, Bool, IfSome, Option, Some, ap, subst, true, ◌∙◌}
use Rattle.inf_unit.specs.AtHand.{unit as unit_of}
use Rattle.inf_conditionals.specs.{Condition.Condition, Condition.verdict_of, Held.has_tokens, Truths.truth_of}
use Rattle.inf_conditionals.proofs.HeldParts.{truth_held}
use Rattle.inf_conditionals.proofs.condition.Condition.is_true.Goals as goal

pub returns-in-Some : goal.returns-in-Some
returns-in-Some g c =
    let k = c.self.inside in let o = c.args.out.now in
    let found : truth_of c.args.declared o k.tokens ≡ Some c.in-Some.is_true =
    subst (λ (x : Option Bool). IfSome x (λ b. truth_of c.args.declared o k.tokens ≡ Some b)) c.in-Some.is c.in_ok-truth.ensures.truth in
    let there : has_tokens k.held ≡ true =
    subst (λ (x : Option Bool). IfSome x (λ b. has_tokens k.held ≡ true)) c.in-Some.is c.in_ok-truth.ensures.tokens in
    truth_held k.held k.rest (unit_of k.unit) k.tokens c.args.declared o c.in-Some.is_true there c.self.invariant found
    ∙ ap (λ (x : Condition). (verdict_of c.args.declared o x).is_true) c.self.view_is

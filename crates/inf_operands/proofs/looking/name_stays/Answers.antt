use Rattle.std.proofs.Common.{◌≡◌, ℕ, length, true, Option, Some, None, sym, ap, ◌∙◌, option_map, is_some}
use Rattle.inf_output.specs.Output.{Out}
use Rattle.inf_unit.specs.NameTokens.{named}
use Rattle.inf_operands.proofs.Staying.{alone_stays, named_stays}
use Rattle.inf_operands.specs.Uses.{is_new}
use Rattle.inf_operands.proofs.looking.name_stays.Goals as goal

is_there : {A B : Type 0} (f : A → B) (x : Option A) (y : Option B) → option_map f x ≡ y → is_some x ≡ true → is_some y ≡ true
is_there f None y e there = absurd (cc there)
is_there f (Some a) y e there = ap is_some (sym e)

pub returns-clause-name : goal.returns-clause-name
returns-clause-name g c = λ e. named_stays c.args.out.now c.args.tokens.now c.args.at c.args.operand
    (ap (λ (o : Out). is_new (length o.names.names) c.args.operand) (sym c.out.view_is)
    ∙ ap (λ (n : ℕ). is_new n c.args.operand) (sym c.len.ensures.count) ∙ sym c.is_new.ensures ∙ c.if-is_new.false)
    (is_there named c.name_at.result _ c.name_at.ensures.value (sym c.is_some.ensures ∙ e))

pub returns-clause-alone : goal.returns-clause-alone
returns-clause-alone g c = λ e. alone_stays c.args.out.now c.args.tokens.now c.args.at c.args.operand
    (ap (λ (o : Out). is_new (length o.names.names) c.args.operand) (sym c.out.view_is)
    ∙ ap (λ (n : ℕ). is_new n c.args.operand) (sym c.len.ensures.count) ∙ sym c.is_new.ensures ∙ c.if-is_new.false)
    (is_there named c.name_at.result _ c.name_at.ensures.value (sym c.is_some.ensures ∙ e))

use Rattle.std.proofs.Common.{IsTrue, ap, length, subst, sym, ◌∙◌}
use Rattle.inf_sources.specs.Open.{IsNested}
use Rattle.inf_sources.proofs.Nestings.{closed_is, none_left}
use Rattle.inf_sources.proofs.open_files.OpenFiles.close.Goals as goal

pub returns-clause-closed : goal.returns-clause-closed
returns-clause-closed g c = λ honest start nested.
    let files = g.F.Files in let inv = c.loop.invariant in
    let last = none_left c.leave.result _ (sym c.is_some.ensures ∙ c.if-is_some.false) c.leave.ensures.last in
    closed_is start (files.openings c.args.files.now) (files.openings c.leave.new.files) (files.openings c.leave-2.new.files) c.loop.self
    (subst (λ f. IsNested start (files.openings f) c.loop.self) (sym last.1.1) (inv.nested honest start nested)) (ap length last.0)
    (ap (λ f. (files.openings f).all) last.1.1 ∙ inv.all honest)
    (c.leave-2.ensures.closes.closes (subst (λ b. IsTrue b) (sym (c.leave.ensures.went.honesty ∙ inv.honesty)) honest))

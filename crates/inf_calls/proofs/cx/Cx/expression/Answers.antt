use Rattle.std.proofs.Common.{◌≡◌, subst}
use Rattle.inf_alone.specs.declared.ending.Use.{Use}
use Rattle.inf_calls.specs.Answers.{EndsText}
use Rattle.inf_calls.specs.Calls.{alone_expression, begun_with_rule, used_so}
use Rattle.inf_calls.proofs.cx.Cx.expression.Goals as goal

pub returns-clause-called : goal.returns-clause-called
returns-clause-called g c =
    subst (λ (u : Use). EndsText g.F.Files g.M.Sink g.B.Bounds.most (begun_with_rule alone_expression) (used_so u g.B.Bounds.most)
    c.args.files.now c.use_text.new.files c.args.messages.now c.use_text.new.messages c.args.self.now.session c.use_text.new.self.session
    c.use_text.result) c.use_of.ensures c.use_text.ensures.called

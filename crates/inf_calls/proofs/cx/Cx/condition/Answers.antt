use Rattle.inf_alone.specs.declared.ending.Use.{Use}
use Rattle.inf_calls.specs.Calls.{alone_expression, begun_with_rule, used_so}
use Rattle.inf_calls.proofs.Joining.{done_called, done_stays}
use Rattle.inf_calls.proofs.cx.Cx.condition.Goals as goal

pub returns-clause-called : goal.returns-clause-called
returns-clause-called g c =
    done_called g.F.Files g.M.Sink g.B.Bounds.most c.args.files.now c.use_text.new.files c.args.messages.now c.use_text.new.messages
    c.args.self.now.session c.use_text.new.self.session c.use_text.result c.done.result c.done.ensures (begun_with_rule alone_expression)
    (used_so (Use.Branch c.args.branch.sense c.args.branch.label) g.B.Bounds.most) c.use_text.ensures.called

pub returns-clause-stays : goal.returns-clause-stays
returns-clause-stays g c =
    done_stays g.F.Files g.M.Sink g.B.Bounds.most c.args.files.now c.use_text.new.files c.args.messages.now c.use_text.new.messages
    c.args.self.now.session c.use_text.new.self.session c.use_text.result c.done.result c.done.ensures c.use_text.ensures.stays

use Rattle.inf_calls.specs.Calls.{alone_line, assembly_line, begun_with_rule}
use Rattle.inf_calls.proofs.Joining.{reads_answers}
use Rattle.inf_calls.proofs.cx.Cx.assembly_line.Goals as goal

pub returns-clause-called : goal.returns-clause-called
returns-clause-called g c =
    let before = c.args.self.now.session in let after = c.read_faultless.new.self.session in
    let called = c.read_faultless.ensures.called in
    record {
      answers = reads_answers g.F.Files g.M.Sink g.B.Bounds.most c.args.files.now c.read_faultless.new.files c.args.messages.now
          c.args.messages.now c.read_faultless.new.messages before before after (begun_with_rule alone_line) (assembly_line g.B.Bounds.most)
          c.read_faultless.result called.answers;
      lost = called.lost;
      fault = called.fault;
      adds = called.adds;
      again = called.again;
    }

use Rattle.inf_compilation.specs.Works.{work as work_of}
use Rattle.inf_ending.proofs.Endings.{told_is_finished}
use Rattle.inf_ending.proofs.ending.finish.Goals as goal

pub returns : goal.returns
returns g c = told_is_finished g.B.Bounds.most c.args.serial.now c.args.files.now.names (work_of c.args.work) (work_of c.tell_last.new.work)
    c.finish_told.result c.in_ok-tell_last.ensures c.finish_told.ensures

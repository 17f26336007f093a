use Rattle.inf_report.specs.{Meant.located, Meant.meant, Messages.TooManyErrors, Messages.line_of, declared.messages.Kind.Kind}
use Rattle.inf_report.proofs.Writings.{goes_on, stops}
use Rattle.inf_report.proofs.lines.write_last.Goals as goal

pub returns-in_err-write_line : goal.returns-in_err-write_line
returns-in_err-write_line g c = stops _ _ _ _ (line_of Kind.Error (located c.args.at) (meant c.args.message.now))
    (line_of Kind.Fatal (located c.args.unit) TooManyErrors) c.from_residual.result c.from_residual.ensures.0 c.in_err-write_line.ensures

pub returns : goal.returns
returns g c = goes_on _ _ _ _ _ _ (line_of Kind.Error (located c.args.at) (meant c.args.message.now))
    (line_of Kind.Fatal (located c.args.unit) TooManyErrors) c.write_line-2.result c.in_ok-write_line.ensures c.write_line-2.ensures

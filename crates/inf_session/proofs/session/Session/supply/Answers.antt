use Rattle.std.proofs.Common.{◌≡◌, true, false, None, refl, sym, ap, subst, ◌∙◌, is_some}
use Rattle.inf_lexer.proofs.Candidates.{rose_earlier}
use Rattle.inf_session.specs.{Choices.Choices, Choices.chosen, Leading.CutsShort, Leading.Writes, Standing.next_of}
use Rattle.inf_session.specs.{Standing.state, Veneer.next_supplied}
use Rattle.inf_session.proofs.Promises.{caused_more, told_fault, wrote_none, wrote_then}
use Rattle.inf_session.proofs.Supplying.{leads_all, leads_cut, leads_none, leads_then, left_less, none_is, supplies_as}
use Rattle.inf_session.proofs.session.Session.supply.Goals as goal

pub loop-was_read-init : goal.loop-was_read-init
loop-was_read-init g c = record {
  led = λ sources start now. leads_none (g.M.Sink.taken c.args.messages.now);
  none = λ is. let never : true ≡ false = is in cc;
  files = refl;
  setup = refl;
  wrote = wrote_none None;
}

pub loop-was_read-preserved : goal.loop-was_read-preserved
loop-was_read-preserved g c =
    let inv = c.loop-was_read.invariant in let took = c.in_ok-was_read.ensures in
    record {
      led = λ sources start now. leads_then g.B.Bounds.most (chosen c.args.self.now.setup) (inv.led sources start now)
          (subst (λ (o : Choices). Writes (next_supplied g.B.Bounds.most o) (state sources start now c.loop-was_read.self)
          (state sources start now c.read_veneer.new.self) (g.M.Sink.taken c.loop-was_read.messages)
          (g.M.Sink.taken c.read_veneer.new.messages)) (ap chosen inv.setup) (took.supplied.made sources start now));
      none = λ is.
          let none : is_some (next_of c.loop-was_read.self) ≡ false = sym took.came ∙ is in
          subst (λ s. is_some (next_of s) ≡ false) (sym (c.read_veneer.ensures.same none).1.0) none;
      files = took.supplied.files ∙ inv.files;
      setup = took.supplied.setup ∙ inv.setup;
      wrote = wrote_then inv.wrote took.supplied.wrote;
    }

pub loop-was_read-smaller : goal.loop-was_read-smaller
loop-was_read-smaller g c =
    left_less c.loop-was_read.was_read c.in_ok-was_read.was_read c.loop-was_read.self.passed c.read_veneer.new.self.passed
    c.loop-was_read-test.true c.in_ok-was_read.ensures.behind

pub returns : goal.returns
returns g c =
    let inv = c.loop-was_read.invariant in
    record {
      supplied = record {
        made = λ sources start now. leads_all g.B.Bounds.most (chosen c.args.self.now.setup)
            (λ told. none_is (next_of c.loop-was_read.self) (inv.none c.loop-was_read-test.false)) (inv.led sources start now);
        broken = λ sources start now. tt;
        files = inv.files;
        setup = inv.setup;
        cause = tt;
        wrote = inv.wrote;
      };
    }

pub returns-in_err-was_read : goal.returns-in_err-was_read
returns-in_err-was_read g c =
    let m = g.M.Sink in let inv = c.loop-was_read.invariant in let took = c.in_err-was_read.ensures.supplied in
    record {
      supplied = supplies_as (told_fault c.from_residual.result _ c.from_residual.ensures.1) (record {
        made = λ sources start now. tt;
        broken = λ sources start now. leads_cut g.B.Bounds.most (chosen c.args.self.now.setup) (inv.led sources start now)
            (subst (λ (o : Choices). CutsShort (next_supplied g.B.Bounds.most o) (state sources start now c.loop-was_read.self)
            (m.taken c.loop-was_read.messages) (m.taken c.read_veneer.new.messages)) (ap chosen inv.setup) (took.broken sources start now));
        files = took.files ∙ inv.files;
        setup = took.setup ∙ inv.setup;
        cause = caused_more {P = λ name. ⊥} c.before.in_err-was_read.field-0.0 (λ name why. why) (λ r. rose_earlier (m.failures c.args.messages.now) (m.failures c.loop-was_read.messages)
            (m.failures c.read_veneer.new.messages) inv.wrote.appends.failures r) took.cause;
        wrote = wrote_then inv.wrote took.wrote;
      });
    }

use Rattle.std.proofs.Common.{◌++◌, ap, true, sym, refl, ◌∙◌, arith}
use Rattle.inf_sources.specs.Open.{Open, nesting}
use Rattle.inf_unit.specs.Messages.{Reported}
use Rattle.inf_session.specs.{Choices.chosen, Session.State, Standing.state}
use Rattle.inf_session.specs.Veneer.{in_text}
use Rattle.inf_session.proofs.{Leadings.cuts_in, Promises.told_fault}
use Rattle.inf_session.proofs.Supplying.{supplies_as, supplies_none, text_begins, text_front_is, text_leads, text_turned_is}
use Rattle.inf_session.proofs.session.Session.read_text.Goals as goal

pub new-requires : goal.new-requires
new-requires g c = omega (arith, c.requires, c.text_of-text.ensures.few)

pub returns-clause-read : goal.returns-clause-read
returns-clause-read g c =
    let o = chosen c.args.self.now.setup in let n = c.args.number in let text = c.text_of-text.result.now in
    let first = c.in_ok-lexer.lexer in let lines = c.take_text.new.self.progress.work.report.lines in
    let bytes = c.text_of-text.ensures.text in
    let files = c.in_ok-take_text.ensures.files ∙ c.in_ok-begin_text.ensures.files in
    let w = c.in_ok-flush.ensures.writes in
    record {
      made = λ sources start now.
          let was = state sources start now c.args.self.now in
          let begun = state sources start now c.begin_text.new.self in
          let after = state sources start now c.take_text.new.self in
          record {
            lines = lines;
            takes = w.0;
            same = λ told. ap (λ (r : Reported). record (after (told ++ lines)) {
              work = record (after (told ++ lines)).work { report = r };
              is_over = true;
              passed = n;
            }) c.in_ok-flush.ensures.none ∙ text_leads g.B.Bounds.most o n was begun after first c.take_text.new.lexer told
                (c.in_ok-begin_text.ensures.begun sources start now told)
                (text_front_is o c.args.self.now sources start now told first c.characters-set.result c.of-limit.result n text
                c.in_ok-lexer.ensures c.characters-set.ensures.innermost c.of-limit.ensures.value bytes)
                (text_turned_is g.B.Bounds.most o (chosen c.begin_text.new.self.setup) n text (in_text first (begun told))
                (in_text c.take_text.new.lexer (after told))
                bytes (ap chosen c.in_ok-begin_text.ensures.setup) (c.in_ok-take_text.ensures.turned sources start now told))
                (ap (λ (f : Open). nesting sources start now f) files);
          };
      broken = λ sources start now. tt;
      files = files;
      setup = c.in_ok-take_text.ensures.setup ∙ c.in_ok-begin_text.ensures.setup;
      cause = tt;
      wrote = record { appends = record { lines = lines; takes = w.0; failures = omega (arith, w.1) }; quiet = w.1 };
    }

pub returns-in_err-lexer-clause-read : goal.returns-in_err-lexer-clause-read
returns-in_err-lexer-clause-read g c = supplies_none (told_fault c.from_residual.result _ c.from_residual.ensures.1) refl refl
    (λ o s. text_begins g.B.Bounds.most o c.args.number s)

pub returns-in_err-begin_text-clause-read : goal.returns-in_err-begin_text-clause-read
returns-in_err-begin_text-clause-read g c =
    supplies_none (told_fault c.from_residual-in_err-begin_text.result _ c.from_residual-in_err-begin_text.ensures.1)
    c.begin_text.ensures.files c.begin_text.ensures.setup (λ o s. text_begins g.B.Bounds.most o c.args.number s)

pub returns-in_err-take_text-clause-read : goal.returns-in_err-take_text-clause-read
returns-in_err-take_text-clause-read g c =
    supplies_none (told_fault c.from_residual-in_err-take_text.result _ c.from_residual-in_err-take_text.ensures.1)
    (c.take_text.ensures.files ∙ c.in_ok-begin_text.ensures.files) (c.take_text.ensures.setup ∙ c.in_ok-begin_text.ensures.setup)
    (λ o s. text_begins g.B.Bounds.most o c.args.number s)

pub returns-in_err-flush-clause-read : goal.returns-in_err-flush-clause-read
returns-in_err-flush-clause-read g c =
    let o = chosen c.args.self.now.setup in let n = c.args.number in let text = c.text_of-text.result.now in
    let first = c.in_ok-lexer.lexer in let bytes = c.text_of-text.ensures.text in
    let files = c.in_ok-take_text.ensures.files ∙ c.in_ok-begin_text.ensures.files in
    let w = c.in_err-flush.ensures.writes in
    supplies_as (told_fault c.from_residual-in_err-flush.result _ c.from_residual-in_err-flush.ensures.1) (record {
      made = λ sources start now. tt;
      broken = λ sources start now.
          let was = state sources start now c.args.self.now in
          let begun = state sources start now c.begin_text.new.self in
          let after = state sources start now c.take_text.new.self in
          cuts_in {lines = c.take_text.new.self.progress.work.report.lines} (λ told. ap (λ (s : State). s.told) (sym
          (text_leads g.B.Bounds.most o n was begun after first c.take_text.new.lexer told
          (c.in_ok-begin_text.ensures.begun sources start now told)
          (text_front_is o c.args.self.now sources start now told first c.characters-set.result c.of-limit.result n text
          c.in_ok-lexer.ensures c.characters-set.ensures.innermost c.of-limit.ensures.value bytes)
          (text_turned_is g.B.Bounds.most o (chosen c.begin_text.new.self.setup) n text (in_text first (begun told))
          (in_text c.take_text.new.lexer (after told))
          bytes (ap chosen c.in_ok-begin_text.ensures.setup) (c.in_ok-take_text.ensures.turned sources start now told))
          (ap (λ (f : Open). nesting sources start now f) files)))) w.0.takes (record { rest = w.0.rest; is_cut = w.0.is_cut });
      files = files;
      setup = c.in_ok-take_text.ensures.setup ∙ c.in_ok-begin_text.ensures.setup;
      cause = w.2;
      wrote = record { appends = record { lines = w.0.front; takes = w.0.takes; failures = w.1 }; quiet = tt };
    })

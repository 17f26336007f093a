use Rattle.std.proofs.Common.{rules, ◌≡◌, ◌∙◌, ℕ, List, Bool, true, false, Result, Ok, Err, sym, ap, ◌||◌}
use Rattle.std.specs.Bool.{⊤}
use Rattle.inf_compilation.specs.Actions.{Compilation, piece_begun}
use Rattle.inf_devices.specs.Files.{Openings, Sources}
use Rattle.inf_reader.specs.Reading.{is_mode_ended}
use Rattle.inf_session.specs.{Session.State, Standing.state}
use Rattle.inf_calls.specs.Answers.{refusal}
use Rattle.inf_calls.specs.Calls.{alone_header, begun_with_header, begun_with_rule, faultless_read, header}
use Rattle.inf_calls.specs.declared.faults.UnitFault.{UnitFault}
use Rattle.inf_calls.proofs.{Called.called_refused, Called.not_refused, Called.refused_never}
use Rattle.inf_calls.proofs.Joining.{fails_from, reads_answers, reads_from}
use Rattle.inf_calls.proofs.cx.Cx.header.Goals as goal

pub returns-in_err-check-clause-called : goal.returns-in_err-check-clause-called
returns-in_err-check-clause-called g c =
    let before = c.args.self.now.session in let fault = c.in_err-check.field-0.0 in
    let r : refusal before ≡ Err fault = sym c.in_err-check.ensures in
    let e : c.from_residual.result ≡ Err fault = search rules in
    called_refused g.F.Files g.M.Sink c.args.files.now c.args.messages.now before fault c.from_residual.result r e
    (λ going. absurd (refused_never before fault r going)) (λ going. absurd (refused_never before fault r going))

pub returns-clause-called : goal.returns-clause-called
returns-clause-called g c =
    let before = c.args.self.now.session in let after = c.read_faultless.new.self.session in
    let p = record before.progress { work = c.begin_piece.new.self } in
    let first : State → State = λ s. record s { work = piece_begun s.work } in
    let going : ((before.is_over || (before.progress.work.report.counts.is_over || is_mode_ended before.progress.reader.mode)) ≡ false)
    → (before.is_over || (c.begin_piece.new.self.report.counts.is_over || is_mode_ended before.progress.reader.mode)) ≡ false =
    λ h. ap (λ (w : Compilation). before.is_over || (w.report.counts.is_over || is_mode_ended before.progress.reader.mode))
    c.begin_piece.ensures ∙ h in
    let is_first : (sources : Sources) → (start now : Openings) → (told : List ℕ)
    → state sources start now (record before { progress = p }) told ≡ first (state sources start now before told) =
    λ sources start now told. ap (λ (w : Compilation). record (state sources start now before told) { work = w }) c.begin_piece.ensures in
    let called = c.read_faultless.ensures.called in
    record {
      answers = reads_answers g.F.Files g.M.Sink g.B.Bounds.most c.args.files.now c.read_faultless.new.files c.args.messages.now
          c.args.messages.now c.read_faultless.new.messages before before after begun_with_header (header g.B.Bounds.most)
          c.read_faultless.result
          (reads_from g.F.Files g.M.Sink g.B.Bounds.most c.args.files.now c.read_faultless.new.files c.args.messages.now
          c.args.messages.now c.read_faultless.new.messages before before after p (begun_with_rule alone_header) first
          (λ sources o turns s. faultless_read g.B.Bounds.most sources o turns (begun_with_rule alone_header s)) c.read_faultless.result
          going is_first called.answers);
      lost = fails_from g.F.Files g.M.Sink g.B.Bounds.most c.args.files.now c.read_faultless.new.files c.args.messages.now
          c.args.messages.now c.read_faultless.new.messages before before after p (begun_with_rule alone_header) first
          c.read_faultless.result going is_first called.lost;
      fault = called.fault;
      adds = called.adds;
      again = λ fault r. absurd (not_refused before c.in_ok-check.field-0 fault c.in_ok-check.ensures r);
    }

use Rattle.std.proofs.Common.{ap, ◌∙◌}
use Rattle.inf_report.specs.OwnWords.{shown_run}
use Rattle.inf_report.proofs.Runs.{IsRun, shows_failed, shows_next}
use Rattle.inf_report.proofs.own_words.write_shown.Goals as goal

pub returns-in_err-write_bytes : goal.returns-in_err-write_bytes
returns-in_err-write_bytes g c =
    let is_space = c.is_white-is_space.result in
    let run : IsRun c.args.words.set is_space c.loop-rest.rest.now c.split_at.result.1.now c.shown_run.result.now = record {
      count = c.run_len.result;
      is_count = c.run_len.ensures.value;
      is_behind = c.split_at.ensures.back;
      is_piece = c.shown_run.ensures ∙ ap (shown_run is_space) c.split_at.ensures.front;
    } in
    shows_failed _ _ _ _ _ _ c.args.words.set is_space c.args.words.bytes.now c.loop-rest.rest.now c.split_at.result.1.now
    c.shown_run.result.now c.from_residual.result c.from_residual.ensures.0 run c.loop-rest.invariant c.in_err-write_bytes.ensures

pub loop-rest-preserved : goal.loop-rest-preserved
loop-rest-preserved g c =
    let is_space = c.is_white-is_space.result in
    let run : IsRun c.args.words.set is_space c.loop-rest.rest.now c.split_at.result.1.now c.shown_run.result.now = record {
      count = c.run_len.result;
      is_count = c.run_len.ensures.value;
      is_behind = c.split_at.ensures.back;
      is_piece = c.shown_run.ensures ∙ ap (shown_run is_space) c.split_at.ensures.front;
    } in
    shows_next _ _ _ _ _ _ c.args.words.set is_space c.args.words.bytes.now c.loop-rest.rest.now c.split_at.result.1.now
    c.shown_run.result.now run c.loop-rest.invariant c.in_ok-write_bytes.ensures

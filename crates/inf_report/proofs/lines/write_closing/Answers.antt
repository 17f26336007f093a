use Rattle.std.proofs.Common.{◌≡◌, ◌++◌, codes, decimal, ◌∙◌}
use Rattle.inf_report.specs.Reports.{ending}
use Rattle.inf_report.proofs.Writings.{goes_on, stops}
use Rattle.inf_report.proofs.lines.write_closing.Goals as goal

pub returns-in_err-write_pieces : goal.returns-in_err-write_pieces
returns-in_err-write_pieces g c =
    let told : c.as_bytes-told.result.now ≡ decimal c.args.errors = c.as_bytes-told.ensures.value ∙ c.format.ensures.text in
    let warned : c.as_bytes-warned.result.now ≡ decimal c.args.warnings = c.as_bytes-warned.ensures.value ∙ c.format-2.ensures.text in
    stops _ _ _ _ (codes "Errors: " ++ decimal c.args.errors ++ codes ", warnings: " ++ decimal c.args.warnings) (ending c.args.errors)
    c.from_residual.result c.from_residual.ensures.0 (rw (told, warned) at c.in_err-write_pieces.ensures)

pub returns : goal.returns
returns g c =
    let told : c.as_bytes-told.result.now ≡ decimal c.args.errors = c.as_bytes-told.ensures.value ∙ c.format.ensures.text in
    let warned : c.as_bytes-warned.result.now ≡ decimal c.args.warnings = c.as_bytes-warned.ensures.value ∙ c.format-2.ensures.text in
    goes_on _ _ _ _ _ _ (codes "Errors: " ++ decimal c.args.errors ++ codes ", warnings: " ++ decimal c.args.warnings)
    (ending c.args.errors)
    c.write_bytes.result (rw (told, warned) at c.in_ok-write_pieces.ensures) (rw c.ending.ensures at c.write_bytes.ensures)

use Rattle.std.proofs.Common.{◌≡◌, ◌++◌, codes, decimal, ◌∙◌}
use Rattle.inf_report.specs.Messages.{place, quoted}
use Rattle.inf_report.proofs.Writings.{goes_on, stops}
use Rattle.inf_report.proofs.lines.write_text.Goals as goal

pub returns-in_err-write_pieces-in-Declared : goal.returns-in_err-write_pieces-in-Declared
returns-in_err-write_pieces-in-Declared g c =
    let at = c.in-Declared.location in
    rw c.in-Declared.is
    (stops _ _ _ _ (quoted c.in-Declared.name.now ++ codes " was declared at ") (place at.file.now at.line) c.from_residual.result
    c.from_residual.ensures.0 c.in_err-write_pieces-in-Declared.ensures)

pub returns-in_ok-write_pieces-in-Declared : goal.returns-in_ok-write_pieces-in-Declared
returns-in_ok-write_pieces-in-Declared g c =
    let at = c.in-Declared.location in
    rw c.in-Declared.is
    (goes_on _ _ _ _ _ _ (quoted c.in-Declared.name.now ++ codes " was declared at ") (place at.file.now at.line) c.write_place.result
    c.in_ok-write_pieces-in-Declared.ensures c.write_place.ensures)

pub returns-in-StoryOver : goal.returns-in-StoryOver
returns-in-StoryOver g c =
    let digits : c.as_bytes.result.now ≡ decimal c.in-StoryOver.bytes = c.as_bytes.ensures.value ∙ c.format.ensures.text in
    rw c.in-StoryOver.is (rw digits at c.write_pieces-in-StoryOver.ensures)

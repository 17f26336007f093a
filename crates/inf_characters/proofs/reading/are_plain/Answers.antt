-- Plain bytes are a text.
use Rattle.std.proofs.Common.{◌∙◌, sym}
use Rattle.inf_characters.proofs.Plain.{plain_text}
use Rattle.inf_characters.proofs.reading.are_plain.Goals as goal

pub returns-clause-reads : goal.returns-clause-reads
returns-clause-reads c e set mode = plain_text set mode c.args.bytes.now (sym c.all_plain.ensures ∙ e)

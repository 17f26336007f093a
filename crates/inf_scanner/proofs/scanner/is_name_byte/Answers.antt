-- The table has the test of each byte.
use Rattle.std.proofs.Common.{◌∙◌, ap, false, slice_index_or}
use Rattle.inf_scanner.proofs.NameBytes.{name_byte}
use Rattle.inf_scanner.proofs.scanner.is_name_byte.Goals as goal

pub returns : goal.returns
returns c = ap (λ bytes. slice_index_or bytes c.args.byte false) c.name_bytes.ensures ∙ name_byte c.args.byte false c.ranges.byte.fits

-- The test of the library finds bytes that are equal in any case.
use Rattle.std.proofs.{lemmas.Bool.Decides.same_from_decides, lemmas.Slice.Eq.bytes_eq-Decides}
use Rattle.std.proofs.Common.{◌∙◌, ap, map}
use Rattle.std.specs.{Char.to_ascii_lowercase, Str.bytes_eq, Str.str_eq_ignore_ascii_case}
use Rattle.inf_opcode.proofs.opcodes.Opcode.has_name.Goals as goal

pub returns : goal.returns
returns c =
    let own = map to_ascii_lowercase c.name.result.now in let other = map to_ascii_lowercase c.args.name.now in
    same_from_decides c.eq_ignore_ascii_case.result (bytes_eq own other) c.eq_ignore_ascii_case.ensures.test (bytes_eq-Decides own other)
    ∙ ap (λ text. str_eq_ignore_ascii_case text c.args.name.now) c.name.ensures

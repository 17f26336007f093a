-- Meaning of a token of the code.
use Rattle.inf_unit.specs.Tokens.{SourceToken}
use Rattle.inf_unit.specs.declared.tokens.SourceToken as code

abbrev pub spelled : code.SourceToken → SourceToken
spelled t = record { kind = t.kind; bytes = t.bytes.now; place = t.place; is_class = t.is_class }

use Rattle.std.proofs.Common.{List, length, ap, arith}
use Rattle.inf_unit.specs.Tokens.{SourceToken}
use Rattle.inf_unit.proofs.KeptTokens.{count_is}
use Rattle.inf_unit.proofs.unit_tokens.UnitTokens.len.Goals as goal

pub returns : goal.returns
returns c = omega (
  arith,
  c.len.ensures,
  c.self.inside.kept.ok.0,
  count_is 0 c.self.inside.kept.items c.self.inside.bytes.items,
  ap (λ (ts : List SourceToken). length ts) c.self.view_is,
)

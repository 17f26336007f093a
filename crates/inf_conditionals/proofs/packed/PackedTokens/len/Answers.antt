use Rattle.std.proofs.Common.{List, length, ap, arith}
use Rattle.inf_unit.specs.Tokens.{SourceToken}
use Rattle.inf_conditionals.proofs.PackedTokens.{packed_count}
use Rattle.inf_conditionals.proofs.packed.PackedTokens.len.Goals as goal

pub returns : goal.returns
returns c = omega (
  arith,
  c.len.ensures,
  c.self.inside.tokens.ok.0,
  packed_count c.self.inside.tokens.items c.self.inside.beside.items c.self.inside.bytes.items,
  ap (λ (ts : List SourceToken). length ts) c.self.view_is,
)

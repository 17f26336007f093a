use Rattle.std.proofs.Common.{◌+◌, ◌∙◌, List, Option, ap, arith, drop, map, sym}
use Rattle.inf_names.specs.Spellings.{Name, as_name}
use Rattle.inf_unit.specs.Units.{names_from, with_name}
use Rattle.inf_unit.proofs.TokenLists.{names_next}
use Rattle.inf_unit.proofs.unit_tokens.UnitTokens.names.Goals as goal

pub loop-at-preserved : goal.loop-at-preserved
loop-at-preserved c =
    let ts = c.args.self.now in let at = c.loop-at.at in let before = map as_name c.loop-at.names.items in
    ap (λ (l : List Name). names_from (drop (at + 1) ts) l)
    (c.in_ok-add_name.ensures ∙ ap (λ (o : Option Name). with_name o before) c.name_at.ensures.value)
    ∙ sym (names_next ts at (at + 1) before (omega arith) (omega (arith, c.loop-at-test.true, c.len-at-end.ensures))) ∙ c.loop-at.invariant

use Rattle.std.proofs.Common.{List, take, ap, sym, arith, ◌∙◌}
use Rattle.inf_unit.specs.{Kept.end_of_all, Tokens.SourceToken, declared.kept.Kept.Kept}
use Rattle.inf_unit.proofs.KeptTokens.{all_stay, cut_kept, cut_tokens}
use Rattle.inf_unit.proofs.unit_tokens.UnitTokens.truncate.Goals as goal

pub invariant_of-self : goal.invariant_of-self
invariant_of-self c =
    cut_kept c.self.inside.kept.items c.truncate.new.self.items c.self.inside.bytes.items c.truncate-then-count-len.new.self.items
    c.args.count c.start_of-end.result c.self.invariant c.truncate.ensures.items c.truncate-then-count-len.ensures.items
    (c.start_of-end.ensures ∙ ap (λ (l : List Kept). end_of_all 0 (take c.args.count l)) c.as_slice.ensures.value)

pub returns-then-count-len : goal.returns-then-count-len
returns-then-count-len c =
    cut_tokens c.self.inside.kept.items c.truncate.new.self.items c.self.inside.bytes.items c.truncate-then-count-len.new.self.items
    c.args.count c.start_of-end.result c.self.invariant c.truncate.ensures.items c.truncate-then-count-len.ensures.items
    (c.start_of-end.ensures ∙ ap (λ (l : List Kept). end_of_all 0 (take c.args.count l)) c.as_slice.ensures.value)
    ∙ ap (λ (ts : List SourceToken). take c.args.count ts) c.self.view_is

pub returns-else-count-len : goal.returns-else-count-len
returns-else-count-len c = sym c.self.view_is ∙ all_stay 0 c.self.inside.kept.items c.self.inside.bytes.items c.args.count
    (omega (arith, c.if-count-len.false, c.len.ensures, c.self.inside.kept.ok.0))
    ∙ ap (λ (ts : List SourceToken). take c.args.count ts) c.self.view_is

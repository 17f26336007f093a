use Rattle.std.proofs.Common.{List, [], ◌∷◌, ◌++◌, ap, arith, ◌∙◌}
use Rattle.inf_unit.specs.{Spelled.spelled, Tokens.SourceToken, declared.kept.Kept.Kept}
use Rattle.inf_unit.proofs.KeptTokens.{IsAdded, added_kept, added_tokens}
use Rattle.inf_unit.proofs.unit_tokens.UnitTokens.add.Goals as goal

pub invariant_of-self-2 : goal.invariant_of-self-2
invariant_of-self-2 c =
    let t = c.args.token.now in let ks = c.self.inside.kept.items in let now = c.push_reserved.new.self.items in
    let bytes = c.self.inside.bytes.items in let new = c.add_bytes.new.bytes.items in
    let added : IsAdded ks now bytes new t.bytes.now t.kind t.place t.is_class t.atom = record {
      k = c.new.result;
      end = c.len-end.result;
      is = c.push_reserved.ensures.items ∙ ap (λ (l : List Kept). l ++ c.new.result ∷ []) c.reserve.ensures.items;
      all = c.in_ok-add_bytes.ensures.added;
      made = c.new.ensures;
      ends = omega (arith, c.len-end.ensures, c.add_bytes.new.bytes.ok.0);
    } in
    added_kept ks now bytes new t.bytes.now t.kind t.place t.is_class t.atom added c.self.invariant t.is_seen t.is_short

pub returns-clause-added : goal.returns-clause-added
returns-clause-added c =
    let t = c.args.token.now in let ks = c.self.inside.kept.items in let now = c.push_reserved.new.self.items in
    let bytes = c.self.inside.bytes.items in let new = c.add_bytes.new.bytes.items in
    let added : IsAdded ks now bytes new t.bytes.now t.kind t.place t.is_class t.atom = record {
      k = c.new.result;
      end = c.len-end.result;
      is = c.push_reserved.ensures.items ∙ ap (λ (l : List Kept). l ++ c.new.result ∷ []) c.reserve.ensures.items;
      all = c.in_ok-add_bytes.ensures.added;
      made = c.new.ensures;
      ends = omega (arith, c.len-end.ensures, c.add_bytes.new.bytes.ok.0);
    } in
    added_tokens ks now bytes new t.bytes.now t.kind t.place t.is_class t.atom added c.self.invariant
    ∙ ap (λ (ts : List SourceToken). ts ++ spelled t ∷ []) c.self.view_is

use Rattle.std.proofs.Common.{◌∙◌, ap, take, bytes_eq}
use Rattle.inf_names.proofs.KeyBytes.{eq_items}
use Rattle.inf_names.proofs.keys.KeyPartialEq.eq.Goals as goal

pub returns-then-self-other : goal.returns-then-self-other
returns-then-self-other c =
    let self = c.self.inside in let other = c.other.inside in
    c.same.ensures
    ∙ eq_items self.bytes other.bytes self.size other.size c.if-self-other.true c.self.invariant.1 c.other.invariant.1
    ∙ ap (λ (v : _). bytes_eq v.items (take other.size other.bytes)) c.self.view_is
    ∙ ap (λ (v : _). bytes_eq c.args.self.now.items v.items) c.other.view_is

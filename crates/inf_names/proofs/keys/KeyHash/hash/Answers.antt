use Rattle.std.proofs.Common.{rules, ◌∙◌, ap}
use Rattle.std.specs.Hash.{le_bytes}
use Rattle.inf_names.specs.Keys.{padded}
use Rattle.inf_names.proofs.KeyBytes.{hashed, padded_is}
use Rattle.inf_names.proofs.keys.KeyHash.hash.Goals as goal

pub returns : goal.returns
unfolding le_bytes
returns g c =
    let inside = c.self.inside in
    let is = padded_is inside.bytes inside.size (search rules) c.self.invariant.0 c.self.invariant.1
    ∙ ap (λ (v : _). padded v.items) c.self.view_is in
    hashed g.H.Hasher.write inside.bytes (padded c.args.self.now.items) _ _ _ _ _ c.args.state.now
    c.write_u64.new.self c.write_u64-2.new.self c.write_u64-3.new.self c.write_u64-4.new.self c.write_u64-5.new.self is
    c.word.ensures.bytes c.word-2.ensures.bytes c.word-3.ensures.bytes c.word-4.ensures.bytes c.word-5.ensures.bytes
    c.write_u64.ensures c.write_u64-2.ensures c.write_u64-3.ensures c.write_u64-4.ensures c.write_u64-5.ensures

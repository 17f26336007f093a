use Rattle.std.proofs.Common.{◌≡◌, length, sym, subst, arith, slice_set}
use Rattle.inf_properties.specs.Places.{AreAt}
use Rattle.inf_properties.proofs.Finding.{AreAt-kept, AreAt-push}
use Rattle.inf_properties.proofs.open.add_last.Goals as goal

pub returns-in_err-cover-clause-at : goal.returns-in_err-cover-clause-at
returns-in_err-cover-clause-at c =
    AreAt-kept 0 c.args.places.now.items c.cover.new.places.items c.args.properties.now.items c.cover.ensures.kept c.requires.at

pub returns-in_err-push-clause-at : goal.returns-in_err-push-clause-at
returns-in_err-push-clause-at c = subst (AreAt 0 c.cover.new.places.items) (sym c.in_err-push.ensures.items)
    (AreAt-kept 0 c.args.places.now.items c.cover.new.places.items c.args.properties.now.items c.cover.ensures.kept c.requires.at)

pub returns-clause-at : goal.returns-clause-at
returns-clause-at c =
    let ps = c.args.properties.now.items in let places = c.cover.new.places.items in let p = c.args.property in
    let count : length ps ≡ c.len-place.result = omega (arith, c.args.properties.now.ok.0) in
    let kept = AreAt-kept 0 c.args.places.now.items places ps c.cover.ensures.kept c.requires.at in
    subst (λ n. AreAt 0 (slice_set places p.number n) c.push.new.self.items) count
    (subst (AreAt 0 (slice_set places p.number (length ps))) (sym c.in_ok-push.ensures.items)
    (AreAt-push places ps p kept c.requires.absent c.in_ok-cover.ensures.covered))

use Rattle.std.proofs.Common.{rules, ◌≡◌, ◌≤◌, ◌∙◌, length}
use Rattle.inf_text.specs.Searching.{first_code}
use Rattle.inf_text.proofs.{Linking.HaveLinks-part, Linking.length-linked, Ranging.best_of-part}
use Rattle.inf_text.proofs.index.Index.longest.Goals as goal

pub slice_bounds-longest_of-end : goal.slice_bounds-longest_of-end
slice_bounds-longest_of-end c =
    let h = c.requires.indexed in
    let ordered : c.from-start.result ≤ c.from-end.result =
    rw (c.from-start.ensures, c.from-end.ensures) (h.ranges.ordered c.from-code.result) in
    let fits : c.from-end.result ≤ length c.as_slice.result.now =
    rw (c.as_slice.ensures.value, h.links, length-linked, c.from-end.ensures) (h.ranges.fits c.from-code.result) in
    search rules

pub longest_of-requires : goal.longest_of-requires
longest_of-requires c =
    let h = c.requires.indexed in
    rw (c.as_slice.ensures.value, h.links) (HaveLinks-part c.args.texts.now c.args.self.now.order.items c.from-start.result _ h.order.below)

pub returns : goal.returns
returns c =
    let h = c.requires.indexed in
    let code : c.from-code.result ≡ first_code c.args.items.now = c.from-code.ensures ∙ c.first_code.ensures in
    let part = best_of-part c.args.texts.now c.args.items.now c.args.self.now.order.items c.args.self.now.ranges c.from-start.result
    c.from-end.result c.requires.declared h.order h.ranges (rw (← code) c.from-start.ensures) (rw (← code) c.from-end.ensures) in
    rw (c.as_slice.ensures.value, h.links) at c.longest_of.ensures ∙ part

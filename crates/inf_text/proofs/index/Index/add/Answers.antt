use Rattle.std.proofs.Common.{◌∙◌, [], List, ℕ, ap}
use Rattle.inf_text.specs.Searching.{linked_from}
use Rattle.inf_text.proofs.Ranging.{IsOrder-more}
use Rattle.inf_text.proofs.index.Index.add.Goals as goal

pub linked-self-requires-clause-numbers : goal.linked-self-requires-clause-numbers
linked-self-requires-clause-numbers c =
    let fits = rw c.as_slice-2.ensures.value at c.place_of-place.ensures in
    let orders = IsOrder-more c.args.texts.now c.place_of-place.result c.args.self.now.sorted.items c.insert.new.self.items
    c.as_slice-3.result.now c.order_of-self.result.items c.linked-neighbours.result.items c.as_slice-4.result.now
    c.requires.some fits c.requires.sorted c.insert.ensures.items c.as_slice-3.ensures.value c.linked-neighbours.ensures
    c.as_slice-4.ensures.value c.order_of-self.ensures in
    rw c.as_slice-5.ensures.value (orders.1.below)

pub ranges_of-self-requires-clause-numbers : goal.ranges_of-self-requires-clause-numbers
ranges_of-self-requires-clause-numbers c =
    let fits = rw c.as_slice-2.ensures.value at c.place_of-place.ensures in
    let orders = IsOrder-more c.args.texts.now c.place_of-place.result c.args.self.now.sorted.items c.insert.new.self.items
    c.as_slice-3.result.now c.order_of-self.result.items c.linked-neighbours.result.items c.as_slice-4.result.now
    c.requires.some fits c.requires.sorted c.insert.ensures.items c.as_slice-3.ensures.value c.linked-neighbours.ensures
    c.as_slice-4.ensures.value c.order_of-self.ensures in
    rw c.as_slice-6.ensures.value (orders.1.below)

pub returns : goal.returns
returns c =
    let fits = rw c.as_slice-2.ensures.value at c.place_of-place.ensures in
    let orders = IsOrder-more c.args.texts.now c.place_of-place.result c.args.self.now.sorted.items c.insert.new.self.items
    c.as_slice-3.result.now c.order_of-self.result.items c.linked-neighbours.result.items c.as_slice-4.result.now
    c.requires.some fits c.requires.sorted c.insert.ensures.items c.as_slice-3.ensures.value c.linked-neighbours.ensures
    c.as_slice-4.ensures.value c.order_of-self.ensures in
    record {
      sorted = orders.0;
      order = orders.1;
      links = c.linked-self.ensures ∙ ap (λ (o : List ℕ). linked_from c.args.texts.now [] o) c.as_slice-5.ensures.value;
      ranges = rw c.as_slice-6.ensures.value at c.ranges_of-self.ensures;
    }

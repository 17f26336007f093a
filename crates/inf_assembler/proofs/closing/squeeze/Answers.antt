-- The kept entries are in order, and none of them is longer than while the routine was open.
use Rattle.std.proofs.Common.{◌≤◌, ◌+◌, ◌-◌, ◌∙◌, ap, get_or, take, drop, length, arith, sym}
use Rattle.inf_opcode.specs.{Cells.special_size, declared.cells.Kept.Kept, declared.cells.Special.Special}
use Rattle.inf_assembler.specs.Closing.{found, squeezed, placed_bytes}
use Rattle.inf_assembler.proofs.Passes.{order_step, closed_size, size_le, squeezed_step}
use Rattle.inf_assembler.proofs.Placing.{length-placed, take-placed}
use Rattle.inf_assembler.proofs.closing.squeeze.Goals as goal

abbrev nothing : Kept
nothing = record { place = 0; what = Special.Marks (record { number = 0 }) }

pub closed_special-requires : goal.closed_special-requires
closed_special-requires g c =
    let now = c.loop-entry.invariant in
    let order = order_step c.loop-entry.from c.loop-entry.entry-index (length (g.A.Area.bytes c.args.area.now)) c.args.kept.now nothing
    c.loop-entry-test.true now.order in
    omega (arith, now.ordered, order.0, order.2, c.len-end.ensures.value, c.len-end.type_inv)

pub returns-in_err-bytes-clause-within : goal.returns-in_err-bytes-clause-within
returns-in_err-bytes-clause-within g c =
    let now = c.loop-entry.invariant in
    let order = order_step c.loop-entry.from c.loop-entry.entry-index (length (g.A.Area.bytes c.args.area.now)) c.args.kept.now nothing
    c.loop-entry-test.true now.order in
    omega (arith, now.ordered, now.behind, order.0, order.2, now.long)

pub place_bytes-requires-clause-within : goal.place_bytes-requires-clause-within
place_bytes-requires-clause-within g c =
    let now = c.loop-entry.invariant in
    let order = order_step c.loop-entry.from c.loop-entry.entry-index (length (g.A.Area.bytes c.args.area.now)) c.args.kept.now nothing
    c.loop-entry-test.true now.order in
    omega (arith, order.2, now.long)

pub place_bytes-requires-clause-room : goal.place_bytes-requires-clause-room
place_bytes-requires-clause-room g c =
    let entry = get_or c.args.kept.now c.loop-entry.entry-index nothing in let now = c.loop-entry.invariant in
    let order = order_step c.loop-entry.from c.loop-entry.entry-index (length (g.A.Area.bytes c.args.area.now)) c.args.kept.now nothing
    c.loop-entry-test.true now.order in
    let size = closed_size (found c.args.long.now) (found c.args.places.now) entry.place _ entry.what _ c.in_ok-bytes.ensures in
    let small = size_le (found c.args.long.now) entry.place entry.what in
    omega (arith, now.ordered, order.0, order.2, now.long, size, small, ap length c.as_slice.ensures.value)

pub overflow_add-to : goal.overflow_add-to
overflow_add-to g c =
    let entry = get_or c.args.kept.now c.loop-entry.entry-index nothing in let now = c.loop-entry.invariant in
    let order = order_step c.loop-entry.from c.loop-entry.entry-index (length (g.A.Area.bytes c.args.area.now)) c.args.kept.now nothing
    c.loop-entry-test.true now.order in
    let size = closed_size (found c.args.long.now) (found c.args.places.now) entry.place _ entry.what _ c.in_ok-bytes.ensures in
    let small = size_le (found c.args.long.now) entry.place entry.what in
    omega (arith, now.ordered, order.0, order.2, size, small, c.len.ensures.value, c.len-end.ensures.value, c.len-end.type_inv)

pub overflow_add-from : goal.overflow_add-from
overflow_add-from g c =
    let now = c.loop-entry.invariant in
    let order = order_step c.loop-entry.from c.loop-entry.entry-index (length (g.A.Area.bytes c.args.area.now)) c.args.kept.now nothing
    c.loop-entry-test.true now.order in
    omega (arith, order.2, c.special_size.ensures, c.len-end.ensures.value, c.len-end.type_inv)

pub loop-entry-preserved : goal.loop-entry-preserved
loop-entry-preserved g c =
    let kept = c.args.kept.now in let i = c.loop-entry.entry-index in let entry = get_or kept i nothing in
    let now = c.loop-entry.invariant in
    let order = order_step c.loop-entry.from i (length (g.A.Area.bytes c.args.area.now)) kept nothing c.loop-entry-test.true now.order in
    let size = closed_size (found c.args.long.now) (found c.args.places.now) entry.place _ entry.what _ c.in_ok-bytes.ensures in
    let small = size_le (found c.args.long.now) entry.place entry.what in let to = c.loop-entry.to in
    let from = c.loop-entry.from in let n = entry.place - from in let xs = g.A.Area.bytes c.loop-entry.area in
    let added = c.as_slice.result.now in let items = c.in_ok-bytes.bytes.items in let same = c.as_slice.ensures.value in
    let within : from + n ≤ length xs = omega (arith, order.0, order.2, now.long) in
    let room : to + n + length added ≤ length xs = omega (arith, now.ordered, order.0, order.2, now.long, size, small, ap length same) in
    record {
      ordered = omega (arith, now.ordered, order.0, size, small, c.len.ensures.value, c.special_size.ensures);
      behind = omega (arith, now.behind);
      order = rw c.special_size.ensures order.1;
      long = ap length c.place_bytes.ensures ∙ length-placed to from n added xs now.ordered within room ∙ now.long;
      before = ap (take c.args.start) c.place_bytes.ensures ∙ take-placed to from n added xs now.ordered within room c.args.start now.behind
          ∙ now.before;
      left =
          ap (λ k. squeezed (found c.args.long.now) (found c.args.places.now) (entry.place + k) (to + n + c.len.result) (drop (i + 1) kept)
          (g.A.Area.bytes c.place_bytes.new.area)) c.special_size.ensures
          ∙ ap (λ k. squeezed (found c.args.long.now) (found c.args.places.now) (entry.place + special_size entry.what) (to + n + k)
          (drop (i + 1) kept) (g.A.Area.bytes c.place_bytes.new.area)) c.len.ensures.value
          ∙ ap (squeezed (found c.args.long.now) (found c.args.places.now) (entry.place + special_size entry.what) (to + n + length items)
          (drop (i + 1) kept)) (c.place_bytes.ensures ∙ ap (λ ys. placed_bytes to from n ys xs) same)
          ∙ sym (squeezed_step (found c.args.long.now) (found c.args.places.now) from to i kept nothing xs items c.loop-entry-test.true
          c.in_ok-bytes.ensures) ∙ now.left;
    }

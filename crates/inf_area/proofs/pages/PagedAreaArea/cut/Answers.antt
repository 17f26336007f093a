-- The bytes behind the cut move to the front, and the end is given up.
use Rattle.std.proofs.Common.{◌≡◌, ℕ, List, ◌≤◌, ◌+◌, ◌-◌, ◌∙◌, ap, length, take, sym, arith, length-take}
use Rattle.std.proofs.lemmas.List.{take-take}
use Rattle.inf_area.specs.{Moves.moved, Pages.page_bytes}
use Rattle.inf_area.proofs.Moving.{take_moved, moved_length}
use Rattle.inf_area.proofs.pages.PagedAreaArea.cut.Goals as goal

-- the end is within the pages
kept_of : (len end at n : ℕ) (bytes now : List ℕ) → end ≡ length now → at + n ≤ length now →
    take len bytes ≡ moved at (at + n) (end - (at + n)) now → end - n ≤ len
kept_of len end at n bytes now e within known =
    let left = end - (at + n) in
    omega (arith, length-take len bytes, ap length known, moved_length at (at + n) left now (omega arith) (omega arith))

pub invariant_of-self : goal.invariant_of-self
invariant_of-self c =
    let kept = kept_of c.self.inside.len c.len-end.result c.args.at c.args.n (page_bytes c.self.inside.pages.items) c.args.self.now
    c.len-end.ensures.value c.requires (c.self.view_is ∙ c.move_left.ensures) in
    record { whole = c.self.invariant.whole; within = omega (arith, c.self.invariant.within); counted = c.self.invariant.counted }

pub returns : goal.returns
returns c =
    let now = c.args.self.now in let at = c.args.at in let n = c.args.n in let end = c.len-end.result in
    let bytes = page_bytes c.self.inside.pages.items in let len = c.self.inside.len in let left = end - (at + n) in
    let known = c.self.view_is ∙ c.move_left.ensures in
    let whole : at + n + left ≡ length now = omega (arith, c.len-end.ensures.value, c.requires) in
    let kept = kept_of len end at n bytes now c.len-end.ensures.value c.requires known in
    let place : end - n ≡ at + left = omega (arith, c.len-end.ensures.value, c.requires) in
    sym (take-take (end - n) len bytes kept) ∙ ap (take (end - n)) known ∙ ap (λ k. take k (moved at (at + n) left now)) place
    ∙ take_moved at (at + n) left now (omega arith) whole

-- One more byte is moved.
use Rattle.std.proofs.Common.{◌≡◌, ◌+◌, ◌-◌, ◌∙◌, ap, get_or, set, length, refl, sym, arith, length-set}
use Rattle.inf_area.specs.Moves.{moved}
use Rattle.inf_area.proofs.Moving.{moved_get, moved_more, moved_none}
use Rattle.inf_area.proofs.areas.Area.move_left.Goals as goal

pub loop-at-init : goal.loop-at-init
loop-at-init g c = record {
  long = refl;
  moved = moved_none c.args.to c.args.from (c.args.from - c.args.from) (g.Self.Area.bytes c.args.self.now)
      (omega arith) (omega arith) (omega (arith, c.requires.ordered, c.requires.within));
}

pub loop-at-preserved : goal.loop-at-preserved
loop-at-preserved g c =
    let before = g.Self.Area.bytes c.args.self.now in let to = c.args.to in let from = c.args.from in
    let at = c.loop-at.at in let k = at - from in let place : from + k ≡ at = omega arith in
    let target : at - (from - to) ≡ to + k = omega arith in let next : k + 1 ≡ at + 1 - from = omega arith in
    let step = c.loop-at.invariant in
    let read = c.byte-byte.ensures ∙ ap (λ xs. get_or xs at 0) step.moved ∙ ap (λ i. get_or (moved to from k before) i 0) (sym place)
    ∙ moved_get to from k before c.requires.before (omega arith) in
    record {
      long = ap length c.patch_byte.ensures ∙ length-set _ _ _ ∙ step.long;
      moved = c.patch_byte.ensures ∙ ap (λ xs. set xs (at - (from - to)) c.byte-byte.result) step.moved
          ∙ ap (λ i. set (moved to from k before) i c.byte-byte.result) target
          ∙ moved_more to from k c.byte-byte.result before c.requires.before (omega arith) read ∙ ap (λ i. moved to from i before) next;
    }

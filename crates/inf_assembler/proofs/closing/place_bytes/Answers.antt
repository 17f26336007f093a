-- One more byte is written behind those that were moved.
use Rattle.std.proofs.Common.{◌≡◌, ◌+◌, ◌-◌, ◌∙◌, ◌++◌, refl, ap, get_or, set, take, drop, length, arith}
use Rattle.std.proofs.lemmas.List.{take_all}
use Rattle.inf_area.specs.Moves.{moved}
use Rattle.inf_assembler.proofs.Placing.{written_more, written_none, placed_is, length-moved}
use Rattle.inf_assembler.proofs.closing.place_bytes.Goals as goal

pub loop-byte-init : goal.loop-byte-init
loop-byte-init g c = record {
  at = omega arith;
  bytes = c.move_left.ensures ∙ written_none (c.args.to + (c.args.end - c.args.from)) 0 c.args.added.now _ refl;
}

pub overflow_add-at-in-loop-byte : goal.overflow_add-at-in-loop-byte
overflow_add-at-in-loop-byte g c = omega (arith, c.requires.room, c.requires.fits, c.loop-byte.invariant.at, c.loop-byte-test.true)

pub loop-byte-preserved : goal.loop-byte-preserved
loop-byte-preserved g c =
    let to = c.args.to in let n = c.args.end - c.args.from in let i = c.loop-byte.byte-index in
    let byte = get_or c.args.added.now i 0 in let xs = g.A.Area.bytes c.args.area.now in
    let ys = moved to c.args.from n xs in
    let long : length ys ≡ length xs =
    length-moved to c.args.from n xs c.requires.before (omega (arith, c.requires.within, c.requires.ordered)) in
    record {
      at = omega (arith, c.loop-byte.invariant.at);
      bytes = c.patch_byte.ensures ∙ ap (λ k. set (g.A.Area.bytes c.loop-byte.area) k byte) c.loop-byte.invariant.at
          ∙ written_more (to + n) i byte c.args.added.now ys (g.A.Area.bytes c.loop-byte.area) c.loop-byte.invariant.bytes
          c.loop-byte-test.true (omega (arith, long, c.requires.room, c.loop-byte-test.true)) refl;
    }

pub returns : goal.returns
returns g c =
    let to = c.args.to in let n = c.args.end - c.args.from in let i = c.loop-byte.byte-index in
    let xs = g.A.Area.bytes c.args.area.now in let added = c.args.added.now in
    let all : i ≡ length added = omega (arith, c.loop-byte-test.false, c.loop-byte.auto.byte-index-end) in
    c.loop-byte.invariant.bytes
    ∙ ap (λ k. take (to + n) (moved to c.args.from n xs) ++ take k added ++ drop (to + n + k) (moved to c.args.from n xs)) all
    ∙ ap (λ zs. take (to + n) (moved to c.args.from n xs) ++ zs ++ drop (to + n + length added) (moved to c.args.from n xs))
    (take_all (length added) added (omega arith))
    ∙ placed_is to c.args.from n added xs c.requires.before (omega (arith, c.requires.within, c.requires.ordered))

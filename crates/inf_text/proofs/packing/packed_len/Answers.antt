use Rattle.std.proofs.Common.{◌≡◌, [], length, arith, refl, option_copied}
use Rattle.std.proofs.lemmas.List.{nil_from_length}
use Rattle.inf_text.specs.Packing.{in_use, packed, zs_from}
use Rattle.inf_text.proofs.Lengths.{length-words}
use Rattle.inf_text.proofs.packing.packed_len.Goals as goal

pub returns-then-count-eq0 : goal.returns-then-count-eq0
unfolding packed
returns-then-count-eq0 c =
    let empty : c.loop-zs.items.now ≡ [] = c.in_default.ensures.steps in
    let zs = zs_from (in_use (option_copied c.args.abbreviations)) 0 c.as_slice-items.result.now in
    let none : length zs ≡ 0 = omega (arith, rw empty at c.loop-zs.invariant.value) in
    rw (← c.as_slice-items.ensures.value, nil_from_length zs none) refl

pub returns-else-count-eq0 : goal.returns-else-count-eq0
unfolding packed
returns-else-count-eq0 c =
    let empty : c.loop-zs.items.now ≡ [] = c.in_default.ensures.steps in
    let zs = zs_from (in_use (option_copied c.args.abbreviations)) 0 c.as_slice-items.result.now in
    let all : c.loop-zs.count ≡ length zs = omega (arith, rw empty at c.loop-zs.invariant.value) in
    rw (← c.as_slice-items.ensures.value, all) (length-words zs (omega arith))

use Rattle.std.proofs.Common.{◌≡◌, [], option_copied}
use Rattle.inf_text.specs.Packer.{completed}
use Rattle.inf_text.specs.Packing.{in_use, packed, words, zs_from}
use Rattle.inf_text.proofs.packing.pack_short.Goals as goal

pub returns-clause-bytes : goal.returns-clause-bytes
unfolding packed
returns-clause-bytes c =
    let empty : c.loop-zs.items.now ≡ [] = c.in_default.ensures.steps in
    let all = zs_from (in_use (option_copied c.args.abbreviations)) 0 c.args.text.now in
    let whole : completed (c.loop-zs.bytes.items, c.loop-zs.waiting) [] ≡ words all =
    rw (← c.as_slice-items.ensures.value) (rw empty at c.loop-zs.invariant.value) in
    rw (← whole) c.finish.ensures

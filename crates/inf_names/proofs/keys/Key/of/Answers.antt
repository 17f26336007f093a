use Rattle.std.proofs.Common.{◌≡◌, ◌++◌, ◌∙◌, ap, arith, drop, length, map, replicate}
use Rattle.std.specs.Char.{to_ascii_lowercase}
use Rattle.inf_names.proofs.KeyBytes.{all_folded, name_before, zeros_behind}
use Rattle.inf_names.proofs.keys.Key.of.Goals as goal

pub invariant_of-result : goal.invariant_of-result
invariant_of-result c =
    let name = c.args.name.now in let items = c.loop-byte.byte-items in
    let all : items ≡ map to_ascii_lowercase (name ++ drop (length name) (replicate 40 0)) =
    all_folded items _ c.loop-byte.byte-index (omega (arith, c.loop-byte-test.array_long)) (c.loop-byte.invariant
    ∙ ap (λ front. map to_ascii_lowercase (front ++ drop (length name) (replicate 40 0))) c.copy_from_slice.ensures.after) in
    (c.requires, zeros_behind name items all)

pub returns : goal.returns
returns c =
    let name = c.args.name.now in let items = c.loop-byte.byte-items in
    let all : items ≡ map to_ascii_lowercase (name ++ drop (length name) (replicate 40 0)) =
    all_folded items _ c.loop-byte.byte-index (omega (arith, c.loop-byte-test.array_long)) (c.loop-byte.invariant
    ∙ ap (λ front. map to_ascii_lowercase (front ++ drop (length name) (replicate 40 0))) c.copy_from_slice.ensures.after) in
    name_before name items all

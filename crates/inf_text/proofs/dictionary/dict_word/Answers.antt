use Rattle.std.proofs.Common.{◌≡◌, ◌≤◌, ◌+◌, ◌++◌, ◌∙◌, ap, sym, [], ◌∷◌, length, drop, take, replicate, arith}
use Rattle.std.proofs.lemmas.List.{drop_more, drop_all}
use Rattle.inf_characters.specs.{Items.lowered, declared.texts.TextItem.TextItem}
use Rattle.inf_text.specs.Packing.{dictionary_bytes, dictionary_zs, item_zs, words, zs_list}
use Rattle.inf_text.proofs.Fronts.{Gives-more}
use Rattle.inf_text.proofs.dictionary.dict_word.Goals as goal

pub loop-item-preserved : goal.loop-item-preserved
loop-item-preserved c =
    let items = c.as_slice-item-items.result.now in let i = c.loop-item.item-index in let x = c.item-item.result in
    let zs : zs_list c.item_zs.result ≡ item_zs (lowered x) = c.item_zs.ensures.value ∙ ap item_zs c.to_ascii_lowercase.ensures.value in
    Gives-more c.loop-item.front _ _ (drop i items) (drop (i + 1) items) items x
    (drop_more items i x c.loop-item-test.true ∙ ap (λ (y : TextItem). y ∷ drop (i + 1) items) (sym c.item-item.is)) zs
    c.push_all.ensures c.loop-item.invariant

pub returns : goal.returns
unfolding dictionary_bytes
returns c =
    let items = c.as_slice-item-items.result.now in let past : length items ≤ c.loop-item.item-index = omega arith in
    let none : drop c.loop-item.item-index items ≡ [] = drop_all c.loop-item.item-index items past in
    let whole : take 9 (c.loop-item.front ++ replicate 9 5) ≡ dictionary_zs items = rw none at c.loop-item.invariant.value in
    c.bytes.ensures ∙ ap words (whole ∙ ap dictionary_zs c.as_slice-item-items.ensures.value)

use Rattle.std.proofs.Common.{◌≡◌, ◌<◌, ◌≤◌, ◌+◌, ◌∷◌, ◌∙◌, ℕ, zero, suc, List, ap, subst, sym, [], length, drop, get_or, arith}
use Rattle.std.proofs.lemmas.List.{drop_more, drop_all}
use Rattle.inf_characters.specs.{Items.IsItem, Items.IsText, declared.texts.TextItem.TextItem}
use Rattle.inf_text.specs.{Packer.completed, Packing.packed, Packing.words, Packing.zs_from}
use Rattle.inf_text.proofs.Stepping.{plain-more}
use Rattle.inf_text.proofs.packing.pack_plain.Goals as goal

-- an element of a text is an item
item_of : (items : List TextItem) (i : ℕ) (e : TextItem) → IsText items → i < length items → IsItem (get_or items i e)
item_of [] i e text within = absurd (omega arith)
item_of (x ∷ items) zero e text within = text.0
item_of (x ∷ items) (suc i) e text within = item_of items i e text.1 (omega arith)

pub item_zs-requires : goal.item_zs-requires
item_zs-requires c =
    let items = c.as_slice-item-items.result.now in
    let text : IsText items = subst IsText (sym c.as_slice-item-items.ensures.value) c.as_slice-item-items.ensures.text in
    subst IsItem (sym c.item-item.is) (item_of items c.loop-item.item-index c.item-item.result text c.loop-item-test.true)

pub loop-item-preserved : goal.loop-item-preserved
loop-item-preserved c =
    let items = c.as_slice-item-items.result.now in let i = c.loop-item.item-index in let x = c.item-item.result in
    plain-more (c.loop-item.bytes.items, c.loop-item.waiting) _ _ (drop i items) (drop (i + 1) items) items x
    (drop_more items i x c.loop-item-test.true ∙ ap (λ (y : TextItem). y ∷ drop (i + 1) items) (sym c.item-item.is))
    c.item_zs.ensures.value c.in_ok-waiting.ensures c.loop-item.invariant

pub returns-clause-bytes : goal.returns-clause-bytes
unfolding packed
returns-clause-bytes c =
    let items = c.as_slice-item-items.result.now in let past : length items ≤ c.loop-item.item-index = omega arith in
    let none : drop c.loop-item.item-index items ≡ [] = drop_all c.loop-item.item-index items past in
    let whole : completed (c.loop-item.bytes.items, c.loop-item.waiting) [] ≡ words (zs_from [] 0 c.args.text.now) =
    rw (← c.as_slice-item-items.ensures.value) (rw none at c.loop-item.invariant) in
    rw (← whole) c.finish.ensures

-- One more page.
use Rattle.std.proofs.Common.{◌≡◌, ◌+◌, ◌-◌, ◌++◌, ◌∙◌, ap, append_assoc, arith, drop, get_or, length, suc, sym, take}
use Rattle.inf_area.specs.Pages.{page_bytes}
use Rattle.inf_area.proofs.Paging.{take_page, whole_get}
use Rattle.inf_area.proofs.pages.append_pages.Goals as goal

pub append_front-requires-whole : goal.append_front-requires-whole
append_front-requires-whole c κs = (
  ap (λ page. length page.value) c.page-item.is
      ∙ whole_get _ (λ page. page.value) c.args.pages.now c.loop-page.page-index _ c.requires c.loop-page-test.true,
  omega (arith, c.min-count.ensures),
)

pub loop-page-preserved : goal.loop-page-preserved
loop-page-preserved c =
    let pages = c.args.pages.now in let i = c.loop-page.page-index in let left = c.loop-page.left in
    let count = c.min-count.result in let out = c.loop-page.out.items in let page = c.page-item.result in
    let own = take count (get_or pages i page).value in
    let here : take count page.value ≡ own = ap (λ page. take count page.value) c.page-item.is in
    let next : i + 1 ≡ suc i = omega arith in
    ap (λ xs. xs ++ take (left - count) (page_bytes (drop (i + 1) pages))) (c.in_ok-append_front.ensures ∙ ap (λ xs. out ++ xs) here)
    ∙ append_assoc out own (take (left - count) (page_bytes (drop (i + 1) pages)))
    ∙ ap (λ k. out ++ (own ++ take (left - count) (page_bytes (drop k pages)))) next ∙ ap (λ xs. out ++ xs)
    (sym (take_page _ (λ page. page.value) pages i left count page c.requires c.loop-page-test.true c.min-count.ensures))
    ∙ c.loop-page.invariant

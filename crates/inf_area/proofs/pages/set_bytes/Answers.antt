-- The places are those of one page.
use Rattle.std.proofs.Common.{◌≡◌, ◌+◌, ◌*◌, ◌/◌, ◌%◌, ◌∙◌, ap, length, arith}
use Rattle.inf_area.specs.Pages.{page_bytes, with_bytes}
use Rattle.inf_area.proofs.Paging.{length-with_bytes, page_put, whole_get, whole_set}
use Rattle.inf_area.proofs.pages.set_bytes.Goals as goal

pub set_in_page-requires-whole : goal.set_in_page-requires-whole
set_in_page-requires-whole c κs = (
  whole_get _ (λ page. page.value) c.args.pages.now (c.args.at / 1024) _ c.requires.whole (omega (arith, c.requires.within)),
  c.requires.room,
)

pub returns-clause-bytes : goal.returns-clause-bytes
returns-clause-bytes c =
    let pages = c.args.pages.now in let at = c.args.at in
    let place : 1024 * (at / 1024) + at % 1024 ≡ at = omega arith in
    page_put _ (λ page. page.value) pages (at / 1024) (at % 1024) c.args.bytes.now _ _ c.requires.whole c.requires.room
    (omega (arith, c.requires.within)) c.set_in_page.ensures ∙ ap (λ i. with_bytes (page_bytes pages) i c.args.bytes.now) place

pub returns-clause-whole : goal.returns-clause-whole
returns-clause-whole c =
    let pages = c.args.pages.now in let p = c.args.at / 1024 in
    let whole = whole_get _ (λ page. page.value) pages p _ c.requires.whole (omega (arith, c.requires.within)) in
    whole_set _ (λ page. page.value) pages p _ c.requires.whole
    (ap length c.set_in_page.ensures ∙ length-with_bytes _ (c.args.at % 1024) c.args.bytes.now (omega (arith, c.requires.room, whole)) ∙ whole)

-- A place is one of its page.
use Rattle.std.proofs.Common.{◌≡◌, ◌+◌, ◌*◌, ◌/◌, ◌%◌, ◌∙◌, ap, get_or, sym, arith}
use Rattle.inf_area.specs.Pages.{page_bytes}
use Rattle.inf_area.proofs.Paging.{page_get}
use Rattle.inf_area.proofs.pages.byte_at.Goals as goal

pub returns : goal.returns
returns c =
    let pages = c.args.pages.now in let at = c.args.at in
    let place : 1024 * (at / 1024) + at % 1024 ≡ at = omega arith in
    ap (λ bytes. get_or bytes (at % 1024) 0) (c.deref.ensures ∙ ap (λ page. page.value) c.index-pages-at.is)
    ∙ sym (page_get _ (λ page. page.value) pages (at / 1024) (at % 1024) _ c.requires.whole (omega arith)
    (omega (arith, c.requires.within))) ∙ ap (λ i. get_or (page_bytes pages) i 0) place

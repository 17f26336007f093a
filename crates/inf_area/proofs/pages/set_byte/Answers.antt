-- A place is one of its page.
use Rattle.std.proofs.Common.{◌≡◌, ◌+◌, ◌*◌, ◌/◌, ◌%◌, ◌∙◌, ap, set, arith}
use Rattle.inf_area.specs.Pages.{page_bytes}
use Rattle.inf_area.proofs.Paging.{page_set}
use Rattle.inf_area.proofs.pages.set_byte.Goals as goal

pub returns-clause-bytes : goal.returns-clause-bytes
returns-clause-bytes c =
    let pages = c.args.pages.now in let at = c.args.at in
    let place : 1024 * (at / 1024) + at % 1024 ≡ at = omega arith in
    page_set _ (λ page. page.value) pages (at / 1024) (at % 1024) c.args.byte c.index-pages-at.result _ c.requires.whole (omega arith)
    (omega (arith, c.requires.within)) (ap (λ bytes. set bytes (at % 1024) c.args.byte) (c.deref_mut.ensures.value))
    ∙ ap (λ i. set (page_bytes pages) i c.args.byte) place

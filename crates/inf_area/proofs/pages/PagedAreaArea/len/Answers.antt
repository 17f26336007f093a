-- The bytes are those of the pages up to the length.
use Rattle.std.proofs.Common.{◌∙◌, ap, length, sym, arith, length-take-le}
use Rattle.inf_area.specs.Pages.{page_bytes}
use Rattle.inf_area.proofs.Paging.{length-pages}
use Rattle.inf_area.proofs.pages.PagedAreaArea.len.Goals as goal

pub returns-clause-value : goal.returns-clause-value
returns-clause-value c =
    let pages = c.self.inside.pages.items in
    sym (length-take-le c.self.inside.len (page_bytes pages)
    (omega (arith, length-pages _ (λ page. page.value) pages c.self.invariant.whole, c.self.invariant.within))) ∙ ap length c.self.view_is

pub returns-clause-small : goal.returns-clause-small
returns-clause-small c = omega (arith, c.self.invariant.within, c.self.invariant.counted)

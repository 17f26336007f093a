-- One byte is set.
use Rattle.std.proofs.Common.{◌∙◌, ap, set, take}
use Rattle.inf_area.specs.Pages.{page_bytes}
use Rattle.inf_area.proofs.Paging.{take_set, take_written}
use Rattle.inf_area.proofs.pages.PagedAreaArea.patch_byte.Goals as goal

pub returns : goal.returns
returns c =
    let pages = c.self.inside.pages in let len = c.self.inside.len in
    take_written len pages c.set_byte.new.pages (c.set_byte.auto.pages ∙ c.as_mut_slice.ensures.len)
    ∙ ap (take len) (c.set_byte.ensures.bytes ∙ ap (λ ps. set (page_bytes ps) c.args.at c.args.byte) c.as_mut_slice.ensures.value)
    ∙ take_set len c.args.at c.args.byte (page_bytes pages.items) ∙ ap (λ xs. set xs c.args.at c.args.byte) c.self.view_is

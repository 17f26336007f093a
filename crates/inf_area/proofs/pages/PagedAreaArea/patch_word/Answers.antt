-- Two bytes are set.
use Rattle.std.proofs.Common.{◌∙◌, ◌+◌, ap, get_or, set, take}
use Rattle.inf_area.specs.Pages.{page_bytes}
use Rattle.inf_area.proofs.Paging.{take_set, take_written}
use Rattle.inf_area.proofs.pages.PagedAreaArea.patch_word.Goals as goal

pub returns : goal.returns
returns c =
    let pages = c.self.inside.pages in let len = c.self.inside.len in let at = c.args.at in
    let high = get_or c.word_bytes.result 0 0 in let low = get_or c.word_bytes.result 1 0 in
    take_written len pages c.set_byte-2.new.pages (c.set_byte-2.auto.pages ∙ c.set_byte.auto.pages ∙ c.as_mut_slice-pages.ensures.len)
    ∙ ap (take len) (c.set_byte-2.ensures.bytes ∙ ap (λ xs. set xs (at + 1) low)
    (c.set_byte.ensures.bytes ∙ ap (λ ps. set (page_bytes ps) at high) c.as_mut_slice-pages.ensures.value))
    ∙ take_set len (at + 1) low (set (page_bytes pages.items) at high)
    ∙ ap (λ xs. set xs (at + 1) low) (take_set len at high (page_bytes pages.items))
    ∙ ap (λ xs. set (set xs at high) (at + 1) low) c.self.view_is
    ∙ ap (λ bytes. set (set c.args.self.now at (get_or bytes 0 0)) (at + 1) (get_or bytes 1 0)) c.word_bytes.ensures

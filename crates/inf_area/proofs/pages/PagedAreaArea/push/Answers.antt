-- There is a page for the byte.
use Rattle.std.proofs.Common.{◌≡◌, ◌<◌, ◌+◌, ◌∷◌, [], ◌++◌, ◌∙◌, ap, length, take, set, arith}
use Rattle.std.proofs.lemmas.List.{take_more_set}
use Rattle.inf_area.specs.Pages.{page_bytes}
use Rattle.inf_area.proofs.Paging.{length-pages, take_written}
use Rattle.inf_area.proofs.pages.PagedAreaArea.push.Goals.{then-self-len+in_ok-add_page, else-self-len}
use Rattle.inf_area.proofs.pages.PagedAreaArea.push.Goals as goal

pub returns-clause-ok : goal.returns-clause-ok
returns-clause-ok c =
    let now = c.if-self-len.self-inside in
    let before : (now.len < length (page_bytes now.pages.items)) × (take now.len (page_bytes now.pages.items) ≡ c.args.self.now) =
    elim c.if-self-len.branch [
      | then-self-len+in_ok-add_page w ↦ rw w.self-inside-is (
        omega (
          arith,
          length-pages _ (λ page. page.value) w.add_page.new.pages.items w.in_ok-add_page.ensures.whole,
          w.in_ok-add_page.ensures.count,
          c.self.invariant.within,
        ),
        w.in_ok-add_page.ensures.bytes c.self.inside.len c.self.invariant.within ∙ c.self.view_is,
      )
      | else-self-len w ↦ rw w.self-inside-is (
        omega (
          arith,
          length-pages _ (λ page. page.value) c.self.inside.pages.items c.self.invariant.whole,
          w.if-self-len.false,
          c.len.ensures,
          c.self.inside.pages.ok.0,
        ),
        c.self.view_is,
      )
    ] in
    take_written _ now.pages c.set_byte.new.pages (c.set_byte.auto.pages ∙ c.as_mut_slice.ensures.len)
    ∙ ap (take (now.len + 1)) (c.set_byte.ensures.bytes ∙ ap (λ ps. set (page_bytes ps) now.len c.args.byte) c.as_mut_slice.ensures.value)
    ∙ take_more_set (page_bytes now.pages.items) now.len c.args.byte before.0 ∙ ap (λ xs. xs ++ c.args.byte ∷ []) before.1

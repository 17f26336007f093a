-- There is a page for the first byte, and the others are as many as it has room for.
use Rattle.std.proofs.Common.{◌≡◌, ◌≤◌, ◌+◌, ◌++◌, ◌∙◌, ap, length, length-take, take, arith}
use Rattle.inf_area.specs.Pages.{page_bytes, with_bytes}
use Rattle.inf_area.proofs.Paging.{length-pages, take-with_bytes, take_written}
use Rattle.inf_area.proofs.pages.PagedArea.append_piece.Goals.{then-self-len+in_ok-add_page, else-self-len}
use Rattle.inf_area.proofs.pages.PagedArea.append_piece.Goals as goal

pub returns-clause-ok : goal.returns-clause-ok
returns-clause-ok c =
    let now = c.if-self-len.self-inside in
    let count = c.min-count.result in let piece = take count c.args.added.now in
    let before : (now.len + length piece ≤ length (page_bytes now.pages.items)) × (take now.len (page_bytes now.pages.items) ≡ c.args.self.now) =
    elim c.if-self-len.branch [
      | then-self-len+in_ok-add_page w ↦ rw w.self-inside-is (
        omega (
          arith,
          ap (λ inside. inside.len) w.self-inside-is,
          length-take count c.args.added.now,
          c.min-count.ensures,
          length-pages _ (λ page. page.value) w.add_page.new.pages.items w.in_ok-add_page.ensures.whole,
          w.in_ok-add_page.ensures.count,
          c.self.invariant.within,
        ),
        w.in_ok-add_page.ensures.bytes c.self.inside.len c.self.invariant.within ∙ c.self.view_is,
      )
      | else-self-len w ↦ rw w.self-inside-is (
        omega (
          arith,
          ap (λ inside. inside.len) w.self-inside-is,
          length-take count c.args.added.now,
          c.min-count.ensures,
          length-pages _ (λ page. page.value) c.self.inside.pages.items c.self.invariant.whole,
          w.if-self-len.false,
          c.len.ensures,
          c.self.inside.pages.ok.0,
        ),
        c.self.view_is,
      )
    ] in
    let long : now.len + count ≡ now.len + length piece = omega (arith, length-take count c.args.added.now, c.min-count.ensures) in
    take_written _ now.pages c.set_bytes.new.pages (c.set_bytes.auto.pages ∙ c.as_mut_slice.ensures.len)
    ∙ ap (take (now.len + count)) (c.set_bytes.ensures.bytes ∙ ap (λ ps. with_bytes (page_bytes ps) now.len piece) c.as_mut_slice.ensures.value)
    ∙ ap (λ n. take n (with_bytes (page_bytes now.pages.items) now.len piece)) long
    ∙ take-with_bytes (page_bytes now.pages.items) now.len piece before.0 ∙ ap (λ xs. xs ++ piece) before.1

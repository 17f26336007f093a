use Rattle.std.proofs.Common.{◌≡◌, ◌++◌, drop, take}
use Rattle.inf_area.specs.Pages.{page_bytes}
use Rattle.inf_area.proofs.pages.append_pages.Given as goal

-- what is appended, and what is left of the other pages, are all the bytes
abbrev pub invariant-loop-page : goal.invariant-loop-page
invariant-loop-page l =
    l.out.items ++ take l.left (page_bytes (drop l.page-index l.pages)) ≡ l.fn.out.items ++ take l.len (page_bytes l.pages)

-- The bytes of the pages before stay.
use Rattle.std.proofs.Common.{◌∙◌, ap, take}
use Rattle.inf_area.specs.Pages.{page_bytes}
use Rattle.inf_area.proofs.Paging.{take_push}
use Rattle.inf_area.proofs.pages.add_page.Goals as goal

pub returns-clause-bytes : goal.returns-clause-bytes
returns-clause-bytes c = λ n within. ap (λ pages. take n (page_bytes pages)) c.in_ok-push.ensures.items
    ∙ take_push _ (λ page. page.value) c.args.pages.now.items _ n c.requires within

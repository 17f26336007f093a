use Rattle.std.proofs.Common.{append-nil, [], refl, sym}
use Rattle.inf_area.proofs.pages.PagedAreaArea.append.Goals as goal

pub loop-rest-init : goal.loop-rest-init
loop-rest-init c = record { seen = []; now_is = sym (append-nil c.args.self.now); added_is = refl }

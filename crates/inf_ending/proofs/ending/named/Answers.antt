use Rattle.std.proofs.Common.{option_map, ◌≡◌, IfOk, List, Option, ap, subst, sym}
use Rattle.inf_area.specs.declared.targets.Value.{Value}
use Rattle.inf_ending.specs.Ending.{named, seen}
use Rattle.inf_ending.proofs.ending.named.Goals as goal

pub returns-in-None : goal.returns-in-None
returns-in-None g c =
    let a = c.args in
    subst (λ (v : Option (List Value)). IfOk c.failed.result
    (λ t. seen t ≡ named a.told a.files.now.names a.main a.code a.contents.strings a.contents.tables a.report v))
    (ap (λ o. option_map (λ v. v.items) o) (sym c.in-None.is)) c.failed.ensures

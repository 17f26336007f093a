use Rattle.std.proofs.Common.{map, ap, ◌∙◌, arith, string_bytes, string_eq}
use Rattle.indexmap.specs.IndexSet.{insert_key}
use Rattle.inf_devices.specs.Files.{with_name}
use Rattle.inf_devices.proofs.NamesOpened.{added_to, of_ok}
use Rattle.inf_devices.proofs.opened_names.OpenedNames.add.Goals as goal

pub returns-clause-ok : goal.returns-clause-ok
returns-clause-ok c =
    let name = c.in_ok-name.name in
    let keys = of_ok c.insert.result _ (c.insert.ensures.succeeds (omega (arith, c.in_ok-reserve.ensures.ok))) c.insert.ensures.keys in
    ap (λ ks. map string_bytes ks) (keys ∙ ap (λ ks. insert_key string_eq ks name) c.in_ok-reserve.ensures.keys)
    ∙ added_to c.self.inside.names.keys name ∙ ap (λ n. with_name n (map string_bytes c.self.inside.names.keys)) c.in_ok-name.ensures.ok
    ∙ ap (with_name c.args.name.now) c.self.view_is

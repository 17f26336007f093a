use Rattle.std.proofs.Common.{List, ℕ, ap, ◌∙◌}
use Rattle.std.specs.{List.list_any, Str.bytes_eq}
use Rattle.inf_devices.proofs.NamesOpened.{any_in}
use Rattle.inf_devices.proofs.opened_names.OpenedNames.has.Goals as goal

pub returns : goal.returns
returns c =
    let name = c.args.name.now in
    c.contains.ensures ∙ any_in (bytes_eq name) c.self.inside.names.keys
    ∙ ap (λ (names : List (List ℕ)). list_any (bytes_eq name) names) c.self.view_is

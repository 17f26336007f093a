-- The keys of the set are the list of names.
use Rattle.std.proofs.Common.{◌∙◌, ap}
use Rattle.std.specs.{List.list_any, Str.bytes_eq}
use Rattle.inf_names.specs.NameSets.{is_among}
use Rattle.inf_names.proofs.NameLists.{any-spelled, spelled}
use Rattle.inf_names.proofs.name_sets.NameSet.has.Goals as goal

pub returns : goal.returns
returns c =
    let keys = c.self.inside.keys.keys in
    c.contains.ensures ∙ any-spelled c.of-key.result.items keys ∙ ap (λ k. list_any (bytes_eq k) (spelled keys)) c.of-key.ensures
    ∙ ap (is_among c.args.name.now) c.self.view_is

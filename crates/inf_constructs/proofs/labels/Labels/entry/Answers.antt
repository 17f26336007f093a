-- The code finds the label that the definition finds.
use Rattle.std.proofs.Common.{List, sym, ◌∙◌, ap, option_map}
use Rattle.inf_constructs.specs.{Entries.known, Labels.NamedLabel, Labels.known_of}
use Rattle.inf_constructs.proofs.Named.{known-copied, known_of-lookup}
use Rattle.inf_constructs.proofs.labels.Labels.entry.Goals as goal

pub returns : goal.returns
returns c =
    let es = c.self.inside.entries.entries in
    known-copied c.get.result ∙ ap (option_map known) c.get.ensures.value ∙ sym (known_of-lookup c.folded-key.result.items es)
    ∙ ap (λ (labels : List NamedLabel). known_of c.folded-key.result.items labels) c.self.view_is
    ∙ ap (λ k. known_of k c.args.self.now) c.folded-key.ensures

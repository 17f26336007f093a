-- The code has the entries in the order of the labels.
use Rattle.std.proofs.Common.{List, sym, ◌∙◌, ap, option_map}
use Rattle.inf_constructs.specs.{Entries.known, Labels.NamedLabel, Labels.known_at}
use Rattle.inf_constructs.proofs.Named.{known_at-get}
use Rattle.inf_constructs.proofs.labels.Labels.entry_at.Goals as goal

pub returns-in_err-entry : goal.returns-in_err-entry
returns-in_err-entry c = ap (option_map (λ e. known e.now)) c.from_residual.ensures
    ∙ ap (option_map (λ e. known e.1)) c.in_err-entry.ensures.entry ∙ sym (known_at-get c.args.place c.self.inside.entries.entries)
    ∙ ap (λ (labels : List NamedLabel). known_at c.args.place labels) c.self.view_is

pub returns : goal.returns
returns c = ap (option_map (λ e. known e.1)) c.in_ok-entry.ensures.entry ∙ sym (known_at-get c.args.place c.self.inside.entries.entries)
    ∙ ap (λ (labels : List NamedLabel). known_at c.args.place labels) c.self.view_is

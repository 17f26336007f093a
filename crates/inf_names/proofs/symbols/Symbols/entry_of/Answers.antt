-- The code finds what the definition finds.
use Rattle.std.proofs.Common.{sym, ◌∙◌, ap, option_map}
use Rattle.inf_names.specs.{Entries.standing, Symbols.Table, Symbols.standing_of}
use Rattle.inf_names.proofs.Putting.{standing-copied, standing_of-lookup}
use Rattle.inf_names.proofs.symbols.Symbols.entry_of.Goals as goal

pub returns : goal.returns
returns g c =
    let es = c.self.inside.entries.entries in
    standing-copied c.get.result ∙ ap (option_map standing) c.get.ensures.value ∙ sym (standing_of-lookup c.of-key.result.items es)
    ∙ ap (λ (t : Table _). standing_of c.of-key.result.items t.names) c.self.view_is
    ∙ ap (λ k. standing_of k c.args.self.now.names) c.of-key.ensures

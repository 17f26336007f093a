-- The place of a key is the number of its name.
use Rattle.std.proofs.Common.{◌∙◌, ap}
use Rattle.inf_names.specs.Symbols.{Table, number_among}
use Rattle.inf_names.proofs.Putting.{number_of_place}
use Rattle.inf_names.proofs.symbols.Symbols.number.Goals as goal

pub returns : goal.returns
returns g c = number_of_place c.args.key.now.items c.self.inside.entries.entries c.get_index_of.result c.get_index_of.ensures.index
    c.get_index_of.ensures.found ∙ ap (λ (t : Table _). number_among c.args.key.now.items t.names) c.self.view_is

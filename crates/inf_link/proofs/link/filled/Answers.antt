-- The order of the words does not matter.
use Rattle.std.proofs.Common.{◌∙◌, ap, refl}
use Rattle.inf_link.specs.{Areas.contents, Filling.filled, Targets.lookup, Targets.number_of}
use Rattle.inf_link.proofs.{Fillings.filled-same, Looking.AreAlike, Looking.number_alike, Ranks.rank_of-permutation}
use Rattle.inf_link.proofs.link.filled.Goals as goal

pub returns : goal.returns
returns g c =
    let targets = c.args.targets in let others = record targets { words = c.sort_unstable.new.self } in
    let alike : AreAlike (lookup targets) (lookup others) = record {
      names = refl;
      property_tables = refl;
      individual_tables = refl;
      verbs = refl;
      ranks = λ text. rank_of-permutation text targets.words.items others.words.items c.sort_unstable.ensures.permutation;
      last_object = refl;
    } in
    let bases = c.args.bases.now in let areas = contents g.A.Area.bytes c.args.areas in
    c.fill_all.ensures ∙ ap (λ fixups. filled (number_of (lookup others) c.args.scale bases) fixups areas) c.as_slice.ensures
    ∙ filled-same (number_of (lookup others) c.args.scale bases) (number_of (lookup targets) c.args.scale bases)
    (number_alike (lookup targets) (lookup others) alike c.args.scale bases) c.args.refs.list areas

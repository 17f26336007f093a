use Rattle.std.proofs.Common.{[], ◌∙◌, arith, length, ◌<◌, ◌*◌}
use Rattle.std.proofs.lemmas.List.{length-map}
use Rattle.std.specs.{Cmp.Lexicographic.lists_total, Cmp.nat_cmp_total}
use Rattle.inf_dictionary.specs.Texts.{texts_of}
use Rattle.inf_dictionary.proofs.{Ranks.any_default, Ranks.rank_at, Wholes.behind_head, Wholes.text_at}
use Rattle.inf_dictionary.proofs.laws.word_at_its_place.Goals as goal

pub returns-clause-rank : goal.returns-clause-rank
returns-clause-rank g c =
    let words = c.args.dictionary.now.list in
    let within : c.args.place < length (texts_of words) = omega (arith, length-map words (λ e. e.0), c.requires) in
    rank_at (lists_total nat_cmp_total) _ (texts_of words) c.args.place c.is_in_order.ensures.rising within
    (λ d. any_default (texts_of words) c.args.place d [] within)

pub returns-clause-text : goal.returns-clause-text
returns-clause-text g c = behind_head c.args.dictionary.now.list (9 * c.args.place)
    ∙ text_at c.args.dictionary.now.list c.args.place c.is_in_order.ensures.whole c.requires

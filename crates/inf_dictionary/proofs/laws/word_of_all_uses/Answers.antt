use Rattle.std.specs.{Cmp.Lexicographic.lists_total, Cmp.nat_cmp_total}
use Rattle.inf_dictionary.proofs.Known.{known_by_all}
use Rattle.inf_dictionary.proofs.laws.word_of_all_uses.Goals as goal

pub returns : goal.returns
returns c = λ uses text words. known_by_all (lists_total nat_cmp_total) uses text words

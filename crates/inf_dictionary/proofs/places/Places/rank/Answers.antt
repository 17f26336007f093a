use Rattle.std.proofs.Common.{rules, of_calls, sym, subst, ◌∙◌}
use Rattle.std.proofs.lemmas.Fn.{always_returns_same}
use Rattle.std.specs.{Cmp.Lexicographic.lists_total, Cmp.nat_cmp_total}
use Rattle.inf_dictionary.specs.Texts.{AreRising, is_below}
use Rattle.inf_dictionary.proofs.Ranks.{parted, rank_is}
use Rattle.inf_dictionary.proofs.places.Places.rank.Goals as goal

pub returns : goal.returns
returns c =
    let same = c.deref.ensures.value ∙ c.self.view_is in
    let rising = subst AreRising (sym c.deref.ensures.value) c.self.invariant in
    rw (← same) (rank_is c.args.text c.deref.result.now c.partition_point.result c.partition_point.ensures.bound
    (c.partition_point.ensures.partitioned (λ other. is_below other c.args.text)
    (always_returns_same _ _ _ (λ a r f k. search (rules, of_calls)))
    (parted (lists_total nat_cmp_total) c.args.text c.deref.result.now rising)))

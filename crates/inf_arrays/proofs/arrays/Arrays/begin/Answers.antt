use Rattle.std.proofs.Common.{◌≤◌, ◌+◌, ◌++◌, ◌∙◌, ap, arith, rules, map, option_to_list, subst, sym}
use Rattle.inf_arrays.proofs.Sizes.{opened_stands}
use Rattle.inf_arrays.specs.{Arrays.all_of, Arrays.arrays_laters, Arrays.arrays_size, Kinds.count_size, Listing.listed}
use Rattle.inf_settings.specs.declared.setting.Setting.{Setting}
use Rattle.inf_arrays.proofs.arrays.Arrays.begin.Goals as goal

pub invariant_of-self : goal.invariant_of-self
invariant_of-self g c =
    let closed = map listed c.self.inside.closed.items in
    let none = ap (λ a. a.open_one) c.self.view_is ∙ c.requires.none in
    let room =
    subst (λ a. arrays_size (all_of a) + count_size c.args.kind ≤ g.B.Bounds.most Setting.Arrays) (sym c.self.view_is) c.requires.room in
    rw c.new.ensures.items (opened_stands closed c.args.kind c.self.inside.size c.self.inside.later c.self.inside.limit c.count_size.result
    (c.self.invariant.0 ∙ ap (λ o. arrays_size (closed ++ option_to_list o)) none)
    (c.self.invariant.1 ∙ ap (λ o. arrays_laters (closed ++ option_to_list o)) none)
    (search rules) (omega (arith, room, c.self.inside.is_most, c.self.invariant.0, c.count_size.ensures)) (search rules))

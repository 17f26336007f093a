use Rattle.std.proofs.Common.{rules, map, subst, sym, Some, arith, length, option_map}
use Rattle.inf_arrays.proofs.Sizes.{grown_stands}
use Rattle.inf_arrays.specs.Arrays.{HasRoom, RoomIn}
use Rattle.inf_arrays.specs.Listing.{listed, seen}
use Rattle.inf_arrays.proofs.arrays.Arrays.append.Goals as goal

pub invariant_of-self-in-Some : goal.invariant_of-self-in-Some
invariant_of-self-in-Some g c =
    let a = listed c.in-Some.array in let n = length c.args.values.now in
    let room : HasRoom g.B.Bounds.most n (seen c.self.inside.closed.items c.self.inside.growing) =
    subst (HasRoom g.B.Bounds.most n) (sym c.self.view_is) c.requires in
    let room_in : RoomIn g.B.Bounds.most (option_map listed (Some c.in-Some.array)) n
    (seen c.self.inside.closed.items c.self.inside.growing) =
    subst (λ o. RoomIn g.B.Bounds.most (option_map listed o) n (seen c.self.inside.closed.items c.self.inside.growing)) c.in-Some.is room in
    rw c.in_ok-extend_from_slice.ensures.items (grown_stands (map listed c.self.inside.closed.items) a c.args.values.now c.self.inside.size
    c.self.inside.later c.self.inside.limit _ _
    (search rules) (search rules) (search rules) (omega (arith, room_in, c.self.inside.is_most, c.self.invariant.0)) (search rules)
    (search rules) (search rules))

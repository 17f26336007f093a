use Rattle.std.proofs.Common.{◌<◌, length, subst, sym, arith}
use Rattle.inf_verbs.proofs.Sizes.{bytes_fit, laters_fit, extended_stands}
use Rattle.inf_verbs.specs.Verbs.{AllVerbs}
use Rattle.inf_verbs.proofs.verbs.Verbs.extend.Goals as goal

pub overflow_sub-self : goal.overflow_sub-self
overflow_sub-self g c =
    let xs = c.self.inside.verbs.items in
    let within : c.args.number < length xs = subst (λ (a : AllVerbs). c.args.number < length a.list) (sym c.self.view_is) c.requires in
    omega (arith, bytes_fit xs c.args.number c.index-old.result.now within c.index-old.ensures, c.self.invariant.0, c.size-size.ensures)

pub overflow_sub-self-2 : goal.overflow_sub-self-2
overflow_sub-self-2 g c =
    let xs = c.self.inside.verbs.items in
    let within : c.args.number < length xs = subst (λ (a : AllVerbs). c.args.number < length a.list) (sym c.self.view_is) c.requires in
    omega (
      arith,
      laters_fit xs c.args.number c.index-old.result.now within c.index-old.ensures,
      c.self.invariant.1,
      c.later_count-later.ensures,
    )

pub invariant_of-self-2 : goal.invariant_of-self-2
invariant_of-self-2 g c =
    let xs = c.self.inside.verbs.items in
    let within : c.args.number < length xs = subst (λ (a : AllVerbs). c.args.number < length a.list) (sym c.self.view_is) c.requires in
    rw c.size-size.ensures (rw c.size.ensures (rw c.later_count-later.ensures (rw c.later_count.ensures
    (extended_stands xs c.args.number c.args.place c.index-old.result.now c.index_mut.result.now c.extend.new.self c.index-new.result.now
    c.self.inside.size c.self.inside.later c.self.inside.limit c.self.inside.space within c.index-old.ensures c.index_mut.ensures.value
    c.in_ok-extend.ensures.ok
    c.index-new.ensures c.self.invariant.0 c.self.invariant.1 c.self.invariant.2 c.self.invariant.3 c.self.invariant.4))))

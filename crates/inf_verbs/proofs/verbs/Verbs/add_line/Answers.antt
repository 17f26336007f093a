use Rattle.std.proofs.Common.{◌<◌, ◌+◌, ◌*◌, length, subst, sym, ap, ◌∙◌, arith}
use Rattle.inf_verbs.proofs.Sizes.{bytes_fit, few_laters, laters_fit, line_stands}
use Rattle.inf_verbs.specs.{Lines.LineOf, Lines.line_size, Lines.prepositions, Verbs.AllVerbs}
use Rattle.inf_verbs.proofs.verbs.Verbs.add_line.Goals as goal

pub add-requires-clause-bytes : goal.add-requires-clause-bytes
add-requires-clause-bytes g c =
    let xs = c.self.inside.verbs.items in
    let within : c.args.number < length xs = subst (λ (a : AllVerbs). c.args.number < length a.list) (sym c.self.view_is) c.requires in
    omega (
      arith,
      bytes_fit xs c.args.number c.index_mut.result.now within c.index_mut.ensures.value,
      c.self.invariant.0,
      c.self.invariant.4,
      c.if-self-tokens.false,
      c.self.ranges,
    )

pub add-requires-clause-tokens : goal.add-requires-clause-tokens
add-requires-clause-tokens g c =
    let xs = c.self.inside.verbs.items in
    let within : c.args.number < length xs = subst (λ (a : AllVerbs). c.args.number < length a.list) (sym c.self.view_is) c.requires in
    omega (
      arith,
      laters_fit xs c.args.number c.index_mut.result.now within c.index_mut.ensures.value,
      few_laters xs,
      c.self.invariant.0,
      c.self.invariant.4,
      c.if-self-tokens.false,
      c.prepositions-later.ensures.few,
      c.self.ranges,
    )

pub overflow_add-self-2 : goal.overflow_add-self-2
overflow_add-self-2 g c =
    let xs = c.self.inside.verbs.items in
    omega (
      arith,
      few_laters xs,
      c.self.invariant.0,
      c.self.invariant.1,
      c.self.invariant.4,
      c.if-self-tokens.false,
      c.prepositions-later.ensures.few,
      c.self.ranges,
    )

pub invariant_of-self-2 : goal.invariant_of-self-2
invariant_of-self-2 g c =
    let xs = c.self.inside.verbs.items in
    let within : c.args.number < length xs = subst (λ (a : AllVerbs). c.args.number < length a.list) (sym c.self.view_is) c.requires in
    let s = 3 + 3 * length c.args.tokens.now in
    line_stands xs c.args.number c.args.place c.in_ok-line.line c.index_mut.result.now c.add.new.self c.self.inside.size c.self.inside.later
    c.self.inside.limit c.self.inside.space s c.prepositions-later.result within c.index_mut.ensures.value c.in_ok-add.ensures.ok
    c.self.invariant.0 c.self.invariant.1 c.self.invariant.2 c.self.invariant.3 (omega (arith, c.self.invariant.4, c.if-self-tokens.false))
    (sym (ap line_size c.in_ok-line.ensures)) (c.prepositions-later.ensures.value ∙ sym
    (ap (λ (l : LineOf). prepositions l.tokens) c.in_ok-line.ensures))

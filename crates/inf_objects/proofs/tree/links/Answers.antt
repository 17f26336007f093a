use Rattle.std.proofs.Common.{◌≡◌, length, ◌∷◌, ◌++◌, [], sym, ap, subst, ◌∙◌, arith}
use Rattle.inf_objects.specs.Tree.{AreWithin}
use Rattle.inf_objects.proofs.Hanging.{made, made-links, made-step, none_left, within-front}
use Rattle.inf_objects.proofs.tree.links.Goals as goal

pub hang-requires-clause-place : goal.hang-requires-clause-place
hang-requires-clause-place c = omega (arith, c.in-Some.ensures.cases.1, c.loop-parent.invariant.fewer, c.loop-parent.invariant.count)

pub hang-requires-clause-parent : goal.hang-requires-clause-parent
hang-requires-clause-parent c =
    let within = within-front (length c.args.parents.now) c.in-Some.before.now c.in-Some.parent.now
    (subst (AreWithin (length c.args.parents.now)) c.in-Some.ensures.cases.0 c.loop-parent.invariant.within) in
    omega (arith, within.1, c.loop-parent.invariant.count)

pub loop-parent-preserved : goal.loop-parent-preserved
loop-parent-preserved c =
    let left = c.loop-parent.left.now in let before = c.in-Some.before.now in let p = c.in-Some.parent.now in
    let is : left ≡ before ++ p ∷ [] = c.in-Some.ensures.cases.0 in
    record {
      made = ap (made 0 before) c.hang.ensures.links ∙ made-step left before p c.loop-parent.links.items is ∙ c.loop-parent.invariant.made;
      count = c.hang.ensures.count ∙ c.loop-parent.invariant.count;
      fewer = omega (arith, c.in-Some.ensures.cases.1, c.loop-parent.invariant.fewer);
      within = (within-front (length c.args.parents.now) before p
          (subst (AreWithin (length c.args.parents.now)) is c.loop-parent.invariant.within)).0;
    }

pub returns : goal.returns
returns c = sym (none_left c.loop-parent.left.now c.loop-parent.links.items c.in_default.ensures.cases)
    ∙ c.loop-parent.invariant.made ∙ made-links c.args.parents.now c.requires

-- The walk passes a rule that can be empty, and ends at one that the token begins.
use Rattle.std.proofs.{lemmas.List.reverse-append, lemmas.Option.slice_get_within}
use Rattle.std.proofs.Common.{◌-◌, ◌++◌, ◌∙◌, ap, sym, subst, arith, length, reverse, take}
use Rattle.inf_machine.specs.{Machine.acts_of, Machine.opened, Steps.Means, declared.steps.Step.Step}
use Rattle.inf_machine.proofs.{Reaching.IsOn, Reaching.take_on, Stepping.opened_at, Stepping.passed_at, Stepping.silent_at}
use Rattle.inf_machine.proofs.rest.reach.Goals as goal

pub loop-below-preserved-in-Silent : goal.loop-below-preserved-in-Silent
loop-below-preserved-in-Silent g c =
    let means = subst (λ (s : Step). Means g.T.Table.grammar g.T.Table.known c.find.new.self c.in-Rule.rule c.args.atom s) c.in-Silent.is
    c.in_ok-find-in-Rule.ensures in
    record {
      within = omega (arith, c.loop-below.invariant.within);
      same = c.loop-below.invariant.same;
      on = silent_at g.T.Table.grammar g.T.Table.known g.met.T.Table.decided c.find.new.self c.args.atom c.args.symbols.now.items
          c.loop-below.symbols.items c.loop-below.below c.in-Rule.rule c.index.result.now c.args.actions.now.items c.loop-below.actions.items
          (omega arith) c.loop-below.invariant.within c.loop-below.invariant.same c.index.ensures c.in-Rule.is means
          c.loop-below.invariant.on;
      before = c.loop-below.invariant.before;
    }

pub loop-below-preserved : goal.loop-below-preserved
loop-below-preserved g c =
    let means = subst (λ (s : Step). Means g.T.Table.grammar g.T.Table.known c.find.new.self c.in-Rule.rule c.args.atom s) c.in-Passed.is
    c.in_ok-find-in-Rule.ensures in
    let on = passed_at g.T.Table.grammar g.T.Table.known g.met.T.Table.decided c.find.new.self c.args.atom c.args.symbols.now.items
    c.loop-below.symbols.items c.loop-below.below c.in-Rule.rule c.index.result.now c.args.actions.now.items c.loop-below.actions.items
    (omega arith) c.loop-below.invariant.within c.loop-below.invariant.same c.index.ensures c.in-Rule.is means c.passed.ensures.acts
    c.loop-below.invariant.on in
    let done = c.in_ok-act-in-Passed.ensures.actions ∙ ap (λ row. c.loop-below.actions.items ++ acts_of row) c.passed.ensures.row in
    record {
      within = omega (arith, c.loop-below.invariant.within);
      same = c.loop-below.invariant.same;
      on = subst (λ now. IsOn g.T.Table.grammar g.T.Table.known c.args.atom (reverse c.args.symbols.now.items)
          (reverse (take (c.loop-below.below - 1) c.args.symbols.now.items)) c.args.actions.now.items now) (sym done) on;
      before = ap (take (length c.args.actions.now.items)) c.in_ok-act-in-Passed.ensures.actions ∙ take_on c.args.actions.now.items
          c.loop-below.actions.items (acts_of (reverse c.passed.result.now)) c.loop-below.invariant.before;
    }

pub opening-opening-requires-after_bounds : goal.opening-opening-requires-after_bounds
opening-opening-requires-after_bounds g c κs within =
    let means = subst (λ (s : Step). Means g.T.Table.grammar g.T.Table.known c.find.new.self c.in-Rule.rule c.args.atom s) c.in-Opened.is
    c.in_ok-find-in-Rule.ensures in
    slice_get_within c.find.new.self c.in-Opened.place (c.in-Rule.rule, c.args.atom) means.1

pub returns-in-Opened-clause-left : goal.returns-in-Opened-clause-left
returns-in-Opened-clause-left g c t =
    let means = subst (λ (s : Step). Means g.T.Table.grammar g.T.Table.known c.find.new.self c.in-Rule.rule c.args.atom s) c.in-Opened.is
    c.in_ok-find-in-Rule.ensures in
    let end = opened_at g.T.Table.grammar g.T.Table.known g.met.T.Table.decided c.find.new.self c.args.atom c.args.symbols.now.items
    c.loop-below.symbols.items c.loop-below.below c.in-Rule.rule c.index.result.now c.args.actions.now.items c.loop-below.actions.items
    c.in-Opened.place c.opening-opening.result.now (omega arith) c.loop-below.invariant.within c.loop-below.invariant.same c.index.ensures
    c.in-Rule.is means c.opening-opening.ensures c.loop-below.invariant.on in
    ap reverse c.in_ok-replace-in-Opened.ensures.ok
    ∙ reverse-append (take (c.loop-below.below - 1) c.loop-below.symbols.items) c.left.result.now
    ∙ ap (λ left. left ++ reverse (take (c.loop-below.below - 1) c.loop-below.symbols.items)) c.left.ensures
    ∙ ap (λ all. (opened g.T.Table.grammar g.T.Table.known c.opening-opening.result.now.0 c.opening-opening.result.now.1).left
    ++ reverse (take (c.loop-below.below - 1) all)) c.loop-below.invariant.same ∙ end.left_is

pub returns-in-Opened-clause-actions : goal.returns-in-Opened-clause-actions
returns-in-Opened-clause-actions g c t =
    let means = subst (λ (s : Step). Means g.T.Table.grammar g.T.Table.known c.find.new.self c.in-Rule.rule c.args.atom s) c.in-Opened.is
    c.in_ok-find-in-Rule.ensures in
    let end = opened_at g.T.Table.grammar g.T.Table.known g.met.T.Table.decided c.find.new.self c.args.atom c.args.symbols.now.items
    c.loop-below.symbols.items c.loop-below.below c.in-Rule.rule c.index.result.now c.args.actions.now.items c.loop-below.actions.items
    c.in-Opened.place c.opening-opening.result.now (omega arith) c.loop-below.invariant.within c.loop-below.invariant.same c.index.ensures
    c.in-Rule.is means c.opening-opening.ensures c.loop-below.invariant.on in
    c.in_ok-add_all-in-Opened.ensures.ok ∙ ap (λ xs. c.loop-below.actions.items ++ xs) c.actions.ensures ∙ end.actions

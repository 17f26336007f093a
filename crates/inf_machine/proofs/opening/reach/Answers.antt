-- A rule is replaced by the symbols that take its place.
use Rattle.std.proofs.Common.{◌≡◌, ◌∷◌, ◌++◌, ◌∙◌, ap, sym, arith, true}
use Rattle.inf_machine.specs.{Machine.fits, Machine.taken, Machine.way, Machine.work, declared.symbols.Symbol.Symbol}
use Rattle.inf_machine.proofs.Ways.{way_on}
use Rattle.inf_machine.proofs.opening.reach.Goals as goal

pub loop-symbol-smaller : goal.loop-symbol-smaller
loop-symbol-smaller g c =
    let rest = c.pop.new.self in let rule = c.in-Rule.rule in
    let here : c.loop-symbol.stack ≡ Symbol.Rule rule ∷ rest = c.in-Some.ensures ∙ ap (λ s. s ∷ rest) c.in-Rule.is in
    let next : c.add_all.new.self ≡ way g.T.Table.grammar g.T.Table.known c.args.atom rule ++ rest =
    c.in_ok-add_all-in-Rule.ensures.ok ∙ ap (λ xs. xs ++ rest) c.way.ensures in
    let fit : fits g.T.Table.grammar g.T.Table.known c.args.atom (Symbol.Rule rule ∷ rest) ≡ true =
    ap (λ s. fits g.T.Table.grammar g.T.Table.known c.args.atom s) (sym here) ∙ c.loop-symbol.invariant.fits_on in
    let less = (way_on g.T.Table.grammar g.T.Table.known g.met.T.Table.decided c.args.atom rule rest fit).less in
    let a : work g.T.Table.known c.args.atom c.add_all.new.self ≡ work g.T.Table.known c.args.atom
    (way g.T.Table.grammar g.T.Table.known c.args.atom rule ++ rest) = ap (λ s. work g.T.Table.known c.args.atom s) next in
    let b : work g.T.Table.known c.args.atom c.loop-symbol.stack ≡ work g.T.Table.known c.args.atom (Symbol.Rule rule ∷ rest) =
    ap (λ s. work g.T.Table.known c.args.atom s) here in
    omega (arith, less, a, b)

pub loop-symbol-preserved : goal.loop-symbol-preserved
loop-symbol-preserved g c =
    let rest = c.pop.new.self in let rule = c.in-Rule.rule in
    let here : c.loop-symbol.stack ≡ Symbol.Rule rule ∷ rest = c.in-Some.ensures ∙ ap (λ s. s ∷ rest) c.in-Rule.is in
    let next : c.add_all.new.self ≡ way g.T.Table.grammar g.T.Table.known c.args.atom rule ++ rest =
    c.in_ok-add_all-in-Rule.ensures.ok ∙ ap (λ xs. xs ++ rest) c.way.ensures in
    let fit : fits g.T.Table.grammar g.T.Table.known c.args.atom (Symbol.Rule rule ∷ rest) ≡ true =
    ap (λ s. fits g.T.Table.grammar g.T.Table.known c.args.atom s) (sym here) ∙ c.loop-symbol.invariant.fits_on in
    let on = way_on g.T.Table.grammar g.T.Table.known g.met.T.Table.decided c.args.atom rule rest fit in
    let same : taken g.T.Table.grammar g.T.Table.known c.args.atom c.add_all.new.self ≡ taken g.T.Table.grammar g.T.Table.known c.args.atom
    c.loop-symbol.stack = ap (λ s. taken g.T.Table.grammar g.T.Table.known c.args.atom s) next ∙ sym on.same
    ∙ ap (λ s. taken g.T.Table.grammar g.T.Table.known c.args.atom s) (sym here) in
    record {
      fits_on = ap (λ s. fits g.T.Table.grammar g.T.Table.known c.args.atom s) next ∙ on.fits_on;
      actions = ap (λ t. c.loop-symbol.actions.items ++ t.actions) same ∙ c.loop-symbol.invariant.actions;
      left = ap (λ t. t.left) same ∙ c.loop-symbol.invariant.left;
    }

use Rattle.std.proofs.Common.{◌≡◌, List, [], ◌∷◌, ◌++◌, None, false, sym, ap, ◌∙◌}
use Rattle.std.proofs.lemmas.Bool.{and_parts}
use Rattle.inf_expressions.specs.declared.operators.Operand.{Operand}
use Rattle.inf_gathering.specs.declared.gathering.Leaf.{Leaf}
use Rattle.inf_names.specs.{LocalList.listed, Locals.Local, Symbols.no_names}
use Rattle.inf_operands.proofs.{Noting.alike_on, Noting.all_looked_ahead, Noting.leaf_looked, Noting.looked_on, Staying.leaf_on}
use Rattle.inf_operands.specs.Operands.{leaves_named, looked_from, settled}
use Rattle.inf_operands.proofs.naming.note_all.Goals as goal

pub returns-in_default-noted-clause-looked : goal.returns-in_default-noted-clause-looked
returns-in_default-noted-clause-looked g c =
    let now = c.loop-leaf.invariant in let tokens = c.args.tokens.now in let before = listed c.loop-leaf.locals in
    let first = listed c.args.locals.now in let new = listed c.noted.new.locals in
    let alike = alike_on tokens c.in-Some.leaf.now before first new now.alike c.noted.ensures.named in
    c.in_ok-note_ahead.ensures.looked
    ∙ all_looked_ahead new first c.args.out.now tokens c.loop-leaf.left.now (no_names false) c.loop-leaf.operands.items alike ∙ now.looked

pub returns-in_default-noted-clause-named : goal.returns-in_default-noted-clause-named
returns-in_default-noted-clause-named g c =
    let now = c.loop-leaf.invariant in let none : c.noted.result ≡ None = c.in_default-noted.is in
    c.in_ok-note_ahead.ensures.named
    ∙ ap (λ (ls : List Local). leaves_named c.args.tokens.now c.loop-leaf.left.now ls) (c.noted.ensures.action none) ∙ now.named

pub loop-leaf-preserved : goal.loop-leaf-preserved
loop-leaf-preserved g c =
    let now = c.loop-leaf.invariant in let tokens = c.args.tokens.now in let out = c.args.out.now in
    let leaf = c.in-Some.leaf.now in let others = c.in-Some.others.now in let items = c.loop-leaf.operands.items in
    let op = c.in-Some-noted.operand in
    let before = listed c.loop-leaf.locals in let first = listed c.args.locals.now in
    let new = listed c.noted.new.locals in
    let split : c.loop-leaf.left.now ≡ leaf ∷ others = c.in-Some.ensures.cases.0 in
    let pushed : c.push.new.self.items ≡ items ++ op ∷ [] = c.in_ok-push.ensures.items in
    record {
      alike = alike_on tokens leaf before first new now.alike c.noted.ensures.named;
      named = ap (λ (ls : List Local). leaves_named tokens others ls) c.noted.ensures.named
          ∙ sym (ap (λ (ls : List Leaf). leaves_named tokens ls before) split) ∙ now.named;
      looked = ap (λ (ops : List Operand). looked_from first out tokens others (no_names false) ops) pushed
          ∙ looked_on before first out tokens leaf others (no_names false) items op now.alike
          (c.in-Some-noted.ensures.leaf (no_names false))
          ∙ sym (ap (λ (ls : List Leaf). looked_from first out tokens ls (no_names false) items) split) ∙ now.looked;
      stay = λ e limits set. let parts = and_parts c.loop-leaf.stay c.stays-stay.result e in
          ap (λ (ops : List Operand). settled limits set first tokens others (record { out = out; operands = ops })) pushed
          ∙ leaf_on limits set first tokens leaf others out items op (c.stays-stay.ensures parts.1)
          (c.in-Some-noted.ensures.looked ∙ leaf_looked before first out.names out.code.scale tokens leaf now.alike)
          ∙ sym (ap (λ (ls : List Leaf). settled limits set first tokens ls (record { out = out; operands = items })) split)
          ∙ now.stay parts.0 limits set;
    }

use Rattle.std.proofs.Common.{◌≡◌, List, [], ◌∷◌, ◌++◌, false, sym, ap, ◌∙◌}
use Rattle.std.proofs.lemmas.Bool.{and_parts}
use Rattle.inf_expressions.specs.declared.operators.Operand.{Operand}
use Rattle.inf_gathering.specs.declared.gathering.Leaf.{Leaf}
use Rattle.inf_names.specs.{LocalList.listed, Symbols.no_names}
use Rattle.inf_operands.proofs.{Noting.alike_self, Noting.looked_on, Staying.leaf_on}
use Rattle.inf_operands.specs.Operands.{looked_from, settled}
use Rattle.inf_operands.proofs.looking.look_all.Goals as goal

pub loop-leaf-preserved : goal.loop-leaf-preserved
loop-leaf-preserved g c =
    let now = c.loop-leaf.invariant in let tokens = c.args.tokens.now in let out = c.args.out.now in
    let locals = listed c.args.locals.now in let leaf = c.in-Some.leaf.now in let others = c.in-Some.others.now in
    let items = c.loop-leaf.operands.items in let op = c.in-Some-looked_plainly.operand in
    let split : c.loop-leaf.left.now ≡ leaf ∷ others = c.in-Some.ensures.cases.0 in
    let pushed : c.push.new.self.items ≡ items ++ op ∷ [] = c.in_ok-push.ensures.items in
    record {
      looked = ap (λ (ops : List Operand). looked_from locals out tokens others (no_names false) ops) pushed
          ∙ looked_on locals locals out tokens leaf others (no_names false) items op (alike_self locals)
          (c.in-Some-looked_plainly.ensures.leaf (no_names false))
          ∙ sym (ap (λ (ls : List Leaf). looked_from locals out tokens ls (no_names false) items) split) ∙ now.looked;
      stay = λ e limits set. let parts = and_parts c.loop-leaf.stay c.stays-stay.result e in
          ap (λ (ops : List Operand). settled limits set locals tokens others (record { out = out; operands = ops })) pushed
          ∙ leaf_on limits set locals tokens leaf others out items op (c.stays-stay.ensures parts.1) c.in-Some-looked_plainly.ensures.looked
          ∙ sym (ap (λ (ls : List Leaf). settled limits set locals tokens ls (record { out = out; operands = items })) split)
          ∙ now.stay parts.0 limits set;
    }

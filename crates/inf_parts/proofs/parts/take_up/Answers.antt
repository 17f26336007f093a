-- The trees are those of the same operands once the unit has begun and its locals are named.
use Rattle.std.proofs.Common.{◌≡◌, List, ap, sym, ◌∙◌}
use Rattle.inf_compilation.specs.{Actions.Compilation, Actions.named, Actions.trees_at, Works.work}
use Rattle.inf_expressions.specs.declared.operators.Operand.{Operand}
use Rattle.inf_parts.specs.Parts.{order_of, part_begun, stores_noted, wanted_of}
use Rattle.inf_parts.proofs.Noting.{begun_named, trees_begun}
use Rattle.inf_parts.proofs.parts.take_up.Goals as goal

pub returns-clause-trees : goal.returns-clause-trees
returns-clause-trees g c =
    let p = c.args.part in let w = work c.args.compilation.now in
    let now = c.note_stores.new.compilation.operands.items in
    let same : now ≡ c.found_in.new.compilation.operands.items = c.note_stores.ensures.operands ∙ c.begin_part.ensures.operands in
    let behind : work c.note_stores.new.compilation ≡ named (part_begun g.B.Bounds.most p w) = c.note_stores.ensures.noted
    ∙ ap stores_noted (c.in_ok-begin_part.ensures.begun ∙ ap (part_begun g.B.Bounds.most p) c.in_ok-found.ensures.noted)
    ∙ begun_named g.B.Bounds.most p w in
    c.in_ok-found.ensures.trees ∙ ap (λ (ops : List Operand). trees_at (order_of p w) (wanted_of p) ops w) (sym same)
    ∙ trees_begun g.B.Bounds.most p w now ∙ ap (λ (v : Compilation). trees_at (order_of p v) (wanted_of p) now v) (sym behind)

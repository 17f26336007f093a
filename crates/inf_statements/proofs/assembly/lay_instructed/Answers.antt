use Rattle.std.proofs.Common.{refl, sym, ap, ◌∙◌, is_some}
use Rattle.inf_opcode.specs.declared.opcodes.OpcodeRow.{OpcodeRow}
use Rattle.inf_statements.specs.Assembly.{first_variable}
use Rattle.inf_constructs.specs.Roots.{trees_from}
use Rattle.inf_statements.proofs.Fitting.{takes_named, takes_operands}
use Rattle.inf_statements.proofs.assembly.lay_instructed.Goals as goal

pub lay_parts-requires-clause-named : goal.lay_parts-requires-clause-named
lay_parts-requires-clause-named g c = λ names.
    takes_named g.B.Bounds.most c.args.opcode c.args.nodes.now c.args.roots.now c.args.line.ends c.store-store.result c.in_ok-branch.branch
    c.store-store.ensures.there c.in_ok-branch.ensures.there c.requires.jumps c.requires.text
    (ap (λ (r : OpcodeRow). r.names_variable) (sym c.row-names_variable.ensures.exact) ∙ names) c.requires.fits

pub lay_parts-requires-clause-plain : goal.lay_parts-requires-clause-plain
lay_parts-requires-clause-plain g c = λ names. takes_operands c.args.opcode c.args.nodes.now c.args.roots.now
    (is_some (first_variable g.B.Bounds.most (trees_from c.args.nodes.now c.args.roots.now))) c.args.line.ends
    _ c.store-store.result c.in_ok-branch.branch refl
    c.store-store.ensures.there c.in_ok-branch.ensures.there c.requires.jumps c.requires.text
    (ap (λ (r : OpcodeRow). r.names_variable) (sym c.row-names_variable.ensures.exact) ∙ names) c.requires.fits

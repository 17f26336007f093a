-- The operands are those that were made.
use Rattle.std.proofs.Common.{rules, ◌∙◌}
use Rattle.inf_output.proofs.Proper.{is_proper_naming}
use Rattle.inf_output.proofs.output.Output.instruct_naming.Goals as goal

pub emit-requires : goal.emit-requires
emit-requires g c = is_proper_naming _ c.args.variable c.args.operands.now _ _ _ (c.deref.ensures.0 ∙ search rules) c.requires

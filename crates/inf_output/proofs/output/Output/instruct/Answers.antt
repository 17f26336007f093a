-- The operands are those that were made.
use Rattle.std.proofs.Common.{rules, ◌∙◌}
use Rattle.inf_output.proofs.Proper.{is_proper}
use Rattle.inf_output.proofs.output.Output.instruct.Goals as goal

pub emit-requires : goal.emit-requires
emit-requires g c = is_proper _ _ _ _ _ (c.deref.ensures.0 ∙ search rules) c.requires

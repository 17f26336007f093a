use Rattle.std.proofs.Common.{sym, ◌∙◌}
use Rattle.inf_command.proofs.Ascii.{text_behind}
use Rattle.inf_command.proofs.head.Head.take.Goals as goal

pub take_path-requires-clause-text : goal.take_path-requires-clause-text
take_path-requires-clause-text c = text_behind c.args.word.now (sym c.all_ascii.ensures ∙ c.if-not-all_ascii.false)

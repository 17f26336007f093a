use Rattle.inf_unit.proofs.KeptTokens.{moved}
use Rattle.std.proofs.Common.{◌-◌, refl}
use Rattle.inf_unit.proofs.unit_tokens.keep_part.Goals as goal

pub returns : goal.returns
returns c =
    let before = c.args.bytes.now.items in
    moved c.args.start c.args.end (c.args.end - c.args.start) before c.copy_within.new.self.items c.truncate.new.self.items c.requires.order
    c.requires.there refl c.copy_within.ensures.items c.truncate.ensures.items

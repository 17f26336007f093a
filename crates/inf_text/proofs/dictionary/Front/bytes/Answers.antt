use Rattle.std.proofs.Common.{◌∙◌, ap}
use Rattle.inf_text.specs.Packing.{words}
use Rattle.inf_text.proofs.Fronts.{filled-all}
use Rattle.inf_text.proofs.dictionary.Front.bytes.Goals as goal

pub returns : goal.returns
returns c =
    let h = c.self.invariant in
    c.nine_bytes.ensures ∙ ap words (filled-all c.self.inside.zs _ c.self.inside.len c.self.told h.0 c.self.view_is h.1)

-- The word of the three that waited is written.
use Rattle.std.proofs.Common.{◌<◌, ◌∷◌, ◌∙◌, ap, arith}
use Rattle.inf_text.specs.Packer.{completed}
use Rattle.inf_text.proofs.Taking.{Takes-word}
use Rattle.inf_text.proofs.packer.Waiting.push.Goals as goal

pub returns : goal.returns
returns c more =
    let bytes = c.args.bytes.now.items in let z = c.from-2.result in
    let small : z < 32 = omega (arith, c.from-2.ensures, c.requires) in
    Takes-word bytes c.self.inside.count c.self.inside.number z _ c.self.invariant (omega (arith, c.if-count-lt3.false)) small
    c.in_ok-push_word.ensures more ∙ ap (λ zs. completed (bytes, zs) (z ∷ more)) c.self.view_is
    ∙ ap (λ x. completed (bytes, c.args.self) (x ∷ more)) c.from-2.ensures

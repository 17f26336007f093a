use Rattle.std.proofs.Common.{◌≡◌, ◌+◌, ◌-◌, ℕ, suc, take, ◌++◌, replicate, arith, ap, ◌∙◌}
use Rattle.inf_text.proofs.Fronts.{AreZs-set, filled-more}
use Rattle.inf_text.proofs.dictionary.Front.push.Goals as goal

pub invariant_of-self : goal.invariant_of-self
invariant_of-self c =
    let zs = c.self.inside.zs in let i = c.self.inside.len in let h = c.self.invariant in let k = 9 - (i + 1) in
    let room : 9 - i ≡ suc k = omega arith in (
      omega arith,
      filled-more zs i k c.args.z c.self.told (omega arith) (h.1 ∙ ap (λ (n : ℕ). take i zs ++ replicate n 5) room),
      AreZs-set zs i c.args.z h.2 c.requires,
    )

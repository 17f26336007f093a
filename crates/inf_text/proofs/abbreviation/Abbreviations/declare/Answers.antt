use Rattle.std.proofs.{lemmas.Grind.common_steps, lemmas.Result.err_from_is_err_and}
use Rattle.std.proofs.Common.{arith}
use Rattle.inf_text.proofs.Cutting.{AreAbbreviations-push}
use Rattle.inf_text.proofs.abbreviation.Abbreviations.declare.Goals as goal

pub returns-in_err-copy : goal.returns-in_err-copy
returns-in_err-copy c =
    let p = err_from_is_err_and c.from_residual.result c.from_residual.ensures.1 in rw (p.1, p.2) (grind (arith, common_steps))

pub returns-in_err-push : goal.returns-in_err-push
returns-in_err-push c =
    let p = err_from_is_err_and c.from_residual-in_err-push.result c.from_residual-in_err-push.ensures.1 in rw (p.1, p.2)
    (grind (arith, common_steps))

pub invariant_of-self-2 : goal.invariant_of-self-2
invariant_of-self-2 c = record {
  declared = rw (c.in_ok-push.ensures.items, c.in_ok-copy.ensures.ok)
      (AreAbbreviations-push c.self.inside.texts.items c.args.text.now c.self.invariant.declared (omega arith) (omega arith)
      c.as_slice-2.ensures.text);
  indexed = rw c.deref.ensures.value at c.add.ensures;
}

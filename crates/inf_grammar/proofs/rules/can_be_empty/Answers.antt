use Rattle.std.proofs.Common.{◌∙◌, ap, sym, arith}
use Rattle.inf_grammar.proofs.CodeTables.{rule_is, rules_length}
use Rattle.inf_grammar.specs.Evaluated.{empty_past}
use Rattle.inf_grammar.proofs.rules.can_be_empty.Goals as goal

pub returns-in-Some : goal.returns-in-Some
returns-in-Some c =
    let l = c.in-Some.ensures.lookup in let here = rw c.rules.ensures at l.3.0 in let at = rw c.rules.ensures at l.1 in
    ap (λ r. r.is_empty) at ∙ (rule_is c.args.rule c.in-Some.rule.now here).empty

pub returns-in-None : goal.returns-in-None
returns-in-None c =
    let l = c.in-None.ensures.lookup in
    let past = rw c.rules.ensures at l.3 in sym (empty_past c.args.rule (omega (arith, past, rules_length)))

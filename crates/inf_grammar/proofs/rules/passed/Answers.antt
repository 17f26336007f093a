use Rattle.std.proofs.Common.{◌∙◌, ap, sym, subst, arith, reverse}
use Rattle.inf_machine.specs.Machine.{passed_row}
use Rattle.inf_grammar.specs.{Evaluated.rows_past, Language.grammar, Language.known}
use Rattle.inf_grammar.proofs.CodeTables.{IsRule, only_acts, rule_is, rules_length}
use Rattle.inf_grammar.proofs.rules.passed.Goals as goal

pub returns-in-Some-clause-row : goal.returns-in-Some-clause-row
returns-in-Some-clause-row c =
    let l = c.in-Some.ensures.lookup in let rule = c.in-Some.rule.now in
    let here = rw c.rules.ensures at l.3.0 in let at = rw c.rules.ensures at l.1 in
    let is : IsRule rule c.args.rule = subst (λ r. IsRule r c.args.rule) (sym at) (rule_is c.args.rule rule here) in
    ap reverse c.parts_at.ensures ∙ is.other

pub returns-in-Some-clause-acts : goal.returns-in-Some-clause-acts
returns-in-Some-clause-acts c = only_acts c.args.rule

pub returns-in-None-clause-row : goal.returns-in-None-clause-row
returns-in-None-clause-row c =
    let l = c.in-None.ensures.lookup in let past = rw c.rules.ensures at l.3 in
    sym (ap (λ rows. passed_row grammar known rows) (rows_past c.args.rule (omega (arith, past, rules_length))))

pub returns-in-None-clause-acts : goal.returns-in-None-clause-acts
returns-in-None-clause-acts c = only_acts c.args.rule

use Rattle.std.proofs.Common.{◌∙◌, ap, sym, subst, arith, reverse}
use Rattle.inf_machine.specs.Machine.{row_for, passed_row}
use Rattle.inf_grammar.specs.{Evaluated.rows_past, Language.grammar, Language.known, Tables.all_parts, Tables.cut}
use Rattle.inf_grammar.proofs.CodeTables.{IsRule, rule_is, rules_length, span_is_way}
use Rattle.inf_grammar.proofs.rules.way.Goals as goal

pub returns-in-Some : goal.returns-in-Some
returns-in-Some c =
    let l = c.in-Some.ensures.lookup in let rule = c.in-Some.rule.now in
    let here = rw c.rules.ensures at l.3.0 in let at = rw c.rules.ensures at l.1 in
    let is : IsRule rule c.args.rule = subst (λ r. IsRule r c.args.rule) (sym at) (rule_is c.args.rule rule here) in
    ap reverse c.parts_at.ensures ∙ ap (λ s. reverse (cut s all_parts)) c.span_for.ensures ∙ span_is_way c.args.atom c.args.rule rule is

pub returns-in-None : goal.returns-in-None
returns-in-None c =
    let l = c.in-None.ensures.lookup in let past = rw c.rules.ensures at l.3 in
    sym (ap (λ rows. row_for grammar known c.args.atom (passed_row grammar known rows) rows)
    (rows_past c.args.rule (omega (arith, past, rules_length))))

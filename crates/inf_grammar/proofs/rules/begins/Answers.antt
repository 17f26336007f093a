use Rattle.std.proofs.Common.{◌∙◌, ap, sym, arith}
use Rattle.inf_machine.specs.Grammar.{has}
use Rattle.inf_grammar.specs.{Evaluated.begins_past, Tables.set_number}
use Rattle.inf_machine.proofs.Sets.{has_zero}
use Rattle.inf_grammar.proofs.CodeTables.{rule_is, rules_length}
use Rattle.inf_grammar.proofs.rules.begins.Goals as goal

pub returns-in-Some : goal.returns-in-Some
returns-in-Some c =
    let l = c.in-Some.ensures.lookup in let here = rw c.rules.ensures at l.3.0 in let at = rw c.rules.ensures at l.1 in
    let is = rule_is c.args.rule c.in-Some.rule.now here in
    c.is_in.ensures ∙ ap (λ r. has (set_number r.begins) c.args.atom) at ∙ ap (λ n. has n c.args.atom) is.begins

pub returns-in-None : goal.returns-in-None
returns-in-None c =
    let l = c.in-None.ensures.lookup in let past = rw c.rules.ensures at l.3 in
    sym (ap (λ n. has n c.args.atom) (begins_past c.args.rule (omega (arith, past, rules_length))) ∙ has_zero c.args.atom)

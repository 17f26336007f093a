use Rattle.std.proofs.Common.{◌∙◌, ap, sym}
use Rattle.inf_machine.specs.Grammar.{has}
use Rattle.inf_grammar.specs.Tables.{set_number}
use Rattle.inf_machine.proofs.Sets.{has_zero}
use Rattle.inf_grammar.proofs.CodeTables.{class_is, no_class}
use Rattle.inf_grammar.proofs.rules.is_of.Goals as goal

pub returns-in-Some : goal.returns-in-Some
returns-in-Some c =
    let l = c.in-Some.ensures.lookup in
    let here = rw c.classes.ensures at l.3.0 in let at = rw c.classes.ensures at l.1 in
    c.is_in.ensures ∙ ap (λ s. has (set_number s) c.args.atom) at
    ∙ ap (λ n. has n c.args.atom) (class_is c.args.class c.in-Some.set.now here)

pub returns-in-None : goal.returns-in-None
returns-in-None c =
    let l = c.in-None.ensures.lookup in
    sym (ap (λ n. has n c.args.atom) (no_class c.args.class (rw c.classes.ensures at l.3)) ∙ has_zero c.args.atom)

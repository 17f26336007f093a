-- Names differ where their lengths or their last letters differ.
use Rattle.std.proofs.Common.{nat_eq, sym, ◌∙◌, arith}
use Rattle.std.proofs.lemmas.Bool.{eqb-true, false_from_ne_true}
use Rattle.std.specs.Str.{str_eq_ignore_ascii_case}
use Rattle.inf_names.proofs.SameNames.{same_length, same_letter}
use Rattle.inf_names.proofs.locals.is_same_name.Goals as goal

pub returns-then-name-other : goal.returns-then-name-other
returns-then-name-other c =
    let name = c.args.name.now in let other = c.args.other.now in
    sym (false_from_ne_true (str_eq_ignore_ascii_case name other) (λ e. omega (arith, same_length name other e)))

pub returns-else-last_letter : goal.returns-else-last_letter
returns-else-last_letter c =
    let name = c.args.name.now in let other = c.args.other.now in
    false_from_ne_true (nat_eq c.last_letter.result c.last_letter-2.result)
    (λ e. c.if-last_letter.false (eqb-true c.last_letter.result c.last_letter-2.result e))
    ∙ sym (false_from_ne_true (str_eq_ignore_ascii_case name other)
    (λ e. c.if-last_letter.false (c.last_letter.ensures ∙ same_letter name other e ∙ sym c.last_letter-2.ensures)))

use Rattle.std.proofs.Common.{◌||◌, ℕ, Bool, nat_eq, sym, ap, ◌∙◌}
use Rattle.std.proofs.lemmas.Bool.{eqb-true, false_from_ne_true}
use Rattle.inf_conditionals.proofs.Skipping.{long_is_no_word, other_is_no_word, short_is_no_word}
use Rattle.inf_conditionals.proofs.words.may_be_word.Goals.{then-bytes-lt5-via-then-bytes-lt5}
use Rattle.inf_conditionals.proofs.words.may_be_word.Goals.{then-bytes-lt5-via-else-bytes-lt5+then-bytes-gt7}
use Rattle.inf_conditionals.proofs.words.may_be_word.Goals as goal

pub returns-then-bytes-lt5 : goal.returns-then-bytes-lt5
returns-then-bytes-lt5 c = λ no.
    elim c.then-bytes-lt5.branch [
      | then-bytes-lt5-via-then-bytes-lt5 w ↦ short_is_no_word c.args.bytes.now w.if-bytes-lt5.true
      | then-bytes-lt5-via-else-bytes-lt5+then-bytes-gt7 w ↦ long_is_no_word c.args.bytes.now w.if-bytes-gt7.true
    ]

pub returns-else-first-eq101 : goal.returns-else-first-eq101
returns-else-first-eq101 c = λ no.
    let first = c.to_ascii_lowercase-first.result in
    let differs = false_from_ne_true (nat_eq first 101) (λ e. c.if-first-eq101.false (eqb-true first 101 e)) in
    other_is_no_word c.args.bytes.now (ap (λ (n : ℕ). nat_eq n 101 || nat_eq n 105) (sym c.to_ascii_lowercase-first.ensures.value)
    ∙ ap (λ (b : Bool). b || nat_eq first 105) differs ∙ no)

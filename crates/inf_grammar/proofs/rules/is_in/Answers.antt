use Rattle.std.proofs.Common.{◌∙◌, ap, arith, nat_eq, bit_and, ◌/◌, ◌^◌, ◌%◌}
use Rattle.inf_grammar.proofs.Bits.{word_bit, no_word_bit}
use Rattle.inf_grammar.proofs.rules.is_in.Goals as goal

pub returns-in-Some : goal.returns-in-Some
returns-in-Some c = ap (λ w. nat_eq (bit_and (w / 2 ^ (c.args.atom % 64)) 1) 1) (c.in-Some.ensures.lookup.3.1 0)
    ∙ word_bit c.args.words.now c.args.atom (λ i. omega (arith, c.type_inv.words i))

pub returns-in-None : goal.returns-in-None
returns-in-None c = no_word_bit c.args.words.now c.args.atom (λ i. omega (arith, c.type_inv.words i)) c.in-None.ensures.lookup.3

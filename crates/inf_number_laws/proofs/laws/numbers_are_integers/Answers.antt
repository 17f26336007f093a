use Rattle.std.proofs.Common.{rules, arith}
use Rattle.std.proofs.lemmas.Int.{ints}
use Rattle.inf_number_laws.proofs.Integers.{multiplied}
use Rattle.inf_number_laws.proofs.laws.numbers_are_integers.Goals as goal

pub returns : goal.returns
returns c = λ a b ha hb. record {
  add = grind (arith, ints);
  subtract = grind (arith, ints);
  multiply = multiplied a b ha hb;
  divide = search rules;
  remain = search rules;
  negate = search rules;
  complement = search rules;
  order = search rules;
}
